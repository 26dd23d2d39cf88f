-- The greatest tag of the calls that were answered before a place.
use Rattle.std.specs.Prelude.{ℕ, ◌≡◌, ◌<◌, ◌+◌, ◌≤◌, ◌↔◌, ◌⊎◌, length, slice_get, Contains}
use Rattle.std.specs.Prelude.{List, Option, Some, None}
use Rattle.tag.specs.Tags.{Tag, IsBelow}
use Rattle.recorder.specs.declared.part.Call.{Call}
use Rattle.recorder.specs.declared.part.Response.{Response}
use Rattle.tag_check.specs.Rules.{IsTooLow}

-- a tag is below the other, or is it
abbrev pub IsAtMost : Tag → Tag → Type 0
IsAtMost s t = IsBelow s t ⊎ (s ≡ t)

-- the greatest tag with the property, if any tag has it
abbrev pub IsGreatest : (Tag → Type 0) → Option Tag → Type 0
IsGreatest T None = (tag : Tag) → T tag → ⊥
IsGreatest T (Some tag) = T tag × ((other : Tag) → T other → IsAtMost other tag)

-- a call that is noted with the tag has its response before that place of the history
pub record IsAnsweredBefore (part : List Call) (place : ℕ) (tag : Tag) : Type 0 where
  pub call : Call
  pub response : Response
  pub recorded : Contains part call
  pub noted : call.note ≡ Some tag
  pub responds : call.response ≡ Some response
  pub before : response.place < place

-- the first n calls, and no others, began at that place of the history or before it
abbrev pub IsBegunBy : List Call → ℕ → ℕ → Type 0
IsBegunBy calls place n = (j : ℕ) (call : Call) → slice_get calls j ≡ Some call
    → (j < n) ↔ (call.invoked ≤ place)

-- one of the first i tags
abbrev pub HasTagBelow : List (Option Tag) → ℕ → Tag → Type 0
HasTagBelow tags i tag = (k : ℕ) × (k < i) × (slice_get tags k ≡ Some (Some tag))

-- a tag that is no lower stands among the first i
abbrev pub IsReached : List (Option Tag) → ℕ → Tag → Type 0
IsReached tags i tag = (other : Tag) × HasTagBelow tags i other × IsAtMost tag other

-- beside a call stands the tag of one that was answered before it began, if any; and where one of
-- the first i calls was, with a note, a tag that is no lower stands there or earlier
pub record AreAnsweredTags (calls : List Call) (i : ℕ) (tags : List (Option Tag)) : Type 0 where
  pub all : length tags ≡ length calls
  pub real : (k : ℕ) (call : Call) (tag : Tag) → slice_get calls k ≡ Some call
      → slice_get tags k ≡ Some (Some tag) → IsAnsweredBefore calls call.invoked tag
  pub covered : (m j : ℕ) (a b : Call) (response : Response) (tag : Tag) → m < i
      → slice_get calls m ≡ Some a → slice_get calls j ≡ Some b → a.note ≡ Some tag
      → a.response ≡ Some response → response.place < b.invoked → IsReached tags (j + 1) tag

-- noted as it is, the call may not follow a call noted with that tag, if there is one
abbrev pub Falls : Call → Option Tag → Type 0
Falls call greatest =
    (s : Tag) × (t : Tag) × (greatest ≡ Some s) × (call.note ≡ Some t) × IsTooLow call t s
