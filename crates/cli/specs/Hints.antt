-- Keys none of whose calls has a note, and what people are told of them.
use Rattle.std.specs.Prelude.{ℕ, ◌≡◌, Bool, true, List, [], ◌++◌, codes, is_some}
use Rattle.std.specs.Prelude.{if◌then◌else◌}
use Rattle.std.specs.List.{list_any}
use Rattle.recorder.specs.declared.part.Call.{Call}
use Rattle.cli.specs.Justifications.{KeyPart}
use Rattle.cli.specs.declared.outcome.Found.{Found}
use Rattle.cli.specs.declared.outcome.Found.TheVariants as found

-- a call of the part has a note
abbrev pub has_note : List Call → Bool
has_note part = list_any (λ call. is_some call.note) part

-- a call of one of the parts has a note
abbrev pub have_notes : List KeyPart → Bool
have_notes parts = list_any (λ entry. has_note entry.1) parts

-- the line that says what makes orders without notes
unfoldable pub hint_text : List ℕ
hint_text = codes "abd: no call has a note; abd justify --by values makes orders from the values\n"

-- what people are told after a refusal, if no call has a note
abbrev pub hint_of : Bool → Found → List KeyPart → List ℕ
hint_of true found.Refused parts = if have_notes parts then [] else hint_text
hint_of people f parts = []

-- that is made of keys with these parts, and people are told so
pub record MakesHinted (Makes : List KeyPart → Found → List ℕ → List ℕ → Type 0) (people : Bool)
    (parts : List KeyPart) (f : Found) (text notes : List ℕ) : Type 0 where
  pub own : List ℕ
  pub made : Makes parts f text own
  pub is : notes ≡ own ++ hint_of people f parts
