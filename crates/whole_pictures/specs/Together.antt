-- What is found of keys together: an order of each, or the first that is refused and how many are,
-- or the first that is undecided.
use Rattle.std.specs.Prelude.{ℕ, ◌≡◌, ◌<◌, Bool, true, false, List, [], ◌∷◌, Some, slice_get}
use Rattle.std.specs.List.{AllZip}
use Rattle.recorder.specs.Orders.{IsOrder}
use Rattle.recorder.specs.declared.order.KeyOrder.{KeyOrder}
use Rattle.parallel_keys.specs.CheckedKeys.{CheckedKey}
use Rattle.cli.specs.declared.outcome.Found.{Found}
use Rattle.cli.specs.declared.outcome.Found.TheVariants as found
use Rattle.judged_keys.specs.Findings.{IsFinding, is_refused, is_undecided}
use Rattle.judged_keys.specs.Judgements.{AreJudged, Judgement, judgement_of, refused_count}
use Rattle.judged_keys.specs.declared.finding.Finding.{Finding}
use Rattle.judged_keys.specs.declared.judged.Judged.{Judged}
use Rattle.draw_command.specs.Drawings.{IsDrawnOrder}
use Rattle.whole_pictures.specs.declared.together.Together.{Together}
use Rattle.whole_pictures.specs.declared.together.Together.TheVariants as together

module _ (judged : Judged) where
  -- the order that the key's own picture shows, which is one of its calls, under its name
  pub record IsOwnOrder (one : CheckedKey) (own : KeyOrder) : Type 0 where
    pub key : own.key ≡ one.key
    pub finding : Finding
    pub found : IsFinding judged one finding
    pub drawn : IsDrawnOrder one finding (Some own.order)
    pub order : IsOrder one.part own.order

  module _ (Is : Finding → Bool) (keys : List CheckedKey) where
    -- the first so many keys were judged, and of none of them that was found
    abbrev pub HasNoneBefore : ℕ → Type 0
    HasNoneBefore n = (i : ℕ) (one : CheckedKey) → i < n → slice_get keys i ≡ Some one
        → (finding : Finding) × IsFinding judged one finding × (Is finding ≡ false)

    -- that was found of the key, and of none before it
    pub record IsFirst (j : Judgement) : Type 0 where
      pub place : ℕ
      pub there : slice_get keys place ≡ Some j.one
      pub found : IsFinding judged j.one j.finding
      pub is : Is j.finding ≡ true
      pub none_before : HasNoneBefore place

  -- so many of the keys are refused
  abbrev pub HasRefused : List CheckedKey → ℕ → Type 0
  HasRefused keys count =
      (all : List Judgement) × AreJudged judged keys all × (count ≡ refused_count all)

  -- what is found of the keys together: the order of each; or the first that is refused, and how
  -- many are; or, if none is, the first that is undecided
  abbrev pub IsTogether : List CheckedKey → Together → Type 0
  IsTogether keys (together.Ordered orders) = AllZip IsOwnOrder keys orders.items
  IsTogether keys (together.Refused key count) =
      IsFirst is_refused keys (judgement_of key) × HasRefused keys count
  IsTogether keys (together.Undecided key) =
      IsFirst is_undecided keys (judgement_of key) × ((n : ℕ) → HasNoneBefore is_refused keys n)

-- what was found of all, after that of one more hall
abbrev pub found_with : Found → Together → Found
found_with f (together.Ordered orders) = f
found_with f (together.Refused key count) = found.Refused
found_with found.Refused (together.Undecided key) = found.Refused
found_with f (together.Undecided key) = found.Undecided

-- what was found of all halls
abbrev pub found_of_all : Found → List Together → Found
found_of_all f [] = f
found_of_all f (t ∷ ts) = found_of_all (found_with f t) ts
