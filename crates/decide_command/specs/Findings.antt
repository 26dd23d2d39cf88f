-- What was found says of the selected keys of histories.
use Rattle.std.specs.Prelude.{ℕ, ◌≡◌, ◌⊎◌, true, List}
use Rattle.std.specs.List.{list_any}
use Rattle.recorder.specs.declared.part.Call.{Call}
use Rattle.recorder.specs.Histories.{Recorded}
use Rattle.recorder.specs.Orders.{IsLinearizable}
use Rattle.parallel_keys.specs.CheckedKeys.{CheckedKey}
use Rattle.value_order.specs.declared.decision.Doubt.{Doubt}
use Rattle.cli.specs.Checks.{IsHallPart}
use Rattle.cli.specs.declared.outcome.Found.{Found}
use Rattle.cli.specs.declared.outcome.Found.TheVariants as found
use Rattle.judged_keys.specs.Findings.{IsUndecided}
use Rattle.judged_keys.specs.Selected.{is_missing, is_selected}

module _ (halls : List Recorded) (key : List ℕ) where
  -- the key's calls have an order
  pub record HasOrder : Type 0 where
    pub part : List Call
    pub recorded : IsHallPart halls key part
    pub ordered : IsLinearizable part

  -- the key's calls have no order
  pub record HasNoOrder : Type 0 where
    pub part : List Call
    pub recorded : IsHallPart halls key part
    pub unordered : IsLinearizable part → ⊥

  -- the key is undecided
  pub record IsLeftOpen : Type 0 where
    pub part : List Call
    pub recorded : IsHallPart halls key part
    pub doubt : Doubt
    pub undecided : IsUndecided part doubt

module _ (names : List (List ℕ)) where
  -- a key of these names is such, each key if none is given
  abbrev pub HasSelected : (List ℕ → Type 0) → Type 0
  HasSelected Is = (key : List ℕ) × (is_selected names key ≡ true) × Is key

  module _ (halls : List Recorded) (keys : List CheckedKey) where
    -- good: each selected key has an order. Refused: one has none, or a name is no key's.
    -- Undecided: one is
    abbrev pub Finds : Found → Type 0
    Finds found.Good = (key : List ℕ) → is_selected names key ≡ true → HasOrder halls key
    Finds found.Refused = HasSelected (HasNoOrder halls)
        ⊎ (list_any (is_missing keys) names ≡ true)
    Finds found.Undecided = HasSelected (IsLeftOpen halls)
