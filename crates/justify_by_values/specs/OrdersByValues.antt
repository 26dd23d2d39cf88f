-- What `abd justify --by values` writes: the orders that are found of keys by their values.
use Rattle.std.specs.Prelude.{ℕ, ◌≡◌, ◌||◌, Bool, true, false, not, List, []}
use Rattle.recorder.specs.declared.order.KeyOrder.{KeyOrder}
use Rattle.file_format.specs.Texts.{orders_text}
use Rattle.history_file.specs.declared.numbered_format.NumberedHistories.{NumberedHistories}
use Rattle.parallel_keys.specs.CheckedKeys.{CheckedKey}
use Rattle.cli.specs.declared.outcome.Found.{Found}
use Rattle.cli.specs.declared.outcome.Found.TheVariants as found
use Rattle.cli.specs.declared.outcome.Outcome.{Outcome}
use Rattle.justify_by_values.specs.Decided.{AreDecided, DecidedKey, has_refused, has_undecided}
use Rattle.justify_by_values.specs.Decided.{lines_of, orders_of}
use Rattle.justify_by_values.specs.declared.justifying.Justifying.{Justifying}

-- what was found of all, if a key is refused, and if one is undecided
abbrev pub found_if : Bool → Bool → Found
found_if true undecided = found.Refused
found_if false true = found.Undecided
found_if false false = found.Good

-- the order file that is written, if one is
abbrev pub written_if : Bool → List KeyOrder → List ℕ
written_if true orders = orders_text orders
written_if false orders = []

-- the orders are written: they go unchecked, or each key has one
abbrev pub are_written : Bool → List DecidedKey → Bool
are_written unchecked all = unchecked || not (has_refused all || has_undecided all)

-- what is made of keys that were decided: the text of the orders, unless a key has none and orders
-- don't go unchecked; and for standard error the line of each key that has none
pub record IsJustified (unchecked : Bool) (all : List DecidedKey) (outcome : Outcome) : Type 0
  where
    pub is : outcome.found ≡ found_if (has_refused all) (has_undecided all)
    pub text : outcome.text.items ≡ written_if (are_written unchecked all) (orders_of all)
    pub lines : outcome.notes.items ≡ lines_of all

-- the keys were decided by their values, and that is made of them
pub record JustifiesKeys (justifying : Justifying) (numbered : NumberedHistories)
    (keys : List CheckedKey) (outcome : Outcome) : Type 0 where
  pub all : List DecidedKey
  pub decided : AreDecided keys all
  pub made : IsJustified justifying.unchecked all outcome
