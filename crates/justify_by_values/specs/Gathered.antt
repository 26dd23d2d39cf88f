-- Orders that are gathered, key by key.
use Rattle.std.specs.Prelude.{ℕ, ◌≡◌, ◌||◌, List, ◌++◌}
use Rattle.value_order.specs.declared.decision.Decision.{Decision}
use Rattle.judged_keys.specs.Findings.{is_refused, is_undecided}
use Rattle.judged_keys.specs.FoundOrders.{finding_of}
use Rattle.judged_keys.specs.declared.finding.Finding.{Finding}
use Rattle.explain_command.specs.Lines.{finding_line}
use Rattle.justify_by_values.specs.Decided.{DecidedKey, has_refused, has_undecided, line_in}
use Rattle.justify_by_values.specs.Decided.{lines_of, order_in, orders_of}
use Rattle.justify_by_values.specs.declared.found_orders.FoundOrders.{FoundOrders}

-- these were gathered of the keys that were decided
pub record AreGathered (all : List DecidedKey) (gathered : FoundOrders) : Type 0 where
  pub orders : gathered.orders.items ≡ orders_of all
  pub lines : gathered.left_out.items ≡ lines_of all
  pub refused : gathered.refused ≡ has_refused all
  pub undecided : gathered.undecided ≡ has_undecided all

-- what was found of the key was added
pub record Gathers (key : List ℕ) (decided : Decision) (old new : FoundOrders) : Type 0 where
  pub order : new.orders.items ≡ old.orders.items ++ order_in key decided
  pub line : new.left_out.items ≡ old.left_out.items ++ line_in key decided
  pub refused : new.refused ≡ (old.refused || is_refused (finding_of decided))
  pub undecided : new.undecided ≡ (old.undecided || is_undecided (finding_of decided))

-- the line that says what was found of the key was added, and no order
pub record LeavesOut (key : List ℕ) (f : Finding) (old new : FoundOrders) : Type 0 where
  pub orders : new.orders.items ≡ old.orders.items
  pub line : new.left_out.items ≡ old.left_out.items ++ finding_line key f
  pub refused : new.refused ≡ (old.refused || is_refused f)
  pub undecided : new.undecided ≡ (old.undecided || is_undecided f)
