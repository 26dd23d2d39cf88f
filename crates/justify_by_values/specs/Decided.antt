-- Keys that were decided by their values, with their orders.
use Rattle.std.specs.Prelude.{ℕ, ◌≡◌, Bool, List, [], ◌∷◌, All, map}
use Rattle.std.specs.List.{flat_map, list_any}
use Rattle.recorder.specs.declared.order.KeyOrder.{KeyOrder}
use Rattle.value_order.specs.declared.decision.Decision.{Decision}
use Rattle.value_order.specs.declared.decision.Decision.TheVariants as decision
use Rattle.parallel_keys.specs.CheckedKeys.{CheckedKey}
use Rattle.judged_keys.specs.Findings.{is_refused, is_undecided}
use Rattle.judged_keys.specs.FoundOrders.{IsKeyDecision, finding_of}
use Rattle.explain_command.specs.Lines.{finding_line}

-- a key that was decided, and what was found, with its order if it has one
pub record DecidedKey : Type 0 where
  pub one : CheckedKey
  pub decided : Decision

-- the keys were decided, each once, in this order
pub record AreDecided (keys : List CheckedKey) (all : List DecidedKey) : Type 0 where
  pub each_key : map (λ k. k.one) all ≡ keys
  pub found : All (λ k. IsKeyDecision k.one.part k.decided) all

-- the key's order, if one was found
abbrev pub order_in : List ℕ → Decision → List KeyOrder
order_in key (decision.Atomic order) = record { key = key; order = order } ∷ []
order_in key decided = []

-- the line that says what was found of the key, if it has no order
abbrev pub line_in : List ℕ → Decision → List ℕ
line_in key (decision.Atomic order) = []
line_in key decided = finding_line key (finding_of decided)

-- the orders of the keys that have one, in their order
abbrev pub orders_of : List DecidedKey → List KeyOrder
orders_of all = flat_map (λ k. order_in k.one.key k.decided) all

-- the lines of the others, in their order
abbrev pub lines_of : List DecidedKey → List ℕ
lines_of all = flat_map (λ k. line_in k.one.key k.decided) all

-- a key is refused
abbrev pub has_refused : List DecidedKey → Bool
has_refused all = list_any (λ k. is_refused (finding_of k.decided)) all

-- a key is undecided
abbrev pub has_undecided : List DecidedKey → Bool
has_undecided all = list_any (λ k. is_undecided (finding_of k.decided)) all
