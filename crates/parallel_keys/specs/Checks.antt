-- Parts with their orders, by index.
use Rattle.std.specs.Prelude.{◌≡◌, ◌++◌, List, length, map}
use Rattle.tag.specs.declared.numbers.OpId.{OpId}
use Rattle.recorder.specs.declared.part.Call.{Call}
use Rattle.parallel_keys.specs.KeysToCheck.{checked_in}
use Rattle.parallel_keys.specs.declared.checks.Checks.{Checks}

-- the parts
abbrev pub parts_in : Checks → List (List Call)
parts_in checks =
    map (λ p. p.now) checks.parts.now ++ map (λ one. one.part) (checked_in checks.keys)

-- the orders
abbrev pub orders_in : Checks → List (List OpId)
orders_in checks =
    map (λ o. o.now) checks.orders.now ++ map (λ one. one.order) (checked_in checks.keys)

-- the two lists are equally long, and all parts are counted
pub record ArePaired (checks : Checks) : Type 0 where
  pub equal : length checks.parts.now ≡ length checks.orders.now
  pub counted : checks.count ≡ length (parts_in checks)
