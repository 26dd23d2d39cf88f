use Rattle.std.proofs.Common.{◌≡◌, ◌++◌, List, ℕ, map, take}
use Rattle.std.specs.List.{flat_map}
use Rattle.std.specs.Borrow.{Bor}
use Rattle.judged_keys.proofs.telling.say_missing.Given as goal

abbrev pub invariant-loop-name : goal.invariant-loop-name
invariant-loop-name g l = l.text.items ≡ l.initial.text.items ++ flat_map (g.W.Wording.words l.wording).missing (map (λ (name : Bor (List ℕ)). name.now) (take l.name-index l.names))
