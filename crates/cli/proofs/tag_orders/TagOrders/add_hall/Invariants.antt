use Rattle.std.proofs.Common.{List, ◌++◌, take}
use Rattle.cli.specs.Justifications.{KeyPart}
use Rattle.cli.specs.TagOrders.{AreMade}
use Rattle.cli.proofs.tag_orders.TagOrders.add_hall.Given as goal

abbrev pub invariant-loop-place : goal.invariant-loop-place
invariant-loop-place l = (before : List KeyPart) → AreMade before l.fn.self → AreMade (before ++ take l.place l.parts.entries) l.self
