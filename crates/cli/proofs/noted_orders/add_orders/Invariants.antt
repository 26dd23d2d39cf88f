use Rattle.std.proofs.Common.{List, drop}
use Rattle.cli.specs.Justifications.{KeyPart, AreJustified}
use Rattle.cli.proofs.Prefixes.{JustifiedSoFar}
use Rattle.cli.proofs.noted_orders.add_orders.Given as goal

abbrev pub invariant-loop-place : goal.invariant-loop-place
invariant-loop-place l = (before : List KeyPart) → AreJustified before l.fn.orders.items → JustifiedSoFar before l.parts.entries (drop l.place l.parts.entries) l.orders.items
