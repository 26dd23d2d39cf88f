use Rattle.std.proofs.Common.{◌≡◌, ◌++◌, drop}
use Rattle.pictures.specs.Strips.{numbers_from}
use Rattle.pictures.proofs.strips.numbers_after.Given as goal

-- what was said, and the numbers that are left
abbrev pub invariant-loop-index : goal.invariant-loop-index
invariant-loop-index l = l.words.items ++ numbers_from l.before l.index (drop l.index l.clients) ≡ numbers_from l.before 0 l.clients
