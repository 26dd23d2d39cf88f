use Rattle.std.proofs.Common.{map}
use Rattle.parallel_keys.specs.KeysToCheck.{what_of}
use Rattle.whole_pictures.proofs.Halls.{IsUpTo}
use Rattle.whole_pictures.proofs.page.add_halls.Given as goal

abbrev pub invariant-loop-number : goal.invariant-loop-number
invariant-loop-number l =
    IsUpTo l.task.numbered.now l.task.drawn (map what_of l.keys) l.keys l.number l.from l.found l.initial.page.items l.page.items
