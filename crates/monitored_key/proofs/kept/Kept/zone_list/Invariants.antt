use Rattle.monitored_key.specs.Kept.{seen}
use Rattle.monitored_key.proofs.Listing.{AreListed}
use Rattle.monitored_key.proofs.kept.Kept.zone_list.Given as goal

abbrev pub invariant-loop-number : goal.invariant-loop-number
invariant-loop-number l = AreListed (seen l.self) l.list.items l.number-iterator
