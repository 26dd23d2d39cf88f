use Rattle.std.proofs.Common.{◌≡◌, ◌≤◌, ◌-◌, ◌^◌, length}
use Rattle.counted_devices.specs.Deliveries.{Holds}
use Rattle.split_command.specs.Endings.{Stands}
use Rattle.split_command.proofs.splitting.split_blocks.Given as goal

abbrev pub invariant-reads : goal.invariant-reads
invariant-reads g l = record {
  holds : Holds (Stands g.W.Write.contents) (g.R.Read.remaining l.fn.reader) (g.R.Read.remaining l.reader) l.feed;
  fed : l.feed.fed ≤ g.R.Counted.given l.reader;
  some : length l.block ≡ 1048576;
}

abbrev pub decreases-reads : goal.decreases-reads
decreases-reads g l = 2 ^ 62 - g.R.Counted.given l.reader
