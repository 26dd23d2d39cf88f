use Rattle.std.proofs.Common.{◌≡◌, ◌≤◌, ◌-◌, ◌^◌, length}
use Rattle.counted_devices.specs.Deliveries.{Holds}
use Rattle.monitor_command.specs.Endings.{HasSent, Stands}
use Rattle.monitor_command.proofs.running.judge_blocks.Given as goal

abbrev pub invariant-reads : goal.invariant-reads
invariant-reads g l = record {
  holds : Holds Stands (g.R.Read.remaining l.fn.reader) (g.R.Read.remaining l.reader) l.session.feed;
  sent : HasSent (g.W.Write.contents l.fn.out) (g.W.Write.contents l.out);
  fed : l.session.feed.fed ≤ g.R.Counted.given l.reader;
  some : length l.block ≡ 65536;
}

abbrev pub decreases-reads : goal.decreases-reads
decreases-reads g l = 2 ^ 62 - g.R.Counted.given l.reader
