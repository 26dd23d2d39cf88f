use Rattle.std.proofs.Common.{List, ℕ, ◌∙◌, arith}
use Rattle.counted_devices.specs.DeviceStates.{states}
use Rattle.line_files.specs.Ahead.{StandsAhead}
use Rattle.line_files.proofs.Consuming.{settled_holds, settled_fault}
use Rattle.line_files.proofs.reading.feed_in_blocks.Goals as goal

pub returns-then-not-more-clause-holds : goal.returns-then-not-more-clause-holds
returns-then-not-more-clause-holds g c =
    let reader = states g.R.Read.remaining g.R.Counted.failures c.args.reader.now c.read_next.new.reader in
    let P : List ℕ → Type 0 = λ bytes. StandsAhead g.C.Contents.Reads g.C.Contents.context g.C.Contents.Shows bytes c.in_ok-next.next in
    settled_holds g.C.Contents.rules g.C.Contents.Reads P reader c.into_feed.result (c.in_ok-next.ensures.goes reader.old c.reads.invariant.holds) (c.in_ok-next.ensures.end c.if-not-more.true) (λ bytes s. c.into_feed.ensures.becomes bytes s.0)

pub returns-then-not-more-clause-fault : goal.returns-then-not-more-clause-fault
returns-then-not-more-clause-fault g c =
    let reader = states g.R.Read.remaining g.R.Counted.failures c.args.reader.now c.read_next.new.reader in
    let P : List ℕ → Type 0 = λ bytes. StandsAhead g.C.Contents.Reads g.C.Contents.context g.C.Contents.Shows bytes c.in_ok-next.next in
    settled_fault g.C.Contents.rules g.C.Contents.Reads P reader c.into_feed.result (c.in_ok-next.ensures.goes reader.old c.reads.invariant.holds) (λ bytes s. c.into_feed.ensures.becomes bytes s.0)

pub reads-preserved : goal.reads-preserved
reads-preserved g c = record {
  holds = c.in_ok-next.ensures.goes (g.R.Read.remaining c.args.reader.now) c.reads.invariant.holds;
  same = c.in_ok-next.ensures.counted ∙ c.reads.invariant.same;
  fed = c.in_ok-next.ensures.fed;
  some = omega (arith, c.read_next.auto.room, c.reads.invariant.some);
}
