use Rattle.std.proofs.Common.{take, ◌-◌, ◌∙◌, refl, arith, subst}
use Rattle.std.specs.Io.KnownBytes.{Consumes}
use Rattle.counted_devices.specs.Counts.{IsOneMore}
use Rattle.counted_devices.proofs.Consuming.{Consumes-none}
use Rattle.line_files.proofs.Filling.{fills, fills_nothing, keeps_of_none}
use Rattle.line_files.proofs.batches.read_batch.Goals as goal

pub reads-init : goal.reads-init
reads-init g c = record {
  bytes = Consumes-none (g.R.Read.remaining c.args.reader.now);
  given = omega arith;
  same = refl;
  within = omega arith;
}

pub returns-in-Ok-eq0-clause-bytes : goal.returns-in-Ok-eq0-clause-bytes
returns-in-Ok-eq0-clause-bytes g c =
    let left = g.R.Read.remaining c.read_counted.new.self in
    fills_nothing (g.R.Read.remaining c.args.reader.now) (g.R.Read.remaining c.reads.reader) left c.reads.count (c.min-end.result - c.reads.count) c.reads.room c.read_counted.new.block c.reads.invariant.within c.reads.invariant.bytes (keeps_of_none (g.R.Read.remaining c.reads.reader) left (subst (λ n. Consumes (g.R.Read.remaining c.reads.reader) left (take n c.read_counted.new.block)) c.in-Ok-eq0.field-0-test c.in-Ok-eq0.ensures.bytes.0))

pub returns-in-Ok-eq0-clause-given : goal.returns-in-Ok-eq0-clause-given
returns-in-Ok-eq0-clause-given g c = omega (arith, c.in-Ok-eq0.ensures.given, c.in-Ok-eq0.field-0-test, c.reads.invariant.given)

pub returns-in-Ok-eq0-clause-behind : goal.returns-in-Ok-eq0-clause-behind
returns-in-Ok-eq0-clause-behind g c = (c.in-Ok-eq0.ensures.bytes.1 c.in-Ok-eq0.field-0-test (omega (arith, c.read_counted.auto.block, c.reads-test.true, c.min-end.ensures, c.saturating_add.ensures)), c.in-Ok-eq0.ensures.counted ∙ c.reads.invariant.same)

pub reads-preserved : goal.reads-preserved
reads-preserved g c = record {
  bytes = fills (g.R.Read.remaining c.args.reader.now) (g.R.Read.remaining c.reads.reader) (g.R.Read.remaining c.read_counted.new.self) c.reads.count (c.min-end.result - c.reads.count) c.in-Ok.more c.reads.room c.read_counted.new.block c.reads.invariant.within c.in-Ok.ensures.bound.0 c.reads.invariant.bytes c.in-Ok.ensures.bytes.0;
  given = omega (arith, c.in-Ok.ensures.given, c.reads.invariant.given);
  same = c.in-Ok.ensures.counted ∙ c.reads.invariant.same;
  within = omega (arith, c.read_counted.auto.block, c.reads-test.true, c.in-Ok.ensures.bound.0, c.reads.invariant.within, c.min-end.ensures, c.saturating_add.ensures);
}

pub returns-in-Err-clause-bytes : goal.returns-in-Err-clause-bytes
returns-in-Err-clause-bytes g c = fills_nothing (g.R.Read.remaining c.args.reader.now) (g.R.Read.remaining c.reads.reader) (g.R.Read.remaining c.read_counted.new.self) c.reads.count (c.min-end.result - c.reads.count) c.reads.room c.read_counted.new.block c.reads.invariant.within c.reads.invariant.bytes c.in-Err.ensures.bytes

pub returns-in-Err-clause-given : goal.returns-in-Err-clause-given
returns-in-Err-clause-given g c = c.in-Err.ensures.given ∙ c.reads.invariant.given

pub returns-in-Err-clause-behind : goal.returns-in-Err-clause-behind
returns-in-Err-clause-behind g c = subst (λ m. IsOneMore m (g.R.Counted.failures c.read_counted.new.self)) c.reads.invariant.same c.in-Err.ensures.counted

pub returns-after-reads-clause-bound : goal.returns-after-reads-clause-bound
returns-after-reads-clause-bound g c = c.reads.invariant.within

pub returns-after-reads-clause-bytes : goal.returns-after-reads-clause-bytes
returns-after-reads-clause-bytes g c = c.reads.invariant.bytes

pub returns-after-reads-clause-given : goal.returns-after-reads-clause-given
returns-after-reads-clause-given g c = c.reads.invariant.given

pub returns-after-reads-clause-behind : goal.returns-after-reads-clause-behind
returns-after-reads-clause-behind g c = (omega (arith, c.reads-test.false, c.requires), c.reads.invariant.same)

pub returns-then-count-end-clause-bytes : goal.returns-then-count-end-clause-bytes
returns-then-count-end-clause-bytes g c = fills (g.R.Read.remaining c.args.reader.now) (g.R.Read.remaining c.reads.reader) (g.R.Read.remaining c.read_counted.new.self) c.reads.count (c.min-end.result - c.reads.count) c.in-Ok.more c.reads.room c.read_counted.new.block c.reads.invariant.within c.in-Ok.ensures.bound.0 c.reads.invariant.bytes c.in-Ok.ensures.bytes.0

pub returns-then-count-end-clause-given : goal.returns-then-count-end-clause-given
returns-then-count-end-clause-given g c = omega (arith, c.in-Ok.ensures.given, c.reads.invariant.given)

pub returns-then-count-end-clause-behind : goal.returns-then-count-end-clause-behind
returns-then-count-end-clause-behind g c = (omega (arith, c.in-Ok.more-test), c.in-Ok.ensures.counted ∙ c.reads.invariant.same)
