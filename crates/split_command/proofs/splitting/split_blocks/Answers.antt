use Rattle.std.proofs.Common.{ℕ, [], take, subst, arith}
use Rattle.std.proofs.lemmas.List.{length-take}
use Rattle.std.proofs.lemmas.Result.{err_from_is_err_and}
use Rattle.std.specs.Io.KnownBytes.{Consumes}
use Rattle.counted_devices.specs.DeviceStates.{states}
use Rattle.split_command.proofs.Loop.{device_fails, stands_more, stands_still, stops_at}
use Rattle.split_command.proofs.splitting.split_blocks.Goals as goal

pub returns-in-Ok-eq0 : goal.returns-in-Ok-eq0
returns-in-Ok-eq0 g c =
    let before = g.R.Read.remaining c.reads.reader in
    let left = g.R.Read.remaining c.read_counted.new.self in
    let none : Consumes before left [] = subst (λ (n : ℕ). Consumes before left (take n c.read_counted.new.block)) c.in-Ok-eq0.field-0-test c.in-Ok-eq0.ensures.bytes.0 in
    let end = c.in-Ok-eq0.ensures.bytes.1 c.in-Ok-eq0.field-0-test (omega (arith, c.read_counted.auto.block, c.reads.invariant.some)) in
    (stands_still g.W.Write.contents (g.R.Read.remaining c.args.reader.now) before left c.reads.feed c.reads.invariant.holds none, end)

pub returns-in_err-split_block-in-Ok : goal.returns-in_err-split_block-in-Ok
returns-in_err-split_block-in-Ok g c =
    let p = err_from_is_err_and c.from_residual.result c.from_residual.ensures.1 in
    let before = g.R.Read.remaining c.reads.reader in
    let reader = states g.R.Read.remaining g.R.Counted.failures c.args.reader.now c.read_counted.new.self in
    let block = take c.in-Ok.count c.read_counted.new.block in
    rw (p.1, p.2) (stops_at g.W.Write.contents reader c.reads.feed before block c.split_block.new.feed
    c.in_err-split_block-in-Ok.field-0.0 c.reads.invariant.holds c.in-Ok.ensures.bytes.0
    c.in_err-split_block-in-Ok.ensures.goes)

pub reads-preserved : goal.reads-preserved
reads-preserved g c =
    let start = g.R.Read.remaining c.args.reader.now in
    let before = g.R.Read.remaining c.reads.reader in
    let left = g.R.Read.remaining c.read_counted.new.self in
    let block = take c.in-Ok.count c.read_counted.new.block in
    record {
      holds = stands_more g.W.Write.contents start before left block c.reads.feed c.split_block.new.feed
          c.in_ok-split_block-in-Ok.field-0 c.reads.invariant.holds c.in-Ok.ensures.bytes.0
          c.in_ok-split_block-in-Ok.ensures.goes;
      fed = omega (arith, c.in_ok-split_block-in-Ok.ensures.count, c.in-Ok.ensures.given, c.reads.invariant.fed, length-take c.in-Ok.count c.read_counted.new.block);
      some = omega (arith, c.read_counted.auto.block, c.reads.invariant.some);
    }

pub returns-in-Err : goal.returns-in-Err
returns-in-Err g c =
    device_fails g.W.Write.contents (g.R.Read.remaining c.args.reader.now) (g.R.Read.remaining c.reads.reader) (g.R.Read.remaining c.read_counted.new.self)
    c.reads.feed c.line.result c.reads.invariant.holds c.in-Err.ensures.bytes c.line.ensures
