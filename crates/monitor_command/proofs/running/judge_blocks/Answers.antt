use Rattle.std.proofs.Common.{ℕ, List, [], ◌++◌, Bool, Ok, arith, take, subst}
use Rattle.std.proofs.lemmas.List.{length-take}
use Rattle.std.proofs.lemmas.Result.{err_from_is_err_and}
use Rattle.std.specs.Io.KnownBytes.{Consumes}
use Rattle.counted_devices.specs.DeviceStates.{states}
use Rattle.monitor_command.specs.Endings.{GoesOn, Stands}
use Rattle.monitor_command.proofs.Loop.{refused_by, stands_more, stands_still, stops_at}
use Rattle.monitor_command.proofs.Sent.{sent_more}
use Rattle.monitor_command.proofs.running.judge_blocks.Goals as goal

pub returns-in-Ok-eq0 : goal.returns-in-Ok-eq0
returns-in-Ok-eq0 g c =
    let before = g.R.Read.remaining c.reads.reader in
    let left = g.R.Read.remaining c.read_counted.new.self in
    let none : Consumes before left [] = subst (λ (n : ℕ). Consumes before left (take n c.read_counted.new.block)) c.in-Ok-eq0.field-0-test c.in-Ok-eq0.ensures.bytes.0 in
    let end = c.in-Ok-eq0.ensures.bytes.1 c.in-Ok-eq0.field-0-test (omega (arith, c.read_counted.auto.block, c.reads.invariant.some)) in
    ((stands_still (g.R.Read.remaining c.args.reader.now) before left c.reads.session.feed c.reads.invariant.holds none, end), c.reads.invariant.sent)

pub returns-in_err-judge-in-Ok : goal.returns-in_err-judge-in-Ok
returns-in_err-judge-in-Ok g c =
    let p = err_from_is_err_and c.from_residual.result c.from_residual.ensures.1 in
    let before = g.R.Read.remaining c.reads.reader in
    let reader = states g.R.Read.remaining g.R.Counted.failures c.args.reader.now c.read_counted.new.self in
    let writer = states g.W.Write.contents g.W.Counted.failures c.args.out.now c.judge.new.out in
    let block = take c.in-Ok.count c.read_counted.new.block in
    rw (p.1, p.2) (stops_at reader writer c.args.asked (g.W.Write.contents c.reads.out) c.reads.session.feed before block c.judge.new.self.feed c.in_err-judge-in-Ok.field-0.0 c.reads.invariant.holds c.in-Ok.ensures.bytes.0 c.in_err-judge-in-Ok.ensures.goes)

pub returns-then-branch : goal.returns-then-branch
returns-then-branch g c =
    let before = g.R.Read.remaining c.reads.reader in
    let mid = g.W.Write.contents c.reads.out in
    let reader = states g.R.Read.remaining g.R.Counted.failures c.args.reader.now c.read_counted.new.self in
    let writer = states g.W.Write.contents g.W.Counted.failures c.args.out.now c.judge.new.out in
    let block = take c.in-Ok.count c.read_counted.new.block in
    let P : Bool → Type 0 = λ stops. (bytes : List ℕ) → Stands bytes c.reads.session.feed → GoesOn mid writer.new c.args.asked.form (bytes ++ block) (Ok stops) c.judge.new.self.feed in
    refused_by reader writer c.args.asked mid c.reads.session.feed before block c.judge.new.self.feed c.reads.invariant.holds c.in-Ok.ensures.bytes.0 c.reads.invariant.sent
    (c.in_ok-judge-in-Ok.ensures.asked c.if-branch.true)
    (subst P c.if-branch.true c.in_ok-judge-in-Ok.ensures.goes)

pub reads-preserved : goal.reads-preserved
reads-preserved g c =
    let start = g.R.Read.remaining c.args.reader.now in
    let before = g.R.Read.remaining c.reads.reader in
    let left = g.R.Read.remaining c.read_counted.new.self in
    let first = g.W.Write.contents c.args.out.now in
    let mid = g.W.Write.contents c.reads.out in
    let last = g.W.Write.contents c.judge.new.out in
    let block = take c.in-Ok.count c.read_counted.new.block in
    let P : Bool → Type 0 = λ stops. (bytes : List ℕ) → Stands bytes c.reads.session.feed → GoesOn mid last c.args.asked.form (bytes ++ block) (Ok stops) c.judge.new.self.feed in
    record {
      holds = stands_more start before left mid last c.args.asked.form block c.reads.session.feed c.judge.new.self.feed c.reads.invariant.holds c.in-Ok.ensures.bytes.0
          (subst P c.if-branch.false c.in_ok-judge-in-Ok.ensures.goes);
      sent = sent_more first mid last c.reads.invariant.sent c.in_ok-judge-in-Ok.ensures.sent;
      fed = omega (arith, c.in_ok-judge-in-Ok.ensures.count, c.in-Ok.ensures.given, c.reads.invariant.fed, length-take c.in-Ok.count c.read_counted.new.block);
      some = omega (arith, c.read_counted.auto.block, c.reads.invariant.some);
    }
