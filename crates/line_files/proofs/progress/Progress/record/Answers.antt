use Rattle.std.proofs.Common.{◌≡◌, ◌+◌, ◌++◌, [], List, length, length-append, sym, ap, ◌∙◌, subst, arith}
use Rattle.std.specs.Prelude.{Vec}
use Rattle.std.specs.List.{flat_map}
use Rattle.std.specs.declared.alloc.Global.{Global}
use Rattle.std.specs.Vec.Iter.{into_iter_items}
use Rattle.std.proofs.lemmas.List.{nil_from_length}
use Rattle.std.proofs.lemmas.Result.{err_from_is_err_and}
use Rattle.counted_devices.specs.declared.judgement.Judgement.{Judgement}
use Rattle.line_files.proofs.LineByLine.{Goes, Goes-start, Goes-run, Goes-stop, Goes-end}
use Rattle.line_files.proofs.Leaving.{Goes-leave}
use Rattle.line_files.proofs.progress.Progress.record.Goals as goal

-- what the runs hold, one after the other
abbrev in_runs : {T L : Type 0} → List (Vec (Judgement T L) Global) → List (Judgement T L)
in_runs runs = flat_map (λ run. run.items) runs

pub loop-run-init : goal.loop-run-init
loop-run-init g c =
    let gives = c.into_iter-run-iterator.ensures.into_iter_gives in
    let whole = c.into_runs-run-items.ensures ∙ ap in_runs (sym gives.0) in
    record {
      goes = λ lines shown.
          let P : List (Judgement g.row.C-Item.Denot g.row.C-Fault.Denot) → Type 0 = λ js. Goes g.C.Contents.rules g.C.Contents.Reads g.C.Contents.context g.C.Contents.Shows lines c.args.self.now c.args.self.now js in
          subst P whole (Goes-start g.C.Contents.rules g.C.Contents.Reads g.C.Contents.context g.C.Contents.Shows lines c.args.self.now c.args.judgements shown);
      known = omega (arith, gives.1, c.into_runs-run-items.result.ok.0);
      room = ap (λ (js : List (Judgement g.row.C-Item.Denot g.row.C-Fault.Denot)). c.args.self.now.lines + length js) (sym whole);
    }

pub loop-run-preserved : goal.loop-run-preserved
loop-run-preserved g c =
    let at = c.loop-run in
    let run = c.in-Some.run' in
    let left = in_runs (into_iter_items c.next.new.self) in
    let steps = c.in-Some.ensures.steps in
    let runs : in_runs (into_iter_items at.run-iterator) ≡ run.items ++ left = ap in_runs steps.0 in
    let short = ap length steps.0 in
    let gone = steps.1 in
    let grown = c.in_ok-record_run.ensures.lines in
    let count = ap length runs in
    let sum = length-append run.items left in
    record {
      goes = λ lines shown.
          let P : List (Judgement g.row.C-Item.Denot g.row.C-Fault.Denot) → Type 0 = λ js. Goes g.C.Contents.rules g.C.Contents.Reads g.C.Contents.context g.C.Contents.Shows lines c.args.self.now at.self js in
          Goes-run g.C.Contents.rules g.C.Contents.Reads g.C.Contents.context g.C.Contents.Shows lines c.args.self.now at.self run.items left (subst P runs (at.invariant.goes lines shown)) c.record_run.new.self c.in_ok-record_run.ensures.read;
      known = omega arith;
      room = omega arith;
    }

pub returns-in_err-record_run-clause-read : goal.returns-in_err-record_run-clause-read
returns-in_err-record_run-clause-read g c =
    let p = err_from_is_err_and c.from_residual.result c.from_residual.ensures.1 in
    let at = c.loop-run in
    let run = c.in-Some.run' in
    let left = in_runs (into_iter_items c.next.new.self) in
    let runs : in_runs (into_iter_items at.run-iterator) ≡ run.items ++ left = ap in_runs c.in-Some.ensures.steps.0 in
    λ lines shown before was.
    let P : List (Judgement g.row.C-Item.Denot g.row.C-Fault.Denot) → Type 0 = λ js. Goes g.C.Contents.rules g.C.Contents.Reads g.C.Contents.context g.C.Contents.Shows lines c.args.self.now at.self js in
    rw (p.1, p.2) (Goes-stop g.C.Contents.rules g.C.Contents.Reads g.C.Contents.context g.C.Contents.Shows lines c.args.self.now at.self run.items left (subst P runs (at.invariant.goes lines shown)) c.record_run.new.self c.in_err-record_run.field-0.0 c.in_err-record_run.ensures.read before was)

pub returns-clause-read : goal.returns-clause-read
returns-clause-read g c =
    let at = c.loop-run in
    let empty : into_iter_items at.run-iterator ≡ [] = nil_from_length _ (sym at.invariant.known ∙ c.in-None.ensures.steps.0) in
    λ lines shown.
    let P : List (Judgement g.row.C-Item.Denot g.row.C-Fault.Denot) → Type 0 = λ js. Goes g.C.Contents.rules g.C.Contents.Reads g.C.Contents.context g.C.Contents.Shows lines c.args.self.now at.self js in
    Goes-end g.C.Contents.rules g.C.Contents.Reads g.C.Contents.context g.C.Contents.Shows lines c.args.self.now at.self (subst P (ap in_runs empty) (at.invariant.goes lines shown))

pub returns-clause-lines : goal.returns-clause-lines
returns-clause-lines g c =
    let at = c.loop-run in
    let empty : into_iter_items at.run-iterator ≡ [] = nil_from_length _ (sym at.invariant.known ∙ c.in-None.ensures.steps.0) in
    omega (arith, at.invariant.room, ap length (ap in_runs empty))

pub returns-in_err-record_run-clause-before : goal.returns-in_err-record_run-clause-before
returns-in_err-record_run-clause-before g c =
    let p = err_from_is_err_and c.from_residual.result c.from_residual.ensures.1 in
    let at = c.loop-run in
    let run = c.in-Some.run' in
    let left = in_runs (into_iter_items c.next.new.self) in
    let runs : in_runs (into_iter_items at.run-iterator) ≡ run.items ++ left = ap in_runs c.in-Some.ensures.steps.0 in
    λ lines shown before was.
    let P : List (Judgement g.row.C-Item.Denot g.row.C-Fault.Denot) → Type 0 = λ js. Goes g.C.Contents.rules g.C.Contents.Reads g.C.Contents.context g.C.Contents.Shows lines c.args.self.now at.self js in
    rw (p.1, p.2) (Goes-leave g.C.Contents.rules g.C.Contents.Reads g.C.Contents.context g.C.Contents.Shows lines c.args.self.now at.self run.items left (subst P runs (at.invariant.goes lines shown)) c.record_run.new.self c.in_err-record_run.field-0.0 c.in_err-record_run.ensures.before before was)
