use Rattle.std.proofs.Common.{◌≡◌, ◌∷◌, [], List, Ok, Err, length, sym, ap, ◌∙◌, subst, arith}
use Rattle.std.specs.Vec.Iter.{into_iter_items}
use Rattle.std.proofs.lemmas.List.{nil_from_length}
use Rattle.std.proofs.lemmas.Result.{err_from_is_err_and}
use Rattle.counted_devices.specs.declared.judgement.Judgement.{Judgement}
use Rattle.line_files.proofs.LineByLine.{Goes, Goes-start, Goes-run, Goes-stop, Goes-end, one_judged}
use Rattle.line_files.proofs.Leaving.{one_leaves, Goes-leave}
use Rattle.line_files.proofs.progress.Progress.record_run.Goals as goal

pub loop-judgement-init : goal.loop-judgement-init
loop-judgement-init g c =
    let gives = c.into_iter-judgement-iterator.ensures.into_iter_gives in
    let same = ap length gives.0 in
    record {
      goes = λ lines shown.
          let P : List (Judgement g.row.C-Item.Denot g.row.C-Fault.Denot) → Type 0 = λ js. Goes g.C.Contents.rules g.C.Contents.Reads g.C.Contents.context g.C.Contents.Shows lines c.args.self.now c.args.self.now js in
          subst P (sym gives.0) (Goes-start g.C.Contents.rules g.C.Contents.Reads g.C.Contents.context g.C.Contents.Shows lines c.args.self.now c.args.run.items shown);
      known = omega (arith, gives.1, c.args.run.ok.0);
      room = omega arith;
    }

pub loop-judgement-preserved : goal.loop-judgement-preserved
loop-judgement-preserved g c =
    let at = c.loop-judgement in
    let j = c.in-Some.judgement in
    let old = c.args.self.now in
    let steps : into_iter_items at.judgement-iterator ≡ j ∷ into_iter_items c.next.new.self = c.in-Some.ensures.steps.0 in
    let short = ap length steps in
    let gone = c.in-Some.ensures.steps.1 in
    let grown = c.in_ok-add_judgement.ensures.lines in
    record {
      goes = λ lines shown.
          let P : List (Judgement g.row.C-Item.Denot g.row.C-Fault.Denot) → Type 0 = λ js. Goes g.C.Contents.rules g.C.Contents.Reads g.C.Contents.context g.C.Contents.Shows lines old at.self js in
          Goes-run g.C.Contents.rules g.C.Contents.Reads g.C.Contents.context g.C.Contents.Shows lines old at.self (j ∷ []) (into_iter_items c.next.new.self) (subst P steps (at.invariant.goes lines shown)) c.add_judgement.new.self (one_judged g.C.Contents.rules g.C.Contents.Reads g.C.Contents.context g.C.Contents.Shows at.self j (Ok tt) c.add_judgement.new.self c.in_ok-add_judgement.ensures.read);
      known = omega arith;
      room = omega arith;
    }

pub returns-in_err-add_judgement-clause-read : goal.returns-in_err-add_judgement-clause-read
returns-in_err-add_judgement-clause-read g c =
    let at = c.loop-judgement in
    let j = c.in-Some.judgement in
    let old = c.args.self.now in
    let steps : into_iter_items at.judgement-iterator ≡ j ∷ into_iter_items c.next.new.self = c.in-Some.ensures.steps.0 in
    let p = err_from_is_err_and c.from_residual.result c.from_residual.ensures.1 in
    λ lines shown before was.
    let P : List (Judgement g.row.C-Item.Denot g.row.C-Fault.Denot) → Type 0 = λ js. Goes g.C.Contents.rules g.C.Contents.Reads g.C.Contents.context g.C.Contents.Shows lines old at.self js in
    rw (p.1, p.2) (Goes-stop g.C.Contents.rules g.C.Contents.Reads g.C.Contents.context g.C.Contents.Shows lines old at.self (j ∷ []) (into_iter_items c.next.new.self) (subst P steps (at.invariant.goes lines shown)) c.add_judgement.new.self c.in_err-add_judgement.field-0.0 (one_judged g.C.Contents.rules g.C.Contents.Reads g.C.Contents.context g.C.Contents.Shows at.self j (Err c.in_err-add_judgement.field-0.0) c.add_judgement.new.self c.in_err-add_judgement.ensures.read) before was)

pub returns-clause-read : goal.returns-clause-read
returns-clause-read g c =
    let at = c.loop-judgement in
    let none = c.in-None.ensures.steps in
    let old = c.args.self.now in
    let empty : into_iter_items at.judgement-iterator ≡ [] = nil_from_length _ (sym at.invariant.known ∙ none.0) in
    λ lines shown.
    let P : List (Judgement g.row.C-Item.Denot g.row.C-Fault.Denot) → Type 0 = λ js. Goes g.C.Contents.rules g.C.Contents.Reads g.C.Contents.context g.C.Contents.Shows lines old at.self js in
    Goes-end g.C.Contents.rules g.C.Contents.Reads g.C.Contents.context g.C.Contents.Shows lines old at.self (subst P empty (at.invariant.goes lines shown))

pub returns-in_err-add_judgement-clause-before : goal.returns-in_err-add_judgement-clause-before
returns-in_err-add_judgement-clause-before g c =
    let at = c.loop-judgement in
    let j = c.in-Some.judgement in
    let old = c.args.self.now in
    let steps : into_iter_items at.judgement-iterator ≡ j ∷ into_iter_items c.next.new.self = c.in-Some.ensures.steps.0 in
    let p = err_from_is_err_and c.from_residual.result c.from_residual.ensures.1 in
    λ lines shown before was.
    let P : List (Judgement g.row.C-Item.Denot g.row.C-Fault.Denot) → Type 0 = λ js. Goes g.C.Contents.rules g.C.Contents.Reads g.C.Contents.context g.C.Contents.Shows lines old at.self js in
    rw (p.1, p.2) (Goes-leave g.C.Contents.rules g.C.Contents.Reads g.C.Contents.context g.C.Contents.Shows lines old at.self (j ∷ []) (into_iter_items c.next.new.self) (subst P steps (at.invariant.goes lines shown)) c.add_judgement.new.self c.in_err-add_judgement.field-0.0 (one_leaves g.C.Contents.rules g.C.Contents.Reads g.C.Contents.context g.C.Contents.Shows at.self j (Err c.in_err-add_judgement.field-0.0) c.add_judgement.new.self c.in_err-add_judgement.ensures.before) before was)
