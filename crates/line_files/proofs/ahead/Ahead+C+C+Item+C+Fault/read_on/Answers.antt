use Rattle.std.proofs.Common.{rules, ℕ, List, ◌≡◌, ◌≤◌, ◌++◌, Some, length, take, length-append, ◌∙◌, sym, ap, subst, arith}
use Rattle.std.proofs.lemmas.List.{length-take-le}
use Rattle.std.proofs.lemmas.Result.{IfOk-at_ok}
use Rattle.line_files.specs.Ahead.{AreReadOrJudged}
use Rattle.line_files.specs.declared.progress.Progress.{Progress}
use Rattle.line_files.proofs.Advancing.{stays, judged_more}
use Rattle.line_files.proofs.Beside.{went_on, stopped, few_more}
use Rattle.line_files.proofs.ahead.Ahead+C+C+Item+C+Fault.read_on.Goals as goal

pub returns-in-Err-clause-goes : goal.returns-in-Err-clause-goes
returns-in-Err-clause-goes g c = λ bytes s.
    let a = s.0.at in
    let fault = c.in-Err.fault in
    let read = c.join_mut-read.ensures.0.met.1.0 a.waiting a.shown a.read a.at in
    stays g.C.Contents.rules bytes (a.read ++ a.waiting) c.args.self.judged.rest.items fault.line fault.kind a.splits (stopped _ _ _ fault c.in-Err.is read) _

pub invariant_of-next : goal.invariant_of-next
invariant_of-next g c =
    let old = c.args.self in
    let batch = c.join_mut-read.ensures.1.met.1.0 in
    let counted = IfOk-at_ok _ c.in_default.is c.join_mut-read.ensures.0.met.1.1 in
    let room = IfOk-at_ok _ c.in-Ok.is c.join_mut-read.ensures.1.met.1.1.1 in
    let same : c.join_mut-read.new.f.0.now ≡ c.progress-2-1.given.0 = search rules in
    record {
      few = few_more g.S.Counted.given g.met.S.Counted.most_given _ _ _ _ c.requires.fed batch.more;
      room = omega (arith, counted, room, old.room, ap (λ (p : Progress g.row.C.Denot). p.lines) same);
    }

pub returns-clause-goes : goal.returns-clause-goes
returns-clause-goes g c = λ bytes s.
    let old = c.args.self in
    let a = s.0.at in
    let batch = c.join_mut-read.ensures.1.met.1.0 in
    let done = went_on _ _ _ _ c.in_default.is (c.join_mut-read.ensures.0.met.1.0 a.waiting a.shown a.read a.at) in
    let j = IfOk-at_ok _ c.in-Ok.is c.join_mut-read.ensures.1.met.1.1.0 a.splits.partial in
    let known = sym c.requires.known ∙ sym done.1 in
    let more = judged_more g.C.Contents.Shows g.C.Contents.Reads g.C.Contents.context bytes _ old.judged.rest.items c.join_mut-read.new.f.0.now (Some c.args.under) c.in-Ok.judged (record { lines = a.read ++ a.waiting; splits = a.splits; at = done.0 }) j known in
    let same_room : c.join_mut-read.new.g.5.now ≡ c.room-1.given.0 = search rules in
    let same : c.join_mut-read.new.f.0.now ≡ c.progress-2-1.given.0 = search rules in
    let count = c.join_mut-read.result.1.0.count in
    let P : List ℕ → Type 0 = λ room. AreReadOrJudged g.C.Contents.Reads g.C.Contents.context g.C.Contents.Shows (bytes ++ take count room) c.join_mut-read.new.f.0.now c.in-Ok.judged in
    let Q : Progress g.row.C.Denot → Type 0 = λ progress. AreReadOrJudged g.C.Contents.Reads g.C.Contents.context g.C.Contents.Shows (bytes ++ take count c.room-1.given.0) progress c.in-Ok.judged in
    let bound : count ≤ length c.room-1.given.0 = subst (λ room. count ≤ length room) same_room batch.bound in
    c.settle.ensures.goes _ (record {
      at = subst Q same (subst P same_room more);
      fed = omega (arith, s.0.fed, length-append bytes (take count c.room-1.given.0), length-take-le count c.room-1.given.0 bound);
    })
