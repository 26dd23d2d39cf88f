use Rattle.std.proofs.Common.{◌≡◌, Option, Some, IfSome, sym, ◌∙◌, subst}
use Rattle.recorder.specs.declared.row.Row.TheVariants.{Respond}
use Rattle.record_monitor.specs.declared.taken.Taken.{Taken}
use Rattle.record_monitor.specs.Monitored.{HasTaken, left_of}
use Rattle.record_monitor.specs.Taken.{KeepsSome}
use Rattle.record_monitor.proofs.Rows.{carried, some_by, takes_by}
use Rattle.record_monitor.proofs.record_monitor.RecordMonitor.respond.Goals as goal

pub invariant_of-self-2 : goal.invariant_of-self-2
invariant_of-self-2 c =
    let taken = c.in-Some.taken in
    let some : KeepsSome taken = subst (λ (o : Option Taken). IfSome o KeepsSome) c.in-Some.is c.self.invariant in
    subst (λ (o : Option Taken). IfSome o KeepsSome) (sym c.lose.ensures)
    (some_by taken c.respond-answer.new.self some (Respond c.args.op c.args.returned.now) c.respond-answer.result
    (c.respond-answer.ensures some.rows some.formed some.keeps))

pub returns : goal.returns
returns c = λ rows formed h.
    let row = Respond c.args.op c.args.returned.now in
    let taken = c.in-Some.taken in
    let new = c.respond-answer.new.self in
    let answer = c.respond-answer.result in
    let was : c.args.self.now ≡ Some taken = sym c.self.view_is ∙ c.in-Some.is in
    carried rows row c.args.self.now c.lose.new.taken (left_of (Some new) answer) taken answer was c.lose.ensures
    (takes_by rows taken new row answer (c.respond-answer.ensures rows formed (subst (HasTaken rows) was h)))
