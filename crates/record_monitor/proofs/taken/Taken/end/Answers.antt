use Rattle.std.proofs.Common.{◌≡◌, None, Some, subst}
use Rattle.tag.specs.declared.actions.Returned.{Returned}
use Rattle.tag.specs.declared.actions.Returned.TheVariants.{Value}
use Rattle.recorder.specs.declared.row.Row.TheVariants.{Respond}
use Rattle.record_monitor.specs.Taken.{IsBegun, MayTake}
use Rattle.record_monitor.proofs.taken.Taken.end.Goals as goal

pub end_write-requires-clause-may : goal.end_write-requires-clause-may
end_write-requires-clause-may c =
    subst (λ (r : Returned). (m : MayTake c.args.self.now (Respond c.args.op r))
    × IsBegun m.rows c.args.self.now.keys.numbers c.args.op c.args.begun) c.in-None.ensures.done c.requires.may

pub end_read-requires-clause-may : goal.end_read-requires-clause-may
end_read-requires-clause-may c =
    let is : c.args.returned.now ≡ Value None = cc (c.in-Some-None.ensures.read, c.in-Some-None.field-0-is) in
    subst (λ (r : Returned). (m : MayTake c.args.self.now (Respond c.args.op r))
    × IsBegun m.rows c.args.self.now.keys.numbers c.args.op c.args.begun) is c.requires.may

pub end_read-requires-in-Some-Some-clause-may : goal.end_read-requires-in-Some-Some-clause-may
end_read-requires-in-Some-Some-clause-may c =
    let is : c.args.returned.now ≡ Value (Some c.as_str.result.now) =
    cc (c.in-Some-Some.ensures.read, c.in-Some-Some.field-0-is, c.as_str.ensures.text) in
    subst (λ (r : Returned). (m : MayTake c.args.self.now (Respond c.args.op r))
    × IsBegun m.rows c.args.self.now.keys.numbers c.args.op c.args.begun) is c.requires.may
