use Rattle.std.proofs.Common.{sym, ◌∙◌, arith}
use Rattle.std.proofs.lemmas.Bool.{false≢true}
use Rattle.tag_check.specs.Rules.{IsNotAbove}
use Rattle.tag_check.proofs.Calls.{first_here, none_more, none_all}
use Rattle.tag_check.proofs.notes.Notes.first_above.Goals as goal

pub returns-then-is_not_above : goal.returns-then-is_not_above
returns-then-is_not_above c =
    let s = c.args.self.now in
    first_here s.part.now s.sequence (λ earlier. IsNotAbove earlier c.args.later.now) c.loop-i.i c.call-call.result c.call-call.ensures (c.is_not_above.ensures.0 c.if-is_not_above.true) c.loop-i.invariant

pub loop-i-preserved : goal.loop-i-preserved
loop-i-preserved c =
    let s = c.args.self.now in
    none_more s.part.now (λ earlier. IsNotAbove earlier c.args.later.now) c.loop-i.i c.call-call.result c.call-call.ensures (λ h. false≢true (sym c.if-is_not_above.false ∙ c.is_not_above.ensures.1 h)) c.loop-i.invariant

pub returns : goal.returns
returns c = none_all c.args.self.now.part.now (λ earlier. IsNotAbove earlier c.args.later.now) c.loop-i.i (omega (arith, c.loop-i-test.false, c.len-i-end.ensures.count)) c.loop-i.invariant
