use Rattle.tag_check.specs.Rules.{ShareTag, IsNotAbove}
use Rattle.reasons.proofs.Rules.{pair_breaks}
use Rattle.reasons.proofs.tag_reasons.tag_reason.Goals as goal

pub returns-in-SameTag : goal.returns-in-SameTag
returns-in-SameTag c =
    let breaks = pair_breaks c.args.part.now c.len-sequence.ensures.sequence ShareTag c.in-SameTag.earlier c.in-SameTag.later c.call_of-in-SameTag.result
    c.call_of-in-SameTag-2.result (rw c.in-SameTag.is at c.requires) c.call_of-in-SameTag.ensures c.call_of-in-SameTag-2.ensures in
    (cc (c.call_of-in-SameTag.ensures.1, c.call_of-in-SameTag-2.ensures.1, c.in-SameTag.is), breaks)

pub returns-in-NotAbove : goal.returns-in-NotAbove
returns-in-NotAbove c =
    let breaks = pair_breaks c.args.part.now c.len-sequence.ensures.sequence IsNotAbove c.in-NotAbove.earlier c.in-NotAbove.later c.call_of-in-NotAbove.result
    c.call_of-in-NotAbove-2.result (rw c.in-NotAbove.is at c.requires) c.call_of-in-NotAbove.ensures c.call_of-in-NotAbove-2.ensures in
    (cc (c.call_of-in-NotAbove.ensures.1, c.call_of-in-NotAbove-2.ensures.1, c.in-NotAbove.is), breaks)
