use Rattle.std.proofs.Common.{arith}
use Rattle.std.proofs.lemmas.Option.{slice_get_within}
use Rattle.tag_check.specs.Least.{HasPartner}
use Rattle.tag_check.specs.Rules.{ShareTag}
use Rattle.tag_check.proofs.Calls.{none_more, none_all}
use Rattle.tag_check.proofs.ByTag.{shared_here, none_shared_here, own_of_none}
use Rattle.tag_check.proofs.notes.Notes.first_shared.Goals as goal

pub call-requires : goal.call-requires
call-requires c =
    let has = c.in-Some.ensures.3.0 in
    slice_get_within c.args.self.now.part.now c.in-Some.k has.0 has.1

pub returns-in-Some : goal.returns-in-Some
returns-in-Some c =
    let s = c.args.self.now in
    let calls = s.part.now in
    let k = c.in-Some.k in
    let call = c.call-call.result in
    let at = c.call-call.ensures in
    let has = c.in-Some.ensures in
    shared_here calls s.sequence c.loop-i.i k call c.call.result at c.call.ensures has c.loop-i.invariant

pub loop-i-preserved : goal.loop-i-preserved
loop-i-preserved c =
    let s = c.args.self.now in
    let call = c.call-call.result in
    let at = c.call-call.ensures in
    none_more s.part.now (HasPartner s.part.now ShareTag) c.loop-i.i call at (none_shared_here s.part.now s.sequence c.loop-i.i call at c.in_default.ensures) c.loop-i.invariant

pub returns : goal.returns
returns c =
    let s = c.args.self.now in
    own_of_none s.part.now s.sequence (none_all s.part.now (HasPartner s.part.now ShareTag) c.loop-i.i (omega (arith, c.loop-i-test.false, c.len-i-end.ensures.count)) c.loop-i.invariant)
