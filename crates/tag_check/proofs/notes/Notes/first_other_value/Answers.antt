use Rattle.std.proofs.Common.{not, ap, ◌∙◌, arith}
use Rattle.tag_check.specs.Rules.{AnswersNoWrite}
use Rattle.tag_check.proofs.Calls.{first_here, none_more, none_all}
use Rattle.tag_check.proofs.Values.{first_right, first_stays, first_found, first_all}
use Rattle.tag_check.proofs.notes.Notes.first_other_value.Goals as goal
use Rattle.tag_check.proofs.notes.Notes.first_other_value.Goals.{in-Right, in-Other+then-is_none, in-Other+else-is_none}

pub returns-in-NoWrite : goal.returns-in-NoWrite
returns-in-NoWrite c =
    let s = c.args.self.now in
    let at = c.call-call.ensures in
    let answer = rw c.in-NoWrite.is at c.answer.ensures in
    first_here s.part.now s.sequence (AnswersNoWrite s.part.now) c.loop-i.i c.call-call.result at answer c.loop-i.invariant.written

pub loop-i-preserved : goal.loop-i-preserved
loop-i-preserved c =
    let s = c.args.self.now in
    let call = c.call-call.result in
    let at = c.call-call.ensures in
    let was = c.loop-i.invariant in
    elim c.match-answer.branch [
      | in-Right w ↦
          let answer = rw w.in-Right.is at c.answer.ensures in
          record {
            written = none_more s.part.now (AnswersNoWrite s.part.now) c.loop-i.i call at answer.1 was.written;
            first = rw w.other-is (first_right s.part.now c.loop-i.i call c.loop-i.other at answer.0 was.first);
          }
      | in-Other+then-is_none w ↦
          let answer = rw w.in-Other.is at c.answer.ensures in
          record {
            written = none_more s.part.now (AnswersNoWrite s.part.now) c.loop-i.i call at answer.1 was.written;
            first = rw w.other-is (first_found s.part.now s.sequence c.loop-i.i call w.in-Other.write c.loop-i.other at answer.0 (w.is_none.ensures ∙ ap not w.if-is_none.true) was.first);
          }
      | in-Other+else-is_none w ↦
          let answer = rw w.in-Other.is at c.answer.ensures in
          record {
            written = none_more s.part.now (AnswersNoWrite s.part.now) c.loop-i.i call at answer.1 was.written;
            first = rw w.other-is (first_stays s.part.now c.loop-i.i c.loop-i.other (w.is_none.ensures ∙ ap not w.if-is_none.false) was.first);
          }
    ]

pub returns : goal.returns
returns c =
    let s = c.args.self.now in (
      none_all s.part.now (AnswersNoWrite s.part.now) c.loop-i.i (omega (arith, c.loop-i-test.false, c.len-i-end.ensures.count)) c.loop-i.invariant.written,
      first_all s.part.now c.loop-i.i c.loop-i.other (omega (arith, c.loop-i-test.false, c.len-i-end.ensures.count)) c.loop-i.invariant.first,
    )
