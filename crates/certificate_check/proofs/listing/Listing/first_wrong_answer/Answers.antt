use Rattle.std.proofs.Common.{arith, rules, ◌≡◌, ap, ◌∙◌}
use Rattle.recorder.specs.declared.part.Response.{Response}
use Rattle.certificate_check.proofs.Stands.{legal_more, wrong_here, last_written, last_kept, place_within}
use Rattle.certificate_check.proofs.listing.Listing.first_wrong_answer.Goals as goal
use Rattle.certificate_check.proofs.listing.Listing.first_wrong_answer.Goals.{in-Some, in-None+in-Some-response+else-not-answers, in-None+in_default}

pub returns : goal.returns
returns c = λ n call response stands. c.loop-i.invariant.right n (omega (arith, place_within _ _ n call stands)) call response stands

pub returns-then-not-answers : goal.returns-then-not-answers
returns-then-not-answers c =
    let s = c.args.self.now in
    (wrong_here s.part.now s.order.now s.sequence _ c.call_at-call.result c.in-Some-response.response c.loop-i.current c.call_at-call.ensures c.in-None.ensures.read c.in-Some-response.is c.loop-i.invariant.last (search rules), λ m less found. found.5 (c.loop-i.invariant.right m less found.0 found.1 found.2 found.3 found.4))

pub loop-i-preserved : goal.loop-i-preserved
loop-i-preserved c =
    let s = c.args.self.now in
    let call = c.call_at-call.result in
    let stands = c.call_at-call.ensures in
    record {
      right = legal_more s.part.now s.order.now s.sequence _ call c.loop-i.current stands c.loop-i.invariant.last (λ response read answered.
          elim c.match-written.branch [ in-Some w ↦ cc (w.in-Some.ensures.write, read) | in-None+in-Some-response+else-not-answers w ↦ (let same : response ≡ w.in-Some-response.response = cc (answered, w.in-Some-response.is) in ap (λ (x : Response). x.returned) same ∙ w.answers.ensures.0 (search rules)) | in-None+in_default w ↦ absurd (w.in_default.not-Some response answered) ]) c.loop-i.invariant.right;
      last = elim c.match-written.branch [ in-Some w ↦ rw w.current-is (last_written s.part.now s.order.now _ call w.in-Some.value stands w.in-Some.ensures.write) | in-None+in-Some-response+else-not-answers w ↦ rw w.current-is (last_kept s.part.now s.order.now s.sequence _ call c.loop-i.current stands w.in-None.ensures.read c.loop-i.invariant.last) | in-None+in_default w ↦ rw w.current-is (last_kept s.part.now s.order.now s.sequence _ call c.loop-i.current stands w.in-None.ensures.read c.loop-i.invariant.last) ];
    }
