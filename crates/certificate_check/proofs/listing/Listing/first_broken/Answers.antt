use Rattle.std.proofs.Common.{arith, ◌≡◌, ap, ◌∙◌, sym, max}
use Rattle.recorder.specs.declared.part.Response.{Response}
use Rattle.recorder.specs.States.{place_in}
use Rattle.certificate_check.proofs.Stands.{broken_more, broken_here, most_more, reached_more, place_within, response_at}
use Rattle.certificate_check.proofs.listing.Listing.first_broken.Goals as goal
use Rattle.certificate_check.proofs.listing.Listing.first_broken.Goals.{in-Some+else-place-latest, in_default}

pub returns : goal.returns
returns c = λ n p. c.loop-j.invariant.kept n (omega (arith, place_within _ _ n p.1.1 p.1.4)) p

pub unreachable-requires : goal.unreachable-requires
unreachable-requires c =
    let r = c.loop-j.invariant.reached c.in-Some.place c.if-place-latest.true in
    c.in-None.ensures r.0 (r.1, r.3, r.4)

pub returns-in-Some-first_invoked_after : goal.returns-in-Some-first_invoked_after
returns-in-Some-first_invoked_after c =
    let s = c.args.self.now in
    let here = c.state_at-state.ensures in
    let r = response_at here.0.response c.in-Some.place (sym here.2.response ∙ c.in-Some.is) in
    broken_here s.part.now s.order.now s.sequence _ here.0 r.0 c.loop-j.latest here.1 r.1 (omega (arith, c.if-place-latest.true, r.2)) c.loop-j.invariant.reached c.loop-j.invariant.kept _ (rw r.2 c.in-Some-first_invoked_after.ensures)

pub loop-j-preserved : goal.loop-j-preserved
loop-j-preserved c =
    let s = c.args.self.now in
    let here = c.state_at-state.ensures in
    record {
      kept = broken_more s.part.now s.order.now s.sequence _ here.0 c.loop-j.latest here.1 c.loop-j.invariant.most
          (λ response is. elim c.match-state.branch [ in-Some+else-place-latest w ↦ (let r = response_at here.0.response w.in-Some.place (sym here.2.response ∙ w.in-Some.is) in let same : response ≡ r.0 = cc (is, r.1) in let places : response.place ≡ r.0.place = ap (λ (x : Response). x.place) same in omega (arith, w.if-place-latest.false, r.2)) | in_default w ↦ absurd (w.in_default.not-Some response.place (here.2.response ∙ ap place_in is)) ]) c.loop-j.invariant.kept;
      most = most_more s.part.now s.order.now s.sequence _ here.0 c.loop-j.latest _ (c.max-latest.ensures ∙ ap (max c.loop-j.latest) here.2.invoked) here.1 c.loop-j.invariant.most;
      reached = reached_more s.part.now s.order.now _ here.0 c.loop-j.latest _ (c.max-latest.ensures ∙ ap (max c.loop-j.latest) here.2.invoked) here.1 c.loop-j.invariant.reached;
    }
