use Rattle.std.proofs.Common.{ℕ, ◌≡◌, ◌<◌, ◌≤◌, Some, length, subst, sym, ap, ◌∙◌, arith}
use Rattle.std.proofs.lemmas.Option.{same_Some, slice_get_within, slice_get-get_or}
use Rattle.recorder.specs.declared.part.Response.{Response}
use Rattle.recorder.specs.States.{place_in}
use Rattle.tag_check.specs.Greatest.{AreAnsweredTags, IsBegunBy}
use Rattle.tag_check.proofs.Answered.{answered_same, answered_more, response_at}
use Rattle.tag_check.proofs.notes.Notes.answered_tags.Goals as goal
use Rattle.tag_check.proofs.notes.Notes.answered_tags.Goals.{in-Some+then-next-len, in-Some+else-next-len, in_default}

pub loop-i-preserved : goal.loop-i-preserved
loop-i-preserved c =
    let calls = c.args.self.now.part.now in
    let tags = c.loop-i.tags.items in
    let of = c.state-state.ensures in
    let call = of.0 in
    let at = of.1 in
    elim c.match-state.branch [
      | in-Some+then-next-len w ↦
          let next = w.begun_by-next.result in
          let r = response_at call.response w.in-Some.place (sym of.2.response ∙ w.in-Some.is) in
          let begun = subst (λ (place : ℕ). IsBegunBy calls place next) (sym r.2) w.begun_by-next.ensures.begun in
          let within : next < length tags = omega (arith, w.if-next-len.true, w.len-in-Some.ensures, c.loop-i.tags.ok.0) in
          rw w.tags-is (answered_more calls c.loop-i.i next call r.0 tags w.index.result.now w.greater.result at r.1 begun within (slice_get-get_or tags next w.index.result.now within ∙ ap Some (sym w.index.ensures)) (rw (← of.2.note) w.greater.ensures) c.loop-i.invariant)
      | in-Some+else-next-len w ↦
          rw w.tags-is (answered_same calls c.loop-i.i call tags at (λ response j b responds at_j before.
          let r = response_at call.response w.in-Some.place (sym of.2.response ∙ w.in-Some.is) in
          let same = same_Some response r.0 (sym responds ∙ r.1) in
          let place : response.place ≡ w.in-Some.place = ap (λ (x : Response). x.place) same ∙ r.2 in
          let low : j < w.begun_by-next.result = omega (arith, slice_get_within calls j b at_j, c.loop-i.invariant.all, w.if-next-len.false, w.len-in-Some.ensures, c.loop-i.tags.ok.0) in
          let le : b.invoked ≤ w.in-Some.place = (w.begun_by-next.ensures.begun j b at_j).0 low in
          omega arith) c.loop-i.invariant)
      | in_default w ↦ rw w.tags-is (answered_same calls c.loop-i.i call tags at (λ response j b responds at_j before. w.in_default.not-Some response.place (of.2.response ∙ ap place_in responds)) c.loop-i.invariant)
    ]

pub returns : goal.returns
returns c =
    let all : c.loop-i.i ≡ length c.args.self.now.part.now = omega (arith, c.loop-i-test.false, c.loop-i.auto.i-end, c.len-i-end.ensures.count) in
    subst (λ (n : ℕ). AreAnsweredTags c.args.self.now.part.now n c.loop-i.tags.items) all c.loop-i.invariant
