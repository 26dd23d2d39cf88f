use Rattle.std.proofs.Common.{ℕ, ◌≡◌, length, sym, ◌∙◌, subst, arith}
use Rattle.std.proofs.lemmas.Bool.{false≢true}
use Rattle.tag_check.specs.Rules.{LacksNote, IsLeastWrite}
use Rattle.tag_check.specs.Writes.{AreNoted}
use Rattle.tag_check.proofs.Calls.{first_here, none_more, none_all}
use Rattle.tag_check.proofs.notes.Notes.noted_writes.Goals as goal

pub returns-then-lacks_note : goal.returns-then-lacks_note
returns-then-lacks_note c =
    let s = c.args.self.now in
    let call = c.call-call.result in
    let at = c.call-call.ensures in
    (tt, first_here s.part.now s.sequence LacksNote c.loop-i.i call at (c.lacks_note.ensures.0 c.if-lacks_note.true) c.loop-i.invariant.complete)

pub loop-i-preserved : goal.loop-i-preserved
loop-i-preserved c =
    let s = c.args.self.now in
    let call = c.call-call.result in
    let at = c.call-call.ensures in
    record {
      complete = none_more s.part.now LacksNote c.loop-i.i call at (λ h. false≢true (sym c.if-lacks_note.false ∙ c.lacks_note.ensures.1 h)) c.loop-i.invariant.complete;
      least = c.first_least_write-least.ensures;
      noted = c.in_ok-add_write.ensures s.part.now at c.loop-i.invariant.noted;
    }

pub returns-in-Some : goal.returns-in-Some
returns-in-Some c =
    let s = c.args.self.now in
    let complete = none_all s.part.now LacksNote c.loop-i.i (omega (arith, c.loop-i-test.false, c.len-i-end.ensures.count)) c.loop-i.invariant.complete in
    let first = rw c.in-Some.is at c.loop-i.invariant.least in
    (complete, first)

pub returns-in-None : goal.returns-in-None
returns-in-None c =
    let s = c.args.self.now in
    let complete = none_all s.part.now LacksNote c.loop-i.i (omega (arith, c.loop-i-test.false, c.len-i-end.ensures.count)) c.loop-i.invariant.complete in
    let none = rw c.in-None.is at c.loop-i.invariant.least in
    let all : c.loop-i.i ≡ length s.part.now = omega (arith, c.loop-i-test.false, c.loop-i.auto.i-end, c.len-i-end.ensures.count) in (
      complete,
      none_all s.part.now IsLeastWrite c.loop-i.i (omega (arith, c.loop-i-test.false, c.len-i-end.ensures.count)) none,
      subst (λ (n : ℕ). AreNoted s.part.now n c.loop-i.noted.items) all c.loop-i.invariant.noted,
    )
