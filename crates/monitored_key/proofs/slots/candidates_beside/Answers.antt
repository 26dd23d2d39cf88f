use Rattle.std.proofs.Common.{ℕ, ◌≡◌, Some, sym, subst, ◌∙◌}
use Rattle.std.proofs.lemmas.Bool.{MatchBool-at_false, MatchBool-at_true, false≢true}
use Rattle.std.specs.Cmp.Lexicographic.{bytes_decides}
use Rattle.kept_zones.specs.Overwriting.{IsOverwritten}
use Rattle.key_monitor.specs.KeptWrites.{IsFreshBy}
use Rattle.monitored_key.proofs.BesideSlot.{slot_added, slot_over}
use Rattle.monitored_key.proofs.slots.candidates_beside.Goals as goal

pub returns-in-Some : goal.returns-in-Some
returns-in-Some c = λ es free h.
    let zones = c.args.zones.now in
    let begin = c.args.begin in
    let fresh = MatchBool-at_true (IsFreshBy zones begin c.end.result)
    ((e : ℕ) × (c.end.result ≡ Some e) × IsOverwritten zones.zones begin e) c.if-is_fresh.true c.is_fresh.ensures in
    slot_added zones begin c.args.text.now c.args.slot.now c.in-Some.number c.in-Some.write c.in-Some.is es free
    (sym c.text.ensures ∙ (bytes_decides c.text.result.now c.args.text.now).0 (sym c.eq.ensures ∙ c.if-eq.true))
    (subst (IsFreshBy zones begin) c.end.ensures fresh) c.args.rest c.with_candidate.result c.with_candidate.ensures h

pub returns-in_default : goal.returns-in_default
returns-in_default c = λ es free h.
    let zones = c.args.zones.now in
    let begin = c.args.begin in
    let over = MatchBool-at_false (IsFreshBy zones begin c.end.result)
    ((e : ℕ) × (c.end.result ≡ Some e) × IsOverwritten zones.zones begin e) c.if-is_fresh.false c.is_fresh.ensures in
    slot_over zones begin c.args.text.now c.args.slot.now c.in-Some.number c.in-Some.write c.in-Some.is es free
    (λ same. (over.0, sym c.end.ensures ∙ over.1, over.2)) c.args.rest h

pub returns-in_default-2 : goal.returns-in_default-2
returns-in_default-2 c = λ es free h.
    slot_over c.args.zones.now c.args.begin c.args.text.now c.args.slot.now c.in-Some.number c.in-Some.write c.in-Some.is es free
    (λ same. absurd (false≢true (sym c.if-eq.false
    ∙ (c.eq.ensures ∙ (bytes_decides c.text.result.now c.args.text.now).1 (c.text.ensures ∙ same))))) c.args.rest h
