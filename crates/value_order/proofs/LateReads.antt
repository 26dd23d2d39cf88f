-- Reads of nothing, and the first call that ended of those that show a value.
use Rattle.std.proofs.Common.{ℕ, ◌≡◌, ◌<◌, ◌≤◌, ◌+◌, ◌↔◌, inl, inr, Bool, true, false, true≢false, IsTrue, List, Option, Some, None, length, sym, ◌∙◌, ap, subst, refl, arith}
use Rattle.std.specs.List.{slice_get, Contains}
use Rattle.std.proofs.lemmas.Bool.{cases_lt, false≢true}
use Rattle.std.proofs.lemmas.Option.{same_Some, slice_get_within, none-some}
use Rattle.tag.specs.declared.numbers.OpId.{OpId}
use Rattle.tag.proofs.Lists.{place_of, Contains-slice_get}
use Rattle.tag_check.specs.Least.{IsLeastCall, HasPartner, HasNoPair}
use Rattle.tag_check.proofs.Calls.{NoneBelow, first_here}
use Rattle.recorder.specs.declared.part.Call.{Call}
use Rattle.recorder.specs.Parts.{IsSequence}
use Rattle.recorder.specs.States.{place_in}
use Rattle.value_order.specs.declared.sources.Source.{Source}
use Rattle.value_order.specs.declared.sources.Source.TheVariants as source
use Rattle.value_order.specs.Faults.{AnswersUnwritten, ShowsValue, IsLateNothing}
use Rattle.value_order.specs.Nothings.{ShowsAt, IsFirstShown, IsLeastLate}
use Rattle.value_order.specs.Sources.{IsSource, shows_value}
use Rattle.value_order.specs.Writers.{AnswersNothing}
use Rattle.value_order.proofs.CallKinds.{not_both, not_answered, nothing_no_value, one_place, call_at, has_place}

-- a source that shows a value, and one that shows none
pub shows_from : (part : List Call) (call : Call) (from : Source) → shows_value from ≡ true → IsSource part call from → ShowsValue call
shows_from part call source.Write e is = inl is
shows_from part call (source.Only k) e is = inr (is.is.writer.value, is.is.writer.answered)
shows_from part call (source.Doubt k m) e is = inr (is.first.value, is.first.answered)
shows_from part call (source.Early k) e is = inr (is.is.value, is.is.answered)
shows_from part call source.Unwritten e is = absurd (true≢false (sym e))
shows_from part call source.Nothing e is = absurd (true≢false (sym e))
shows_from part call source.Pending e is = absurd (true≢false (sym e))

pub shows_none : (part : List Call) (call : Call) (from : Source) → shows_value from ≡ false → IsSource part call from → (AnswersUnwritten part call → ⊥) → ShowsValue call → ⊥
shows_none part call source.Write e is written shows = true≢false e
shows_none part call (source.Only k) e is written shows = true≢false e
shows_none part call (source.Doubt k m) e is written shows = true≢false e
shows_none part call (source.Early k) e is written shows = true≢false e
shows_none part call source.Unwritten e is written shows = written is
shows_none part call source.Nothing e is written (inl write) = not_both call is.reads write
shows_none part call source.Nothing e is written (inr a) = nothing_no_value call a.0 is a.1
shows_none part call source.Pending e is written (inl write) = not_both call is.0 write
shows_none part call source.Pending e is written (inr a) = not_answered call a.1.response is.1 a.1.responds

-- the end that a state has
pub shown_at : (part : List Call) (i : ℕ) (call : Call) (state : Option ℕ) → slice_get part i ≡ Some call → ShowsValue call → state ≡ place_in call.response → (end : ℕ) → (state ≡ Some end) ↔ ShowsAt part i end
shown_at part i call state at shows of end = (
  λ e. (let r = has_place call state end of e in record { call = call; at = at; shows = shows; response = r.0; responds = r.1; ends = r.2 }),
  λ s. of ∙ (ap place_in (ap (λ (c : Call). c.response) (call_at part i i call s.call at s.at refl) ∙ s.responds) ∙ ap Some s.ends),
)

pub shown_not : (part : List Call) (i : ℕ) (call : Call) → slice_get part i ≡ Some call → (ShowsValue call → ⊥) → (end : ℕ) → (None ≡ Some end) ↔ ShowsAt part i end
shown_not part i call at not end = (
  λ e. absurd (none-some end e),
  λ s. absurd (not (subst ShowsValue (call_at part i i s.call call s.at at refl) s.shows)),
)

-- ---- the first of them

pub first_same : (part : List Call) (i : ℕ) (first : Option (ℕ × ℕ)) → ((end : ℕ) → ShowsAt part i end → (k other : ℕ) → first ≡ Some (k, other) → other ≤ end) → (first ≡ None → (end : ℕ) → ShowsAt part i end → ⊥) → IsFirstShown part i first → IsFirstShown part (i + 1) first
first_same part i None late none was = λ j end less s. elim (cases_lt j i) [
  | inl h ↦ was j end h s
  | inr h ↦ (let here : j ≡ i = omega arith in none refl end (subst (λ (x : ℕ). ShowsAt part x end) here s))
]
first_same part i (Some f) late none was = (
  was.0,
  λ j end less s. elim (cases_lt j i) [
    | inl h ↦ was.1 j end h s
    | inr h ↦ (let here : j ≡ i = omega arith in late end (subst (λ (x : ℕ). ShowsAt part x end) here s) f.0 f.1 refl)
  ],
)

-- a call has one end
one_shown : (part : List Call) (i e f : ℕ) → ShowsAt part i e → ShowsAt part i f → e ≡ f
one_shown part i e f a b =
    let same = call_at part i i a.call b.call a.at b.at refl in
    let place = one_place b.call a.response b.response (ap (λ (c : Call). c.response) (sym same) ∙ a.responds) b.responds in
    omega (arith, a.ends, b.ends)

pub first_new : (part : List Call) (i end : ℕ) (first : Option (ℕ × ℕ)) → ShowsAt part i end → ((k other : ℕ) → first ≡ Some (k, other) → end < other) → IsFirstShown part i first → IsFirstShown part (i + 1) (Some (i, end))
first_new part i end None s sooner was = (
  s,
  λ j other less t. elim (cases_lt j i) [
    | inl h ↦ absurd (was j other h t)
    | inr h ↦ (let here : j ≡ i = omega arith in let same = one_shown part i other end (subst (λ (x : ℕ). ShowsAt part x other) here t) s in omega arith)
  ],
)
first_new part i end (Some f) s sooner was = (
  s,
  λ j other less t. elim (cases_lt j i) [
    | inl h ↦ (let low = was.1 j other h t in let high = sooner f.0 f.1 refl in omega arith)
    | inr h ↦ (let here : j ≡ i = omega arith in let same = one_shown part i other end (subst (λ (x : ℕ). ShowsAt part x other) here t) s in omega arith)
  ],
)

-- an end that isn't sooner changes nothing
pub first_kept : (part : List Call) (i end : ℕ) (first : Option (ℕ × ℕ)) (test : Bool) → ShowsAt part i end → (IsTrue test ↔ ((k other : ℕ) → first ≡ Some (k, other) → end < other)) → test ≡ false → IsFirstShown part i first → IsFirstShown part (i + 1) first
first_kept part i end first test s said not was = first_same part i first
    (λ e t k other is. (let same = one_shown part i e end t s in elim (cases_lt end other) [
      | inl h ↦ absurd (false≢true (sym not ∙ said.1 (λ k2 o2 is2. (let pair : (k, other) ≡ (k2, o2) = same_Some (k, other) (k2, o2) (sym is ∙ is2) in let eq : other ≡ o2 = ap (λ (q : ℕ × ℕ). q.1) pair in omega arith))))
      | inr h ↦ omega arith
    ]))
    (λ none e t. false≢true (sym not ∙ said.1 (λ k other is. absurd (none-some (k, other) (sym none ∙ is))))) was

-- ---- late reads

-- the call that a late read has before it
shown_before : (part : List Call) (earlier later : Call) → Contains part earlier → (h : IsLateNothing earlier later) → (k : ℕ) × (k < length part) × ShowsAt part k h.precedes.0.place
shown_before part earlier later there h =
    let k = place_of part earlier there in
    (k.0, slice_get_within part k.0 earlier k.1, record { call = earlier; at = k.1; shows = h.shows; response = h.precedes.0; responds = h.precedes.1; ends = refl })

pub late_nothing : (part : List Call) (call : Call) → HasPartner part IsLateNothing call → AnswersNothing call
late_nothing part call h = h.2.nothing

pub none_late : (part : List Call) → IsFirstShown part (length part) None → HasNoPair part IsLateNothing
none_late part none call there h = (let k = shown_before part h.0 call h.1 h.2 in none k.0 h.2.precedes.0.place k.1 k.2)

module _ (part : List Call) (shown end : ℕ) (first : IsFirstShown part (length part) (Some (shown, end))) where
  pub not_late : (call : Call) → (end < call.invoked → ⊥) → HasPartner part IsLateNothing call → ⊥
  not_late call not h =
      let k = shown_before part h.0 call h.1 h.2 in
      let low = first.1 k.0 h.2.precedes.0.place k.1 k.2 in
      not (omega (arith, h.2.precedes.2))

  pub late_here : IsSequence part → (i : ℕ) (call : Call) (read op : OpId) → slice_get part i ≡ Some call → AnswersNothing call → end < call.invoked → NoneBelow part (HasPartner part IsLateNothing) i → read ≡ call.op → (other : Call) × (slice_get part shown ≡ Some other) × (op ≡ other.op) → IsLeastLate part read op
  late_here sequence i call read op at nothing less none is_read is_op =
      let s = first.0 in
      let own = call_at part shown shown s.call is_op.0 s.at is_op.1 refl in
      let there = Contains-slice_get part shown s.call s.at in
      let late : IsLateNothing s.call call = record { shows = s.shows; nothing = nothing; precedes = (s.response, s.responds, omega (arith, s.ends)) } in
      record {
        least = subst (λ (o : OpId). IsLeastCall part (HasPartner part IsLateNothing) o) (sym is_read) (first_here part sequence (HasPartner part IsLateNothing) i call at (s.call, there, late) none);
        later = call;
        later_recorded = Contains-slice_get part i call at;
        later_number = sym is_read;
        earlier = s.call;
        earlier_recorded = there;
        earlier_number = ap (λ (c : Call). c.op) own ∙ sym is_op.2;
        late = late;
        first = λ other response in_part shows responds.
            let k = place_of part other in_part in
            let low = first.1 k.0 response.place (slice_get_within part k.0 other k.1) (record { call = other; at = k.1; shows = shows; response = response; responds = responds; ends = refl }) in
            omega (arith, s.ends);
      }
