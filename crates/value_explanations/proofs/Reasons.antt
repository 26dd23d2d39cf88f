-- What each fault says of the calls that are found for it, and that a reason refutes every order.
use Rattle.std.proofs.Common.{ℕ, ◌≡◌, ◌≢◌, inl, inr, List, refl, sym, ◌∙◌, ap, subst, arith}
use Rattle.std.specs.List.{Contains}
use Rattle.std.proofs.lemmas.Bool.{cases_lt}
use Rattle.tag.specs.declared.numbers.OpId.{OpId}
use Rattle.recorder.specs.declared.part.Call.{Call}
use Rattle.recorder.specs.Orders.{IsLinearizable}
use Rattle.recorder.specs.Parts.{IsSequence, Precedes}
use Rattle.recorder.proofs.Sequences.{same_call}
use Rattle.tag_check.specs.Least.{IsLeastPair}
use Rattle.reasons.specs.Calls.{IsCallOf}
use Rattle.reasons.proofs.Rules.{least_found, pair_breaks}
use Rattle.value_order.specs.declared.decision.Doubt.{Doubt}
use Rattle.value_order.specs.declared.decision.Side.{Side}
use Rattle.value_order.specs.declared.decision.ValueFault.TheVariants as fault
use Rattle.value_order.specs.Families.{IsOfFamily, MustPrecedeBy}
use Rattle.value_order.specs.Faults.{EndsTooEarly, IsBetween, IsLateNothing}
use Rattle.value_order.specs.Nothings.{IsLeastLate}
use Rattle.value_order.specs.Rows.{IsFirstEnded, IsLastBegun, IsSideOf, IsFirstOpposed}
use Rattle.value_order.specs.Stales.{IsLeastOverwritten}
use Rattle.value_order.specs.Writers.{IsWriter, IsOnlyWriter}
use Rattle.value_order.proofs.CallKinds.{one_place}
use Rattle.value_order.proofs.Refutations.{unwritten_refutes, early_refutes, late_refutes, opposed_refutes, stale_refutes}
use Rattle.value_explanations.specs.ValueReasons.{side_of, ArePartCalls, IsEarly, IsSide, OpposeEachOther, IsOverwritten, ShowsFault}
use Rattle.value_explanations.specs.declared.value_reasons.SideCalls.{SideCalls}
use Rattle.value_explanations.specs.declared.value_reasons.ValueReason.{ValueReason}
use Rattle.value_explanations.specs.declared.value_reasons.ValueReason.TheVariants as reason

module _ (part : List Call) (sequence : IsSequence part) where
  -- the call that was found is the one that is spoken of
  one_call : (a b : Call) (op : OpId) → Contains part a → a.op ≡ op → Contains part b → b.op ≡ op → a ≡ b
  one_call a b op in_a of_a in_b of_b = same_call part sequence a b in_a in_b (ap (λ (o : OpId). o.0) (of_a ∙ sym of_b))

  -- a read that was answered before any write of its value began, and the first of those
  pub early_found : (read write : OpId) (r w : Call) → IsLeastPair part (EndsTooEarly part) write read → IsCallOf part read r
      → IsCallOf part write w → IsEarly part r w
  early_found read write r w is found_r found_w =
      let pair = pair_breaks part sequence (EndsTooEarly part) write read w r is found_w found_r in
      let e = pair.2 in
      let p = is.partner.has in
      let same : is.partner.call ≡ w = one_call is.partner.call w write is.partner.recorded is.partner.number found_w.0 found_w.1 in
      record {
        read_recorded = found_r.0;
        write_recorded = found_w.0;
        early = e;
        before = (
          e.answered.response,
          e.answered.responds,
          elim (cases_lt e.answered.response.place w.invoked) [
            | inl h ↦ h
            | inr h ↦ absurd (e.early w (record {
              recorded = found_w.0;
              value = e.value;
              writes = e.writes;
              answered = e.answered;
              began = omega arith;
            }))
          ],
        );
        first = λ other there action.
            let least = is.partner.least other there (record {
              value = p.value;
              writes = action ∙ (ap (λ (x : Call). x.action) (sym same) ∙ p.writes);
              answered = p.answered;
              early = p.early;
            }) in
            let number : w.op.0 ≡ write.0 = ap (λ (o : OpId). o.0) found_w.1 in
            omega (arith, least, number);
      }

  -- a read of nothing that began after a call ended that shows a value
  pub late_found : (read call : OpId) (r e : Call) → IsLeastLate part read call → IsCallOf part read r → IsCallOf part call e
      → IsLateNothing e r
  late_found read call r e is found_r found_e =
      let later : is.later ≡ r = one_call is.later r read is.later_recorded is.later_number found_r.0 found_r.1 in
      let earlier : is.earlier ≡ e = one_call is.earlier e call is.earlier_recorded is.earlier_number found_e.0 found_e.1 in
      subst (IsLateNothing e) later (subst (λ (x : Call). IsLateNothing x is.later) earlier is.late)

  -- ---- two families

  -- the calls of a side that were found are those that are spoken of
  record AreSame (row : ℕ) (x : Call) (side : Side) (is : IsSideOf part row x side) (calls : SideCalls) : Type 0 where
    write : x ≡ calls.write
    first : is.first ≡ calls.first_ended
    last : is.last ≡ calls.last_begun

  same_side : (row : ℕ) (x : Call) (side : Side) (is : IsSideOf part row x side) (calls : SideCalls) → side_of calls ≡ side
      → ArePartCalls part calls → AreSame row x side is calls
  same_side row x side is calls numbers there =
      let ended = is.first_ended.of.recorded in
      let begun = is.last_begun.member.of.recorded in
      let first = ap (λ (s : Side). s.first_ended) numbers in
      let last = ap (λ (s : Side). s.last_begun) numbers in
      record {
        write = one_call x calls.write side.write is.recorded is.number there.write (ap (λ (s : Side). s.write) numbers);
        first = one_call is.first calls.first_ended side.first_ended ended is.first_number there.first first;
        last = one_call is.last calls.last_begun side.last_begun begun is.last_number there.last last;
      }

  -- so they are of the family
  is_side : (row : ℕ) (x : Call) (side : Side) (is : IsSideOf part row x side) (calls : SideCalls) → AreSame row x side is calls
      → ArePartCalls part calls → IsSide part calls
  is_side row x side is calls same there =
      let of = IsOfFamily part (IsOnlyWriter part) in
      record {
        write = there.write;
        first = subst (λ (w : Call). of w calls.first_ended) same.write (subst (of x) same.first is.first_ended.of);
        last = subst (λ (w : Call). of w calls.last_begun) same.write (subst (of x) same.last is.last_begun.member.of);
      }

  -- the call of the one family that ended first precedes the call of the other that began last
  leads : (row : ℕ) (x y first last : Call) → MustPrecedeBy part (IsOnlyWriter part) row x y → IsFirstEnded part row x first
      → IsLastBegun part row y last → Precedes first last
  leads row x y first last must f l =
      let low = f.first must.first must.of_x must.ended in
      let high = l.last must.second must.of_y in
      let place = one_place must.first must.ended.response must.precedes.0 must.ended.responds must.precedes.1 in
      (f.ended.response, f.ended.responds, omega (arith, low, high, place, must.precedes.2))

  -- the two that are opposed first
  pub opposed_found : (a b : Side) (one other : SideCalls) → IsFirstOpposed part a b → side_of one ≡ a → ArePartCalls part one
      → side_of other ≡ b → ArePartCalls part other → OpposeEachOther part one other
  opposed_found a b one other is of_a in_a of_b in_b =
      let p = same_side is.row is.x a is.side_x one of_a in_a in
      let q = same_side is.row is.y b is.side_y other of_b in_b in
      let o = is.pair.opposed in
      let there = leads is.row is.x is.y is.side_x.first is.side_y.last o.there is.side_x.first_ended is.side_y.last_begun in
      let back = leads is.row is.y is.x is.side_y.first is.side_x.last o.back is.side_y.first_ended is.side_x.last_begun in
      record {
        first = is_side is.row is.x a is.side_x one p in_a;
        second = is_side is.row is.y b is.side_y other q in_b;
        apart = λ same. o.apart (p.write ∙ (same ∙ sym q.write));
        there = subst (Precedes one.first_ended) q.last (subst (λ (c : Call). Precedes c is.side_y.last) p.first there);
        back = subst (Precedes other.first_ended) p.last (subst (λ (c : Call). Precedes c is.side_x.last) q.first back);
      }

  -- ---- a read that was overwritten

  -- each of its writers precedes that call
  pub overwritten_found : (doubt : Doubt) (op : OpId) (read first second between : Call) → IsLeastOverwritten part doubt op
      → IsCallOf part doubt.read read → IsCallOf part doubt.first first → IsCallOf part doubt.second second → IsCallOf part op between
      → IsOverwritten part read first second between
  overwritten_found doubt op read first second between is found_r found_f found_s found_b =
      let x = is.least.read in
      let d = is.least.is in
      let same : x ≡ read = one_call x read doubt.read d.recorded d.number found_r.0 found_r.1 in
      let call : is.call ≡ between = one_call is.call between op is.recorded is.number found_b.0 found_b.1 in
      let one = least_found part sequence (λ (w : Call). IsWriter part w x) doubt.first first d.first found_f in
      let other = least_found part sequence (λ (w : Call). IsWriter part w x × (w.op ≢ doubt.first)) doubt.second second d.second found_s in
      let it : IsOverwritten part x first second between = record {
        read_recorded = d.recorded;
        one = one;
        other = other.0;
        apart = λ e. other.1 (ap (λ (c : Call). c.op) (sym e) ∙ found_f.1);
        between_recorded = found_b.0;
        each = λ write has. subst (λ (b : Call). IsBetween part write b x) call (is.each write has);
      } in
      subst (λ (c : Call). IsOverwritten part c first second between) same it

  -- the fault of four calls
  pub overwritten_fault : (doubt : Doubt) (op r f s b : OpId) → r ≡ doubt.read → f ≡ doubt.first → s ≡ doubt.second → b ≡ op
      → fault.Overwritten (record { read = r; first = f; second = s }) b ≡ fault.Overwritten doubt op
  overwritten_fault doubt op r f s b of_r of_f of_s of_b = rw (of_r, of_f, of_s, of_b) refl

  -- ---- a reason refutes

  -- what a reason shows is in no order
  pub refutes : (reason : ValueReason) → ShowsFault part reason → IsLinearizable part → ⊥
  refutes (reason.NoWrite read) shows = unwritten_refutes part read shows.0 shows.1
  refutes (reason.Early read write) shows = early_refutes part write read shows.read_recorded shows.early
  refutes (reason.LateNothing read earlier) shows = late_refutes part earlier read sequence shows.1 shows.0 shows.2
  refutes (reason.Opposed one other) shows = opposed_refutes part one.write other.write sequence (record {
    apart = shows.apart;
    there = record {
      first = one.first_ended;
      second = other.last_begun;
      of_x = shows.first.first;
      of_y = shows.second.last;
      precedes = shows.there;
    };
    back = record {
      first = other.first_ended;
      second = one.last_begun;
      of_x = shows.second.first;
      of_y = shows.first.last;
      precedes = shows.back;
    };
  })
  refutes (reason.Overwritten read first second between) shows = stale_refutes part read sequence shows.read_recorded (inl (record {
    writer = first;
    has = shows.one;
    overwritten = λ write has. (between, shows.each write has);
  }))
