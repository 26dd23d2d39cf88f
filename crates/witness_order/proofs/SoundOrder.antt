-- Where the tags are sound, the tag order of a part is an order of it.
use Rattle.std.proofs.Common.{ℕ, ◌≡◌, ◌≢◌, ◌<◌, ◌+◌, ◌⊎◌, inl, inr, List, Some, None, length, subst, refl, sym, ◌∙◌, arith}
use Rattle.std.specs.List.{slice_get}
use Rattle.std.proofs.lemmas.Bool.{cases_lt}
use Rattle.std.proofs.lemmas.Option.{slice_get_within}
use Rattle.tag.specs.declared.actions.Action.TheVariants.{Read}
use Rattle.tag.specs.declared.numbers.OpId.{OpId}
use Rattle.tag.specs.Tags.{Tag, IsBelow, least}
use Rattle.recorder.specs.declared.part.Call.{Call}
use Rattle.recorder.specs.Parts.{IsSequence, IsPending, Precedes}
use Rattle.recorder.specs.Orders.{StandsAt, NoWriteFrom, IsLegal, IsOrder}
use Rattle.recorder.specs.Sound.{IsRead, IsWrite, IsNoted, TagSound, IsSettled, ComesBefore, IsByTag}
use Rattle.recorder.proofs.Sequences.{same_at}
use Rattle.witness_order.proofs.Tags.{not_below, not_both, least_or_not}
use Rattle.witness_order.proofs.OneList.{read_or_write, not_both_before}

-- a call doesn't come before itself
not_before_itself : (a : Call) (s t : Tag) → s ≡ t → ComesBefore a s a t → ⊥
not_before_itself a s t e h = let h : ComesBefore a t a t = subst (λ (x : Tag). ComesBefore a x a t) e h in not_both_before a a t t h h

-- tags don't fall along the tag order
at_most : (a b : Call) (s t : Tag) → ComesBefore a s b t → IsBelow s t ⊎ (s ≡ t)
at_most a b s t (inl h) = inl h
at_most a b s t (inr h) = inr h.0

-- a read doesn't come before a write of its tag
not_read_before : (a b : Call) (t : Tag) → IsRead a → IsWrite b → ComesBefore a t b t → ⊥
not_read_before a b t read write (inl h) = not_below t t refl h
not_read_before a b t read write (inr (e, inl h)) = read_or_write a read h.0
not_read_before a b t read write (inr (e, inr (inl h, less))) = read_or_write b h.1 write
not_read_before a b t read write (inr (e, inr (inr h, less))) = read_or_write a read h.0

module _ (part : List Call) (order : List OpId) (sequence : IsSequence part) (sound : TagSound part) (by_tag : IsByTag part order) where
  -- the calls that stand in the order, each with its note
  noted_at : (i : ℕ) (a : Call) → StandsAt part order i a → (t : Tag) × IsNoted part a t
  noted_at i a stands = let t = by_tag.noted i a stands in (t.0, record { recorded = stands.recorded; noted = t.1 })

  once : (i j : ℕ) → i < j → j < length order → slice_get order i ≢ slice_get order j
  once i j less within same =
      let b = by_tag.known j within in
      let at : StandsAt part order i b.0 = record { listed = same ∙ b.1.listed; recorded = b.1.recorded } in
      let t = by_tag.noted j b.0 b.1 in
      not_before_itself b.0 t.0 t.0 refl (by_tag.sorted i j b.0 b.0 t.0 t.0 less at b.1 t.1 t.1)

  settled_writes : (call : Call) → IsSettled call → IsPending call → call.action ≢ Read
  settled_writes call (inl done) pending read = let answered = done.1 in cc
  settled_writes call (inr write) pending read = read_or_write call read write.0

  writes : (i : ℕ) (call : Call) → StandsAt part order i call → IsPending call → call.action ≢ Read
  writes i call stands pending =
      let k = by_tag.known i (slice_get_within order i call.op stands.listed) in
      let same : k.0 ≡ call = same_at part order sequence i k.0 call k.1 stands in
      settled_writes call (subst IsSettled same k.2) pending

  -- a call that precedes another doesn't stand after it
  precedence : (i j : ℕ) (a b : Call) → i < j → StandsAt part order i a → StandsAt part order j b → Precedes b a → ⊥
  precedence i j a b less at_a at_b before =
      let s = noted_at i a at_a in
      let t = noted_at j b at_b in
      by s.0 t.0 s.1 t.1 (by_tag.sorted i j a b s.0 t.0 less at_a at_b s.1.noted t.1.noted)
    where
      by : (s t : Tag) → IsNoted part a s → IsNoted part b t → ComesBefore a s b t → ⊥
      by s t x y (inl below) = elim (sound.rising b a t s before y x) [ inl up ↦ not_both s t below up | inr e ↦ not_below s t (sym e) below ]
      by s t x y (inr (e, inl (write, read))) = not_below t s (sym e) (sound.rising_to_writes b a t s write before y x)
      by s t x y (inr (e, inr (kinds, first))) = let later = sequence.responses b before.0 at_b.recorded before.1 in omega (arith, later, before.2, first)

  -- no write stands before a read of the least tag
  none_before : (i : ℕ) (c : Call) → StandsAt part order i c → IsNoted part c least → NoWriteFrom part order 0 i
  none_before i c stands noted k value low high w =
      let t = noted_at k w.0 w.1 in
      let above : IsBelow least t.0 = sound.above w.0 t.0 (value, w.2) t.1 in
      elim (at_most w.0 c t.0 least (by_tag.sorted k i w.0 c t.0 least high w.1 stands t.1.noted noted.noted)) [
        | inl below ↦ not_both least t.0 above below
        | inr e ↦ not_below least t.0 (sym e) above
      ]

  -- and none between a write and a read of its tag
  none_between : (i j : ℕ) (c w : Call) (t : Tag) → StandsAt part order i c → StandsAt part order j w → IsNoted part c t → IsNoted part w t → IsWrite w → NoWriteFrom part order (j + 1) i
  none_between i j c w t at_c at_w noted_c noted_w write k value low high other =
      let u = noted_at k other.0 other.1 in
      let first : ComesBefore w t other.0 u.0 = by_tag.sorted j k w other.0 t u.0 (omega arith) at_w other.1 noted_w.noted u.1.noted in
      let second : ComesBefore other.0 u.0 c t = by_tag.sorted k i other.0 c u.0 t high other.1 at_c u.1.noted noted_c.noted in
      let equal : t ≡ u.0 = between t u.0 (at_most w other.0 t u.0 first) (at_most other.0 c u.0 t second) in
      let same : other.0 ≡ w = sound.distinct other.0 w u.0 (value, other.2) write u.1 (subst (λ (x : Tag). IsNoted part w x) equal noted_w) in
      not_before_itself w t u.0 equal (subst (λ (x : Call). ComesBefore w t x u.0) same first)
    where
      between : (t u : Tag) → IsBelow t u ⊎ (t ≡ u) → IsBelow u t ⊎ (u ≡ t) → t ≡ u
      between t u (inr e) q = e
      between t u (inl p) (inr e) = sym e
      between t u (inl p) (inl q) = absurd (not_both t u p q)

  -- a write stands before a read of its tag
  stands_before : (i j : ℕ) (c w : Call) (t : Tag) → StandsAt part order i c → StandsAt part order j w → IsNoted part c t → IsNoted part w t → IsRead c → IsWrite w → j < i
  stands_before i j c w t at_c at_w noted_c noted_w read write =
      elim (cases_lt j i) [
        | inl h ↦ h
        | inr h ↦ elim (cases_lt i j) [
          | inl g ↦ absurd (not_read_before c w t read write (by_tag.sorted i j c w t t g at_c at_w noted_c.noted noted_w.noted))
          | inr g ↦
              let here : j ≡ i = omega arith in
              let there : StandsAt part order i w = subst (λ (x : ℕ). StandsAt part order x w) here at_w in
              let same : c ≡ w = same_at part order sequence i c w at_c there in
              absurd (read_or_write w (subst IsRead same read) write)
        ]
      ]

  legal : IsLegal part order
  legal i c response stands read answered =
      let t = noted_at i c stands in
      elim (least_or_not t.0) [
        | inl e ↦
            let noted : IsNoted part c least = subst (λ (x : Tag). IsNoted part c x) e t.1 in
            (None, sound.absent c response read noted answered, none_before i c stands noted)
        | inr other ↦
            let w = sound.answers c response t.0 read t.1 other answered in
            let write : IsWrite w.0 = (w.1, w.3) in
            let j = by_tag.all w.0 w.2.recorded (inr (write, (t.0, w.2.noted))) in
            let below = stands_before i j.0 c w.0 t.0 stands j.1 t.1 w.2 read write in
            (Some w.1, w.4, (j.0, below, (w.0, j.1, w.3), none_between i j.0 c w.0 t.0 stands j.1 t.1 w.2 write))
      ]

  pub IsOrder-by_tag : IsOrder part order
  IsOrder-by_tag = record {
    known = λ i within. let k = by_tag.known i within in (k.0, k.1);
    once = once;
    complete = λ call h done. by_tag.all call h (inl done);
    writes = writes;
    legal = legal;
    precedence = precedence;
  }
