-- What holds of families by a row, and by later ones.
use Rattle.std.proofs.Common.{ℕ, ◌≡◌, ◌≢◌, ◌<◌, ◌≤◌, ◌⊎◌, inl, inr, List, Some, ap, subst, arith}
use Rattle.std.specs.List.{Contains}
use Rattle.std.proofs.lemmas.Bool.{cases_lt, cases_eq}
use Rattle.recorder.specs.declared.part.Call.{Call}
use Rattle.recorder.specs.declared.part.Response.{Response}
use Rattle.recorder.specs.Parts.{IsSequence}
use Rattle.recorder.proofs.Sequences.{same_call}
use Rattle.value_order.specs.Families.{IsOfFamily, IsAnsweredBy, IsMemberBy, MustPrecedeBy, AreOpposedBy}
use Rattle.value_order.proofs.CallKinds.{one_place}
use Rattle.kept_families.specs.Oppositions.{IsReadAfter}
use Rattle.kept_families.specs.SoundTables.{AreReads}

-- a call that was answered by a row was so by each later one
abbrev pub later_answered : (row later : ℕ) (call : Call) → row ≤ later → IsAnsweredBy row call → IsAnsweredBy later call
later_answered row later call le a = record { response = a.response; responds = a.responds; by = omega (arith, a.by) }

-- the place of an answer is one
pub same_end : (call : Call) (row : ℕ) (response : Response) → call.response ≡ Some response → (a : IsAnsweredBy row call) → a.response.place ≡ response.place
same_end call row response responds a = one_place call a.response response a.responds responds

module _ (part : List Call) (Reads : Call → Call → Type 0) where
  pub later_member : (row later : ℕ) (write call : Call) → row ≤ later → IsMemberBy part Reads row write call → IsMemberBy part Reads later write call
  later_member row later write call le m = record {
    of = m.of;
    there = elim m.there [ inl same ↦ inl same | inr a ↦ inr (later_answered row later call le a) ];
  }

  pub later_precedes : (row later : ℕ) (x y : Call) → row ≤ later → MustPrecedeBy part Reads row x y → MustPrecedeBy part Reads later x y
  later_precedes row later x y le m = record {
    first = m.first;
    second = m.second;
    of_x = m.of_x;
    of_y = later_member row later y m.second le m.of_y;
    ended = later_answered row later m.first le m.ended;
    precedes = m.precedes;
  }

  pub later_opposed : (row later : ℕ) (x y : Call) → row ≤ later → AreOpposedBy part Reads row x y → AreOpposedBy part Reads later x y
  later_opposed row later x y le o = record {
    apart = o.apart;
    there = later_precedes row later x y le o.there;
    back = later_precedes row later y x le o.back;
  }

  -- a call that was answered by the row precedes one that was there by then
  pub precede : (row : ℕ) (x y first second : Call) → IsOfFamily part Reads x first → IsMemberBy part Reads row y second → (a : IsAnsweredBy row first) → a.response.place < second.invoked → MustPrecedeBy part Reads row x y
  precede row x y first second of_x of_y a less = record {
    first = first;
    second = second;
    of_x = of_x;
    of_y = of_y;
    ended = a;
    precedes = (a.response, a.responds, less);
  }

  -- the first call of a precedence ended before the second began
  pub ended_first : (row : ℕ) (x y : Call) → (m : MustPrecedeBy part Reads row x y) → m.ended.response.place < m.second.invoked
  ended_first row x y m =
      let same = same_end m.first row m.precedes.0 m.precedes.1 m.ended in
      omega (arith, m.precedes.2)

-- families of reads that have a writer
module _ (part : List Call) (Reads : Call → Call → Type 0) (sequence : IsSequence part) (sound : AreReads part Reads) where
  -- a write began before each answer of its family
  pub begun_before : (row : ℕ) (write call : Call) → IsOfFamily part Reads write call → (a : IsAnsweredBy row call) → write.invoked ≤ a.response.place
  begun_before row write call of a = elim of.belongs [
    | inl same ↦
        let begun : call.invoked ≡ write.invoked = ap (λ (c : Call). c.invoked) same in
        let later = sequence.responses call a.response of.recorded a.responds in
        omega arith
    | inr reads ↦
        let w = (sound.each write call reads).writer in
        let same = same_end call row w.answered.response w.answered.responds a in
        omega (arith, w.began)
  ]

  -- what a family has by a later row it has by the row, or it is a read that was answered after it
  pub member_or_later : (row later : ℕ) (write call : Call) → IsMemberBy part Reads later write call → IsMemberBy part Reads row write call ⊎ IsReadAfter part Reads row later write call
  member_or_later row later write call m = elim m.of.belongs [
    | inl same ↦ inl (record { of = m.of; there = inl same })
    | inr reads ↦ elim m.there [
      | inl same ↦ inl (record { of = m.of; there = inl same })
      | inr a ↦ elim (cases_lt row a.response.place) [
        | inl h ↦ inr (record { reads = reads; response = a.response; responds = a.responds; after = h; by = a.by })
        | inr h ↦ inl (record { of = m.of; there = inr (record { response = a.response; responds = a.responds; by = omega arith }) })
      ]
    ]
  ]

  -- what a family has by a row began by then, if its write did
  pub member_begun : (row : ℕ) (write call : Call) → write.invoked ≤ row → IsMemberBy part Reads row write call → call.invoked ≤ row
  member_begun row write call begun m = elim m.there [
    | inl same ↦ (let at : call.invoked ≡ write.invoked = ap (λ (c : Call). c.invoked) same in omega arith)
    | inr a ↦ (let later = sequence.responses call a.response m.of.recorded a.responds in omega (arith, a.by))
  ]

  -- the write of a family that has a call is of the part
  pub write_recorded : (write call : Call) → IsOfFamily part Reads write call → Contains part write
  write_recorded write call of = elim of.belongs [
    | inl same ↦ subst (λ (c : Call). Contains part c) same of.recorded
    | inr reads ↦ (sound.each write call reads).writer.recorded
  ]

  -- two calls of the part are one or two
  pub one_or_two : (a b : Call) → Contains part a → Contains part b → (a ≡ b) ⊎ (a ≢ b)
  one_or_two a b in_a in_b = elim (cases_eq a.op.0 b.op.0) [
    | inl same ↦ inl (same_call part sequence a b in_a in_b same)
    | inr other ↦ inr (λ e. other (ap (λ (c : Call). c.op.0) e))
  ]

  -- what must precede by a later row must by the row, or the read that it precedes was answered after
  -- it
  pub precedes_or_later : (row later : ℕ) (x y : Call) → y.invoked ≤ row → (m : MustPrecedeBy part Reads later x y) → MustPrecedeBy part Reads row x y ⊎ IsReadAfter part Reads row later y m.second
  precedes_or_later row later x y begun m = elim (member_or_later row later y m.second m.of_y) [
    | inr r ↦ inr r
    | inl s ↦
        let less = ended_first part Reads later x y m in
        let low = member_begun row y m.second begun s in
        inl (precede part Reads row x y m.first m.second m.of_x s (record { response = m.ended.response; responds = m.ended.responds; by = omega arith }) less)
  ]
