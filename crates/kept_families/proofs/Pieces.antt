-- In every order a read of a sound table stands in the piece of its write.
use Rattle.std.proofs.Common.{ℕ, zero, suc, ◌≡◌, ◌<◌, ◌≤◌, inl, inr, List, Option, Some, subst, arith}
use Rattle.tag.specs.declared.numbers.OpId.{OpId}
use Rattle.recorder.specs.declared.part.Call.{Call}
use Rattle.recorder.specs.declared.part.Response.{Response}
use Rattle.recorder.specs.Parts.{IsSequence, IsCompleted}
use Rattle.recorder.specs.Orders.{StandsAt, IsOrder, IsLinearizable}
use Rattle.value_order.specs.Families.{IsOfFamily, IsAnsweredBy, IsMemberBy, MustPrecede, MustPrecedeBy}
use Rattle.value_order.specs.Tables.{ReadsBy, InPiece, StandInPieces}
use Rattle.value_order.proofs.Places.{LastWrite, last_write, stands_first, stands_before}
use Rattle.value_order.proofs.Refutations.{table_refutes}
use Rattle.value_order.proofs.ZoneRows.{opposed_by_row}
use Rattle.kept_families.specs.SoundTables.{IsPassed, AreReads, IsUnreadable}
use Rattle.kept_families.specs.Oppositions.{HasOpposed}
use Rattle.kept_families.proofs.ByRows.{same_end}

-- the read was answered before that place
pub record ReadsBelow (Reads : Call → Call → Type 0) (n : ℕ) (write read : Call) : Type 0 where
  pub reads : Reads write read
  pub response : Response
  pub responds : read.response ≡ Some response
  pub below : response.place < n

below_answered : (Reads : Call → Call → Type 0) (n : ℕ) (write read : Call) → ReadsBelow Reads n write read → IsCompleted read
below_answered Reads n write read r = (r.response, r.responds)

module _ (part : List Call) (Reads : Call → Call → Type 0) (sequence : IsSequence part) (sound : AreReads part Reads) (order : List OpId) (is : IsOrder part order) where
  module _ (n : ℕ) (piece : (write read : Call) (i : ℕ) → ReadsBelow Reads n write read → StandsAt part order i read → InPiece part order i write) where
    -- what was answered by an earlier row
    of_below : (row : ℕ) (write call : Call) → row < n → IsOfFamily part Reads write call → IsAnsweredBy row call → IsOfFamily part (ReadsBelow Reads n) write call
    of_below row write call less of a = record {
      recorded = of.recorded;
      writes = of.writes;
      belongs = elim of.belongs [
        | inl same ↦ inl same
        | inr reads ↦ inr (record { reads = reads; response = a.response; responds = a.responds; below = omega (arith, a.by) })
      ];
    }

    member_below : (row : ℕ) (write call : Call) → row < n → IsMemberBy part Reads row write call → IsOfFamily part (ReadsBelow Reads n) write call
    member_below row write call less m = elim m.there [
      | inl same ↦ record { recorded = m.of.recorded; writes = m.of.writes; belongs = inl same }
      | inr a ↦ of_below row write call less m.of a
    ]

    precede_below : (row : ℕ) (x y : Call) → row < n → MustPrecedeBy part Reads row x y → MustPrecede part (ReadsBelow Reads n) x y
    precede_below row x y less m = record {
      first = m.first;
      second = m.second;
      of_x = of_below row x m.first less m.of_x m.ended;
      of_y = member_below row y m.second less m.of_y;
      precedes = m.precedes;
    }

    piece_of : (write call : Call) (i : ℕ) → IsOfFamily part (ReadsBelow Reads n) write call → StandsAt part order i call → InPiece part order i write
    piece_of write call i of at = elim of.belongs [
      | inl same ↦ record {
        k = i;
        below = omega arith;
        stands = subst (λ (c : Call). StandsAt part order i c) same at;
        none = λ k v low high w. omega arith;
      }
      | inr reads ↦ piece write call i reads at
    ]

    -- a writer that was passed isn't the last write before the read: one of the other family stands
    -- between
    not_last : (i : ℕ) (read : Call) (response : Response) → read.response ≡ Some response → response.place ≤ n → StandsAt part order i read → (l : LastWrite part order i read) → IsPassed part Reads read l.write → ⊥
    not_last i read response responds low at l p =
        let o = p.overwritten in
        let same = same_end read p.response.place response responds (record { response = p.response; responds = p.responds; by = omega arith }) in
        let less : p.row < n = omega (arith, p.early) in
        let c = is.complete o.call o.of.recorded (o.ended.response, o.ended.responds) in
        let piece = piece_of p.w o.call c.0 (of_below p.row p.w o.call less o.of o.ended) c.1 in
        let high = stands_first part order is sequence c.0 i o.call read (o.ended.response, o.ended.responds, o.before) c.1 at in
        let up = stands_before part order is sequence (ReadsBelow Reads n) (below_answered Reads n) piece_here l.write p.w l.k piece.k o.apart (precede_below p.row l.write p.w less o.precedes) l.stands piece.stands in
        l.none piece.k o.of.writes.0 (omega arith) (omega (arith, piece.below)) (p.w, piece.stands, o.of.writes.1)
      where
        piece_here : (write call : Call) (j : ℕ) → ReadsBelow Reads n write call → StandsAt part order j call → InPiece part order j write
        piece_here = piece

    piece_next : (write read : Call) (i : ℕ) → ReadsBelow Reads (suc n) write read → StandsAt part order i read → InPiece part order i write
    piece_next write read i r at =
        let w = (sound.each write read r.reads).writer in
        let l = last_write part order is i read w.value at w.answered in
        elim ((sound.each write read r.reads).passed l.write l.writer) [
          | inl same ↦ record {
            k = l.k;
            below = omega (arith, l.below);
            stands = subst (λ (c : Call). StandsAt part order l.k c) same l.stands;
            none = l.none;
          }
          | inr p ↦ absurd (not_last i read r.response r.responds (omega (arith, r.below)) at l p)
        ]

  -- by the place of its answer
  piece_below : (n : ℕ) (write read : Call) (i : ℕ) → ReadsBelow Reads n write read → StandsAt part order i read → InPiece part order i write
  piece_below zero write read i r at = absurd (omega (arith, r.below))
  piece_below (suc n) write read i r at = piece_next n (piece_below n) write read i r at

  pub piece_all : (write read : Call) (i : ℕ) → Reads write read → StandsAt part order i read → InPiece part order i write
  piece_all write read i reads at =
      let a = (sound.each write read reads).writer.answered in
      piece_below (suc a.response.place) write read i (record { reads = reads; response = a.response; responds = a.responds; below = omega arith }) at

  pub unreadable : (read : Call) → IsUnreadable part Reads read → ⊥
  unreadable read u =
      let a = u.answered in
      let i = is.complete read u.recorded (a.response, a.responds) in
      let l = last_write part order is i.0 read u.value i.1 a in
      not_last a.response.place (piece_below a.response.place) i.0 read a.response a.responds (omega arith) i.1 l (u.passed l.write l.writer)

pub sound_pieces : (part : List Call) (Reads : Call → Call → Type 0) → IsSequence part → AreReads part Reads → StandInPieces part Reads
sound_pieces part Reads sequence sound = record {
  answered = λ write read reads. (let a = (sound.each write read reads).writer.answered in (a.response, a.responds));
  piece = λ order is. piece_all part Reads sequence sound order is;
}

pub opposed_refutes : (part : List Call) (source : ℕ → Option ℕ) (row : ℕ) → IsSequence part → AreReads part (ReadsBy part source) → HasOpposed part (ReadsBy part source) row → IsLinearizable part → ⊥
opposed_refutes part source row sequence sound o l = table_refutes part source o.0 o.1 sequence (sound_pieces part (ReadsBy part source) sequence sound) (opposed_by_row part (ReadsBy part source) row o.0 o.1 o.2) l

pub unreadable_refutes : (part : List Call) (Reads : Call → Call → Type 0) (read : Call) → IsSequence part → AreReads part Reads → IsUnreadable part Reads read → IsLinearizable part → ⊥
unreadable_refutes part Reads read sequence sound u l = unreadable part Reads sequence sound l.0 l.1 read u
