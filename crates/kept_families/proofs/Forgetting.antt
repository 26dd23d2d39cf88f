-- What is forgotten stays so, and no row that opposes nothing touches it.
use Rattle.std.proofs.Common.{ℕ, ◌≡◌, ◌≢◌, ◌≤◌, ◌⊎◌, inl, inr, List, sym, subst, arith}
use Rattle.std.specs.List.{Contains}
use Rattle.std.proofs.lemmas.Bool.{cases_lt}
use Rattle.recorder.specs.declared.part.Call.{Call}
use Rattle.recorder.specs.Parts.{IsSequence}
use Rattle.recorder.specs.Sound.{IsWrite}
use Rattle.recorder.proofs.Sequences.{same_call}
use Rattle.value_order.specs.Families.{MustPrecedeBy, AreOpposedBy}
use Rattle.kept_families.specs.Open.{IsOpen}
use Rattle.kept_families.specs.Forgotten.{IsSettled, IsForgottenBy, IsForgotten, AreKept}
use Rattle.kept_families.specs.SoundTables.{AreReads}
use Rattle.kept_families.specs.Oppositions.{HasOpposed, IsFree, IsReadAfter, HasForgottenRead, HasKnownOpposed}
use Rattle.kept_families.proofs.ByRows.{later_answered, same_end, later_precedes, later_opposed, precede, ended_first, begun_before, write_recorded, one_or_two, precedes_or_later}

-- what is open by a later row is open by the row
pub earlier_open : (part : List Call) (row later : ℕ) (read : Call) → row ≤ later → IsOpen part later read → IsOpen part row read
earlier_open part row later read le o = record { recorded = o.recorded; reads = o.reads; unanswered = λ a. o.unanswered (later_answered row later read le a) }

module _ (part : List Call) (Reads : Call → Call → Type 0) where
  pub later_settled : (row later : ℕ) (write : Call) → row ≤ later → IsSettled part Reads row write → IsSettled part Reads later write
  later_settled row later write le s = record {
    call = s.call;
    of = s.of;
    ended = later_answered row later s.call le s.ended;
    early = λ read opens. s.early read (earlier_open part row later read le opens);
  }

  pub later_forgotten_by : (row later : ℕ) (w u : Call) → row ≤ later → IsForgottenBy part Reads row w u → IsForgottenBy part Reads later w u
  later_forgotten_by row later w u le f = record { apart = f.apart; precedes = later_precedes part Reads row later u w le f.precedes; settled = later_settled row later w le f.settled }

  pub later_forgotten : (row later : ℕ) (u : Call) → row ≤ later → IsForgotten part Reads row u → IsForgotten part Reads later u
  later_forgotten row later u le f = (f.0, later_forgotten_by row later f.0 u le f.1)

  -- where nothing is opposed by a row, nothing is by an earlier one
  pub earlier_free : (row later : ℕ) → row ≤ later → IsFree part Reads later → IsFree part Reads row
  earlier_free row later le free o = free (o.0, o.1, later_opposed part Reads row later o.0 o.1 le o.2)

module _ (part : List Call) (Reads : Call → Call → Type 0) (sound : AreReads part Reads) where
  -- a read that was answered after the row was open by then
  pub open_before : (row later : ℕ) (write read : Call) → IsReadAfter part Reads row later write read → IsOpen part row read
  open_before row later write read r = record {
    recorded = sound.recorded write read r.reads;
    reads = (sound.each write read r.reads).writer.answered.reads;
    unanswered = λ a. (let same = same_end read row r.response r.responds a in absurd (omega (arith, a.by, r.after)));
  }

  -- so a later read of a forgotten write opposes two families
  pub forgotten_read_opposes : (row later : ℕ) (w u read : Call) → IsForgottenBy part Reads row w u → IsReadAfter part Reads row later u read → AreOpposedBy part Reads later u w
  forgotten_read_opposes row later w u read f r =
      let le : row ≤ later = omega (arith, r.after, r.by) in
      let s = f.settled in
      let early = s.early read (open_before row later u read r) in
      record {
        apart = f.apart;
        there = later_precedes part Reads row later u w le f.precedes;
        back = precede part Reads later w u s.call read s.of (record {
          of = record { recorded = sound.recorded u read r.reads; writes = f.precedes.of_x.writes; belongs = inr r.reads };
          there = inr (record { response = r.response; responds = r.responds; by = r.by });
        }) (later_answered row later s.call le s.ended) early;
      }

module _ (part : List Call) (Reads : Call → Call → Type 0) (sequence : IsSequence part) (sound : AreReads part Reads) where
  module _ (row : ℕ) where
    -- the write of a family with an end had begun
    begun : (x y : Call) → MustPrecedeBy part Reads row x y → x.invoked ≤ row
    begun x y m =
        let b = begun_before part Reads sequence sound row x m.first m.of_x m.ended in
        omega (arith, m.ended.by)

    -- two families that must precede each other by the row are one, or opposed
    both : (x y : Call) → x ≢ y → MustPrecedeBy part Reads row x y → MustPrecedeBy part Reads row y x → HasOpposed part Reads row
    both x y apart there back = (x, y, record { apart = apart; there = there; back = back })

    -- w forgets u, and a call of v ended by the row before one of u's began: then v is forgotten, or
    -- two families are opposed
    pub before_forgotten : (w u v : Call) → v ≢ u → (v ≡ w) ⊎ (v ≢ w) → IsForgottenBy part Reads row w u → MustPrecedeBy part Reads row v u → HasOpposed part Reads row ⊎ IsForgotten part Reads row v
    before_forgotten w u v apart same f m = elim same [
      | inl is ↦ inl (w, u, record { apart = λ e. f.apart (sym e); there = subst_first v w is m; back = f.precedes })
      | inr other ↦ elim (cases_lt m.ended.response.place f.precedes.second.invoked) [
        | inl h ↦ inr (
          w,
          record {
            apart = other;
            precedes = precede part Reads row v w m.first f.precedes.second m.of_x f.precedes.of_y m.ended h;
            settled = f.settled;
          },
        )
        | inr h ↦ elim (cases_lt f.settled.ended.response.place m.second.invoked) [
          | inl g ↦ inl (
            w,
            u,
            record {
              apart = λ e. f.apart (sym e);
              there = precede part Reads row w u f.settled.call m.second f.settled.of m.of_y f.settled.ended g;
              back = f.precedes;
            },
          )
          | inr g ↦ inr (
            u,
            record {
              apart = apart;
              precedes = m;
              settled = record {
                call = f.precedes.first;
                of = f.precedes.of_x;
                ended = f.precedes.ended;
                early = λ read opens.
                    let e = f.settled.early read opens in
                    let a = ended_first part Reads row u w f.precedes in
                    let b = ended_first part Reads row v u m in
                    omega arith;
              };
            },
          )
        ]
      ]
    ]
      where
        subst_first : (x y : Call) → x ≡ y → MustPrecedeBy part Reads row x u → MustPrecedeBy part Reads row y u
        subst_first x y e p = subst (λ (c : Call). MustPrecedeBy part Reads row c u) e p

    -- what must precede a forgotten write is forgotten, if nothing is opposed
    pub precedes_forgotten : IsFree part Reads row → (u v : Call) → v ≢ u → IsForgotten part Reads row u → MustPrecedeBy part Reads row v u → IsForgotten part Reads row v
    precedes_forgotten free u v apart f m =
        let in_v = write_recorded part Reads sequence sound v m.first m.of_x in
        let in_w = write_recorded part Reads sequence sound f.0 f.1.settled.call f.1.settled.of in
        elim (before_forgotten f.0 u v apart (one_or_two part Reads sequence sound v f.0 in_v in_w) f.1 m) [
          | inl o ↦ absurd (free o)
          | inr g ↦ g
        ]

    module _ (later : ℕ) (le : row ≤ later) where
      -- a forgotten write forgets by a later row what was forgotten by the row, if nothing is opposed
      pub forgotten_by_forgotten : IsFree part Reads later → (w v : Call) → IsForgotten part Reads row w → IsForgottenBy part Reads later w v → IsForgotten part Reads row v
      forgotten_by_forgotten free w v f g =
          elim (precedes_or_later part Reads sequence sound row later v w (begun w f.0 f.1.precedes) g.precedes) [
            | inl m ↦ precedes_forgotten (earlier_free part Reads row later le free) w v g.apart f m
            | inr r ↦ absurd (free (w, f.0, forgotten_read_opposes part Reads sound row later f.0 w g.precedes.second f.1 r))
          ]

      -- a forgotten write that is opposed by a later row: two were by the row, or a read of a forgotten
      -- one was answered since
      forgotten_opposed : (w u v : Call) → IsForgottenBy part Reads row w u → AreOpposedBy part Reads later u v → HasOpposed part Reads row ⊎ HasForgottenRead part Reads row later
      forgotten_opposed w u v f o = elim (precedes_or_later part Reads sequence sound row later v u (begun u w f.precedes) o.back) [
        | inr r ↦ inr (u, o.back.second, (w, f), r)
        | inl m ↦
            let in_v = write_recorded part Reads sequence sound v m.first m.of_x in
            let in_w = write_recorded part Reads sequence sound w f.settled.call f.settled.of in
            elim (before_forgotten w u v (λ e. o.apart (sym e)) (one_or_two part Reads sequence sound v w in_v in_w) f m) [
              | inl h ↦ inl h
              | inr g ↦ elim (precedes_or_later part Reads sequence sound row later u v (begun v u m) o.there) [
                | inr r ↦ inr (v, o.there.second, g, r)
                | inl n ↦ inl (both u v o.apart n m)
              ]
            ]
      ]

      -- a write is forgotten by the row, or it isn't
      known_by : (kept : List ℕ) → AreKept part Reads row kept → (write : Call) → Contains part write → IsWrite write → IsForgotten part Reads row write ⊎ (IsForgotten part Reads row write → ⊥)
      known_by kept are write there is = elim (cases_lt row write.invoked) [
        | inl h ↦ inr (λ f. (let b = begun write f.0 f.1.precedes in omega arith))
        | inr h ↦ elim (are.all write there is h) [
          | inr f ↦ inl f
          | inl k ↦
              let e = are.each write.op.0 k in
              let same = same_call part sequence e.0 write e.2.recorded there e.1 in
              inr (subst (λ (c : Call). IsForgotten part Reads row c → ⊥) same e.2.known)
        ]
      ]

      -- what a later row opposes
      pub opposed_since : (kept : List ℕ) → AreKept part Reads row kept → IsFree part Reads row → HasOpposed part Reads later → HasKnownOpposed part Reads row later ⊎ HasForgottenRead part Reads row later
      opposed_since kept are free o =
          let x = o.0 in
          let y = o.1 in
          let p = o.2 in
          let in_x = write_recorded part Reads sequence sound x p.there.first p.there.of_x in
          let in_y = write_recorded part Reads sequence sound y p.back.first p.back.of_x in
          elim (known_by kept are x in_x p.there.of_x.writes) [
            | inl f ↦ elim (forgotten_opposed f.0 x y f.1 p) [ inl h ↦ absurd (free h) | inr h ↦ inr h ]
            | inr known_x ↦ elim (known_by kept are y in_y p.back.of_x.writes) [
              | inl f ↦ elim (forgotten_opposed f.0 y x f.1 (record { apart = λ e. p.apart (sym e); there = p.back; back = p.there })) [ inl h ↦ absurd (free h) | inr h ↦ inr h ]
              | inr known_y ↦ inl (record { x = x; y = y; opposed = p; known_x = known_x; known_y = known_y })
            ]
          ]

      pub opposed_from : HasKnownOpposed part Reads row later ⊎ HasForgottenRead part Reads row later → HasOpposed part Reads later
      opposed_from (inl k) = (k.x, k.y, k.opposed)
      opposed_from (inr r) = (r.0, r.2.0, forgotten_read_opposes part Reads sound row later r.2.0 r.0 r.1 r.2.1 r.3)
