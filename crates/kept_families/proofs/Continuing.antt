-- What holds by a row of a part holds by it of each part that goes on from there.
use Rattle.std.proofs.Common.{ℕ, ◌≡◌, ◌≢◌, ◌≤◌, ◌⊎◌, inl, inr, List, Option, Some, None, ap, sym, ◌∙◌, refl, arith}
use Rattle.std.specs.List.{Contains}
use Rattle.tag.specs.declared.numbers.OpId.{OpId}
use Rattle.recorder.specs.declared.part.Call.{Call}
use Rattle.recorder.specs.Parts.{IsSequence}
use Rattle.recorder.specs.Sound.{IsWrite}
use Rattle.recorder.proofs.Sequences.{same_call}
use Rattle.value_order.specs.Families.{IsOfFamily, IsAnsweredBy, IsMemberBy, MustPrecedeBy}
use Rattle.value_order.specs.Tables.{ReadsBy}
use Rattle.kept_families.specs.Continued.{IsSameBy, CountsBy, AreIn, AreOpenIn, Continues, Extends}
use Rattle.kept_families.specs.Forgotten.{IsSettled, IsForgotten}
use Rattle.kept_families.specs.Oppositions.{HasOpposed}
use Rattle.kept_families.specs.SoundTables.{IsOverwrittenBy, AreReads}
use Rattle.kept_families.proofs.ByRows.{same_end, begun_before, write_recorded, later_answered}

-- ---- single calls

pub same_back : (row : ℕ) (a b : Call) → IsSameBy row a b → IsSameBy row b a
same_back row a b s = record {
  number = sym s.number;
  action = sym s.action;
  invoked = sym s.invoked;
  answered = λ response by. ((s.answered response by).1, (s.answered response by).0);
}

same_earlier : (earlier row : ℕ) (a b : Call) → earlier ≤ row → IsSameBy row a b → IsSameBy earlier a b
same_earlier earlier row a b le s = record { number = s.number; action = s.action; invoked = s.invoked; answered = λ response by. s.answered response (omega arith) }

counts_earlier : (earlier row : ℕ) (call : Call) → earlier ≤ row → CountsBy earlier call → CountsBy row call
counts_earlier earlier row call le (inl w) = inl (w.0, omega (arith, w.1))
counts_earlier earlier row call le (inr a) = inr (later_answered earlier row call le a)

pub in_earlier : (earlier row : ℕ) (one other : List Call) → earlier ≤ row → AreIn row one other → AreIn earlier one other
in_earlier earlier row one other le are call there counts =
    let h = are call there (counts_earlier earlier row call le counts) in
    record { now = h.now; recorded = h.recorded; same = same_earlier earlier row call h.now le h.same }

abbrev pub answered_too : (row : ℕ) (a b : Call) → IsSameBy row a b → (x : IsAnsweredBy row a) → IsAnsweredBy row b
answered_too row a b s x = record { response = x.response; responds = (s.answered x.response x.by).0 x.responds; by = x.by }

pub write_too : (row : ℕ) (a b : Call) → IsSameBy row a b → IsWrite a → IsWrite b
write_too row a b s w = (w.0, sym s.action ∙ w.1)

pub number_too : (row : ℕ) (a b : Call) → IsSameBy row a b → a.op.0 ≡ b.op.0
number_too row a b s = ap (λ (o : OpId). o.0) s.number

-- the tables say the same of the reads that were answered by the row
abbrev pub AgreeBy : ℕ → List Call → (ℕ → Option ℕ) → (ℕ → Option ℕ) → Type 0
AgreeBy row part one other = (read : Call) → Contains part read → IsAnsweredBy row read → one read.op.0 ≡ other read.op.0

-- ---- families, from one part to the other

module _ (row : ℕ) (one other : List Call) (from to : ℕ → Option ℕ) (in_one : IsSequence one) (in_other : IsSequence other) (are : AreIn row one other) (agree : AgreeBy row one from to) (sound : AreReads one (ReadsBy one from)) where
  -- the calls of the two parts that are one call
  pub record Are (a b : Call) : Type 0 where
    pub here : Contains one a
    pub there : Contains other b
    pub same : IsSameBy row a b

  twin : (call : Call) → Contains one call → CountsBy row call → (now : Call) × Are call now
  twin call there counts =
      let h = are call there counts in
      (h.now, record { here = there; there = h.recorded; same = h.same })

  reads_too : (write read w r : Call) → Are write w → Are read r → IsAnsweredBy row read → ReadsBy one from write read → ReadsBy other to w r
  reads_too write read w r of_w of_r a reads = record {
    written = of_w.there;
    recorded = of_r.there;
    is = ap to (sym (number_too row read r of_r.same)) ∙ (sym (agree read of_r.here a) ∙ (reads.is ∙ ap Some (number_too row write w of_w.same)));
  }

  pub same_too : (a b x y : Call) → Are a x → Are b y → a ≡ b → x ≡ y
  same_too a b x y of_a of_b same = same_call other in_other x y of_a.there of_b.there (sym (number_too row a x of_a.same) ∙ (ap (λ (c : Call). c.op.0) same ∙ number_too row b y of_b.same))

  apart_too : (a b x y : Call) → Are a x → Are b y → a ≢ b → x ≢ y
  apart_too a b x y of_a of_b apart same = apart (same_call one in_one a b of_a.here of_b.here (number_too row a x of_a.same ∙ (ap (λ (c : Call). c.op.0) same ∙ sym (number_too row b y of_b.same))))

  -- a call of a family, which is its write or was answered
  family_too : (write call w c : Call) → Are write w → Are call c → (call ≡ write) ⊎ IsAnsweredBy row call → IsOfFamily one (ReadsBy one from) write call → IsOfFamily other (ReadsBy other to) w c
  family_too write call w c of_w of_c there of = record {
    recorded = of_c.there;
    writes = write_too row write w of_w.same of.writes;
    belongs = elim there [
      | inl same ↦ inl (same_too call write c w of_c of_w same)
      | inr a ↦ elim of.belongs [
        | inl same ↦ inl (same_too call write c w of_c of_w same)
        | inr reads ↦ inr (reads_too write call w c of_w of_c a reads)
      ]
    ];
  }

  -- what a family has by the row is there too
  record Has (write call w : Call) : Type 0 where
    now : Call
    twins : Are call now
    of : IsOfFamily other (ReadsBy other to) w now

  ended_too : (write call w : Call) → Are write w → IsOfFamily one (ReadsBy one from) write call → IsAnsweredBy row call → Has write call w
  ended_too write call w of_w of a =
      let t = twin call of.recorded (inr a) in
      record { now = t.0; twins = t.1; of = family_too write call w t.0 of_w t.1 (inr a) of }

  record HasMember (write call w : Call) : Type 0 where
    now : Call
    member : IsMemberBy other (ReadsBy other to) row w now
    invoked : call.invoked ≡ now.invoked

  member_too : (write call w : Call) → Are write w → IsMemberBy one (ReadsBy one from) row write call → HasMember write call w
  member_too write call w of_w m = elim m.there [
    | inl same ↦ record {
      now = w;
      member = record { of = record { recorded = of_w.there; writes = write_too row write w of_w.same m.of.writes; belongs = inl refl }; there = inl refl };
      invoked = ap (λ (c : Call). c.invoked) same ∙ of_w.same.invoked;
    }
    | inr a ↦
        let h = ended_too write call w of_w m.of a in
        record { now = h.now; member = record { of = h.of; there = inr (answered_too row call h.now h.twins.same a) }; invoked = h.twins.same.invoked }
  ]

  precede_too : (x y v w : Call) → Are x v → Are y w → MustPrecedeBy one (ReadsBy one from) row x y → MustPrecedeBy other (ReadsBy other to) row v w
  precede_too x y v w of_x of_y m =
      let f = ended_too x m.first v of_x m.of_x m.ended in
      let s = member_too y m.second w of_y m.of_y in
      let a = answered_too row m.first f.now f.twins.same m.ended in
      let end = same_end m.first row m.precedes.0 m.precedes.1 m.ended in
      record {
        first = f.now;
        second = s.now;
        of_x = f.of;
        of_y = s.member;
        ended = a;
        precedes = (a.response, a.responds, omega (arith, m.precedes.2, s.invoked));
      }

  -- the write of a family with an answered call counts
  family_twin : (write call : Call) → IsOfFamily one (ReadsBy one from) write call → IsAnsweredBy row call → (w : Call) × Are write w
  family_twin write call of a =
      let low = begun_before one (ReadsBy one from) in_one sound row write call of a in
      twin write (write_recorded one (ReadsBy one from) in_one sound write call of) (inl (of.writes, omega (arith, a.by)))

  pub overwritten_too : (place : ℕ) (w u v : Call) → Are u v → IsOverwrittenBy one (ReadsBy one from) row place w u → (x : Call) × IsOverwrittenBy other (ReadsBy other to) row place x v
  overwritten_too place w u v of_u o =
      let t = family_twin w o.call o.of o.ended in
      let c = ended_too w o.call t.0 t.1 o.of o.ended in (
        t.0,
        record {
          apart = apart_too u w v t.0 of_u t.1 o.apart;
          precedes = precede_too u w v t.0 of_u t.1 o.precedes;
          call = c.now;
          of = c.of;
          ended = answered_too row o.call c.now c.twins.same o.ended;
          before = o.before;
        },
      )

  pub opposed_too : HasOpposed one (ReadsBy one from) row → HasOpposed other (ReadsBy other to) row
  opposed_too h =
      let o = h.2 in
      let x = family_twin h.0 o.there.first o.there.of_x o.there.ended in
      let y = family_twin h.1 o.back.first o.back.of_x o.back.ended in (
        x.0,
        y.0,
        record {
          apart = apart_too h.0 h.1 x.0 y.0 x.1 y.1 o.apart;
          there = precede_too h.0 h.1 x.0 y.0 x.1 y.1 o.there;
          back = precede_too h.1 h.0 y.0 x.0 y.1 x.1 o.back;
        },
      )

  module _ (opens : AreOpenIn row other one) where
    settled_too : (write w : Call) → Are write w → IsSettled one (ReadsBy one from) row write → IsSettled other (ReadsBy other to) row w
    settled_too write w of_w s =
        let c = ended_too write s.call w of_w s.of s.ended in
        record {
          call = c.now;
          of = c.of;
          ended = answered_too row s.call c.now c.twins.same s.ended;
          early = λ read is. elim (opens read is) [
            | inl later ↦ omega (arith, s.ended.by)
            | inr o ↦ (let early = s.early o.0 o.1 in omega (arith, o.2))
          ];
        }

    pub forgotten_too : (u v : Call) → Are u v → IsForgotten one (ReadsBy one from) row u → IsForgotten other (ReadsBy other to) row v
    forgotten_too u v of_u f =
        let s = f.1.settled in
        let t = family_twin f.0 s.call s.of s.ended in (
          t.0,
          record {
            apart = apart_too u f.0 v t.0 of_u t.1 f.1.apart;
            precedes = precede_too u f.0 v t.0 of_u t.1 f.1.precedes;
            settled = settled_too f.0 t.0 t.1 s;
          },
        )

    kept_known : (u v : Call) → Are u v → (IsForgotten other (ReadsBy other to) row v → ⊥) → IsForgotten one (ReadsBy one from) row u → ⊥
    kept_known u v of_u known f = known (forgotten_too u v of_u f)

-- ---- a part that goes on

-- a table that extends another agrees with it
same_entry : (from to : Option ℕ) → ((t : ℕ) → from ≡ Some t → to ≡ Some t) → ((t : ℕ) → to ≡ Some t → from ≡ Some t) → from ≡ to
same_entry None None grows fresh = refl
same_entry None (Some t) grows fresh = fresh t refl
same_entry (Some t) to grows fresh = sym (grows t refl)

module _ (row : ℕ) (before after : List Call) (source later : ℕ → Option ℕ) (c : Continues row before after) (x : Extends row after source later) where
  pub agree_after : AgreeBy row after later source
  agree_after read there a = sym (same_entry (source read.op.0) (later read.op.0) (λ t e. x.grows read.op.0 t e) (λ t e. x.fresh read t there a e))

  pub agree_before : AgreeBy row before source later
  agree_before read there a =
      let h = c.there read there (inr a) in
      let number = number_too row read h.now h.same in
      let now = agree_after h.now h.recorded (answered_too row read h.now h.same a) in
      ap source number ∙ (sym now ∙ ap later (sym number))
