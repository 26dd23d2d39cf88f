-- What holds of zones by a row holds by it of the part that goes on.
use Rattle.std.proofs.Common.{ℕ, ◌≡◌, ◌≤◌, inl, inr, List, Option, Some, None, ap, sym, ◌∙◌, refl, arith}
use Rattle.std.specs.List.{Contains}
use Rattle.recorder.specs.declared.part.Call.{Call}
use Rattle.recorder.specs.Parts.{IsSequence}
use Rattle.recorder.specs.Sound.{IsWrite}
use Rattle.recorder.proofs.Sequences.{same_call}
use Rattle.value_order.specs.Families.{IsOfFamily, IsAnsweredBy}
use Rattle.value_order.specs.Tables.{ReadsBy}
use Rattle.value_order.specs.Zones.{EndsAt, BeginsAt, IsFirstEnd, IsLastBegin}
use Rattle.kept_families.specs.Continued.{IsSameBy, CountsBy, AreIn, AreOpenIn, Continues, IsTableOf, Extends}
use Rattle.kept_families.specs.Forgotten.{IsForgotten}
use Rattle.kept_families.specs.SoundTables.{AreReads, IsOverwrittenBy}
use Rattle.kept_families.proofs.ByRows.{begun_before, write_recorded}
use Rattle.kept_families.proofs.Continuing.{AgreeBy, agree_after, agree_before, same_back, answered_too, write_too, number_too}
use Rattle.kept_families.proofs.Continuing.{overwritten_too, forgotten_too}
use Rattle.kept_families.proofs.GoingOn.{still_forgotten}
use Rattle.kept_zones.specs.Overwriting.{Known}
use Rattle.key_monitor.specs.ZonesOf.{AreZonesOf, HasZoneOf, NoneForgotten}

-- ---- families, from one part to the other

module _ (row : ℕ) (one other : List Call) (from to : ℕ → Option ℕ) (in_other : IsSequence other) (are : AreIn row one other) (agree :
    AgreeBy row one from to) where
  -- the two are one call
  record Twins (a b : Call) : Type 0 where
    here : Contains one a
    there : Contains other b
    same : IsSameBy row a b

  twin : (call : Call) → Contains one call → CountsBy row call → (now : Call) × Twins call now
  twin call there counts =
      let h = are call there counts in
      (h.now, record { here = there; there = h.recorded; same = h.same })

  one_of : (a b x y : Call) → Twins a x → Twins b y → a ≡ b → x ≡ y
  one_of a b x y of_a of_b same = same_call other in_other x y of_a.there of_b.there (sym (number_too row a x of_a.same) ∙ (ap (λ (c :
      Call). c.op.0) same ∙ number_too row b y of_b.same))

  -- an answered call of a family
  of_too : (write call w c : Call) → Twins write w → Twins call c → IsAnsweredBy row call
      → IsOfFamily one (ReadsBy one from) write call → IsOfFamily other (ReadsBy other to) w c
  of_too write call w c of_w of_c a of = record {
    recorded = of_c.there;
    writes = write_too row write w of_w.same of.writes;
    belongs = elim of.belongs [
      | inl same ↦ inl (one_of call write c w of_c of_w same)
      | inr reads ↦ inr (record {
        written = of_w.there;
        recorded = of_c.there;
        is = ap to (sym (number_too row call c of_c.same)) ∙ (sym (agree call of_c.here a) ∙ (reads.is ∙ ap Some (number_too row write w
            of_w.same)));
      })
    ];
  }

  pub ends_too : (write w : Call) (place : ℕ) → Contains one write → Contains other w → IsSameBy row write w
      → EndsAt one (ReadsBy one from) row write place → EndsAt other (ReadsBy other to) row w place
  ends_too write w place in_one there same e =
      let of_w : Twins write w = record { here = in_one; there = there; same = same } in
      let t = twin e.call e.of.recorded (inr e.ended) in
      record {
        call = t.0;
        of = of_too write e.call w t.0 of_w t.1 e.ended e.of;
        ended = answered_too row e.call t.0 t.1.same e.ended;
        at
            = e.at;
      }

  pub begins_too : (write w : Call) (place : ℕ) → Contains one write → Contains other w → IsSameBy row write w
      → BeginsAt one (ReadsBy one from) row write place → BeginsAt other (ReadsBy other to) row w place
  begins_too write w place in_one there same b =
      let of_w : Twins write w = record { here = in_one; there = there; same = same } in
      elim b.member.there [
        | inl is ↦ record {
          call = w;
          member = record {
            of = record { recorded = there; writes = write_too row write w same b.member.of.writes; belongs = inl refl };
            there = inl refl;
          };
          at = sym same.invoked ∙ (sym (ap (λ (c : Call). c.invoked) is) ∙ b.at);
        }
        | inr a ↦
            let t = twin b.call b.member.of.recorded (inr a) in
            record {
              call = t.0;
              member = record {
                of = of_too write b.call w t.0 of_w t.1 a b.member.of;
                there = inr (answered_too row b.call t.0 t.1.same
                    a);
              };
              at = sym t.1.same.invoked ∙ b.at;
            }
      ]

-- ---- what began by the row

module _ (part : List Call) (source : ℕ → Option ℕ) (sequence : IsSequence part) (sound : AreReads part (ReadsBy part source)) (row : ℕ)
  where
    -- a family with an end has begun
    pub write_begun : (write : Call) (place : ℕ) → EndsAt part (ReadsBy part source) row write place → write.invoked ≤ row
    write_begun write place e =
        let b = begun_before part (ReadsBy part source) sequence sound row write e.call e.of e.ended in
        omega (arith, e.ended.by)

    -- a forgotten write is a write of the part, and had begun
    pub record IsBegun (write : Call) : Type 0 where
      pub recorded : Contains part write
      pub writes : IsWrite write
      pub begun : write.invoked ≤ row

    pub forgotten_begun : (u : Call) → IsForgotten part (ReadsBy part source) row u → IsBegun u
    forgotten_begun u f =
        let m = f.1.precedes in
        let b = begun_before part (ReadsBy part source) sequence sound row u m.first m.of_x m.ended in
        record {
          recorded = write_recorded part (ReadsBy part source) sequence sound u m.first m.of_x;
          writes = m.of_x.writes;
          begun =
              omega (arith, m.ended.by);
        }

-- ---- a part that goes on

module _ (row : ℕ) (before after : List Call) (source later : ℕ → Option ℕ) (in_before : IsSequence before) (in_after : IsSequence after)
    (c : Continues row before after) (entries : IsTableOf before source) (sound : AreReads before (ReadsBy before source)) (x : Extends
    row after source later) where
  -- the same call, before and after
  pub record Same (u v : Call) : Type 0 where
    pub here : Contains before u
    pub there : Contains after v
    pub same : IsSameBy row u v

  pub now_of : (write : Call) → Contains before write → IsWrite write → write.invoked ≤ row → (v : Call) × Same write v
  now_of write there is le =
      let h = c.there write there (inl (is, le)) in
      (h.now, record { here = there; there = h.recorded; same = h.same })

  pub was_of : (write : Call) → Contains after write → IsWrite write → write.invoked ≤ row → (u : Call) × Same u write
  was_of write there is le =
      let h = c.back write there (inl (is, le)) in
      (h.now, record { here = h.recorded; there = there; same = same_back row write h.now h.same })

  end_forth : (u v : Call) (place : ℕ) → Same u v → EndsAt before (ReadsBy before source) row u place
      → EndsAt after (ReadsBy after later) row v place
  end_forth u v place s e = ends_too row before after source later in_after c.there (agree_before row before after source later c x) u v
      place s.here s.there s.same e

  end_back : (u v : Call) (place : ℕ) → Same u v → EndsAt after (ReadsBy after later) row v place
      → EndsAt before (ReadsBy before source) row u place
  end_back u v place s e = ends_too row after before later source in_before c.back (agree_after row before after source later c x) v u
      place s.there s.here (same_back row u v s.same) e

  begin_forth : (u v : Call) (place : ℕ) → Same u v → BeginsAt before (ReadsBy before source) row u place
      → BeginsAt after (ReadsBy after later) row v place
  begin_forth u v place s b = begins_too row before after source later in_after c.there (agree_before row before after source later c x)
      u v place s.here s.there s.same b

  begin_back : (u v : Call) (place : ℕ) → Same u v → BeginsAt after (ReadsBy after later) row v place
      → BeginsAt before (ReadsBy before source) row u place
  begin_back u v place s b = begins_too row after before later source in_before c.back (agree_after row before after source later c x) v
      u place s.there s.here (same_back row u v s.same) b

  pub first_forth : (u v : Call) (o : Option ℕ) → Same u v → IsFirstEnd before (ReadsBy before source) row u o
      → IsFirstEnd after (ReadsBy after later) row v o
  first_forth u v None s is = λ place e. is place (end_back u v place s e)
  first_forth u v (Some f) s is = (end_forth u v f s is.0, λ place e. is.1 place (end_back u v place s e))

  pub first_back : (u v : Call) (o : Option ℕ) → Same u v → IsFirstEnd after (ReadsBy after later) row v o
      → IsFirstEnd before (ReadsBy before source) row u o
  first_back u v None s is = λ place e. is place (end_forth u v place s e)
  first_back u v (Some f) s is = (end_back u v f s is.0, λ place e. is.1 place (end_forth u v place s e))

  pub last_forth : (u v : Call) (last : ℕ) → Same u v → IsLastBegin before (ReadsBy before source) row u last
      → IsLastBegin after (ReadsBy after later) row v last
  last_forth u v last s is = (begin_forth u v last s is.0, λ place b. is.1 place (begin_back u v place s b))

  pub zone_forth : (u v : Call) (end last : ℕ) → Same u v → HasZoneOf before (ReadsBy before source) row u end last
      → HasZoneOf after (ReadsBy after later) row v end last
  zone_forth u v end last s z = record {
    recorded = s.there;
    writes = write_too row u v s.same z.writes;
    first = first_forth u v (Some
        end) s z.first;
    begins = last_forth u v last s z.begins;
  }

  pub forgotten_forth : (u v : Call) → Same u v → IsForgotten before (ReadsBy before source) row u
      → IsForgotten after (ReadsBy after later) row v
  forgotten_forth u v s f = still_forgotten row before after source later in_before in_after c entries sound x u v s.here s.there s.same f

  -- what is overwritten is so in the part that goes on
  pub overwritten_forth : (u v w : Call) (place : ℕ) → Same u v → IsOverwrittenBy before (ReadsBy before source) row place w u
      → (y : Call) × IsOverwrittenBy after (ReadsBy after later) row place y v
  overwritten_forth u v w place s o = overwritten_too row before after source later in_before in_after c.there (agree_before row before
      after source later c x) sound place w u v (record { here = s.here; there = s.there; same = s.same }) o

  module _ (now : AreReads after (ReadsBy after later)) where
    pub overwritten_back : (u v w : Call) (place : ℕ) → Same u v → IsOverwrittenBy after (ReadsBy after later) row place w v
        → (y : Call) × IsOverwrittenBy before (ReadsBy before source) row place y u
    overwritten_back u v w place s o = overwritten_too row after before later source in_after in_before c.back (agree_after row before
        after source later c x) now place w v u (record { here = s.there; there = s.here; same = same_back row u v s.same }) o

    -- so zones stay those of the calls
    pub zones_forth : (known : Known) → AreZonesOf before (ReadsBy before source) row known
        → AreZonesOf after (ReadsBy after later) row known
    zones_forth known are = record {
      each = λ end last at.
          let w = are.each end last at in
          let z = w.1 in
          let v = now_of w.0 z.recorded z.writes (write_begun before source in_before sound row w.0 end z.first.0) in
          (v.0, zone_forth w.0 v.0 end last v.1 z);
      all = λ write end there is first.
          let u = was_of write there is (write_begun after later in_after now row write end first.0) in
          elim (are.all u.0 end u.1.here (write_too row write u.0 (same_back row u.0 write u.1.same) is) (first_back u.0 write (Some end)
          u.1 first)) [
            | inl h ↦ inl (h.0, h.1, last_forth u.0 write h.0 u.1 h.2)
            | inr went ↦ inr (record {
              forgotten = forgotten_forth u.0 write u.1 went.forgotten;
              below = λ begin b. went.below begin
                  (begin_back u.0 write begin u.1 b);
            })
          ];
      floor = elim are.floor [
        | inl none ↦ inl none
        | inr w ↦
            let b = forgotten_begun before source in_before sound row w.0 w.1 in
            let v = now_of w.0 b.recorded b.writes b.begun in
            inr (v.0, forgotten_forth w.0 v.0 v.1 w.1, begin_forth w.0 v.0 known.floor v.1 w.2)
      ];
    }

    -- and none of them is forgotten, if no read was left out
    pub none_forth : AreOpenIn row before after → (known : Known) → NoneForgotten before (ReadsBy before source) row known
        → NoneForgotten after (ReadsBy after later) row known
    none_forth opens known none write end last at z f =
        let u = was_of write z.recorded z.writes (write_begun after later in_after now row write end z.first.0) in
        let y = forgotten_too row after before later source in_after in_before c.back (agree_after row before after source later c x) now
        opens write u.0 (record { here = z.recorded; there = u.1.here; same = same_back row u.0 write u.1.same }) f in
        let was : HasZoneOf before (ReadsBy before source) row u.0 end last = record {
          recorded = u.1.here;
          writes = write_too row write u.0 (same_back row u.0 write u.1.same) z.writes;
          first = first_back u.0 write (Some end) u.1 z.first;
          begins = (begin_back u.0 write last u.1 z.begins.0, λ place b. z.begins.1 place (begin_forth u.0 write place u.1 b));
        } in
        none u.0 end last at was y
