-- What is known of the kept writes says which of them a read may have read.
use Rattle.std.proofs.Common.{ℕ, ◌≡◌, ◌≢◌, inl, inr, List, Option, Some, None, ap, sym, ◌∙◌, subst, refl}
use Rattle.std.specs.List.{Contains}
use Rattle.std.proofs.lemmas.Bool.{cases_eq}
use Rattle.std.proofs.lemmas.Option.{none-some}
use Rattle.tag.specs.declared.actions.Action.TheVariants.{Write}
use Rattle.recorder.specs.declared.part.Call.{Call}
use Rattle.recorder.proofs.Sequences.{same_call}
use Rattle.value_order.specs.Tables.{ReadsBy}
use Rattle.value_order.specs.Zones.{IsFirstEnd}
use Rattle.value_order.proofs.CallKinds.{one_written}
use Rattle.kept_families.specs.Forgotten.{IsForgotten}
use Rattle.kept_zones.specs.Overwriting.{Known, LacksZone, last_of}
use Rattle.key_monitor.specs.Answers.{IsPassedBefore, IsFreshAt, IsOneCandidate, HasNoCandidate}
use Rattle.key_monitor.specs.Judged.{AreJudged}
use Rattle.key_monitor.specs.KeptWrites.{KeptWrite, IsKnownAs, AreWritesOf, IsStaleAt, IsFreshBy, IsOneFresh, HasNoneFresh, LacksKept}
use Rattle.key_monitor.specs.ZonesOf.{AreZonesOf, HasZoneOf}
use Rattle.key_monitor.proofs.Meaning.{one_zone}

module _ (part : List Call) (source : ℕ → Option ℕ) (row : ℕ) (j : AreJudged part source row) (known : Known) (are : AreZonesOf part
    (ReadsBy part source) row known) where
  -- the zone with the family's first end is its own
  pub zone_of : (write : Call) (end last : ℕ) → IsFirstEnd part (ReadsBy part source) row write (Some end)
      → last_of known.zones end ≡ Some last → HasZoneOf part (ReadsBy part source) row write end last
  zone_of write end last first at =
      let w = are.each end last at in
      let same : w.0 ≡ write = one_zone part source row j.sequence j.sound j.own w.0 write end w.1.first first in
      subst (λ (c : Call). HasZoneOf part (ReadsBy part source) row c end last) same w.1

  module _ (writes : ℕ → Option KeptWrite) (of : AreWritesOf part (ReadsBy part source) row known writes) where
    -- what is known of a write of the part
    known_as : (write : Call) (kept : KeptWrite) → Contains part write → writes write.op.0 ≡ Some kept
        → IsKnownAs part (ReadsBy part source) row known write.op.0 kept write
    known_as write kept there at =
        let w = of.each write.op.0 kept at in
        let same : w.0 ≡ write = same_call part j.sequence w.0 write w.1.recorded there w.1.number in
        subst (IsKnownAs part (ReadsBy part source) row known write.op.0 kept) same w.1

    -- a write that a zone overwrites was passed
    stale_passed : (place : ℕ) (write : Call) (kept : KeptWrite) → IsKnownAs part (ReadsBy part source) row known write.op.0 kept write
        → IsStaleAt known place kept → IsPassedBefore part (ReadsBy part source) row known place write
    stale_passed place write kept k s =
        let z = k.zone s.0 s.1 in
        inr (s.0, z.0, zone_of write s.0 z.0 (subst (IsFirstEnd part (ReadsBy part source) row write) s.1 k.first) z.1, s.2)

    -- one that none does is fresh
    fresh_at : (place : ℕ) (write : Call) (end : Option ℕ) → IsFirstEnd part (ReadsBy part source) row write end → ((e : ℕ)
        → end ≡ Some e → (last : ℕ) × (last_of known.zones e ≡ Some last)) → IsFreshBy known place end
        → IsFreshAt part (ReadsBy part source) row known place write
    fresh_at place write None first zone fresh = inl first
    fresh_at place write (Some e) first zone fresh =
        let z = zone e refl in
        inr (e, z.0, z.1, zone_of write e z.0 first z.1, fresh)

    -- the value of a write is known
    value_known : (value : List ℕ) (write : Call) (kept : KeptWrite) → IsKnownAs part (ReadsBy part source) row known write.op.0 kept
        write → write.action ≡ Write value → kept.value ≡ value
    value_known value write kept k writes = one_written write kept.value value k.writes writes

    pub one_candidate : (place op : ℕ) (kept : KeptWrite) → IsOneFresh known writes place op kept
        → (write : Call) × (write.op.0 ≡ op) × IsOneCandidate part (ReadsBy part source) row known place kept.value write
    one_candidate place op kept one =
        let w = of.each op kept one.is in (
          w.0,
          w.1.number,
          record {
            recorded = w.1.recorded;
            writes = w.1.writes;
            fresh = fresh_at place w.0 kept.end w.1.first w.1.zone one.fresh;
            others = λ other there wrote. elim (of.all other there (kept.value, wrote)) [
              | inr f ↦ inr (inl f)
              | inl h ↦
                  let k = known_as other h.0 there h.1 in
                  elim (one.others other.op.0 h.0 h.1 (value_known kept.value other h.0 k wrote)) [
                    | inl same ↦ inl (same_call part j.sequence other w.0 there w.1.recorded (same ∙ sym w.1.number))
                    | inr s ↦ inr (stale_passed place other h.0 k s)
                  ]
            ];
          },
        )

    pub no_candidate : (place : ℕ) (value : List ℕ) → HasNoneFresh known writes place value
        → HasNoCandidate part (ReadsBy part source) row known place value
    no_candidate place value none other there wrote = elim (of.all other there (value, wrote)) [
      | inr f ↦ inl f
      | inl h ↦ (let k = known_as other h.0 there h.1 in stale_passed place other h.0 k (none other.op.0 h.0 h.1 (value_known value other
          h.0 k wrote)))
    ]

    -- the write of a zone that goes, goes
    pub without_write : (op end : ℕ) (kept : KeptWrite) (write : Call) → writes op ≡ Some kept → kept.end ≡ Some end
        → IsFirstEnd part (ReadsBy part source) row write (Some end) → IsForgotten part (ReadsBy part source) row write
        → (new_known : Known) → LacksZone known.zones end new_known.zones → (new : ℕ → Option KeptWrite) → LacksKept writes op new
        → AreWritesOf part (ReadsBy part source) row new_known new
    without_write op end kept write at ends first forgotten new_known lacks new without =
        let w = of.each op kept at in
        let is_first : IsFirstEnd part (ReadsBy part source) row w.0 (Some end) = subst (IsFirstEnd part (ReadsBy part source) row w.0)
        ends w.1.first in
        let one : w.0 ≡ write = one_zone part source row j.sequence j.sound j.own w.0 write end is_first first in
        record {
          each = λ other its there. elim (cases_eq other op) [
            | inl same ↦ absurd (none-some its (sym (ap new same ∙ without.here) ∙ there))
            | inr apart ↦
                let v = of.each other its (sym (without.others other apart) ∙ there) in (
                  v.0,
                  record {
                    recorded = v.1.recorded;
                    number = v.1.number;
                    writes = v.1.writes;
                    begun = v.1.begun;
                    first = v.1.first;
                    zone = λ place is.
                        let z = v.1.zone place is in
                        let other_end : place ≢ end = λ same. apart (sym v.1.number ∙ (ap (λ (c : Call). c.op.0) (one_zone part source
                        row j.sequence j.sound j.own v.0 w.0 end (subst (IsFirstEnd part (ReadsBy part source) row v.0) (is ∙ ap Some
                        same) v.1.first) is_first) ∙ w.1.number)) in
                        (z.0, lacks.others place other_end ∙ z.1);
                  },
                )
          ];
          all = λ v there is. elim (of.all v there is) [
            | inr f ↦ inr f
            | inl h ↦ elim (cases_eq v.op.0 op) [
              | inl same ↦
                  let here : w.0 ≡ v = same_call part j.sequence w.0 v w.1.recorded there (w.1.number ∙ sym same) in
                  inr (subst (IsForgotten part (ReadsBy part source) row) (sym one ∙ here) forgotten)
              | inr apart ↦ inl (h.0, without.others v.op.0 apart ∙ h.1)
            ]
          ];
        }
