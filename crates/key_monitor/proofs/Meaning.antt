-- What the zones say of the calls: what is spent is forgotten, and what overwrites does.
use Rattle.std.proofs.Common.{ℕ, ◌≡◌, ◌≢◌, ◌<◌, ◌≤◌, inl, inr, List, Option, Some, max, ap, sym, ◌∙◌, subst, refl, arith}
use Rattle.std.specs.List.{Contains}
use Rattle.std.proofs.lemmas.Bool.{cases_lt, cases_eq}
use Rattle.std.proofs.lemmas.Option.{same_Some, none-some, slice_get_within}
use Rattle.tag.proofs.Lists.{place_of, get_at}
use Rattle.recorder.specs.declared.part.Call.{Call}
use Rattle.recorder.specs.Parts.{IsSequence}
use Rattle.recorder.specs.Sound.{IsWrite}
use Rattle.value_order.specs.Families.{IsOfFamily}
use Rattle.value_order.specs.Tables.{ReadsBy}
use Rattle.value_order.specs.Zones.{BeginsAt, IsFirstEnd, IsLastRow}
use Rattle.recorder.proofs.Sequences.{same_call}
use Rattle.value_order.proofs.CallKinds.{not_both}
use Rattle.value_order.proofs.ZoneRows.{first_at_most}
use Rattle.kept_families.specs.Forgotten.{IsForgotten}
use Rattle.kept_families.specs.Open.{IsFirstOpen}
use Rattle.kept_families.specs.Oppositions.{IsFree}
use Rattle.kept_families.specs.SoundTables.{AreReads, IsOverwrittenBy}
use Rattle.kept_families.proofs.ByRows.{precede, one_or_two, write_recorded}
use Rattle.kept_families.proofs.Forgetting.{precedes_forgotten}
use Rattle.kept_families.proofs.Numbers.{overwritten_from, overwritten_to, forgotten_from_overwritten, overwritten_from_forgotten}
use Rattle.kept_families.proofs.ZonesExist.{zones_exist}
use Rattle.kept_zones.specs.Overwriting.{Known, LacksZone, last_of, Overwrites, IsOverwritten, IsSpent, NoneSpent}
use Rattle.key_monitor.specs.ZonesOf.{HaveOwnEnds, HasZoneOf, AreZonesOf, NoneForgotten}

-- a first end is one
pub one_first : (part : List Call) (Reads : Call → Call → Type 0) (row : ℕ) (write : Call) (e f : ℕ)
    → IsFirstEnd part Reads row write (Some e) → IsFirstEnd part Reads row write (Some f) → e ≡ f
one_first part Reads row write e f a b =
    let low = a.1 f b.0 in
    let high = b.1 e a.0 in
    omega arith

-- a call is of one family
pub one_family : (part : List Call) (source : ℕ → Option ℕ) → IsSequence part → AreReads part (ReadsBy part source) → (x y call : Call)
    → IsOfFamily part (ReadsBy part source) x call → IsOfFamily part (ReadsBy part source) y call → x ≡ y
one_family part source sequence sound x y call p q = elim p.belongs [
  | inl same ↦ elim q.belongs [
    | inl other ↦ sym same ∙ other
    | inr reads ↦ absurd (not_both call (sound.each y call reads).writer.answered.reads (subst IsWrite (sym same) p.writes))
  ]
  | inr reads ↦ elim q.belongs [
    | inl other ↦ absurd (not_both call (sound.each x call reads).writer.answered.reads (subst IsWrite (sym other) q.writes))
    | inr others ↦ same_call part sequence x y reads.written others.written (same_Some x.op.0 y.op.0 (sym reads.is ∙ others.is))
  ]
]

-- so two families of one first end are one
pub one_zone : (part : List Call) (source : ℕ → Option ℕ) (row : ℕ) → IsSequence part → AreReads part (ReadsBy part source)
    → HaveOwnEnds part → (x y : Call) (end : ℕ) → IsFirstEnd part (ReadsBy part source) row x (Some end)
    → IsFirstEnd part (ReadsBy part source) row y (Some end) → x ≡ y
one_zone part source row sequence sound own x y end of_x of_y =
    let e = of_x.0 in
    let f = of_y.0 in
    let same : e.call ≡ f.call = own e.call f.call e.ended.response f.ended.response e.of.recorded f.of.recorded e.ended.responds
    f.ended.responds (omega (arith, e.at, f.at)) in
    one_family part source sequence sound x y f.call (subst (IsOfFamily part (ReadsBy part source) x) same e.of) f.of

module _ (part : List Call) (source : ℕ → Option ℕ) (row : ℕ) (known : Known) (are : AreZonesOf part (ReadsBy part source) row known) where
  -- an overwriter overwrites
  pub overwrites_too : (u : Call) (place end last w : ℕ) → HasZoneOf part (ReadsBy part source) row u end last
      → (o : Overwrites known.zones place w end) → (x : Call) × HasZoneOf part (ReadsBy part source) row x w o.last × IsOverwrittenBy
      part (ReadsBy part source) row place x u
  overwrites_too u place end last w z o =
      let x = are.each w o.last o.is in
      let apart : u ≢ x.0 = λ same. o.apart (one_first part (ReadsBy part source) row x.0 w end x.1.first (subst (λ (c : Call).
      IsFirstEnd part (ReadsBy part source) row c (Some end)) same z.first)) in (
        x.0,
        x.1,
        overwritten_from part (ReadsBy part source) row u x.0 place end w o.last apart z.first x.1.first x.1.begins o.later
            o.early,
      )

module _ (part : List Call) (source : ℕ → Option ℕ) (row : ℕ) (sequence : IsSequence part) (sound : AreReads part (ReadsBy part source))
    (free : IsFree part (ReadsBy part source) row) (known : Known) (are : AreZonesOf part (ReadsBy part source) row known) where
  -- a family that ended before a forgotten one began last is forgotten
  before_begin : (u w : Call) (end begin : ℕ) → Contains part u → IsFirstEnd part (ReadsBy part source) row u (Some end)
      → IsForgotten part (ReadsBy part source) row w → BeginsAt part (ReadsBy part source) row w begin → end < begin
      → IsForgotten part (ReadsBy part source) row u
  before_begin u w end begin in_u first f b less =
      let in_w = write_recorded part (ReadsBy part source) sequence sound w b.call b.member.of in
      elim (one_or_two part (ReadsBy part source) sequence sound u w in_u in_w) [
        | inl same ↦ subst (IsForgotten part (ReadsBy part source) row) (sym same) f
        | inr apart ↦
            let e = first.0 in
            precedes_forgotten part (ReadsBy part source) sequence sound row free w u apart f (precede part (ReadsBy part source) row u w
            e.call b.call e.of b.member e.ended (omega (arith, e.at, b.at)))
      ]

  -- what isn't forgotten ended no earlier than the floor
  pub floor_low : (u : Call) (end last : ℕ) → HasZoneOf part (ReadsBy part source) row u end last
      → (IsForgotten part (ReadsBy part source) row u → ⊥) → known.floor ≤ end
  floor_low u end last z fresh = elim (cases_lt end known.floor) [
    | inr h ↦ h
    | inl h ↦ elim are.floor [
      | inl none ↦ absurd (omega arith)
      | inr w ↦ absurd (fresh (before_begin u w.0 end known.floor z.recorded z.first w.1 w.2 h))
    ]
  ]

  -- what is spent is forgotten
  pub spent_forgotten : (u : Call) (place end last : ℕ) → IsFirstOpen part row place
      → HasZoneOf part (ReadsBy part source) row u end last → IsSpent known place end → IsForgotten part (ReadsBy part source) row u
  spent_forgotten u place end last opens z (inl low) = elim are.floor [
    | inl none ↦ absurd (omega arith)
    | inr w ↦ before_begin u w.0 end known.floor z.recorded z.first w.1 w.2 low
  ]
  spent_forgotten u place end last opens z (inr o) =
      let x = overwrites_too part source row known are u place end last o.0 z o.1 in
      (x.0, forgotten_from_overwritten part (ReadsBy part source) row u x.0 place opens x.2)

module _ (part : List Call) (source : ℕ → Option ℕ) (row : ℕ) (sequence : IsSequence part) (sound : AreReads part (ReadsBy part source))
    (last_row : IsLastRow part row) where
  -- a family that overwrites another has a first end
  first_end_of : (w : Call) (place : ℕ) (u : Call) → IsOverwrittenBy part (ReadsBy part source) row place w u
      → (end : ℕ) × (last : ℕ) × HasZoneOf part (ReadsBy part source) row w end last
  first_end_of w place u o =
      let in_w = write_recorded part (ReadsBy part source) sequence sound w o.call o.of in
      let z = zones_exist part source sequence sound row last_row in
      let k = place_of part w in_w in
      let zone = get_at z.0 k.0 (omega (arith, z.1.all, slice_get_within part k.0 w k.1)) in
      let is = z.1.writes k.0 w zone.0 k.1 o.of.writes zone.1 in
      let f = first_at_most part (ReadsBy part source) row w zone.0.first_end is.first o.ended.response.place (record {
        call = o.call;
        of
            = o.of;
        ended = o.ended;
        at = refl;
      }) in (
        f.0,
        zone.0.last_begin,
        record {
          recorded = in_w;
          writes = o.of.writes;
          first = subst (IsFirstEnd part (ReadsBy part source) row
              w) f.1 is.first;
          begins = is.last;
        },
      )

module _ (part : List Call) (source : ℕ → Option ℕ) (row : ℕ) (sequence : IsSequence part) (sound : AreReads part (ReadsBy part source))
    (last_row : IsLastRow part row) (own : HaveOwnEnds part) (free : IsFree part (ReadsBy part source) row) (known : Known) (are :
    AreZonesOf part (ReadsBy part source) row known) where
  -- what a family overwrites is overwritten by a zone, or ended before the floor
  overwritten_by : (u x : Call) (place end last : ℕ) → HasZoneOf part (ReadsBy part source) row u end last
      → IsOverwrittenBy part (ReadsBy part source) row place x u → IsSpent known place end
  overwritten_by u x place end last z o =
      let f = first_end_of part source row sequence sound last_row x place u o in
      let n = overwritten_to part (ReadsBy part source) row u x place end f.0 f.1 z.first f.2.first f.2.begins o in
      elim (are.all x f.0 f.2.recorded f.2.writes f.2.first) [
        | inl e ↦
            let m = overwritten_to part (ReadsBy part source) row u x place end f.0 e.0 z.first f.2.first e.2 o in
            let apart : f.0 ≢ end = λ same. o.apart (one_zone part source row sequence sound own u x end z.first (subst (λ (n : ℕ).
            IsFirstEnd part (ReadsBy part source) row x (Some n)) same f.2.first)) in
            inr (f.0, record { last = e.0; is = e.1; apart = apart; early = m.1; later = m.0 })
        | inr went ↦ (let low = went.below f.1 f.2.begins.0 in inl (omega (arith, n.0)))
      ]

  -- if no zone is spent, none is forgotten
  pub none_forgotten : (place : ℕ) → IsFirstOpen part row place → NoneSpent known place → NoneForgotten part (ReadsBy part source) row known
  none_forgotten place opens none u end last at z f = none end last at (overwritten_by u f.0 place end last z (overwritten_from_forgotten
      part (ReadsBy part source) row u f.0 place opens f.1))

  -- where no zone overwrites one that isn't forgotten, no family does
  pub none_overwrites_too : (u x : Call) (place end last : ℕ) → HasZoneOf part (ReadsBy part source) row u end last
      → (IsForgotten part (ReadsBy part source) row u → ⊥) → (IsOverwritten known.zones place end → ⊥)
      → IsOverwrittenBy part (ReadsBy part source) row place x u → ⊥
  none_overwrites_too u x place end last z fresh none o = elim (overwritten_by u x place end last z o) [
    | inl low ↦ (let high = floor_low part source row sequence sound free known are u end last z fresh in absurd (omega arith))
    | inr over ↦ none over
  ]

module _ (part : List Call) (source : ℕ → Option ℕ) (row : ℕ) (sequence : IsSequence part) (sound : AreReads part (ReadsBy part source))
    (own : HaveOwnEnds part) (known : Known) (are : AreZonesOf part (ReadsBy part source) row known) where
  -- a forgotten zone that goes
  pub without : (u : Call) (end last : ℕ) → HasZoneOf part (ReadsBy part source) row u end last
      → IsForgotten part (ReadsBy part source) row u → (new : Known) → LacksZone known.zones end new.zones
      → new.floor ≡ max known.floor last → AreZonesOf part (ReadsBy part source) row new
  without u end last z f new lacks floor = record {
    each = λ e l at. elim (cases_eq e end) [
      | inl same ↦ absurd (none-some l (sym (ap (last_of new.zones) same ∙ lacks.here) ∙ at))
      | inr apart ↦ are.each e l (sym (lacks.others e apart) ∙ at)
    ];
    all = λ write e there is first. elim (are.all write e there is first) [
      | inr went ↦ inr (record { forgotten = went.forgotten; below = λ begin b. (let low = went.below begin b in omega arith) })
      | inl h ↦ elim (cases_eq e end) [
        | inr apart ↦ inl (h.0, lacks.others e apart ∙ h.1, h.2)
        | inl same ↦
            let here : u ≡ write = one_zone part source row sequence sound own u write end z.first (subst (λ (n : ℕ). IsFirstEnd part
            (ReadsBy part source) row write (Some n)) same first) in
            inr (record {
              forgotten = subst (IsForgotten part (ReadsBy part source) row) here f;
              below = λ begin b. (let low = z.begins.1 begin (subst (λ (c : Call). BeginsAt part (ReadsBy part source) row c begin) (sym
                  here) b) in omega arith);
            })
      ]
    ];
    floor = elim (cases_lt known.floor last) [
      | inl h ↦
          let is : last ≡ new.floor = omega arith in
          inr (u, f, subst (BeginsAt part (ReadsBy part source) row u) is z.begins.0)
      | inr h ↦
          let is : known.floor ≡ new.floor = omega arith in
          elim are.floor [
            | inl none ↦ inl (omega arith)
            | inr w ↦ inr (w.0, w.1, subst (BeginsAt part (ReadsBy part source) row w.0) is w.2)
          ]
    ];
  }
