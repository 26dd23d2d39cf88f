-- What one answer more does to the zones of a part.
use Rattle.std.proofs.Common.{ℕ, ◌≡◌, ◌≢◌, ◌≤◌, ◌⊎◌, inl, inr, List, Option, Some, None, max, ap, sym, ◌∙◌, subst, refl, arith}
use Rattle.std.specs.List.{Contains}
use Rattle.std.proofs.lemmas.Bool.{cases_lt, cases_eq}
use Rattle.std.proofs.lemmas.Option.{same_Some}
use Rattle.recorder.specs.declared.part.Call.{Call}
use Rattle.recorder.specs.Parts.{IsSequence}
use Rattle.recorder.specs.Sound.{IsWrite}
use Rattle.value_order.specs.Families.{IsOfFamily, IsAnsweredBy, IsMemberBy, MustPrecedeBy}
use Rattle.value_order.specs.Tables.{ReadsBy}
use Rattle.value_order.specs.Zones.{EndsAt, BeginsAt, IsFirstEnd, IsLastBegin, IsLastRow}
use Rattle.value_order.proofs.CallKinds.{one_place}
use Rattle.kept_families.specs.Forgotten.{IsForgotten}
use Rattle.kept_families.specs.Oppositions.{IsFree, IsReadAfter}
use Rattle.kept_families.specs.SoundTables.{AreReads, IsOverwrittenBy}
use Rattle.kept_families.proofs.ByRows.{later_answered, later_member, same_end, one_or_two, precedes_or_later, write_recorded}
use Rattle.kept_families.proofs.Forgetting.{later_forgotten}
use Rattle.kept_zones.specs.Overwriting.{Known, HasZone, last_of}
use Rattle.key_monitor.specs.Judged.{IsOnlyAnswer}
use Rattle.key_monitor.specs.ZonesOf.{AreZonesOf, HasZoneOf, HaveOwnEnds}
use Rattle.key_monitor.proofs.Meaning.{one_first, one_family, one_zone}

-- ---- later rows

module _ (part : List Call) (source : ℕ → Option ℕ) (row later : ℕ) where
  -- the later row changes nothing of the family
  pub record IsSame (w : Call) : Type 0 where
    pub first : (e : ℕ) → IsFirstEnd part (ReadsBy part source) row w (Some e) → IsFirstEnd part (ReadsBy part source) later w (Some e)
    pub back : (e : ℕ) → IsFirstEnd part (ReadsBy part source) later w (Some e) → IsFirstEnd part (ReadsBy part source) row w (Some e)
    pub begins : (b : ℕ) → BeginsAt part (ReadsBy part source) later w b → BeginsAt part (ReadsBy part source) row w b
    pub none : IsFirstEnd part (ReadsBy part source) row w None → IsFirstEnd part (ReadsBy part source) later w None

  -- so its first end stays, if it has one or not
  pub first_same : (w : Call) → IsSame w → (o : Option ℕ) → IsFirstEnd part (ReadsBy part source) row w o
      → IsFirstEnd part (ReadsBy part source) later w o
  first_same w same None is = same.none is
  first_same w same (Some e) is = same.first e is

module _ (part : List Call) (source : ℕ → Option ℕ) (row later : ℕ) (le : row ≤ later) where
  ends_later : (w : Call) (p : ℕ) → EndsAt part (ReadsBy part source) row w p → EndsAt part (ReadsBy part source) later w p
  ends_later w p e = record { call = e.call; of = e.of; ended = later_answered row later e.call le e.ended; at = e.at }

  pub begins_later : (w : Call) (p : ℕ) → BeginsAt part (ReadsBy part source) row w p → BeginsAt part (ReadsBy part source) later w p
  begins_later w p b = record { call = b.call; member = later_member part (ReadsBy part source) row later w b.call le b.member; at = b.at }

  last_later : (w : Call) (l : ℕ) → IsSame part source row later w → IsLastBegin part (ReadsBy part source) row w l
      → IsLastBegin part (ReadsBy part source) later w l
  last_later w l same is = (begins_later w l is.0, λ b h. is.1 b (same.begins b h))

  zone_later : (w : Call) (e l : ℕ) → IsSame part source row later w → HasZoneOf part (ReadsBy part source) row w e l
      → HasZoneOf part (ReadsBy part source) later w e l
  zone_later w e l same z = record {
    recorded = z.recorded;
    writes = z.writes;
    first = same.first e z.first;
    begins = last_later w l same
        z.begins;
  }

  floor_later : (known : Known) → AreZonesOf part (ReadsBy part source) row known
      → (known.floor ≡ 0) ⊎ ((write : Call) × IsForgotten part (ReadsBy part source) later write × BeginsAt part (ReadsBy part source)
      later write known.floor)
  floor_later known are = elim are.floor [
    | inl none ↦ inl none
    | inr w ↦ inr (w.0, later_forgotten part (ReadsBy part source) row later w.0 le w.1, begins_later w.0 known.floor w.2)
  ]

  -- where the row changes no family, the zones stay
  pub same_zones : ((w : Call) → Contains part w → IsSame part source row later w) → (known : Known)
      → AreZonesOf part (ReadsBy part source) row known → AreZonesOf part (ReadsBy part source) later known
  same_zones same known are = record {
    each = λ e l at. (let w = are.each e l at in (w.0, zone_later w.0 e l (same w.0 w.1.recorded) w.1));
    all = λ w e there is first. elim (are.all w e there is ((same w there).back e first)) [
      | inl h ↦ inl (h.0, h.1, last_later w h.0 (same w there) h.2)
      | inr went ↦ inr (record {
        forgotten = later_forgotten part (ReadsBy part source) row later w le went.forgotten;
        below = λ b h.
            went.below b ((same w there).begins b h);
      })
    ];
    floor = floor_later known are;
  }

  -- where it changes one, its zone is new
  module _ (sequence : IsSequence part) (sound : AreReads part (ReadsBy part source)) (own : HaveOwnEnds part) (family : Call) (end last
      : ℕ) (z : HasZoneOf part (ReadsBy part source) later family end last) (same : (w : Call) → w ≢ family
      → IsSame part source row later w) where
    pub with_zone : (known new : Known) → AreZonesOf part (ReadsBy part source) row known → ((e l : ℕ)
        → HasZoneOf part (ReadsBy part source) row family e l → e ≡ end) → HasZone known.zones end last new.zones
        → new.floor ≡ known.floor → AreZonesOf part (ReadsBy part source) later new
    with_zone known new are there has floor = record {
      each = λ e l at. elim (cases_eq e end) [
        | inl is ↦
            let is_last : last ≡ l = same_Some last l (sym has.here ∙ (ap (last_of new.zones) (sym is) ∙ at)) in (
              family,
              subst (λ (n : ℕ). HasZoneOf part (ReadsBy part source) later family n l) (sym is) (subst (λ (n : ℕ). HasZoneOf part
                  (ReadsBy part source) later family end n) is_last z),
            )
        | inr apart ↦
            let w = are.each e l (sym (has.others e apart) ∙ at) in
            elim (one_or_two part (ReadsBy part source) sequence sound w.0 family w.1.recorded z.recorded) [
              | inl is ↦ absurd (apart (there e l (subst (λ (c : Call). HasZoneOf part (ReadsBy part source) row c e l) is w.1)))
              | inr other ↦ (w.0, zone_later w.0 e l (same w.0 other) w.1)
            ]
      ];
      all = λ w e in_w is first. elim (one_or_two part (ReadsBy part source) sequence sound w family in_w z.recorded) [
        | inl one ↦
            let ends : e ≡ end = one_first part (ReadsBy part source) later family e end (subst (λ (c : Call). IsFirstEnd part (ReadsBy
            part source) later c (Some e)) one first) z.first in
            inl (
              last,
              ap (last_of new.zones) ends ∙ has.here,
              subst (λ (c : Call). IsLastBegin part (ReadsBy part source) later c last)
                  (sym one) z.begins,
            )
        | inr other ↦ elim (are.all w e in_w is ((same w other).back e first)) [
          | inl h ↦
              let apart : e ≢ end = λ ends. other (one_zone part source later sequence sound own w family end (subst (λ (n : ℕ).
              IsFirstEnd part (ReadsBy part source) later w (Some n)) ends first) z.first) in
              inl (h.0, has.others e apart ∙ h.1, last_later w h.0 (same w other) h.2)
          | inr went ↦ inr (record {
            forgotten = later_forgotten part (ReadsBy part source) row later w le went.forgotten;
            below = λ b h.
                (let low = went.below b ((same w other).begins b h) in omega arith);
          })
        ]
      ];
      floor = elim (floor_later known are) [
        | inl none ↦ inl (floor ∙ none)
        | inr w ↦ inr (w.0, w.1, subst (BeginsAt part (ReadsBy part source) later w.0) (sym floor) w.2)
      ];
    }

-- a family none of which has ended began with its write alone
pub last_unended : (part : List Call) (Reads : Call → Call → Type 0) (row : ℕ) (w : Call) → Contains part w → IsWrite w
    → IsFirstEnd part Reads row w None → IsLastBegin part Reads row w w.invoked
last_unended part Reads row w there is none = (
  record { call = w; member = record { of = record { recorded = there; writes = is; belongs = inl refl }; there = inl refl }; at = refl },
  λ p b. elim b.member.there [
    | inl same ↦ (let begun : b.call.invoked ≡ w.invoked = ap (λ (c : Call). c.invoked) same in omega (arith, b.at))
    | inr a ↦ absurd (none a.response.place (record { call = b.call; of = b.member.of; ended = a; at = refl }))
  ],
)

-- ---- no answer more

module _ (part : List Call) (source : ℕ → Option ℕ) (row later : ℕ) (le : row ≤ later) (last : IsLastRow part row) where
  abbrev answered_row : (call : Call) → Contains part call → IsAnsweredBy later call → IsAnsweredBy row call
  answered_row call there a = record { response = a.response; responds = a.responds; by = last call a.response there a.responds }

  member_row : (w call : Call) → IsMemberBy part (ReadsBy part source) later w call → IsMemberBy part (ReadsBy part source) row w call
  member_row w call m = record { of = m.of; there = elim m.there [ inl same ↦ inl same | inr a ↦ inr (answered_row call m.of.recorded a) ] }

  pub ends_row : (w : Call) (p : ℕ) → EndsAt part (ReadsBy part source) later w p → EndsAt part (ReadsBy part source) row w p
  ends_row w p e = record { call = e.call; of = e.of; ended = answered_row e.call e.of.recorded e.ended; at = e.at }

  pub none_changed : (w : Call) → IsSame part source row later w
  none_changed w = record {
    first = λ e is. (ends_later part source row later le w e is.0, λ p h. is.1 p (ends_row w p h));
    back = λ e is. (ends_row w e is.0, λ p h. is.1 p (ends_later part source row later le w p h));
    begins = λ b h. record { call = h.call; member = member_row w h.call h.member; at = h.at };
    none = λ is p h. is p (ends_row w p h);
  }

  precedes_row : (x y : Call) → MustPrecedeBy part (ReadsBy part source) later x y → MustPrecedeBy part (ReadsBy part source) row x y
  precedes_row x y m = record {
    first = m.first;
    second = m.second;
    of_x = m.of_x;
    of_y = member_row y m.second m.of_y;
    ended =
        answered_row m.first m.of_x.recorded m.ended;
    precedes = m.precedes;
  }

  pub free_later : IsFree part (ReadsBy part source) row → IsFree part (ReadsBy part source) later
  free_later free o = free (
    o.0,
    o.1,
    record {
      apart = o.2.apart;
      there = precedes_row o.0 o.1 o.2.there;
      back = precedes_row o.1 o.0
          o.2.back;
    },
  )

  pub forgotten_row : (u : Call) → IsForgotten part (ReadsBy part source) later u → IsForgotten part (ReadsBy part source) row u
  forgotten_row u f =
      let s = f.1.settled in (
        f.0,
        record {
          apart = f.1.apart;
          precedes = precedes_row u f.0 f.1.precedes;
          settled = record {
            call = s.call;
            of = s.of;
            ended = answered_row s.call s.of.recorded s.ended;
            early = λ read opens. s.early read (record {
              recorded = opens.recorded;
              reads = opens.reads;
              unanswered = λ a.
                  opens.unanswered (answered_row read opens.recorded a);
            });
          };
        },
      )

-- ---- one answer more

module _ (part : List Call) (source : ℕ → Option ℕ) (sequence : IsSequence part) (sound : AreReads part (ReadsBy part source)) (row place
    : ℕ) (call : Call) (o : IsOnlyAnswer part row place call) where
  le : row ≤ place
  le = omega (arith, o.after)

  is_at : (c : Call) → c ≡ call → (a : IsAnsweredBy place c) → a.response.place ≡ place
  is_at c same a = one_place call a.response o.response (sym (ap (λ (d : Call). d.response) same) ∙ a.responds) o.responds ∙ o.at

  ends_split : (w : Call) (p : ℕ) → EndsAt part (ReadsBy part source) place w p
      → EndsAt part (ReadsBy part source) row w p ⊎ (IsOfFamily part (ReadsBy part source) w call × (p ≡ place))
  ends_split w p e = elim (o.others e.call e.of.recorded e.ended) [
    | inl same ↦ inr (subst (IsOfFamily part (ReadsBy part source) w) same e.of, sym e.at ∙ is_at e.call same e.ended)
    | inr a ↦ inl (record { call = e.call; of = e.of; ended = a; at = same_end e.call row e.ended.response e.ended.responds a ∙ e.at })
  ]

  begins_split : (w : Call) (b : ℕ) → BeginsAt part (ReadsBy part source) place w b
      → BeginsAt part (ReadsBy part source) row w b ⊎ (IsOfFamily part (ReadsBy part source) w call × (b ≡ call.invoked))
  begins_split w b h = elim h.member.there [
    | inl same ↦ inl (record { call = h.call; member = record { of = h.member.of; there = inl same }; at = h.at })
    | inr a ↦ elim (o.others h.call h.member.of.recorded a) [
      | inl same ↦ inr (subst (IsOfFamily part (ReadsBy part source) w) same h.member.of, sym h.at ∙ ap (λ (c : Call). c.invoked) same)
      | inr early ↦ inl (record { call = h.call; member = record { of = h.member.of; there = inr early }; at = h.at })
    ]
  ]

  ended_now : IsAnsweredBy place call
  ended_now = record { response = o.response; responds = o.responds; by = omega (arith, o.at) }

  ends_now : (w : Call) → IsOfFamily part (ReadsBy part source) w call → EndsAt part (ReadsBy part source) place w place
  ends_now w of = record {
    call = call;
    of = of;
    ended = record {
      response = o.response;
      responds = o.responds;
      by = omega (arith, o.at);
    };
    at = o.at;
  }

  begins_now : (w : Call) → IsOfFamily part (ReadsBy part source) w call → BeginsAt part (ReadsBy part source) place w call.invoked
  begins_now w of = record { call = call; member = record { of = of; there = inr ended_now }; at = refl }

  -- a first end stays
  pub first_stays : (w : Call) (e : ℕ) → IsFirstEnd part (ReadsBy part source) row w (Some e)
      → IsFirstEnd part (ReadsBy part source) place w (Some e)
  first_stays w e is = (
    ends_later part source row place le w e is.0,
    λ p h. elim (ends_split w p h) [
      | inl r ↦ is.1 p r
      | inr n ↦ (let by = is.0.ended.by in let at = is.0.at in let after = o.after in omega (arith, n.1))
    ],
  )

  -- another family's zone is as it was
  pub not_of : (w : Call) → (IsOfFamily part (ReadsBy part source) w call → ⊥) → IsSame part source row place w
  not_of w other = record {
    first = first_stays w;
    back = λ e is. (
      elim (ends_split w e is.0) [ inl r ↦ r | inr n ↦ absurd (other n.0) ],
      λ p h. is.1 p (ends_later part source row
          place le w p h),
    );
    begins = λ b h. elim (begins_split w b h) [ inl r ↦ r | inr n ↦ absurd (other n.0) ];
    none = λ is p h. elim (ends_split w p h) [ inl r ↦ is p r | inr n ↦ absurd (other n.0) ];
  }

  -- and that of a write's family which had an end
  pub had_end : (p : ℕ) → EndsAt part (ReadsBy part source) row call p → IsSame part source row place call
  had_end p ended = record {
    first = first_stays call;
    back = λ e is. (
      elim (ends_split call e is.0) [
        | inl r ↦ r
        | inr n ↦ (let low = is.1 p (ends_later part source row place le call p ended) in let by = ended.ended.by in let at = ended.at in
            let after = o.after in absurd (omega (arith, n.1)))
      ],
      λ q h. is.1 q (ends_later part source row place le call q h),
    );
    begins = λ b h. elim (begins_split call b h) [
      | inl r ↦ r
      | inr n ↦ record { call = call; member = record { of = n.0; there = inl refl }; at = sym n.1 }
    ];
    none = λ is. absurd (is p ended);
  }

  apart_not : (w family : Call) → IsOfFamily part (ReadsBy part source) family call → w ≢ family
      → IsOfFamily part (ReadsBy part source) w call → ⊥
  apart_not w family of other is = other (one_family part source sequence sound w family call is of)

  pub others_same : (family : Call) → IsOfFamily part (ReadsBy part source) family call → (w : Call) → w ≢ family
      → IsSame part source row place w
  others_same family of w other = not_of w (apart_not w family of other)

  -- the last begin of its family
  last_now : (family : Call) (last : ℕ) → IsOfFamily part (ReadsBy part source) family call
      → IsLastBegin part (ReadsBy part source) row family last → IsLastBegin part (ReadsBy part source) place family (max last
      call.invoked)
  last_now family last of is = elim (cases_lt last call.invoked) [
    | inl less ↦
        let here : call.invoked ≡ max last call.invoked = omega arith in (
          subst (BeginsAt part (ReadsBy part source) place family) here (begins_now family of),
          λ b h. elim (begins_split family b h) [ inl r ↦ (let low = is.1 b r in omega arith) | inr n ↦ omega (arith, n.1) ],
        )
    | inr more ↦
        let here : last ≡ max last call.invoked = omega arith in (
          subst (BeginsAt part (ReadsBy part source) place family) here (begins_later part source row place le family last is.0),
          λ b h. elim (begins_split family b h) [ inl r ↦ (let low = is.1 b r in omega arith) | inr n ↦ omega (arith, n.1) ],
        )
  ]

  -- a family that had no end has a zone from now on
  pub first_zone : (family : Call) (last : ℕ) → Contains part family → IsOfFamily part (ReadsBy part source) family call
      → IsFirstEnd part (ReadsBy part source) row family None → IsLastBegin part (ReadsBy part source) row family last
      → HasZoneOf part (ReadsBy part source) place family place (max last call.invoked)
  first_zone family last there of none is = record {
    recorded = there;
    writes = of.writes;
    first = (ends_now family of, λ p h. elim (ends_split family p h) [ inl r ↦ absurd (none p r) | inr n ↦ omega (arith, n.1) ]);
    begins = last_now family last of is;
  }

  -- one that had an end began last no earlier
  pub later_zone : (family : Call) (end last : ℕ) → IsOfFamily part (ReadsBy part source) family call
      → HasZoneOf part (ReadsBy part source) row family end last → HasZoneOf part (ReadsBy part source) place family end (max last
      call.invoked)
  later_zone family end last of z = record {
    recorded = z.recorded;
    writes = z.writes;
    first = first_stays family end z.first;
    begins =
        last_now family last of z.begins;
  }

  -- no two families are opposed, if none overwrites the read's before it began
  module _ (begun : (other : Call) → Contains part other → other.invoked ≤ row) (free : IsFree part (ReadsBy part source) row) (fresh :
      (w x : Call) → ReadsBy part source w call → IsOverwrittenBy part (ReadsBy part source) row call.invoked x w → ⊥) where
    is_call : (w read : Call) → IsReadAfter part (ReadsBy part source) row place w read → read ≡ call
    is_call w read r = elim (o.others read r.reads.recorded (record { response = r.response; responds = r.responds; by = r.by })) [
      | inl same ↦ same
      | inr a ↦ (let same = same_end read row r.response r.responds a in let by = a.by in let after = r.after in absurd (omega arith))
    ]

    write_there : (w first : Call) → IsOfFamily part (ReadsBy part source) w first → w.invoked ≤ row
    write_there w first of = begun w (write_recorded part (ReadsBy part source) sequence sound w first of)

    -- what precedes the family of the call only now overwrites it
    newly : (x y : Call) → x ≢ y → (m : MustPrecedeBy part (ReadsBy part source) place x y)
        → IsReadAfter part (ReadsBy part source) row place y m.second → MustPrecedeBy part (ReadsBy part source) row y x → ⊥
    newly x y apart m r back =
        let same = is_call y m.second r in
        let less = m.precedes.2 in
        let end = same_end m.first place m.precedes.0 m.precedes.1 m.ended in
        let begins : m.second.invoked ≡ call.invoked = ap (λ (c : Call). c.invoked) same in
        let began = o.began in
        fresh y x (subst (ReadsBy part source y) same r.reads) (record {
          apart = λ e. apart (sym e);
          precedes = back;
          call = m.first;
          of = m.of_x;
          ended = record { response = m.ended.response; responds = m.ended.responds; by = omega arith };
          before = omega arith;
        })

    pub opposes_none : IsFree part (ReadsBy part source) place
    opposes_none h =
        let x = h.0 in
        let y = h.1 in
        let p = h.2 in
        elim (precedes_or_later part (ReadsBy part source) sequence sound row place x y (write_there y p.back.first p.back.of_x) p.there) [
          | inl there ↦ elim (precedes_or_later part (ReadsBy part source) sequence sound row place y x (write_there x p.there.first
              p.there.of_x) p.back) [
                | inl back ↦ free (x, y, record { apart = p.apart; there = there; back = back })
                | inr r ↦ newly y x (λ e. p.apart (sym e)) p.back r there
              ]
          | inr r ↦ elim (precedes_or_later part (ReadsBy part source) sequence sound row place y x (write_there x p.there.first
              p.there.of_x) p.back) [
                | inl back ↦ newly x y p.apart p.there r back
                | inr q ↦
                    let one = is_call y p.there.second r in
                    let two = is_call x p.back.second q in
                    let of_y = subst (ReadsBy part source y) one r.reads in
                    let of_x = subst (ReadsBy part source x) two q.reads in
                    p.apart (one_family part source sequence sound x y call (record {
                      recorded = o.recorded;
                      writes = p.there.of_x.writes;
                      belongs = inr of_x;
                    }) (record { recorded = o.recorded; writes = p.back.of_x.writes; belongs = inr of_y }))
              ]
        ]
