-- Each family of a part has a zone.
use Rattle.std.proofs.Common.{ℕ, zero, suc, ◌≡◌, ◌≢◌, ◌≤◌, ◌⊎◌, inl, inr, List, [], ◌∷◌, Option, Some, None, length, ap, sym, ◌∙◌, subst, refl, arith}
use Rattle.std.specs.List.{slice_get, Contains}
use Rattle.std.proofs.lemmas.Bool.{cases_lt, cases_eq}
use Rattle.std.proofs.lemmas.Option.{same_Some, none-some}
use Rattle.tag.proofs.Lists.{place_of, Contains-slice_get}
use Rattle.recorder.specs.declared.part.Call.{Call}
use Rattle.recorder.specs.declared.part.Response.{Response}
use Rattle.recorder.specs.Parts.{IsSequence}
use Rattle.recorder.specs.Sound.{IsRead, IsWrite}
use Rattle.recorder.proofs.Sequences.{same_call}
use Rattle.value_order.specs.Families.{IsOfFamily, IsAnsweredBy, IsMemberBy}
use Rattle.value_order.specs.Tables.{ReadsBy}
use Rattle.value_order.specs.Zones.{BeginsAt, IsFirstEnd, IsZone, AreZones, IsLastRow, Cross}
use Rattle.value_order.proofs.CallKinds.{read_or_write, not_both}
use Rattle.kept_families.specs.SoundTables.{AreReads}
use Rattle.kept_families.proofs.Sorting.{In, in_none, in_more, in_split}

-- what two of a kind are related by
abbrev pub Kind : {X : Type 0} → (X → X → Type 0) → Type 0
Kind {X} related = X

-- zones, which have no name outside their crate
abbrev pub Zone : Type 0
Zone = Kind Cross

-- a list with something for each element of another
pub record Beside {X Y : Type 0} (P : X → Y → Type 0) (xs : List X) : Type 0 where
  pub ys : List Y
  pub all : length ys ≡ length xs
  pub each : (i : ℕ) (x : X) (y : Y) → slice_get xs i ≡ Some x → slice_get ys i ≡ Some y → P x y

beside_more : {X Y : Type 0} (P : X → Y → Type 0) (x : X) (xs : List X) (y : Y) → P x y → (b : Beside P xs) → (i : ℕ) (a : X) (c : Y) → slice_get (x ∷ xs) i ≡ Some a → slice_get (y ∷ b.ys) i ≡ Some c → P a c
beside_more P x xs y h b zero a c at_a at_c = subst (P a) (same_Some y c at_c) (subst (λ z. P z y) (same_Some x a at_a) h)
beside_more P x xs y h b (suc i) a c at_a at_c = b.each i a c at_a at_c

pub beside : {X Y : Type 0} (P : X → Y → Type 0) (xs : List X) → ((x : X) → Contains xs x → (y : Y) × P x y) → Beside P xs
beside P [] has = record { ys = []; all = refl; each = λ i x y at_x at_y. absurd (none-some x at_x) }
beside P (x ∷ xs) has =
    let h = has x (Contains-slice_get (x ∷ xs) 0 x refl) in
    let rest = beside P xs (λ z there. (let i = place_of xs z there in has z (Contains-slice_get (x ∷ xs) (suc i.0) z i.1))) in
    record { ys = h.0 ∷ rest.ys; all = ap suc rest.all; each = beside_more P x xs h.0 h.1 rest }

module _ (part : List Call) (source : ℕ → Option ℕ) (sequence : IsSequence part) (sound : AreReads part (ReadsBy part source)) (row : ℕ) (last : IsLastRow part row) where
  abbrev Of : Call → Call → Type 0
  Of write call = IsOfFamily part (ReadsBy part source) write call

  module _ (write : Call) (there : Contains part write) (is : IsWrite write) where
    -- a call is of the family, or it isn't
    by_entry : (call : Call) → Contains part call → call.op.0 ≢ write.op.0 → (o : Option ℕ) → source call.op.0 ≡ o → Of write call ⊎ (Of write call → ⊥)
    by_entry call in_part other None e = inr (λ of. elim of.belongs [
      | inl same ↦ other (ap (λ (c : Call). c.op.0) same)
      | inr reads ↦ none-some write.op.0 (sym e ∙ reads.is)
    ])
    by_entry call in_part other (Some t) e = elim (cases_eq t write.op.0) [
      | inl same ↦ inl (record { recorded = in_part; writes = is; belongs = inr (record { written = there; recorded = in_part; is = e ∙ ap Some same }) })
      | inr apart ↦ inr (λ of. elim of.belongs [
        | inl same ↦ other (ap (λ (c : Call). c.op.0) same)
        | inr reads ↦ apart (same_Some t write.op.0 (sym e ∙ reads.is))
      ])
    ]

    of_or : (call : Call) → Contains part call → Of write call ⊎ (Of write call → ⊥)
    of_or call in_part = elim (cases_eq call.op.0 write.op.0) [
      | inl same ↦ inl (record { recorded = in_part; writes = is; belongs = inl (same_call part sequence call write in_part there same) })
      | inr other ↦ by_entry call in_part other (source call.op.0) refl
    ]

    -- the call is of the family and ended there
    record EndOf (call : Call) (place : ℕ) : Type 0 where
      of : Of write call
      ended : IsAnsweredBy row call
      at : ended.response.place ≡ place

    end_by : (call : Call) → Contains part call → Of write call → (o : Option Response) → call.response ≡ o → ((p : ℕ) × EndOf call p) ⊎ ((p : ℕ) → EndOf call p → ⊥)
    end_by call in_part of None e = inr (λ p h. none-some h.ended.response (sym e ∙ h.ended.responds))
    end_by call in_part of (Some r) e = inl (r.place, record { of = of; ended = record { response = r; responds = e; by = last call r in_part e }; at = refl })

    end_or : (call : Call) → Contains part call → ((p : ℕ) × EndOf call p) ⊎ ((p : ℕ) → EndOf call p → ⊥)
    end_or call in_part = elim (of_or call in_part) [ inl of ↦ end_by call in_part of call.response refl | inr other ↦ inr (λ p h. other h.of) ]

    one_end : (call : Call) (p q : ℕ) → EndOf call p → EndOf call q → p ≡ q
    one_end call p q a b =
        let same : a.ended.response ≡ b.ended.response = same_Some a.ended.response b.ended.response (sym a.ended.responds ∙ b.ended.responds) in
        let place : a.ended.response.place ≡ b.ended.response.place = ap (λ (r : Response). r.place) same in
        omega (arith, a.at, b.at)

    -- the first end of these calls
    abbrev FirstOf : List Call → Option ℕ → Type 0
    FirstOf calls None = (call : Call) (p : ℕ) → In calls call → EndOf call p → ⊥
    FirstOf calls (Some e) = ((call : Call) × EndOf call e) × ((call : Call) (p : ℕ) → In calls call → EndOf call p → e ≤ p)

    first_same : (x : Call) (xs : List Call) (o : Option ℕ) → ((p : ℕ) → EndOf x p → ⊥) → FirstOf xs o → FirstOf (x ∷ xs) o
    first_same x xs None never f = λ call p i h. elim (in_split x xs call i) [ inl same ↦ never p (subst (λ (c : Call). EndOf c p) (sym same) h) | inr j ↦ f call p j h ]
    first_same x xs (Some e) never f = (f.0, λ call p i h. elim (in_split x xs call i) [ inl same ↦ absurd (never p (subst (λ (c : Call). EndOf c p) (sym same) h)) | inr j ↦ f.1 call p j h ])

    first_more : (x : Call) (xs : List Call) (p : ℕ) → EndOf x p → (o : Option ℕ) → FirstOf xs o → (n : Option ℕ) × FirstOf (x ∷ xs) n
    first_more x xs p h None f = (
      Some p,
      (
        (x, h),
        λ call q i g. elim (in_split x xs call i) [
          | inl same ↦ (let e = one_end call p q (subst (λ (c : Call). EndOf c p) same h) g in omega arith)
          | inr j ↦ absurd (f call q j g)
        ],
      ),
    )
    first_more x xs p h (Some e) f = elim (cases_lt p e) [
      | inl less ↦ (
        Some p,
        (
          (x, h),
          λ call q i g. elim (in_split x xs call i) [
            | inl same ↦ (let e = one_end call p q (subst (λ (c : Call). EndOf c p) same h) g in omega arith)
            | inr j ↦ (let low = f.1 call q j g in omega arith)
          ],
        ),
      )
      | inr more ↦ (
        Some e,
        (
          f.0,
          λ call q i g. elim (in_split x xs call i) [
            | inl same ↦ (let e = one_end call p q (subst (λ (c : Call). EndOf c p) same h) g in omega arith)
            | inr j ↦ f.1 call q j g
          ],
        ),
      )
    ]

    first_of : (calls : List Call) → ((call : Call) → In calls call → Contains part call) → (o : Option ℕ) × FirstOf calls o
    first_of [] sub = (None, λ call p i h. in_none call i)
    first_of (x ∷ xs) sub =
        let rest = first_of xs (λ call i. sub call (in_more x xs call i)) in
        elim (end_or x (sub x (0, refl))) [ inl e ↦ first_more x xs e.0 e.1 rest.0 rest.1 | inr never ↦ (rest.0, first_same x xs rest.0 never rest.1) ]

    first_end_by : (o : Option ℕ) → FirstOf part o → IsFirstEnd part (ReadsBy part source) row write o
    first_end_by None f = λ place e. f e.call place (place_of part e.call e.of.recorded) (record { of = e.of; ended = e.ended; at = e.at })
    first_end_by (Some e) f = (record { call = f.0.0; of = f.0.1.of; ended = f.0.1.ended; at = f.0.1.at }, λ place g. f.1 g.call place (place_of part g.call g.of.recorded) (record { of = g.of; ended = g.ended; at = g.at }))

    -- the last begin of these calls
    record LastOf (calls : List Call) (n : ℕ) : Type 0 where
      begins : BeginsAt part (ReadsBy part source) row write n
      greatest : (call : Call) → In calls call → IsMemberBy part (ReadsBy part source) row write call → call.invoked ≤ n

    member : (call : Call) → Of write call → IsMemberBy part (ReadsBy part source) row write call
    member call of = record {
      of = of;
      there = elim of.belongs [
        | inl same ↦ inl same
        | inr reads ↦ (let a = (sound.each write call reads).writer.answered in inr (record { response = a.response; responds = a.responds; by = last call a.response of.recorded a.responds }))
      ];
    }

    last_more : (x : Call) (xs : List Call) (n : ℕ) → Of write x → LastOf xs n → (m : ℕ) × LastOf (x ∷ xs) m
    last_more x xs n of l = elim (cases_lt n x.invoked) [
      | inl less ↦ (
        x.invoked,
        record {
          begins = record { call = x; member = member x of; at = refl };
          greatest = λ call i m. elim (in_split x xs call i) [
            | inl same ↦ (let e : x.invoked ≡ call.invoked = ap (λ (c : Call). c.invoked) same in omega arith)
            | inr j ↦ (let low = l.greatest call j m in omega arith)
          ];
        },
      )
      | inr more ↦ (
        n,
        record {
          begins = l.begins;
          greatest = λ call i m. elim (in_split x xs call i) [
            | inl same ↦ (let e : x.invoked ≡ call.invoked = ap (λ (c : Call). c.invoked) same in omega arith)
            | inr j ↦ l.greatest call j m
          ];
        },
      )
    ]

    last_of : (calls : List Call) → ((call : Call) → In calls call → Contains part call) → (n : ℕ) × LastOf calls n
    last_of [] sub = (write.invoked, record { begins = record { call = write; member = record { of = record { recorded = there; writes = is; belongs = inl refl }; there = inl refl }; at = refl }; greatest = λ call i m. absurd (in_none call i) })
    last_of (x ∷ xs) sub =
        let rest = last_of xs (λ call i. sub call (in_more x xs call i)) in
        elim (of_or x (sub x (0, refl))) [
          | inl of ↦ last_more x xs rest.0 of rest.1
          | inr other ↦ (
            rest.0,
            record {
              begins = rest.1.begins;
              greatest = λ call i m. elim (in_split x xs call i) [
                | inl same ↦ absurd (other (subst (Of write) (sym same) m.of))
                | inr j ↦ rest.1.greatest call j m
              ];
            },
          )
        ]

    zone_of : (zone : Zone) × IsZone part (ReadsBy part source) row write zone
    zone_of =
        let sub : (call : Call) → In part call → Contains part call = λ call i. Contains-slice_get part i.0 call i.1 in
        let f = first_of part sub in
        let l = last_of part sub in (
          record { first_end = f.0; last_begin = l.0 },
          record {
            first = first_end_by f.0 f.1;
            last = (l.1.begins, λ place b. (let low = l.1.greatest b.call (place_of part b.call b.member.of.recorded) b.member in omega (arith, b.at)));
          },
        )

  -- the zone of a call
  record ZoneFor (call : Call) (zone : Zone) : Type 0 where
    writes : IsWrite call → IsZone part (ReadsBy part source) row call zone
    reads : IsRead call → zone.first_end ≡ None

  zone_for : (call : Call) → Contains part call → (zone : Zone) × ZoneFor call zone
  zone_for call there = elim (read_or_write call) [
    | inl read ↦ (record { first_end = None; last_begin = 0 }, record { writes = λ write. absurd (not_both call read write); reads = λ r. refl })
    | inr write ↦ (let z = zone_of call there write in (z.0, record { writes = λ w. z.1; reads = λ read. absurd (not_both call read write) }))
  ]

  pub zones_exist : (zones : List Zone) × AreZones part (ReadsBy part source) row zones
  zones_exist =
      let b = beside ZoneFor part zone_for in (
        b.ys,
        record {
          all = b.all;
          writes = λ k write zone at is here. (b.each k write zone at here).writes is;
          reads = λ k read zone at is here. (b.each k read zone at here).reads is;
        },
      )
