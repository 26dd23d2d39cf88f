-- Two zones cross exactly if one of them shows it at a begin, from the last call back, to the zone that is nearest above.
use Rattle.std.proofs.Common.{ℕ, ◌≡◌, ◌≢◌, ◌<◌, ◌≤◌, ◌+◌, ◌*◌, ◌⊎◌, inl, inr, min, List, Option, Some, None, length, sym, ◌∙◌, ap, subst, refl, arith}
use Rattle.std.specs.List.{slice_get}
use Rattle.std.proofs.lemmas.Bool.{cases_lt, cases_eq}
use Rattle.std.proofs.lemmas.Option.{same_Some, slice_get_within, none-some}
use Rattle.tag.proofs.Lists.{place_of, get_at}
use Rattle.recorder.specs.declared.part.Call.{Call}
use Rattle.recorder.specs.Parts.{IsSequence}
use Rattle.value_order.specs.declared.sources.Source.{Source}
use Rattle.value_order.specs.declared.zones.Zone.{Zone}
use Rattle.value_order.specs.Crossing.{IsWithin}
use Rattle.value_order.specs.Sources.{AreSources, family_of}
use Rattle.value_order.specs.Writers.{IsOnlyWriter}
use Rattle.value_order.specs.Zones.{AreZones, Cross, CrossAt, NoneCross}
use Rattle.value_order.proofs.CallKinds.{read_or_write}
use Rattle.value_order.proofs.SortLists.{family_is}

-- of two families the one that ranks no lower ends before the other's last begin: then the other does too
pub cross_by_rank : (end_a last_a end_b last_b : ℕ) → min (2 * last_a + 1) (2 * end_a + 2) ≤ min (2 * last_b + 1) (2 * end_b + 2) → end_b < last_a → end_a < last_b
cross_by_rank end_a last_a end_b last_b low less = omega arith

-- ---- zones of a list

one_zone : (zones : List Zone) (k m : ℕ) (a b : Zone) → k ≡ m → slice_get zones k ≡ Some a → slice_get zones m ≡ Some b → a ≡ b
one_zone zones k m a b same at_a at_b = same_Some a b (sym at_a ∙ (ap (slice_get zones) same ∙ at_b))

one_end : (a b : Zone) (e f : ℕ) → a ≡ b → a.first_end ≡ Some e → b.first_end ≡ Some f → e ≡ f
one_end a b e f same p q = same_Some e f (sym p ∙ (ap (λ (z : Zone). z.first_end) same ∙ q))

-- two zones of the list
pub cross_at : (zones : List Zone) (k m : ℕ) (a b : Zone) → k ≢ m → slice_get zones k ≡ Some a → slice_get zones m ≡ Some b → Cross a b → CrossAt zones k m
cross_at zones k m a b apart at_k at_m c = record { a = a; b = b; end_a = c.0; end_b = c.1; apart = apart; at_a = at_k; at_b = at_m; ends_a = c.2; ends_b = c.3; there = c.4; back = c.5 }

pub crossed : (zones : List Zone) (k m : ℕ) (a b : Zone) → slice_get zones k ≡ Some a → slice_get zones m ≡ Some b → CrossAt zones k m → Cross a b
crossed zones k m a b at_k at_m c =
    let same_a = one_zone zones k k c.a a refl c.at_a at_k in
    let same_b = one_zone zones m m c.b b refl c.at_b at_m in
    let last_a : c.a.last_begin ≡ a.last_begin = ap (λ (z : Zone). z.last_begin) same_a in
    let last_b : c.b.last_begin ≡ b.last_begin = ap (λ (z : Zone). z.last_begin) same_b in
    (c.end_a, c.end_b, ap (λ (z : Zone). z.first_end) (sym same_a) ∙ c.ends_a, ap (λ (z : Zone). z.first_end) (sym same_b) ∙ c.ends_b, omega (arith, c.there), omega (arith, c.back))

abbrev flipped : (zones : List Zone) (k m : ℕ) → CrossAt zones k m → CrossAt zones m k
flipped zones k m c = record { a = c.b; b = c.a; end_a = c.end_b; end_b = c.end_a; apart = λ e. c.apart (sym e); at_a = c.at_b; at_b = c.at_a; ends_a = c.ends_b; ends_b = c.ends_a; there = c.back; back = c.there }

abbrev moved : (zones : List Zone) (a b f : ℕ) → b ≡ f → CrossAt zones a b → CrossAt zones a f
moved zones a b f e c = record { a = c.a; b = c.b; end_a = c.end_a; end_b = c.end_b; apart = λ same. c.apart (same ∙ sym e); at_a = c.at_a; at_b = ap (slice_get zones) (sym e) ∙ c.at_b; ends_a = c.ends_a; ends_b = c.ends_b; there = c.there; back = c.back }

-- ---- begins of families

-- the call of index i is of family k, and began at that place
pub record Begins (part : List Call) (sources : List Source) (i k place : ℕ) : Type 0 where
  pub call : Call
  pub at : slice_get part i ≡ Some call
  pub begun : call.invoked ≡ place
  pub from : Source
  pub named : slice_get sources i ≡ Some from
  pub of : family_of i from ≡ Some k

-- it began within its family's zone
pub record BeginsWithin (part : List Call) (sources : List Source) (zones : List Zone) (i k : ℕ) : Type 0 where
  pub place : ℕ
  pub begins : Begins part sources i k place
  pub zone : Zone
  pub at : slice_get zones k ≡ Some zone
  pub within : IsWithin zone place

-- the zone of g ends no sooner than that of h begins for the last time
pub record IsOver (zones : List Zone) (g h : ℕ) : Type 0 where
  pub a : Zone
  pub b : Zone
  pub end : ℕ
  pub at_a : slice_get zones g ≡ Some a
  pub at_b : slice_get zones h ≡ Some b
  pub ends : a.first_end ≡ Some end
  pub over : b.last_begin ≤ end

-- of the calls from index i on: `nearest` is the family of the first that began within its zone; the zones of others that did are over
-- by the last begin of that one; and a zone that begins there for the last time isn't crossed by one that does so later
pub record IsScanned (part : List Call) (sources : List Source) (zones : List Zone) (i : ℕ) (nearest : Option ℕ) : Type 0 where
  pub own : (h : ℕ) → nearest ≡ Some h → (j : ℕ) × (i ≤ j) × BeginsWithin part sources zones j h
  pub over : (j g : ℕ) → i ≤ j → BeginsWithin part sources zones j g → (h : ℕ) × (nearest ≡ Some h) × ((g ≡ h) ⊎ IsOver zones g h)
  pub clear : (j b : ℕ) (zone : Zone) → i ≤ j → slice_get zones b ≡ Some zone → Begins part sources j b zone.last_begin → (a : ℕ) (c : CrossAt zones a b) → zone.last_begin < c.a.last_begin → ⊥

module _ (part : List Call) (sequence : IsSequence part) (sources : List Source) where
  -- a call is of one family
  one_begun : (i j k m p q : ℕ) → i ≡ j → Begins part sources i k p → Begins part sources j m q → (k ≡ m) × (p ≡ q)
  one_begun i j k m p q here a b =
      let call : a.call ≡ b.call = same_Some a.call b.call (sym a.at ∙ (ap (slice_get part) here ∙ b.at)) in
      let from : a.from ≡ b.from = same_Some a.from b.from (sym a.named ∙ (ap (slice_get sources) here ∙ b.named)) in
      let of : family_of i a.from ≡ Some m = ap (family_of i) from ∙ (ap (λ (x : ℕ). family_of x b.from) here ∙ b.of) in
      (same_Some k m (sym a.of ∙ of), sym a.begun ∙ (ap (λ (c : Call). c.invoked) call ∙ b.begun))

  -- a call that began later has a greater index
  later_index : (i j k m p q : ℕ) → Begins part sources i k p → Begins part sources j m q → p < q → i < j
  later_index i j k m p q a b less = elim (cases_lt i j) [
    | inl h ↦ h
    | inr h ↦ elim (cases_eq i j) [
      | inl same ↦ absurd (let e : p ≡ q = (one_begun i j k m p q same a b).1 in omega arith)
      | inr other ↦ absurd (let up : b.call.invoked < a.call.invoked = sequence.places j i b.call a.call (omega (arith, h, other)) b.at a.at in omega (arith, a.begun, b.begun))
    ]
  ]

  later_place : (i j k m p q : ℕ) → Begins part sources i k p → Begins part sources j m q → i < j → p < q
  later_place i j k m p q a b less = (let up : a.call.invoked < b.call.invoked = sequence.places i j a.call b.call less a.at b.at in omega (arith, a.begun, b.begun))

  module _ (are_sources : AreSources part sources) (zones : List Zone) (row : ℕ) (are : AreZones part (IsOnlyWriter part) row zones) where
    -- a zone that has an end has its last begin at a call of its family
    last_begins : (k : ℕ) (zone : Zone) (end : ℕ) → slice_get zones k ≡ Some zone → zone.first_end ≡ Some end → (i : ℕ) × Begins part sources i k zone.last_begin
    last_begins k zone end at ends =
        let write = get_at part k (omega (arith, slice_get_within zones k zone at, are.all)) in
        elim (read_or_write write.0) [
          | inl reads ↦ absurd (none-some end (sym (are.reads k write.0 zone write.1 reads at) ∙ ends))
          | inr writes ↦
              let last = (are.writes k write.0 zone write.1 writes at).last.0 in
              let i = place_of part last.call last.member.of.recorded in
              let from = get_at sources i.0 (omega (arith, slice_get_within part i.0 last.call i.1, are_sources.all)) in
              (i.0, record { call = last.call; at = i.1; begun = last.at; from = from.0; named = from.1; of = family_is part sequence i.0 k last.call write.0 from.0 i.1 write.1 (are_sources.each i.0 last.call from.0 i.1 from.1) last.member.of })
        ]

    -- ---- the scan, from the last call back

    pub scanned_none : (n : ℕ) → length part ≤ n → IsScanned part sources zones n None
    scanned_none n past = record {
      own = λ h e. absurd (none-some h e);
      over = λ j g le w. absurd (let small = slice_get_within part j w.begins.call w.begins.at in omega arith);
      clear = λ j b zone le at begins a c less. let small = slice_get_within part j begins.call begins.at in omega arith;
    }

    module _ (n : ℕ) (nearest : Option ℕ) (was : IsScanned part sources zones (n + 1) nearest) where
      old_own : (h : ℕ) → nearest ≡ Some h → (j : ℕ) × (n ≤ j) × BeginsWithin part sources zones j h
      old_own h e = (let o = was.own h e in (o.0, omega (arith, o.1), o.2))

      -- a call of no family
      pub scanned_same : ((k place : ℕ) → Begins part sources n k place → ⊥) → IsScanned part sources zones n nearest
      scanned_same none = record {
        own = old_own;
        over = λ j g le w. elim (cases_lt n j) [
          | inl h ↦ was.over j g (omega arith) w
          | inr h ↦ (let here : j ≡ n = omega arith in absurd (none g w.place (subst (λ (x : ℕ). Begins part sources x g w.place) here w.begins)))
        ];
        clear = λ j b zone le at begins a c less. elim (cases_lt n j) [
          | inl h ↦ was.clear j b zone (omega arith) at begins a c less
          | inr h ↦ (let here : j ≡ n = omega arith in none b zone.last_begin (subst (λ (x : ℕ). Begins part sources x b zone.last_begin) here begins))
        ];
      }

      module _ (f place : ℕ) (here : Begins part sources n f place) (zone : Zone) (at : slice_get zones f ≡ Some zone) (free : (other : ℕ) → nearest ≡ Some other → CrossAt zones other f → ⊥) where
        -- what begins there for the last time isn't crossed by a zone that does so later: that would be the nearest
        clear_here : place ≡ zone.last_begin → (a : ℕ) (c : CrossAt zones a f) → zone.last_begin < c.a.last_begin → ⊥
        clear_here last a c less =
            let same = one_zone zones f f c.b zone refl c.at_b at in
            let last_b : c.b.last_begin ≡ zone.last_begin = ap (λ (z : Zone). z.last_begin) same in
            let j = last_begins a c.a c.end_a c.at_a c.ends_a in
            let later = later_index n j.0 f a place c.a.last_begin here j.1 (omega (arith, last)) in
            let w : BeginsWithin part sources zones j.0 a = record { place = c.a.last_begin; begins = j.1; zone = c.a; at = c.at_a; within = (c.end_a, c.ends_a, omega (arith, c.there), omega arith) } in
            let o = was.over j.0 a (omega arith) w in
            elim o.2 [
              | inl own ↦ free a (o.1 ∙ ap Some (sym own)) c
              | inr over ↦
                  let m = was.own o.0 o.1 in
                  let up = later_place n m.0 f o.0 place m.2.place here m.2.begins (omega (arith, m.1)) in
                  let same_a = one_zone zones a a over.a c.a refl over.at_a c.at_a in
                  let end : over.end ≡ c.end_a = one_end over.a c.a over.end c.end_a same_a over.ends c.ends_a in
                  let same_h = one_zone zones o.0 o.0 over.b m.2.zone refl over.at_b m.2.at in
                  let last_h : over.b.last_begin ≡ m.2.zone.last_begin = ap (λ (z : Zone). z.last_begin) same_h in
                  omega (arith, over.over, m.2.within.3, c.there, last)
            ]

        clear_more : (j b : ℕ) (z : Zone) → n ≤ j → slice_get zones b ≡ Some z → Begins part sources j b z.last_begin → (a : ℕ) (c : CrossAt zones a b) → z.last_begin < c.a.last_begin → ⊥
        clear_more j b z le at_b begins a c less = elim (cases_lt n j) [
          | inl h ↦ was.clear j b z (omega arith) at_b begins a c less
          | inr h ↦
              let e : j ≡ n = omega arith in
              let one = one_begun j n b f z.last_begin place e begins here in
              let same = one_zone zones b f z zone one.0 at_b at in
              let last : z.last_begin ≡ zone.last_begin = ap (λ (x : Zone). x.last_begin) same in
              clear_here (sym one.1 ∙ last) a (moved zones a b f one.0 c) (omega (arith, last))
        ]

        -- a call that began outside of its family's zone
        pub scanned_outside : (IsWithin zone place → ⊥) → IsScanned part sources zones n nearest
        scanned_outside outside = record {
          own = old_own;
          over = λ j g le w. elim (cases_lt n j) [
            | inl h ↦ was.over j g (omega arith) w
            | inr h ↦
                let e : j ≡ n = omega arith in
                let one = one_begun j n g f w.place place e w.begins here in
                let same = one_zone zones g f w.zone zone one.0 w.at at in
                absurd (outside (subst (IsWithin zone) one.1 (subst (λ (z : Zone). IsWithin z w.place) same w.within)))
          ];
          clear = clear_more;
        }

        -- one that began within it
        pub scanned_within : IsWithin zone place → IsScanned part sources zones n (Some f)
        scanned_within inside = record {
          own = λ h e. (n, omega arith, subst (BeginsWithin part sources zones n) (same_Some f h e) own_here);
          over = λ j g le w. elim (cases_lt n j) [
            | inl h ↦ (f, refl, over_old j g h w)
            | inr h ↦ (let e : j ≡ n = omega arith in (f, refl, inl (one_begun j n g f w.place place e w.begins here).0))
          ];
          clear = clear_more;
        }
          where
            own_here : BeginsWithin part sources zones n f
            own_here = record { place = place; begins = here; zone = zone; at = at; within = inside }

            -- the zone that was nearest is over by now
            nearest_over : (h : ℕ) → nearest ≡ Some h → (h ≡ f → ⊥) → IsOver zones h f
            nearest_over h e other =
                let m = was.own h e in
                let up = later_place n m.0 f h place m.2.place here m.2.begins (omega (arith, m.1)) in
                elim (cases_lt m.2.within.0 zone.last_begin) [
                  | inl less ↦ absurd (free h e (record { a = m.2.zone; b = zone; end_a = m.2.within.0; end_b = inside.0; apart = other; at_a = m.2.at; at_b = at; ends_a = m.2.within.1; ends_b = inside.1; there = less; back = omega (arith, inside.2, m.2.within.3) }))
                  | inr more ↦ record { a = m.2.zone; b = zone; end = m.2.within.0; at_a = m.2.at; at_b = at; ends = m.2.within.1; over = more }
                ]

            over_old : (j g : ℕ) → n < j → BeginsWithin part sources zones j g → (g ≡ f) ⊎ IsOver zones g f
            over_old j g less w =
                let o = was.over j g (omega arith) w in
                elim (cases_eq o.0 f) [
                  | inl same ↦ elim o.2 [ inl own ↦ inl (own ∙ same) | inr over ↦ inr (subst (IsOver zones g) same over) ]
                  | inr other ↦
                      let by = nearest_over o.0 o.1 other in
                      elim o.2 [
                        | inl own ↦ inr (subst (λ (x : ℕ). IsOver zones x f) (sym own) by)
                        | inr over ↦
                            let m = was.own o.0 o.1 in
                            let same_b = one_zone zones o.0 o.0 over.b m.2.zone refl over.at_b m.2.at in
                            let last_b : over.b.last_begin ≡ m.2.zone.last_begin = ap (λ (z : Zone). z.last_begin) same_b in
                            let same_a = one_zone zones o.0 o.0 by.a m.2.zone refl by.at_a m.2.at in
                            let end : by.end ≡ m.2.within.0 = one_end by.a m.2.zone by.end m.2.within.0 same_a by.ends m.2.within.1 in
                            inr (record { a = over.a; b = by.b; end = over.end; at_a = over.at_a; at_b = by.at_b; ends = over.ends; over = omega (arith, over.over, by.over, m.2.within.2, m.2.within.3) })
                      ]
                ]

    -- after all calls none cross
    pub none_cross : (nearest : Option ℕ) → IsScanned part sources zones 0 nearest → NoneCross zones
    none_cross nearest all k m c =
        let i = last_begins k c.a c.end_a c.at_a c.ends_a in
        let j = last_begins m c.b c.end_b c.at_b c.ends_b in
        elim (cases_lt c.b.last_begin c.a.last_begin) [
          | inl h ↦ all.clear j.0 m c.b (omega arith) c.at_b j.1 k c h
          | inr h ↦ elim (cases_lt c.a.last_begin c.b.last_begin) [
            | inl g ↦ all.clear i.0 k c.a (omega arith) c.at_a i.1 m (flipped zones k m c) g
            | inr g ↦ elim (cases_lt i.0 j.0) [
              | inl less ↦ (let up = later_place i.0 j.0 k m c.a.last_begin c.b.last_begin i.1 j.1 less in omega arith)
              | inr more ↦ elim (cases_lt j.0 i.0) [
                | inl less ↦ (let up = later_place j.0 i.0 m k c.b.last_begin c.a.last_begin j.1 i.1 less in omega arith)
                | inr same ↦ c.apart (one_begun i.0 j.0 k m c.a.last_begin c.b.last_begin (omega arith) i.1 j.1).0
              ]
            ]
          ]
        ]
