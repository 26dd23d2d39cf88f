-- The zones of kept families, one after another.
use Rattle.std.proofs.Common.{ℕ, ◌≡◌, ◌⊎◌, inl, inr, true, List, [], ◌∷◌, ◌++◌, Option, Some, None, ap, sym, ◌∙◌, subst, refl, arith}
use Rattle.std.proofs.lemmas.Bool.{cases_eq}
use Rattle.std.proofs.lemmas.Grind.{common_steps}
use Rattle.std.proofs.lemmas.List.Elements.{Contains-append_cases, Contains-append_left, Contains-push, Contains-push_cases}
use Rattle.std.proofs.lemmas.Map.Views.{Contains-from_lookup}
use Rattle.std.proofs.lemmas.Option.{none-some, same_Some}
use Rattle.std.specs.BTreeMap.{is_at}
use Rattle.std.specs.List.{Contains}
use Rattle.std.specs.Option.{option_map}
use Rattle.std.specs.Ordering.{nat_cmp}
use Rattle.kept_zones.specs.Overwriting.{last_of}
use Rattle.key_monitor.specs.KeptWrites.{KeptWrite}
use Rattle.monitored_key.specs.declared.kept.Kept.{Kept}
use Rattle.monitored_key.specs.declared.kept_zone.KeptZone.{KeptZone}
use Rattle.monitored_key.specs.Held.{Held}
use Rattle.monitored_key.specs.WritesOf.{AreFit, rest_of}
use Rattle.monitored_key.specs.Kept.{seen}
use Rattle.monitored_key.specs.KeptZones.{HasAllZones, HasNoZone, IsZoneOf, Lists, ListsSlot}
use Rattle.monitored_key.specs.Listed.{ListsFew}
use Rattle.monitored_key.specs.Slots.{HasOtherNumber}
use Rattle.monitored_key.proofs.Front.{rest_entry}

-- where the write began, and its end
pub span_kept : (o : Option KeptWrite) (begin : ℕ) (end : Option ℕ) → option_map {U = ℕ × Option ℕ} (λ k. (k.begin, k.end)) o ≡ Some (begin, end)
    → (kept : KeptWrite) × (o ≡ Some kept) × (kept.begin ≡ begin) × (kept.end ≡ end)
span_kept None begin end e = let p : ℕ × Option ℕ = (begin, end) in absurd (none-some p e)
span_kept (Some kept) begin end e =
    let was : ℕ × Option ℕ = (kept.begin, kept.end) in
    let is : ℕ × Option ℕ = (begin, end) in
    let same = same_Some was is e in
    (kept, refl, ap (λ (p : ℕ × Option ℕ). p.0) same, ap (λ (p : ℕ × Option ℕ). p.1) same)

same_zone : (a b : KeptZone) → a.begin ≡ b.begin → a.end ≡ b.end → a.last ≡ b.last → a ≡ b
same_zone a b begin end last =
    ap (λ (x : ℕ). record { begin = x; end = a.end; last = a.last }) begin
    ∙ (ap (λ (x : ℕ). record { begin = b.begin; end = x; last = a.last }) end
    ∙ ap (λ (x : ℕ). record { begin = b.begin; end = b.end; last = x }) last)

-- a write has one zone
pub one_zone : (held : Held) (n : ℕ) (a b : KeptZone) → IsZoneOf held n a → IsZoneOf held n b → a ≡ b
one_zone held n a b f g =
    let kept : f.kept ≡ g.kept = same_Some f.kept g.kept (sym f.is ∙ g.is) in
    let begin : a.begin ≡ b.begin = sym f.begin ∙ (ap (λ (k : KeptWrite). k.begin) kept ∙ g.begin) in
    let end : a.end ≡ b.end = same_Some a.end b.end (sym f.ended ∙ (ap (λ (k : KeptWrite). k.end) kept ∙ g.ended)) in
    let last : a.last ≡ b.last = same_Some a.last b.last (sym f.last ∙ (ap (last_of held.known.zones) end ∙ g.last)) in
    same_zone a b begin end last

same_key : (k q : ℕ) → is_at (nat_cmp k) q ≡ true → k ≡ q
same_key k q e = grind (arith, common_steps)

-- what stands in a list stands in front or in the rest
in_cons : {X : Type 0} (y : X) (ys : List X) (x : X) → Contains (y ∷ ys) x → (y ≡ x) ⊎ Contains ys x
in_cons y ys x h = elim (Contains-append_cases (y ∷ []) ys x h) [
  | inl one ↦ elim (Contains-push_cases [] y x one) [ inl none ↦ absurd (omega (arith, none.1)) | inr same ↦ inl same ]
  | inr more ↦ inr more
]

-- each zone is in the list, or its write is among those that are left
abbrev pub AreListed : Held → List KeptZone → List (ℕ × ℕ) → Type 0
AreListed held list rest =
    (number : ℕ) (zone : KeptZone) → IsZoneOf held number zone → Contains list zone ⊎ Contains rest (zone.end, number)

-- at first those are left that the maps have
pub few_listed : (kept : Kept) (list : List KeptZone) → ListsFew kept list → AreListed (seen kept) list kept.writes.more.by_end.entries
few_listed kept list few number zone z = elim (few number zone z) [
  | inl there ↦ inl there
  | inr own ↦ inr (Contains-from_lookup same_key zone.end number kept.writes.more.by_end.entries own)
]

-- the zone of the next write is in the list, if it has one
pub next_listed : (held : Held) (list new : List KeptZone) (end number : ℕ) (rest : List (ℕ × ℕ)) → AreListed held list ((end, number) ∷ rest)
    → Lists held number list new → AreListed held new rest
next_listed held list new end number rest l h n zone z = elim (l n zone z) [
  | inl there ↦ inl (h.kept zone there)
  | inr left ↦ elim (in_cons (end, number) rest (zone.end, n) left) [
    | inl same ↦
        let number_is : n ≡ number = sym (ap (λ (p : ℕ × ℕ). p.1) same) in
        inl (h.zone zone (subst (λ m. IsZoneOf held m zone) number_is z))
    | inr more ↦ inr more
  ]
]

-- a zone is added to a list, or there is none
pub zone_listed : (held : Held) (number : ℕ) (list : List KeptZone) (new : KeptZone) → IsZoneOf held number new
    → Lists held number list (list ++ new ∷ [])
zone_listed held number list new is = record {
  kept = λ zone there. Contains-append_left list (new ∷ []) zone there;
  zone = λ zone own. subst (Contains (list ++ new ∷ [])) (one_zone held number new zone is own) (Contains-push list new);
}

pub none_listed : (held : Held) (number : ℕ) (list : List KeptZone) → HasNoZone held number → Lists held number list list
none_listed held number list none = record {
  kept = λ zone there. there;
  zone = λ zone own. absurd (none-some zone.end (sym (none own.kept own.is) ∙ own.ended));
}

-- the slots' writes are in the list, so the maps have the others
number_or : (slot : Option (ℕ × KeptWrite)) (n : ℕ) → (option_map {U = ℕ} (λ w. w.0) slot ≡ Some n) ⊎ HasOtherNumber slot n
number_or None n = inr tt
number_or (Some w) n = elim (cases_eq w.0 n) [ inl same ↦ inl (ap Some same) | inr apart ↦ inr apart ]

pub slot_kept : (held : Held) (o : Option ℕ) (old new : List KeptZone) → ListsSlot held o old new → (zone : KeptZone) → Contains old zone
    → Contains new zone
slot_kept held None old new h zone there = subst (λ (l : List KeptZone). Contains l zone) (sym h) there
slot_kept held (Some n) old new h zone there = h.kept zone there

pub slot_zone : (held : Held) (o : Option ℕ) (old new : List KeptZone) → ListsSlot held o old new → (n : ℕ) → o ≡ Some n → (zone : KeptZone)
    → IsZoneOf held n zone → Contains new zone
slot_zone held None old new h n e zone z = absurd (none-some n e)
slot_zone held (Some m) old new h n e zone z = h.zone zone (subst (λ k. IsZoneOf held k zone) (sym (same_Some m n e)) z)

pub few_by : (kept : Kept) → AreFit kept.writes → (list : List KeptZone)
    → ((n : ℕ) → option_map {U = ℕ} (λ w. w.0) kept.writes.first ≡ Some n → (zone : KeptZone) → IsZoneOf (seen kept) n zone → Contains list zone)
    → ((n : ℕ) → option_map {U = ℕ} (λ w. w.0) kept.writes.second ≡ Some n → (zone : KeptZone) → IsZoneOf (seen kept) n zone → Contains list zone)
    → ListsFew kept list
few_by kept fit list one two n zone z = elim (number_or kept.writes.first n) [
  | inl here ↦ inl (one n here zone z)
  | inr other ↦ elim (number_or kept.writes.second n) [
    | inl here ↦ inl (two n here zone z)
    | inr than ↦
        let w = kept.writes in
        let at = sym (rest_entry w.second w.more.by_number.entries n than)
        ∙ (sym (rest_entry w.first (rest_of w) n other) ∙ z.is) in
        inr (fit.mapped.owned n zone.end z.kept at z.ended)
  ]
]

-- at last none is left
pub all_listed : (held : Held) (list : List KeptZone) (rest : List (ℕ × ℕ)) → rest ≡ [] → AreListed held list rest → HasAllZones held list
all_listed held list rest e l n zone z = elim (l n zone z) [
  | inl there ↦ there
  | inr left ↦
      let none = subst (λ (r : List (ℕ × ℕ)). Contains r (zone.end, n)) e left in
      absurd (omega (arith, none.1))
]
