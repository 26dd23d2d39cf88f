-- Zones of the calls below an index.
use Rattle.std.proofs.Common.{ℕ, ◌≡◌, ◌<◌, ◌≤◌, ◌+◌, ◌⊎◌, inl, inr, List, [], ◌∷◌, ◌++◌, Option, Some, None, length, length-set, length-append, set, sym, ◌∙◌, ap, subst, refl, arith}
use Rattle.std.specs.List.{slice_get}
use Rattle.std.proofs.lemmas.Bool.{cases_lt}
use Rattle.std.proofs.lemmas.Option.{same_Some, slice_get_within, none-some}
use Rattle.tag.proofs.Lists.{place_of, Contains-slice_get, slice_get-set, push_cases}
use Rattle.recorder.specs.declared.part.Call.{Call}
use Rattle.recorder.specs.Parts.{IsSequence}
use Rattle.recorder.specs.Sound.{IsRead, IsWrite}
use Rattle.value_order.specs.declared.zones.Zone.{Zone}
use Rattle.value_order.specs.Families.{IsOfFamily, IsAnsweredBy, IsMemberBy}
use Rattle.value_order.specs.Zones.{EndsAt, BeginsAt, IsFirstEnd, IsZoneWith, AreBegins, AreZones}
use Rattle.value_order.proofs.CallKinds.{not_both, index_of, one_place}

-- what a zone says of the family's calls below index i
pub record IsZoneBelow (part : List Call) (Reads : Call → Call → Type 0) (row i : ℕ) (write : Call) (zone : Zone) : Type 0 where
  pub none : zone.first_end ≡ None → (j : ℕ) (call : Call) → j < i → slice_get part j ≡ Some call → IsOfFamily part Reads write call → IsAnsweredBy row call → ⊥
  pub ends : (first : ℕ) → zone.first_end ≡ Some first → EndsAt part Reads row write first
  pub first : (first j : ℕ) (call : Call) → zone.first_end ≡ Some first → j < i → slice_get part j ≡ Some call → IsOfFamily part Reads write call → (a : IsAnsweredBy row call) → first ≤ a.response.place
  pub begins : BeginsAt part Reads row write zone.last_begin
  pub own : write.invoked ≤ zone.last_begin
  pub last : (j : ℕ) (call : Call) → j < i → slice_get part j ≡ Some call → IsOfFamily part Reads write call → IsAnsweredBy row call → call.invoked ≤ zone.last_begin

pub record AreZonesBelow (part : List Call) (Reads : Call → Call → Type 0) (row i : ℕ) (zones : List Zone) : Type 0 where
  pub all : length zones ≡ length part
  pub writes : (k : ℕ) (write : Call) (zone : Zone) → slice_get part k ≡ Some write → IsWrite write → slice_get zones k ≡ Some zone → IsZoneBelow part Reads row i write zone
  pub reads : (k : ℕ) (read : Call) (zone : Zone) → slice_get part k ≡ Some read → IsRead read → slice_get zones k ≡ Some zone → zone.first_end ≡ None

pub begins_none : (part : List Call) (zones : List Zone) → zones ≡ [] → AreBegins part 0 zones
begins_none part zones none = record {
  count = ap (λ (l : List Zone). length l) none;
  each = λ k call zone at here. absurd (let here : slice_get [] k ≡ Some zone = subst (λ (l : List Zone). slice_get l k ≡ Some zone) none here in none-some zone here);
}

pub begins_more : (part : List Call) (n : ℕ) (zones : List Zone) (call : Call) (zone : Zone) → slice_get part n ≡ Some call → zone.first_end ≡ None → zone.last_begin ≡ call.invoked → AreBegins part n zones → AreBegins part (n + 1) (zones ++ zone ∷ [])
begins_more part n zones call zone at none begun are = record {
  count = simp length-append (omega (arith, are.count));
  each = λ k other z at_k here. elim (push_cases zones zone k z here) [
    | inl h ↦ are.each k other z at_k h
    | inr h ↦
        let place : k ≡ n = omega (arith, h.0, are.count) in
        let same : call ≡ other = same_Some call other (sym at ∙ (ap (slice_get part) (sym place) ∙ at_k)) in
        (ap (λ (x : Zone). x.first_end) (sym h.1) ∙ none, ap (λ (x : Zone). x.last_begin) (sym h.1) ∙ (begun ∙ ap (λ (c : Call). c.invoked) same))
  ];
}

pub zones_none : (part : List Call) (Reads : Call → Call → Type 0) (row : ℕ) (zones : List Zone) → AreBegins part (length part) zones → AreZonesBelow part Reads row 0 zones
zones_none part Reads row zones are = record {
  all = are.count;
  writes = λ k write zone at wrote here.
      let b = are.each k write zone at here in
      let self : IsMemberBy part Reads row write write = record { of = record { recorded = Contains-slice_get part k write at; writes = wrote; belongs = inl refl }; there = inl refl } in
      record {
        none = λ e j call less. absurd (omega arith);
        ends = λ first e. absurd (none-some first (sym b.0 ∙ e));
        first = λ first j call e. absurd (none-some first (sym b.0 ∙ e));
        begins = record { call = write; member = self; at = sym b.1 };
        own = omega (arith, b.1);
        last = λ j call less. absurd (omega arith);
      };
  reads = λ k read zone at is here. (are.each k read zone at here).0;
}

module _ (part : List Call) (Reads : Call → Call → Type 0) (row i : ℕ) (zones : List Zone) (call : Call) (at : slice_get part i ≡ Some call) where
  at_or_below : (j : ℕ) (other : Call) → j < i + 1 → slice_get part j ≡ Some other → (j < i) ⊎ (call ≡ other)
  at_or_below j other less here = elim (cases_lt j i) [
    | inl h ↦ inl h
    | inr h ↦ (let place : j ≡ i = omega arith in inr (same_Some call other (sym at ∙ (ap (slice_get part) (sym place) ∙ here))))
  ]

  -- a call that isn't of the family, or wasn't answered by the row, changes no zone
  zone_same : (write : Call) (zone : Zone) → (IsOfFamily part Reads write call → IsAnsweredBy row call → ⊥) → IsZoneBelow part Reads row i write zone → IsZoneBelow part Reads row (i + 1) write zone
  zone_same write zone not was = record {
    none = λ e j other less here of a. elim (at_or_below j other less here) [
      | inl h ↦ was.none e j other h here of a
      | inr same ↦ not (subst (IsOfFamily part Reads write) (sym same) of) (subst (IsAnsweredBy row) (sym same) a)
    ];
    ends = was.ends;
    first = λ first j other e less here of a. elim (at_or_below j other less here) [
      | inl h ↦ was.first first j other e h here of a
      | inr same ↦ absurd (not (subst (IsOfFamily part Reads write) (sym same) of) (subst (IsAnsweredBy row) (sym same) a))
    ];
    begins = was.begins;
    own = was.own;
    last = λ j other less here of a. elim (at_or_below j other less here) [
      | inl h ↦ was.last j other h here of a
      | inr same ↦ absurd (not (subst (IsOfFamily part Reads write) (sym same) of) (subst (IsAnsweredBy row) (sym same) a))
    ];
  }

  pub zones_same : ((write : Call) → IsOfFamily part Reads write call → IsAnsweredBy row call → ⊥) → AreZonesBelow part Reads row i zones → AreZonesBelow part Reads row (i + 1) zones
  zones_same not was = record {
    all = was.all;
    writes = λ k write zone at_k wrote here. zone_same write zone (not write) (was.writes k write zone at_k wrote here);
    reads = was.reads;
  }

  -- one that is of the family and was answered changes its zone
  module _ (write : Call) (zone new : Zone) (of : IsOfFamily part Reads write call) (a : IsAnsweredBy row call) (with : IsZoneWith zone a.response.place call.invoked new) where
    own_place : (other : Call) (b : IsAnsweredBy row other) → call ≡ other → a.response.place ≡ b.response.place
    own_place other b same = one_place other a.response b.response (ap (λ (c : Call). c.response) (sym same) ∙ a.responds) b.responds

    has_end : (first : ℕ) → new.first_end ≡ Some first → with.e ≡ first
    has_end first e = same_Some with.e first (sym with.is ∙ e)

    begins_with : IsZoneBelow part Reads row i write zone → BeginsAt part Reads row write new.last_begin
    begins_with was = elim (cases_lt zone.last_begin call.invoked) [
      | inl h ↦ record { call = call; member = record { of = of; there = inr a }; at = omega (arith, with.last) }
      | inr h ↦ record { call = was.begins.call; member = was.begins.member; at = omega (arith, with.last, was.begins.at) }
    ]

    ends_with : IsZoneBelow part Reads row i write zone → (first : ℕ) → new.first_end ≡ Some first → EndsAt part Reads row write first
    ends_with was first e = elim with.from [
      | inl h ↦ record { call = call; of = of; ended = a; at = sym h ∙ has_end first e }
      | inr h ↦ was.ends first (h ∙ ap Some (has_end first e))
    ]

    first_with : IsZoneBelow part Reads row i write zone → (first j : ℕ) (other : Call) → new.first_end ≡ Some first → j < i → slice_get part j ≡ Some other → IsOfFamily part Reads write other → (b : IsAnsweredBy row other) → (end : Option ℕ) → zone.first_end ≡ end → first ≤ b.response.place
    first_with was first j other e less here of_other b None none = absurd (was.none none j other less here of_other b)
    first_with was first j other e less here of_other b (Some f) some =
        let low = was.first f j other some less here of_other b in
        let lower = with.lower f some in
        let is = has_end first e in
        omega arith

    pub zone_more : IsZoneBelow part Reads row i write zone → IsZoneBelow part Reads row (i + 1) write new
    zone_more was = record {
      none = λ e j other less here of_other b. none-some with.e (sym e ∙ with.is);
      ends = ends_with was;
      first = λ first j other e less here of_other b. elim (at_or_below j other less here) [
        | inl h ↦ first_with was first j other e h here of_other b zone.first_end refl
        | inr same ↦ (let p = own_place other b same in let f = has_end first e in let low = with.low in omega arith)
      ];
      begins = begins_with was;
      own = (let low = was.own in omega (arith, with.last));
      last = λ j other less here of_other b. elim (at_or_below j other less here) [
        | inl h ↦ (let low = was.last j other h here of_other b in omega (arith, with.last))
        | inr same ↦ (let p : call.invoked ≡ other.invoked = ap (λ (c : Call). c.invoked) same in omega (arith, with.last))
      ];
    }

  pub zones_more : IsSequence part → ((x y : Call) → IsOfFamily part Reads x call → IsOfFamily part Reads y call → x ≡ y) → (k : ℕ) (write : Call) (zone new : Zone) → slice_get part k ≡ Some write → slice_get zones k ≡ Some zone → IsOfFamily part Reads write call → (a : IsAnsweredBy row call) → IsZoneWith zone a.response.place call.invoked new → AreZonesBelow part Reads row i zones → AreZonesBelow part Reads row (i + 1) (set zones k new)
  zones_more sequence one k write zone new at_k here of a with was = record {
    all = length-set zones k new ∙ was.all;
    writes = λ m other z at_m wrote at_z. elim (slice_get-set zones k m new (slice_get_within zones k zone here)) [
      | inl w ↦
          let same : new ≡ z = same_Some new z (sym w.1 ∙ at_z) in
          let call_same : write ≡ other = same_Some write other (sym at_k ∙ (ap (slice_get part) (sym w.0) ∙ at_m)) in
          let old = was.writes k write zone at_k of.writes here in
          let more : IsZoneBelow part Reads row (i + 1) write new = zone_more write zone new of a with old in
          subst (λ (c : Call). IsZoneBelow part Reads row (i + 1) c z) call_same (subst (λ (x : Zone). IsZoneBelow part Reads row (i + 1) write x) same more)
      | inr w ↦ zone_same other z (λ of_other b. w.0 (index_of part sequence m k other write at_m at_k (one other write of_other of))) (was.writes m other z at_m wrote (sym w.1 ∙ at_z))
    ];
    reads = λ m read z at_m is at_z. elim (slice_get-set zones k m new (slice_get_within zones k zone here)) [
      | inl w ↦
          let call_same : write ≡ read = same_Some write read (sym at_k ∙ (ap (slice_get part) (sym w.0) ∙ at_m)) in
          absurd (not_both read is (subst IsWrite call_same of.writes))
      | inr w ↦ was.reads m read z at_m is (sym w.1 ∙ at_z)
    ];
  }

-- of all calls
first_from : (part : List Call) (Reads : Call → Call → Type 0) (row i : ℕ) (write : Call) (zone : Zone) → length part ≤ i → IsZoneBelow part Reads row i write zone → (first : Option ℕ) → zone.first_end ≡ first → IsFirstEnd part Reads row write first
first_from part Reads row i write zone past was None e = λ place ends.
    let k = place_of part ends.call ends.of.recorded in
    was.none e k.0 ends.call (omega (arith, slice_get_within part k.0 ends.call k.1)) k.1 ends.of ends.ended
first_from part Reads row i write zone past was (Some first) e = (
  was.ends first e,
  λ place ends.
      let k = place_of part ends.call ends.of.recorded in
      let low = was.first first k.0 ends.call e (omega (arith, slice_get_within part k.0 ends.call k.1)) k.1 ends.of ends.ended in
      omega (arith, ends.at),
)

last_from : (part : List Call) (Reads : Call → Call → Type 0) (row i : ℕ) (write : Call) (zone : Zone) → length part ≤ i → IsZoneBelow part Reads row i write zone → (place : ℕ) → BeginsAt part Reads row write place → place ≤ zone.last_begin
last_from part Reads row i write zone past was place begins = elim begins.member.there [
  | inl same ↦ (let at : begins.call.invoked ≡ write.invoked = ap (λ (c : Call). c.invoked) same in omega (arith, was.own, begins.at))
  | inr a ↦
      let k = place_of part begins.call begins.member.of.recorded in
      let low = was.last k.0 begins.call (omega (arith, slice_get_within part k.0 begins.call k.1)) k.1 begins.member.of a in
      omega (arith, begins.at)
]

pub zones_all : (part : List Call) (Reads : Call → Call → Type 0) (row i : ℕ) (zones : List Zone) → length part ≤ i → AreZonesBelow part Reads row i zones → AreZones part Reads row zones
zones_all part Reads row i zones past was = record {
  all = was.all;
  writes = λ k write zone at wrote here.
      let b = was.writes k write zone at wrote here in
      record {
        first = first_from part Reads row i write zone past b zone.first_end refl;
        last = (b.begins, last_from part Reads row i write zone past b);
      };
  reads = was.reads;
}

-- a zone with a call, by other names of its places
pub answered_at : (zone new : Zone) (end begin place invoked : ℕ) → place ≡ end → begin ≡ invoked → IsZoneWith zone end begin new → IsZoneWith zone place invoked new
answered_at zone new end begin place invoked same_end same_begin with =
    subst (λ (x : ℕ). IsZoneWith zone x invoked new) (sym same_end) (subst (λ (x : ℕ). IsZoneWith zone end x new) same_begin with)
