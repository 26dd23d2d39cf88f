-- A slot for one kept write, in front of others.
use Rattle.std.proofs.Common.{ℕ, ◌≡◌, ◌≢◌, ◌⊎◌, inl, inr, true, false, List, ◌∷◌, Option, Some, None, IfSome, cond, ap, sym, subst, ◌∙◌, refl, arith}
use Rattle.std.proofs.lemmas.Bool.{cases_eq, cond-false, cond-true}
use Rattle.std.proofs.lemmas.Grind.{common_steps}
use Rattle.std.proofs.lemmas.Map.Entries.{lookup_head, lookup_tail}
use Rattle.std.proofs.lemmas.Option.{none-some, same_Some}
use Rattle.std.specs.BTreeMap.{is_at}
use Rattle.std.specs.Ordering.{nat_cmp}
use Rattle.std.specs.Prelude.{nat_eq}
use Rattle.key_monitor.specs.KeptWrites.{KeptWrite}
use Rattle.monitored_key.specs.Indexes.{AreHighEnds, AreOwned}
use Rattle.monitored_key.specs.Maps.{Lacks, Sets, entry_at}
use Rattle.monitored_key.specs.Slots.{GoesHere, HasEndHere, HasOtherEnd, HasOtherNumber, IsHighIn, StandsApart, ends_at, owner_beside, put_before}
use Rattle.monitored_key.proofs.Indexing.{with_end}

test_here : (k : ℕ) → is_at (nat_cmp k) k ≡ true
test_here k = grind (arith, common_steps)

test_other : (k q : ℕ) → k ≢ q → is_at (nat_cmp k) q ≡ false
test_other k q apart = grind (arith, common_steps)

pub entry_here : (w : ℕ × KeptWrite) (es : List (ℕ × KeptWrite)) → entry_at (w ∷ es) w.0 ≡ Some w.1
entry_here w es = lookup_head (is_at (nat_cmp w.0)) w es (test_here w.0)

pub entry_other : (w : ℕ × KeptWrite) (es : List (ℕ × KeptWrite)) (n : ℕ) → n ≢ w.0 → entry_at (w ∷ es) n ≡ entry_at es n
entry_other w es n apart = lookup_tail (is_at (nat_cmp n)) w es (test_other n w.0 apart)

-- ---- first ends

eq_here : (a b : ℕ) → a ≡ b → nat_eq a b ≡ true
eq_here a b e = grind (arith, common_steps)

eq_from : (a b : ℕ) → nat_eq a b ≡ true → a ≡ b
eq_from a b e = grind (arith, common_steps)

eq_other : (a b : ℕ) → a ≢ b → nat_eq a b ≡ false
eq_other a b e = grind (arith, common_steps)

pub cases_end : (o : Option ℕ) (p : ℕ) → (o ≡ Some p) ⊎ (o ≢ Some p)
cases_end None p = inr (λ e. none-some p e)
cases_end (Some q) p = elim (cases_eq q p) [ inl same ↦ inl (ap Some same) | inr apart ↦ inr (λ e. apart (same_Some q p e)) ]

ends_here : (o : Option ℕ) (p : ℕ) → o ≡ Some p → ends_at o p ≡ true
ends_here None p e = absurd (none-some p e)
ends_here (Some q) p e = eq_here q p (same_Some q p e)

ends_other : (o : Option ℕ) (p : ℕ) → o ≢ Some p → ends_at o p ≡ false
ends_other None p apart = refl
ends_other (Some q) p apart = eq_other q p (λ e. apart (ap Some e))

pub owner_here : (w : ℕ × KeptWrite) (owners : ℕ → Option ℕ) (end : ℕ) → w.1.end ≡ Some end
    → owner_beside (Some w) owners end ≡ Some w.0
owner_here w owners end e = cond-true (ends_at w.1.end end) (Some w.0) (owners end) (ends_here w.1.end end e)

pub owner_other : (w : ℕ × KeptWrite) (owners : ℕ → Option ℕ) (end : ℕ) → w.1.end ≢ Some end
    → owner_beside (Some w) owners end ≡ owners end
owner_other w owners end e = cond-false (ends_at w.1.end end) (Some w.0) (owners end) (ends_other w.1.end end e)

-- ---- each end has its owner

pub owned_beside : (slot : Option (ℕ × KeptWrite)) (es : List (ℕ × KeptWrite)) (owners : ℕ → Option ℕ) → AreOwned (entry_at es) owners
    → StandsApart slot es owners → AreOwned (entry_at (put_before slot es)) (owner_beside slot owners)
owned_beside None es owners own apart = record { owned = own.owned; owner = own.owner }
owned_beside (Some w) es owners own apart = record {
  owned = λ n end kept at is. elim (cases_eq n w.0) [
    | inl same ↦
        let here : w.1 ≡ kept = same_Some w.1 kept (sym (entry_here w es) ∙ (ap (entry_at (w ∷ es)) (sym same) ∙ at)) in
        owner_here w owners end (ap (λ (k : KeptWrite). k.end) here ∙ is) ∙ ap Some (sym same)
    | inr other ↦
        let has = own.owned n end kept (sym (entry_other w es n other) ∙ at) is in
        owner_other w owners end (λ e. none-some n (sym (apart.1 end e) ∙ has)) ∙ has
  ];
  owner = λ end n at. elim (cases_end w.1.end end) [
    | inl e ↦
        let same : w.0 ≡ n = same_Some w.0 n (sym (owner_here w owners end e) ∙ at) in
        (w.1, ap (entry_at (w ∷ es)) (sym same) ∙ entry_here w es, e)
    | inr e ↦
        let k = own.owner end n (sym (owner_other w owners end e) ∙ at) in
        (k.0, entry_other w es n (λ same. none-some k.0 (sym apart.0 ∙ (ap (entry_at es) (sym same) ∙ k.1))) ∙ k.1, k.2)
  ];
}

-- ---- the others change

module _ (es es' : List (ℕ × KeptWrite)) where
  pub sets_beside : (slot : Option (ℕ × KeptWrite)) (n : ℕ) (k : KeptWrite) → HasOtherNumber slot n
      → Sets (entry_at es) n k (entry_at es') → Sets (entry_at (put_before slot es)) n k (entry_at (put_before slot es'))
  sets_beside None n k other s = s
  sets_beside (Some w) n k other s = record {
    here = entry_other w es' n (λ e. other (sym e)) ∙ s.here;
    others = λ q apart. elim (cases_eq q w.0) [
      | inl same ↦ ap (entry_at (w ∷ es')) same ∙ (entry_here w es' ∙ (sym (entry_here w es) ∙ ap (entry_at (w ∷ es)) (sym same)))
      | inr than ↦ entry_other w es' q than ∙ (s.others q apart ∙ sym (entry_other w es q than))
    ];
  }

  pub lacks_beside : (slot : Option (ℕ × KeptWrite)) (n : ℕ) → HasOtherNumber slot n
      → Lacks (entry_at es) n (entry_at es') → Lacks (entry_at (put_before slot es)) n (entry_at (put_before slot es'))
  lacks_beside None n other s = s
  lacks_beside (Some w) n other s = record {
    here = entry_other w es' n (λ e. other (sym e)) ∙ s.here;
    others = λ q apart. elim (cases_eq q w.0) [
      | inl same ↦ ap (entry_at (w ∷ es')) same ∙ (entry_here w es' ∙ (sym (entry_here w es) ∙ ap (entry_at (w ∷ es)) (sym same)))
      | inr than ↦ entry_other w es' q than ∙ (s.others q apart ∙ sym (entry_other w es q than))
    ];
  }

  module _ (owners owners' : ℕ → Option ℕ) where
    -- the slot's write stays apart
    pub apart_still : (slot : Option (ℕ × KeptWrite)) → StandsApart slot es owners
        → ((w : ℕ × KeptWrite) → slot ≡ Some w → entry_at es' w.0 ≡ entry_at es w.0)
        → ((w : ℕ × KeptWrite) (e : ℕ) → slot ≡ Some w → w.1.end ≡ Some e → owners' e ≡ owners e) → StandsApart slot es' owners'
    apart_still None apart same owned = tt
    apart_still (Some w) apart same owned = (same w refl ∙ apart.0, λ e is. owned w e refl is ∙ apart.1 e is)

    pub same_owner : (slot : Option (ℕ × KeptWrite)) → ((e : ℕ) → owners' e ≡ owners e) → (e : ℕ)
        → owner_beside slot owners' e ≡ owner_beside slot owners e
    same_owner None same e = same e
    same_owner (Some w) same e = ap (cond (ends_at w.1.end e) (Some w.0)) (same e)

    pub owner_sets : (slot : Option (ℕ × KeptWrite)) (place n : ℕ) → HasOtherEnd slot place → Sets owners place n owners'
        → Sets (owner_beside slot owners) place n (owner_beside slot owners')
    owner_sets None place n other s = record { here = s.here; others = s.others }
    owner_sets (Some w) place n other s = record {
      here = owner_other w owners' place other ∙ s.here;
      others = λ q apart. ap (cond (ends_at w.1.end q) (Some w.0)) (s.others q apart);
    }

    pub owner_lacks : (slot : Option (ℕ × KeptWrite)) (place : ℕ) → HasOtherEnd slot place → Lacks owners place owners'
        → Lacks (owner_beside slot owners) place (owner_beside slot owners')
    owner_lacks None place other s = record { here = s.here; others = s.others }
    owner_lacks (Some w) place other s = record {
      here = owner_other w owners' place other ∙ s.here;
      others = λ q apart. ap (cond (ends_at w.1.end q) (Some w.0)) (s.others q apart);
    }

-- that it has another number, and another end
pub other_number : (slot : Option (ℕ × KeptWrite)) (n : ℕ) → HasOtherNumber slot n → (w : ℕ × KeptWrite) → slot ≡ Some w → w.0 ≢ n
other_number None n other w e = absurd (none-some w e)
other_number (Some v) n other w e = subst (λ (x : ℕ × KeptWrite). x.0 ≢ n) (same_Some v w e) other

pub other_end : (slot : Option (ℕ × KeptWrite)) (p : ℕ) → HasOtherEnd slot p → (w : ℕ × KeptWrite) → slot ≡ Some w → w.1.end ≢ Some p
other_end None p other w e = absurd (none-some w e)
other_end (Some v) p other w e = subst (λ (x : ℕ × KeptWrite). x.1.end ≢ Some p) (same_Some v w e) other

pub other_by_none : (slot : Option (ℕ × KeptWrite)) (es : List (ℕ × KeptWrite)) (n : ℕ) → entry_at (put_before slot es) n ≡ None
    → HasOtherNumber slot n
other_by_none None es n none = tt
other_by_none (Some w) es n none = λ same. none-some w.1 (sym none ∙ (ap (entry_at (w ∷ es)) (sym same) ∙ entry_here w es))

pub end_by_none : (slot : Option (ℕ × KeptWrite)) (owners : ℕ → Option ℕ) (p : ℕ) → owner_beside slot owners p ≡ None → HasOtherEnd slot p
end_by_none None owners p none = tt
end_by_none (Some w) owners p none = λ e. none-some w.0 (sym none ∙ owner_here w owners p e)

-- ---- what the others have, by what all have
pub rest_entry : (slot : Option (ℕ × KeptWrite)) (es : List (ℕ × KeptWrite)) (n : ℕ) → HasOtherNumber slot n
    → entry_at (put_before slot es) n ≡ entry_at es n
rest_entry None es n other = refl
rest_entry (Some w) es n other = entry_other w es n (λ e. other (sym e))

pub rest_owned : (slot : Option (ℕ × KeptWrite)) (owners : ℕ → Option ℕ) (p : ℕ) → HasOtherEnd slot p
    → owner_beside slot owners p ≡ owners p
rest_owned None owners p other = refl
rest_owned (Some w) owners p other = owner_other w owners p other

-- ---- changes of the others, and of the slot

module _ (slot : Option (ℕ × KeptWrite)) (es es' : List (ℕ × KeptWrite)) (owners owners' : ℕ → Option ℕ) (apart : StandsApart slot es owners)
    (n : ℕ) (other : HasOtherNumber slot n) where
  pub add_beside : (k : KeptWrite) → Sets (entry_at es) n k (entry_at es') → ((e : ℕ) → owners' e ≡ owners e) → StandsApart slot es' owners'
  add_beside k s same = apart_still es es' owners owners' slot apart (λ w is. s.others w.0 (other_number slot n other w is)) (λ w e is at. same e)

  module _ (place : ℕ) (than : HasOtherEnd slot place) where
    apart_end : (w : ℕ × KeptWrite) (e : ℕ) → slot ≡ Some w → w.1.end ≡ Some e → e ≢ place
    apart_end w e is at same = other_end slot place than w is (at ∙ ap Some same)

    pub end_beside : (k : KeptWrite) → Sets (entry_at es) n k (entry_at es') → Sets owners place n owners' → StandsApart slot es' owners'
    end_beside k s o = apart_still es es' owners owners' slot apart (λ w is. s.others w.0 (other_number slot n other w is))
        (λ w e is at. o.others e (apart_end w e is at))

    pub go_beside : Lacks (entry_at es) n (entry_at es') → Lacks owners place owners' → StandsApart slot es' owners'
    go_beside s o = apart_still es es' owners owners' slot apart (λ w is. s.others w.0 (other_number slot n other w is))
        (λ w e is at. o.others e (apart_end w e is at))

module _ (es : List (ℕ × KeptWrite)) (owners : ℕ → Option ℕ) (n : ℕ) where
  pub add_apart : (k : KeptWrite) → k.end ≡ None → entry_at es n ≡ None → StandsApart (Some (n, k)) es owners
  add_apart k none free = (free, λ e is. absurd (none-some e (sym none ∙ is)))

  pub add_sets : (k : KeptWrite) → Sets (entry_at es) n k (entry_at ((n, k) ∷ es))
  add_sets k = record { here = entry_here (n, k) es; others = λ q apart. entry_other (n, k) es q apart }

  pub add_owner : (k : KeptWrite) → k.end ≡ None → (e : ℕ) → owner_beside (Some (n, k)) owners e ≡ owners e
  add_owner k none e = owner_other (n, k) owners e (λ is. none-some e (sym none ∙ is))

  module _ (old new : Option (ℕ × KeptWrite)) (place : ℕ) (h : HasEndHere old n place new) (apart : StandsApart old es owners) where
    was_apart : StandsApart (Some (n, h.kept)) es owners
    was_apart = subst (λ (o : Option (ℕ × KeptWrite)). StandsApart o es owners) h.was apart

    pub end_was : entry_at (put_before old es) n ≡ Some h.kept
    end_was = ap (λ (o : Option (ℕ × KeptWrite)). entry_at (put_before o es) n) h.was ∙ entry_here (n, h.kept) es

    module _ (none : h.kept.end ≡ None) (free : owner_beside old owners place ≡ None) where
      no_owner : owners place ≡ None
      no_owner = sym (owner_other (n, h.kept) owners place (λ is. none-some place (sym none ∙ is)))
          ∙ (ap (λ (o : Option (ℕ × KeptWrite)). owner_beside o owners place) (sym h.was) ∙ free)

      pub end_apart : StandsApart new es owners
      end_apart = subst (λ (o : Option (ℕ × KeptWrite)). StandsApart o es owners) (sym h.is)
          (was_apart.0, λ e is. ap owners (sym (same_Some place e is)) ∙ no_owner)

      sets_by : Sets (entry_at ((n, h.kept) ∷ es)) n (with_end h.kept place) (entry_at ((n, with_end h.kept place) ∷ es))
      sets_by = record {
        here = entry_here (n, with_end h.kept place) es;
        others = λ q than. entry_other (n, with_end h.kept place) es q than ∙ sym (entry_other (n, h.kept) es q than);
      }

      pub end_sets : Sets (entry_at (put_before old es)) n (with_end h.kept place) (entry_at (put_before new es))
      end_sets = subst (λ (o : Option (ℕ × KeptWrite)). Sets (entry_at (put_before o es)) n (with_end h.kept place) (entry_at (put_before new es)))
          (sym h.was)
          (subst (λ (o : Option (ℕ × KeptWrite)). Sets (entry_at ((n, h.kept) ∷ es)) n (with_end h.kept place) (entry_at (put_before o es)))
          (sym h.is) sets_by)

      owns_by : Sets (owner_beside (Some (n, h.kept)) owners) place n (owner_beside (Some (n, with_end h.kept place)) owners)
      owns_by = record {
        here = owner_here (n, with_end h.kept place) owners place refl;
        others = λ q than. owner_other (n, with_end h.kept place) owners q (λ is. than (sym (same_Some place q is)))
            ∙ sym (owner_other (n, h.kept) owners q (λ is. none-some q (sym none ∙ is)));
      }

      pub end_owns : Sets (owner_beside old owners) place n (owner_beside new owners)
      end_owns = subst (λ (o : Option (ℕ × KeptWrite)). Sets (owner_beside o owners) place n (owner_beside new owners)) (sym h.was)
          (subst (λ (o : Option (ℕ × KeptWrite)). Sets (owner_beside (Some (n, h.kept)) owners) place n (owner_beside o owners)) (sym h.is)
          owns_by)

module _ (es : List (ℕ × KeptWrite)) (owners : ℕ → Option ℕ) (old new : Option (ℕ × KeptWrite)) (end : ℕ) (h : GoesHere old end new)
    (apart : StandsApart old es owners) where
  go_was : StandsApart (Some (h.number, h.kept)) es owners
  go_was = subst (λ (o : Option (ℕ × KeptWrite)). StandsApart o es owners) h.was apart

  pub go_apart : (es' : List (ℕ × KeptWrite)) (owners' : ℕ → Option ℕ) → StandsApart new es' owners'
  go_apart es' owners' = subst (λ (o : Option (ℕ × KeptWrite)). StandsApart o es' owners') (sym h.is) tt

  pub go_owner : owner_beside old owners end ≡ Some h.number
  go_owner = ap (λ (o : Option (ℕ × KeptWrite)). owner_beside o owners end) h.was ∙ owner_here (h.number, h.kept) owners end h.ended

  pub go_entry : entry_at (put_before old es) h.number ≡ Some h.kept
  go_entry = ap (λ (o : Option (ℕ × KeptWrite)). entry_at (put_before o es) h.number) h.was ∙ entry_here (h.number, h.kept) es

  lacks_by : Lacks (entry_at ((h.number, h.kept) ∷ es)) h.number (entry_at es)
  lacks_by = record { here = go_was.0; others = λ q than. sym (entry_other (h.number, h.kept) es q than) }

  pub go_lacks : Lacks (entry_at (put_before old es)) h.number (entry_at (put_before new es))
  go_lacks = subst (λ (o : Option (ℕ × KeptWrite)). Lacks (entry_at (put_before o es)) h.number (entry_at (put_before new es))) (sym h.was)
      (subst (λ (o : Option (ℕ × KeptWrite)). Lacks (entry_at ((h.number, h.kept) ∷ es)) h.number (entry_at (put_before o es))) (sym h.is)
      lacks_by)

  free_by : Lacks (owner_beside (Some (h.number, h.kept)) owners) end owners
  free_by = record {
    here = go_was.1 end h.ended;
    others = λ q than. sym (owner_other (h.number, h.kept) owners q (λ is. than (same_Some q end (sym is ∙ h.ended))));
  }

  pub go_free : Lacks (owner_beside old owners) end (owner_beside new owners)
  go_free = subst (λ (o : Option (ℕ × KeptWrite)). Lacks (owner_beside o owners) end (owner_beside new owners)) (sym h.was)
      (subst (λ (o : Option (ℕ × KeptWrite)). Lacks (owner_beside (Some (h.number, h.kept)) owners) end (owner_beside o owners)) (sym h.is)
      free_by)

-- ---- no end is before the floor

pub high_slot : (slot : Option (ℕ × KeptWrite)) (owners : ℕ → Option ℕ) (floor : ℕ) → AreHighEnds (owner_beside slot owners) floor
    → IsHighIn slot floor
high_slot None owners floor high = tt
high_slot (Some w) owners floor high = λ end is. high end w.0 (owner_here w owners end is)

pub high_others : (slot : Option (ℕ × KeptWrite)) (es : List (ℕ × KeptWrite)) (owners : ℕ → Option ℕ) (floor : ℕ)
    → StandsApart slot es owners → AreHighEnds (owner_beside slot owners) floor → AreHighEnds owners floor
high_others None es owners floor apart high = λ end n at. high end n at
high_others (Some w) es owners floor apart high = λ end n at.
    high end n (owner_other w owners end (λ is. none-some n (sym (apart.1 end is) ∙ at)) ∙ at)

pub free_in : (slot : Option (ℕ × KeptWrite)) (es : List (ℕ × KeptWrite)) (owners : ℕ → Option ℕ) → StandsApart slot es owners
    → IfSome slot (λ w. entry_at es w.0 ≡ None)
free_in None es owners apart = tt
free_in (Some w) es owners apart = apart.0
