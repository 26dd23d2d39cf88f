-- Keys and their numbers, once a number more is placed.
use Rattle.std.proofs.Common.{ℕ, ◌≡◌, inl, inr, List, [], ◌∷◌, ◌++◌, Some, None, length, sym, ◌∙◌, ap}
use Rattle.std.specs.List.{slice_get, Contains}
use Rattle.std.specs.Ordering.{nat_cmp}
use Rattle.std.specs.Cmp.Lexicographic.{slice_cmp}
use Rattle.std.specs.BTreeMap.{BTreeMap, Updates, btree_map_len, get, is_at}
use Rattle.std.specs.Map.{lookup}
use Rattle.std.specs.Cmp.{Equal-is}
use Rattle.std.proofs.lemmas.Bool.{cases_Bool}
use Rattle.std.proofs.lemmas.List.{nil_from_length}
use Rattle.std.proofs.lemmas.Map.Lookups.{exact_bytes}
use Rattle.tag.proofs.Lists.{push_cases, slice_get-push_left, slice_get-push_last, Contains-slice_get}
use Rattle.key_index.specs.declared.slots.Slot.{Slot}
use Rattle.key_index.specs.Marks.{mark_of}
use Rattle.key_index.specs.Numbers.{EachOnce}
use Rattle.key_index.specs.Placed.{AreRight, Grows, StillStand, ArePlaced}
use Rattle.key_index.specs.Slots.{Stands}
use Rattle.key_index.proofs.Updated.{updated_cases, kept}

-- the number of a key that has one already
pub known_more : (old new : BTreeMap (List ℕ) ℕ) (keys : List (List ℕ)) (key : List ℕ) (number : ℕ) → EachOnce keys
    → AreRight old keys
    → slice_get keys number ≡ Some key → Updates (slice_cmp nat_cmp) old new key (Some number) → Grows old new keys
known_more old new keys key number distinct right at updates = record {
  right = λ q n has. elim (updated_cases (slice_cmp nat_cmp) exact_bytes old new key q number n updates has) [
    | inl w ↦ rw (← w.0, ← w.1) at
    | inr w ↦ right q n w
  ];
  kept = λ q n has. elim (cases_Bool (is_at (slice_cmp nat_cmp key) q)) [
    | inl tied ↦ let same : key ≡ q = exact_bytes key q ((Equal-is (slice_cmp nat_cmp key q)).0 tied) in
        let of_key : slice_get keys n ≡ Some key = right q n has ∙ ap Some (sym same) in
        rw (← same, ← (distinct number n key at of_key)) updates.1
    | inr apart ↦ updates.2 q apart ∙ has
  ];
}

-- with a key more, that wasn't seen, each key is there once
distinct_more : (keys : List (List ℕ)) (key : List ℕ) → EachOnce keys → (Contains keys key → ⊥)
    → EachOnce (keys ++ key ∷ [])
distinct_more keys key distinct unseen i j q at_i at_j = elim (push_cases keys key i q at_i) [
  | inl a ↦ elim (push_cases keys key j q at_j) [
    | inl b ↦ distinct i j q a b
    | inr b ↦ absurd (unseen (Contains-slice_get keys i key (a ∙ ap Some (sym b.1))))
  ]
  | inr a ↦ elim (push_cases keys key j q at_j) [
    | inl b ↦ absurd (unseen (Contains-slice_get keys j key (b ∙ ap Some (sym a.1))))
    | inr b ↦ a.0 ∙ sym b.0
  ]
]

-- the next number stands in the table
pub standing_more : (old new : List Slot) (others : BTreeMap (List ℕ) ℕ) (keys : List (List ℕ)) (key : List ℕ)
    → ArePlaced old others keys → (Contains keys key → ⊥)
    → StillStand old new → Stands new (mark_of key) (length keys) → ArePlaced new others (keys ++ key ∷ [])
standing_more old new others keys key are unseen still stands = record {
  distinct = distinct_more keys key are.distinct unseen;
  found = λ n q at. elim (push_cases keys key n q at) [
    | inl w ↦ elim (are.found n q w) [ inl s ↦ inl (still (mark_of q) n s) | inr h ↦ inr h ]
    | inr w ↦ inl (rw (w.0, ← w.1) stands)
  ];
  right = λ q n has. slice_get-push_left keys key n q (are.right q n has);
}

-- the next number is among the others
pub other_more : (old new : List Slot) (others now : BTreeMap (List ℕ) ℕ) (keys : List (List ℕ)) (key : List ℕ)
    → ArePlaced old others keys → (Contains keys key → ⊥)
    → StillStand old new → Updates (slice_cmp nat_cmp) others now key (Some (length keys))
    → ArePlaced new now (keys ++ key ∷ [])
other_more old new others now keys key are unseen still updates = record {
  distinct = distinct_more keys key are.distinct unseen;
  found = λ n q at. elim (push_cases keys key n q at) [
    | inl w ↦ elim (are.found n q w) [
      | inl s ↦ inl (still (mark_of q) n s)
      | inr has ↦ let other : key ≡ q → ⊥ = λ e. unseen (Contains-slice_get keys n key (w ∙ ap Some (sym e))) in
          inr (kept (slice_cmp nat_cmp) exact_bytes others now key q (Some (length keys)) updates other ∙ has)
    ]
    | inr w ↦ inr (rw (w.0, ← w.1) updates.1)
  ];
  right = λ q n has. elim (updated_cases (slice_cmp nat_cmp) exact_bytes others now key q (length keys) n updates has) [
    | inl w ↦ rw (← w.0, ← w.1) (slice_get-push_last keys key)
    | inr w ↦ slice_get-push_left keys key n q (are.right q n w)
  ];
}

-- an empty map has no number for a key
pub none_among : (others : BTreeMap (List ℕ) ℕ) (key : List ℕ) → btree_map_len others ≡ 0
    → None ≡ get (slice_cmp nat_cmp) others key
none_among others key empty =
    ap (lookup (is_at (slice_cmp nat_cmp key))) (sym (nil_from_length others.entries empty))
