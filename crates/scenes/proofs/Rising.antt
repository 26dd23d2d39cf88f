-- Numbers, each once, in rising order.
use Rattle.std.proofs.Common.{ℕ, zero, suc, ◌≡◌, ◌<◌, ◌≤◌, ◌+◌, inl, inr, List, [], ◌∷◌, ◌++◌, Some, map, length, get_or, refl}
use Rattle.std.proofs.Common.{sym, ap, subst, arith}
use Rattle.std.specs.List.{slice_get, Contains, dedup, flat_map}
use Rattle.std.specs.List.Sorted.{IsPermutation, IsSorted, IsStrictlyIncreasing}
use Rattle.std.specs.Ordering.{nat_cmp}
use Rattle.std.proofs.lemmas.Bool.{cases_lt}
use Rattle.std.proofs.lemmas.List.{length-map}
use Rattle.std.proofs.lemmas.List.Elements.{Contains-append_left, Contains-append_right, Contains-append_cases}
use Rattle.std.proofs.lemmas.List.Kept.{AllPairs-from_increasing, Contains-dedup_nat, Contains-from_dedup}
use Rattle.std.proofs.lemmas.List.Sorted.{Contains-permutation, IsPermutation-sym}
use Rattle.std.proofs.lemmas.Map.Keys.{IsStrictlyIncreasing-dedup}
use Rattle.std.proofs.lemmas.Option.{same_Some, slice_get_within, get_or_from_slice_get}
use Rattle.std.proofs.Common.{eqb}
use Rattle.tag.proofs.Lists.{place_of, get_at, push_cases, Contains-slice_get, slice_get-map_at}
use Rattle.tag.proofs.Options.{none_some}
use Rattle.scenes.specs.declared.scene.Bar.{Bar}
use Rattle.scenes.specs.Scenes.{IsRisingListOf, HasPlace, places_of}

-- sorted, and each number once
pub rising_list : (P : ℕ → Type 0) (start sorted list : List ℕ) → ((n : ℕ) → Contains start n → P n) → ((n : ℕ) → P n → Contains start n)
    → IsPermutation start sorted → IsSorted nat_cmp sorted → list ≡ dedup eqb sorted → IsRisingListOf P list
rising_list P start sorted list to from moved up is = record {
  rising = subst IsStrictlyIncreasing (sym is) (IsStrictlyIncreasing-dedup sorted up);
  exactly = λ n. (
    λ h. to n
        (Contains-permutation sorted start n (IsPermutation-sym start sorted moved)
        (Contains-from_dedup eqb sorted n (subst (λ (l : List ℕ). Contains l n) is h))),
    λ h. subst (λ (l : List ℕ). Contains l n) (sym is) (Contains-dedup_nat sorted n (Contains-permutation start sorted n moved (from n h))),
  );
}

-- the numbers below that of a place don't go past it
pub rises : (list : List ℕ) → IsStrictlyIncreasing list → (i j : ℕ) → i ≤ j → j < length list → get_or list i 0 ≤ get_or list j 0
rises list up i j le within =
    elim (cases_lt i j) [
      | inl h ↦ let less : get_or list i 0 < get_or list j 0 = AllPairs-from_increasing list up i j 0 h within in omega arith
      | inr h ↦
          let same : i ≡ j = omega arith in
          let equal : get_or list i 0 ≡ get_or list j 0 = ap (λ (k : ℕ). get_or list k 0) same in
          omega arith
    ]

-- a number that isn't between its neighbours isn't there
pub not_there : (list : List ℕ) (n at : ℕ) → Contains list n → ((k : ℕ) → k < at → get_or list k 0 < n)
    → ((k : ℕ) → at ≤ k → k < length list → n < get_or list k 0) → ⊥
not_there list n at there below above =
    let place = place_of list n there in
    let value : get_or list place.0 0 ≡ n = get_or_from_slice_get list place.0 n 0 place.1 in
    elim (cases_lt place.0 at) [
      | inl h ↦ let less : get_or list place.0 0 < n = below place.0 h in omega arith
      | inr h ↦ let more : n < get_or list place.0 0 = above place.0 h (slice_get_within list place.0 n place.1) in omega arith
    ]

-- the function rises along the list
abbrev pub Rises : {X : Type 0} → (X → ℕ) → List X → Type 0
Rises {X} f xs = (i j : ℕ) (a b : X) → i < j → slice_get xs i ≡ Some a → slice_get xs j ≡ Some b → f a < f b

pub rises_mapped : {X : Type 0} (f : X → ℕ) (xs : List X) → Rises f xs → IsStrictlyIncreasing (map f xs)
rises_mapped f xs up k within =
    let long : k + 1 < length xs = omega (arith, within, length-map xs f) in
    let a = get_at xs k (omega arith) in
    let b = get_at xs (k + 1) long in
    let less : f a.0 < f b.0 = up k (k + 1) a.0 b.0 (omega arith) a.1 b.1 in
    let at_a : get_or (map f xs) k 0 ≡ f a.0 = get_or_from_slice_get (map f xs) k (f a.0) 0 (slice_get-map_at f xs k a.0 a.1) in
    let at_b : get_or (map f xs) (k + 1) 0 ≡ f b.0 = get_or_from_slice_get (map f xs) (k + 1) (f b.0) 0
    (slice_get-map_at f xs (k + 1) b.0 b.1) in
    let rise : get_or (map f xs) k 0 < get_or (map f xs) (k + 1) 0 = omega (arith, less, at_a, at_b) in
    rise

-- numbers of a rising list
pub rises_in : (list : List ℕ) → IsStrictlyIncreasing list → Rises (λ (n : ℕ). n) list
rises_in list up i j a b less at_a at_b =
    let value_a : get_or list i 0 ≡ a = get_or_from_slice_get list i a 0 at_a in
    let value_b : get_or list j 0 ≡ b = get_or_from_slice_get list j b 0 at_b in
    let below : get_or list i 0 < get_or list j 0 = AllPairs-from_increasing list up i j 0 less (slice_get_within list j b at_b) in
    omega (arith, value_a, value_b, below)

pub rises_from : {X : Type 0} (f : X → ℕ) (xs : List X) → IsStrictlyIncreasing (map f xs) → Rises f xs
rises_from f xs up i j a b less at_a at_b = rises_in (map f xs) up i j (f a) (f b) less (slice_get-map_at f xs i a at_a)
    (slice_get-map_at f xs j b at_b)

-- one element more, above all others
pub rises_more : {X : Type 0} (f : X → ℕ) (xs now : List X) (y : X) → now ≡ xs ++ y ∷ [] → ((x : X) → Contains xs x → f x < f y)
    → Rises f xs → Rises f now
rises_more {X} f xs now y more above up = subst (Rises f) (sym more)
    (λ i j a b less at_a at_b. elim (push_cases xs y j b at_b) [
      | inl b_old ↦ elim (push_cases xs y i a at_a) [
        | inl a_old ↦ up i j a b less a_old b_old
        | inr a_new ↦ absurd (omega (arith, a_new.0, slice_get_within xs j b b_old))
      ]
      | inr b_new ↦ elim (push_cases xs y i a at_a) [
        | inl a_old ↦ subst (λ (z : X). f a < f z) b_new.1 (above a (Contains-slice_get xs i a a_old))
        | inr a_new ↦ absurd (omega (arith, a_new.0, b_new.0))
      ]
    ])

-- the places of bars
in_one : {X : Type 0} (f : X → List ℕ) (xs : List X) (n : ℕ) → Contains (flat_map f xs) n → (x : X) × Contains xs x × Contains (f x) n
in_one f [] n there = absurd (let h = there.1 in omega arith)
in_one f (x ∷ xs) n there = elim (Contains-append_cases (f x) (flat_map f xs) n there) [
  | inl h ↦ (x, Contains-slice_get (x ∷ xs) 0 x refl, h)
  | inr h ↦
      let rest = in_one f xs n h in
      let at = place_of xs rest.0 rest.1 in
      (rest.0, Contains-slice_get (x ∷ xs) (suc at.0) rest.0 at.1, rest.2)
]

in_all : {X : Type 0} (f : X → List ℕ) (xs : List X) (k : ℕ) (x : X) (n : ℕ) → slice_get xs k ≡ Some x → Contains (f x) n
    → Contains (flat_map f xs) n
in_all f [] k x n at there = none_some at
in_all f (y ∷ xs) zero x n at there = Contains-append_left (f y) (flat_map f xs) n
    (subst (λ z. Contains (f z) n) (sym (same_Some y x at)) there)
in_all f (y ∷ xs) (suc k) x n at there = Contains-append_right (f y) (flat_map f xs) n (in_all f xs k x n at there)

pub place_has : (bars : List Bar) (place : ℕ) → Contains (flat_map places_of bars) place → HasPlace bars place
place_has bars place there = in_one places_of bars place there

pub place_there : (bars : List Bar) (place : ℕ) → HasPlace bars place → Contains (flat_map places_of bars) place
place_there bars place has = let at = place_of bars has.0 has.1 in in_all places_of bars at.0 has.0 place at.1 has.2
