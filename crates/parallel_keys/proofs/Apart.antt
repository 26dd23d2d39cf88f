-- Orders of different keys.
use Rattle.std.proofs.Common.{ℕ, ◌≡◌, ◌<◌, ◌+◌, List, [], ◌∷◌, ◌++◌, Some, inl, inr, length, map, take, get_or, subst, sym, ap, refl, ◌∙◌, arith, length-take}
use Rattle.std.specs.List.{slice_get, Contains}
use Rattle.std.specs.Option.{option_map}
use Rattle.std.proofs.lemmas.List.{length-map}
use Rattle.std.proofs.lemmas.Option.{slice_get-map, slice_get_within, slice_get_read}
use Rattle.recorder.specs.declared.order.KeyOrder.{KeyOrder}
use Rattle.tag.proofs.Lists.{slice_get-map_back, Contains-slice_get, push_cases, slice_get-take}
use Rattle.key_index.specs.Numbers.{Numbers, known, first}
use Rattle.parallel_keys.specs.CheckedKeys.{AreDistinct}
use Rattle.parallel_keys.proofs.Fronts.{front_more, mapped_more}

abbrev key_in : KeyOrder → List ℕ
key_in one = one.key

-- the orders so far are of different keys, which are numbered
pub record ApartSoFar (orders : List KeyOrder) (place : ℕ) (keys : List (List ℕ)) : Type 0 where
  pub kept : keys ≡ map key_in (take place orders)
  pub apart : AreDistinct (take place orders)

pub apart_none : (orders : List KeyOrder) (place : ℕ) (keys : List (List ℕ)) → place ≡ 0 → keys ≡ [] → ApartSoFar orders place keys
apart_none orders place keys start none = record {
  kept = none ∙ ap (λ (n : ℕ). map key_in (take n orders)) (sym start);
  apart = λ i j a b lt at_i at_j same. let no : slice_get [] j ≡ Some b = rw start at at_j in absurd (nothing j b no);
}
  where
    nothing : (j : ℕ) (b : KeyOrder) → slice_get [] j ≡ Some b → ⊥
    nothing j b h = cc

distinct_more : (orders : List KeyOrder) (one : KeyOrder) → AreDistinct orders → ((j : ℕ) (a : KeyOrder) → slice_get orders j ≡ Some a → a.key ≡ one.key → ⊥) → AreDistinct (orders ++ one ∷ [])
distinct_more orders one apart new i j a b lt at_i at_j same = elim (push_cases orders one j b at_j) [
  | inl v ↦ elim (push_cases orders one i a at_i) [
    | inl w ↦ apart i j a b lt w v same
    | inr w ↦ absurd (omega (arith, slice_get_within orders j b v, w.0))
  ]
  | inr v ↦ elim (push_cases orders one i a at_i) [
    | inl w ↦ new i a w (same ∙ ap key_in (sym v.1))
    | inr w ↦ absurd (omega (arith, v.0, w.0))
  ]
]

-- a key with a new number is new
pub apart_more : (orders : List KeyOrder) (i : ℕ) (one : KeyOrder) (old new : List (List ℕ)) (number : ℕ) → i < length orders → one ≡ get_or orders i one → ApartSoFar orders i old → Numbers old one.key number new → number ≡ i → ApartSoFar orders (i + 1) new
apart_more orders i one old new number below is so_far (known at same) place_is =
    let within = slice_get_within old number one.key at in
    absurd (omega (arith, within, ap length so_far.kept, length-map (take i orders) key_in, length-take i orders))
apart_more orders i one old new number below is so_far (first unseen place grown) place_is = record {
  kept = grown ∙ ap (λ (l : List (List ℕ)). l ++ one.key ∷ []) so_far.kept ∙ sym (mapped_more key_in orders i one below is);
  apart = subst AreDistinct (sym (front_more orders i one below is)) (distinct_more (take i orders) one so_far.apart (λ j a at same. unseen (met j a at same)));
}
  where
    met : (j : ℕ) (a : KeyOrder) → slice_get (take i orders) j ≡ Some a → a.key ≡ one.key → Contains old one.key
    met j a at same =
        subst (λ (l : List (List ℕ)). Contains l one.key) (sym so_far.kept)
        (Contains-slice_get (map key_in (take i orders)) j one.key (slice_get-map key_in (take i orders) j ∙ ap (option_map key_in) at ∙ ap Some same))

-- a key with an old number is an earlier order's
pub met_before : (orders : List KeyOrder) (i : ℕ) (one : KeyOrder) (old new : List (List ℕ)) (number : ℕ) → i < length orders → one ≡ get_or orders i one → ApartSoFar orders i old → Numbers old one.key number new → (number ≡ i → ⊥) → AreDistinct orders → ⊥
met_before orders i one old new number below is so_far (known at same) other distinct =
    let a = slice_get-map_back key_in (take i orders) number one.key (subst (λ (l : List (List ℕ)). slice_get l number ≡ Some one.key) so_far.kept at) in
    let within = slice_get_within (take i orders) number a.0 a.1 in
    let earlier : number < i = omega (arith, within, length-take i orders) in
    distinct number i a.0 one earlier (sym (slice_get-take orders i number earlier) ∙ a.1) (slice_get_read orders (length orders) i one refl below is) a.2
met_before orders i one old new number below is so_far (first unseen place grown) other distinct =
    other (omega (arith, place, ap length so_far.kept, length-map (take i orders) key_in, length-take i orders))
