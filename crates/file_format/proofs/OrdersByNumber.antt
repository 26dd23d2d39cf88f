-- Orders, whose keys have numbers.
use Rattle.std.proofs.Common.{ℕ, ◌≡◌, ◌<◌, List, [], ◌∷◌, ◌++◌, Some, set, map, length, sym, ◌∙◌, ap, ap₂, subst, refl, arith}
use Rattle.std.specs.List.{slice_get}
use Rattle.std.proofs.lemmas.List.{length-map, map-set, map-append}
use Rattle.std.proofs.lemmas.Option.{same_Some, slice_get_within}
use Rattle.key_index.specs.Numbers.{Numbers}
use Rattle.key_index.specs.Numbers.Numbers.{known, first}
use Rattle.tag.proofs.Lists.{Contains-slice_get, set_same, slice_get-map_back, slice_get-map_at}
use Rattle.tag.specs.declared.numbers.OpId.{OpId}
use Rattle.recorder.specs.declared.order.KeyOrder.{KeyOrder}
use Rattle.file_format.specs.OrderFormat.{key_in}
use Rattle.file_format.specs.Joins.{StartsOrder, ExtendsOrder}

module _ (os : List KeyOrder) (key : List ℕ) (slot : ℕ) (keys : List (List ℕ)) where
  -- the order at a key's number is the key's
  own_order : (one : KeyOrder) → Numbers (map key_in os) key slot keys → slice_get os slot ≡ Some one → one.key ≡ key
  own_order one (known here same) at = same_Some one.key key (sym (slice_get-map_at key_in os slot one at) ∙ here)
  own_order one (first unseen is same) at = absurd (omega (arith, is, length-map os key_in, slice_get_within os slot one at))

  -- a key that has an order brings no other
  known_keys : (one : KeyOrder) → Numbers (map key_in os) key slot keys → slice_get os slot ≡ Some one → keys ≡ map key_in os
  known_keys one (known here same) at = same
  known_keys one (first unseen is same) at = absurd (omega (arith, is, length-map os key_in, slice_get_within os slot one at))

  -- an order that is written leaves the keys
  pub keys_stay : (one : KeyOrder) (order : List OpId) → Numbers (map key_in os) key slot keys → slice_get os slot ≡ Some one → keys
      ≡ map key_in (set os slot (record { key = one.key; order = order }))
  keys_stay one order numbered at =
      let made : KeyOrder = record { key = one.key; order = order } in
      known_keys one numbered at ∙ sym (map-set key_in os slot made
      ∙ set_same (map key_in os) slot one.key (slice_get-map_at key_in os slot one at))

  -- where the key has no order, its first brings it
  pub key_added : (order : List OpId) → Numbers (map key_in os) key slot keys → (slot < length os → ⊥) → keys
      ≡ map key_in (os ++ record { key = key; order = order } ∷ [])
  key_added order (known here same) none = let o = slice_get-map_back key_in os slot key here in
      absurd (none (slice_get_within os slot o.0 o.1))
  key_added order (first unseen is same) none = let made : KeyOrder = record { key = key; order = order } in same
      ∙ sym (map-append key_in os (made ∷ []))

-- the piece comes to the end of its key's order
pub extends_order : (os : List KeyOrder) (piece : KeyOrder) (slot : ℕ) (keys : List (List ℕ)) (one : KeyOrder) (order : List OpId)
    → Numbers (map key_in os) piece.key slot keys → slice_get os slot ≡ Some one → order ≡ one.order ++ piece.order
    → ExtendsOrder os piece (set os slot (record { key = one.key; order = order }))
extends_order os piece slot keys one order numbered at longer =
    let own = own_order os piece.key slot keys one numbered at in
    let made : List ℕ → List OpId → KeyOrder = λ k o. record { key = k; order = o } in
    record {
      slot = slot;
      order = one.order;
      had = subst (λ (k : List ℕ). slice_get os slot ≡ Some (made k one.order)) own at;
      has = ap₂ (λ (k : List ℕ) (o : List OpId). set os slot (made k o)) own longer;
    }

-- or begins it
pub begins_order : (os : List KeyOrder) (piece : KeyOrder) (slot : ℕ) (keys : List (List ℕ))
    → Numbers (map key_in os) piece.key slot keys → (slot < length os → ⊥) → StartsOrder os piece (os ++ piece ∷ [])
begins_order os piece slot keys (known here same) none = let o = slice_get-map_back key_in os slot piece.key here in
    absurd (none (slice_get_within os slot o.0 o.1))
begins_order os piece slot keys (first unseen is same) none = record {
  new_key = λ i one at equal. unseen (Contains-slice_get (map key_in os) i piece.key (slice_get-map_at key_in os i one at ∙ ap Some equal));
  has = refl;
}
