-- How orders grow by a piece.
use Rattle.std.specs.Prelude.{ℕ, ◌≡◌, ◌⊎◌, List, [], ◌∷◌, ◌++◌, Some, slice_get, slice_set}
use Rattle.tag.specs.declared.numbers.OpId.{OpId}
use Rattle.recorder.specs.declared.order.KeyOrder.{KeyOrder}

module _ (old : List KeyOrder) (piece : KeyOrder) (new : List KeyOrder) where
  -- the key has an order, and the piece comes to its end
  pub record ExtendsOrder : Type 0 where
    pub slot : ℕ
    pub order : List OpId
    pub had : slice_get old slot ≡ Some (record { key = piece.key; order = order })
    pub has : new ≡ slice_set old slot (record { key = piece.key; order = order ++ piece.order })

  -- the key has no order, and its first piece comes after all others
  pub record StartsOrder : Type 0 where
    pub new_key : (i : ℕ) (one : KeyOrder) → slice_get old i ≡ Some one → one.key ≡ piece.key → ⊥
    pub has : new ≡ old ++ piece ∷ []

  -- the piece is joined to the orders
  abbrev pub Joins : Type 0
  Joins = ExtendsOrder ⊎ StartsOrder
