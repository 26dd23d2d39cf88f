-- Pieces are joined to one list of orders.
use Rattle.std.proofs.Common.{ℕ, zero, suc, ◌≡◌, ◌<◌, List, [], ◌∷◌, Some, map, sym, ◌∙◌, ap, ap₂, refl, arith}
use Rattle.std.specs.List.{slice_get}
use Rattle.tag.specs.declared.numbers.OpId.{OpId}
use Rattle.recorder.specs.declared.order.KeyOrder.{KeyOrder}
use Rattle.file_format.specs.OrderFormat.{key_in, order_on, IsFirstAt, AreFirsts, AreJoined}

-- lists whose elements have places that rise
module _ {X : Type 0} (At : X → ℕ → Type 0) where
  record InOrder (xs : List X) : Type 0 where
    pub has : (i : ℕ) (x : X) → slice_get xs i ≡ Some x → (m : ℕ) × At x m
    pub rises : (i j : ℕ) (x y : X) (m n : ℕ) → i < j → slice_get xs i ≡ Some x → slice_get xs j ≡ Some y → At x m → At y n → m < n

  tail : (x : X) (xs : List X) → InOrder (x ∷ xs) → InOrder xs
  tail x xs o = record {
    has = λ i y e. o.has (suc i) y e;
    rises = λ i j y z m n less at_i at_j. o.rises (suc i) (suc j) y z m n (omega arith) at_i at_j;
  }

  head_once : (x : X) (xs : List X) (i : ℕ) → InOrder (x ∷ xs) → slice_get xs i ≡ Some x → ⊥
  head_once x xs i o e = let m = o.has 0 x refl in let less = o.rises 0 (suc i) x x m.0 m.0 (omega arith) refl e m.1 m.1 in
      omega (arith, less)

  Within : List X → List X → Type 0
  Within xs ys = (i : ℕ) (x : X) → slice_get xs i ≡ Some x → (j : ℕ) × (slice_get ys j ≡ Some x)

  heads : (x y : X) (xs ys : List X) (i j : ℕ) → InOrder (x ∷ xs) → InOrder (y ∷ ys) → slice_get (y ∷ ys) i ≡ Some x
      → slice_get (x ∷ xs) j ≡ Some y → x ≡ y
  heads x y xs ys zero j p q at_x at_y = cc
  heads x y xs ys (suc i) zero p q at_x at_y = cc
  heads x y xs ys (suc i) (suc j) p q at_x at_y =
      let m = p.has 0 x refl in
      let n = q.has 0 y refl in
      let up = p.rises 0 (suc j) x y m.0 n.0 (omega arith) refl at_y m.1 n.1 in
      let down = q.rises 0 (suc i) y x n.0 m.0 (omega arith) refl at_x n.1 m.1 in
      absurd (omega (arith, up, down))

  tails : (x y : X) (xs ys : List X) → x ≡ y → InOrder (x ∷ xs) → Within (x ∷ xs) (y ∷ ys) → Within xs ys
  unfolding Within
  tails x y xs ys same p within = λ i z e. behind i z e (within (suc i) z e)
    where
      behind : (i : ℕ) (z : X) → slice_get xs i ≡ Some z → (j : ℕ) × (slice_get (y ∷ ys) j ≡ Some z) → (j : ℕ) × (slice_get ys j ≡ Some z)
      behind i z e (zero, at) = let head : Some x ≡ Some z = ap Some same ∙ at in absurd (head_once x xs i p (e ∙ sym head))
      behind i z e (suc j, at) = (j, at)

  same_list : (xs ys : List X) → InOrder xs → InOrder ys → Within xs ys → Within ys xs → xs ≡ ys
  unfolding Within
  same_list [] [] p q left right = refl
  same_list [] (y ∷ ys) p q left right = let h = right 0 y refl in absurd (cc (h.1))
  same_list (x ∷ xs) [] p q left right = let h = left 0 x refl in absurd (cc (h.1))
  same_list (x ∷ xs) (y ∷ ys) p q left right =
      let i = left 0 x refl in
      let j = right 0 y refl in
      let head : x ≡ y = heads x y xs ys i.0 j.0 p q i.1 j.1 in
      let rest : xs ≡ ys = same_list xs ys (tail x xs p) (tail y ys q) (tails x y xs ys head p left) (tails y x ys xs (sym head) q right) in
      cc

keys_in_order : (names keys : List (List ℕ)) → AreFirsts names keys → InOrder (λ key m. IsFirstAt names key m) keys
keys_in_order names keys h = record {
  has = λ i key e. h.each i key e;
  rises =
      λ i j a b m n less at_i at_j f g. h.ordered i j a b m n less at_i at_j f g;
}

among : (names keys others : List (List ℕ)) → AreFirsts names keys → AreFirsts names others
    → Within (λ key m. IsFirstAt names key m) keys others
unfolding Within
among names keys others h k = λ i key e. let f = h.each i key e in k.all f.0 key f.1.here

keys_once : (names keys others : List (List ℕ)) → AreFirsts names keys → AreFirsts names others → keys ≡ others
keys_once names keys others h k =
    same_list (λ key m. IsFirstAt names key m) keys others (keys_in_order names keys h) (keys_in_order names others k)
    (among names keys others h k) (among names others keys k h)

-- an order is its key's, and what the pieces give for it
ordered : List KeyOrder → List ℕ → KeyOrder
ordered pieces key = record { key = key; order = order_on key pieces }

by_keys : (pieces orders : List KeyOrder)
    → ((i : ℕ) (order : KeyOrder) → slice_get orders i ≡ Some order → order.order ≡ order_on order.key pieces) → orders
    ≡ map (ordered pieces) (map key_in orders)
unfolding ordered
by_keys pieces [] each = refl
by_keys pieces (order ∷ orders) each =
    ap₂ (λ (o : KeyOrder) (os : List KeyOrder). o ∷ os)
    (ap (λ (ops : List OpId). record { key = order.key; order = ops }) (each 0 order refl))
    (by_keys pieces orders (λ i o e. each (suc i) o e))

pub joined_once : (pieces a b : List KeyOrder) → AreJoined pieces a → AreJoined pieces b → a ≡ b
joined_once pieces a b h k =
    by_keys pieces a h.each ∙ ap (map (ordered pieces)) (keys_once (map key_in pieces) (map key_in a) (map key_in b) h.keys k.keys)
    ∙ sym (by_keys pieces b k.each)
