-- The order that is given for the key of one of the orders.
use Rattle.std.proofs.Common.{ℕ, zero, suc, ◌≡◌, Bool, true, false, cond, List, [], ◌∷◌, Some, refl}
use Rattle.std.proofs.Common.{sym, ap, ◌∙◌, suc-le-suc, zero-lt-suc}
use Rattle.std.specs.List.{slice_get}
use Rattle.std.specs.Str.{bytes_eq}
use Rattle.std.specs.Cmp.Lexicographic.{bytes_decides}
use Rattle.std.proofs.lemmas.Option.{none-some, same_Some}
use Rattle.recorder.specs.declared.order.KeyOrder.{KeyOrder}
use Rattle.parallel_keys.specs.CheckedKeys.{AreDistinct, given_order}

-- the orders after the first
rest_distinct : (o : KeyOrder) (os : List KeyOrder) → AreDistinct (o ∷ os) → AreDistinct os
rest_distinct o os distinct i j a b lt at_i at_j =
    distinct (suc i) (suc j) a b (suc-le-suc lt) at_i at_j

-- what is given for the key of the order at a place
pub given_at : (orders : List KeyOrder) (place : ℕ) (one : KeyOrder) (key : List ℕ)
    → AreDistinct orders → slice_get orders place ≡ Some one → one.key ≡ key → one.order
    ≡ given_order orders key
given_at [] place one key distinct at same = absurd (none-some one at)
given_at (o ∷ os) zero one key distinct at same =
    let is : o ≡ one = same_Some o one at in
    let hit : bytes_eq o.key key ≡ true =
    (bytes_decides o.key key).1 (ap (λ (k : KeyOrder). k.key) is ∙ same) in
    sym (ap (λ (b : Bool). cond b o.order (given_order os key)) hit
    ∙ ap (λ (k : KeyOrder). k.order) is)
given_at (o ∷ os) (suc place) one key distinct at same =
    by (bytes_eq o.key key) refl (given_at os place one key (rest_distinct o os distinct) at same)
  where
    by : (b : Bool) → bytes_eq o.key key ≡ b → one.order ≡ given_order os key → one.order
        ≡ cond (bytes_eq o.key key) o.order (given_order os key)
    by true hit later = absurd (distinct 0 (suc place) o one (zero-lt-suc place) refl at
        ((bytes_decides o.key key).0 hit ∙ sym same))
    by false missed later =
        later ∙ sym (ap (λ (b : Bool). cond b o.order (given_order os key)) missed)
