-- The passes and places of a seat that is being made, hall by hall.
use Rattle.std.proofs.Common.{◌≡◌, ℕ, zero, suc, List, [], ◌∷◌, ◌++◌, refl, sym, subst, inl, inr}
use Rattle.tag.proofs.Lists.{push_cases}
use Rattle.hall_lock.specs.Turns.{ClientView}
use Rattle.seats.specs.Seats.{AreFresh, AreZero, IsFresh}
use Rattle.node_threads.specs.Joins.{AreOfClient}

-- one pass more
pub fresh_more : (client : ℕ) (passes : List ClientView) (pass : ClientView) → AreFresh client passes → IsFresh client pass
    → AreFresh client (passes ++ pass ∷ [])
fresh_more client passes pass fresh is k one at = elim (push_cases passes pass k one at) [
  | inl old ↦ fresh k one old
  | inr new ↦ subst (IsFresh client) new.1 is
]

-- fresh passes are their client's
pub are_of_client : (client : ℕ) (passes : List ClientView) → AreFresh client passes → AreOfClient client passes
are_of_client client passes fresh k pass at = (fresh k pass at).client

zero_behind : (places : List ℕ) → AreZero places → AreZero (places ++ 0 ∷ [])
zero_behind [] none zero = refl
zero_behind [] none (suc hall) = refl
zero_behind (x ∷ xs) none zero = none 0
zero_behind (x ∷ xs) none (suc hall) = zero_behind xs (λ k. none (suc k)) hall

-- one place more
pub zero_more : (places now : List ℕ) → now ≡ places ++ 0 ∷ [] → AreZero places → AreZero now
zero_more places now is none = subst AreZero (sym is) (zero_behind places none)
