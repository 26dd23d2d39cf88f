-- What one of two threads answered.
use Rattle.std.proofs.Common.{ℕ, ◌≡◌, ◌≤◌, ◌+◌, ◌^◌, Result, Ok, Err, subst, arith}
use Rattle.std.specs.Prelude.{MatchResult}

module _ {X E : Type 0} (A : X → Type 0) (B : E → Type 0) (r : Result X E) where
  -- its success
  pub went_on : (x : X) → r ≡ Ok x → MatchResult r A B → A x
  went_on x is h =
      let P : Result X E → Type 0 = λ r. MatchResult r A B in
      subst P is h

  -- its error
  pub stopped : (e : E) → r ≡ Err e → MatchResult r A B → B e
  stopped e is h =
      let P : Result X E → Type 0 = λ r. MatchResult r A B in
      subst P is h

-- a reader gives no more bytes than it may
pub few_more : {D : Type 0} (given : D → ℕ) → ((d : D) → given d ≤ 2 ^ 62) → (old new : D) (fed count : ℕ) → fed ≤ given old → given new ≡ given old + count → fed + count ≤ 2 ^ 62
few_more given most old new fed count h more = omega (arith, h, more, most new)
