-- Where one number names two flights, the flights don't agree.
use Rattle.std.proofs.Common.{◌≡◌, ℕ, zero, suc, ◌<◌, ◌∙◌, Bool, false, ◌&&◌, ap, refl, inl, inr, arith, subst}
use Rattle.std.proofs.lemmas.Bool.{and_right}
use Rattle.std.specs.Option.{option_eq}
use Rattle.std.specs.FinMap as finite
use Rattle.tag.proofs.Below.{below_or_last}
use Rattle.network.specs.Equality.{agree_below}
use Rattle.network.specs.Flights.{Flight, Flights}

pub agree_not : (same : Flight → Flight → Bool) (m n : Flights) (k count : ℕ) → k < count → option_eq same (finite.get m k) (finite.get n k) ≡ false → agree_below same m n count ≡ false
agree_not same m n k zero lt e = absurd (omega arith)
agree_not same m n k (suc c) lt e =
    elim (below_or_last k c lt) [
      | inl less ↦ ap (λ b. option_eq same (finite.get m c) (finite.get n c) && b) (agree_not same m n k c less e) ∙ and_right (option_eq same (finite.get m c) (finite.get n c)) false refl
      | inr at ↦ ap (λ b. b && agree_below same m n c) (subst (λ z. option_eq same (finite.get m z) (finite.get n z) ≡ false) at e)
    ]
