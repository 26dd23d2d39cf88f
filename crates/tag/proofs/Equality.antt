-- Equality of values that may be missing.
use Rattle.std.specs.Prelude.{◌≡◌, Bool, true, Option, None, Some}
use Rattle.std.specs.Option.{option_eq}
use Rattle.std.specs.Cmp.{IsPartialEquivalence}
use Rattle.std.proofs.lemmas.Bool.{false≢true}
use Rattle.std.proofs.Common.{refl}

module _ {X : Type 0} (same : X → X → Bool) (is : IsPartialEquivalence same) where
  symm : (p q : Option X) → option_eq same p q ≡ option_eq same q p
  symm None None = refl
  symm None (Some y) = refl
  symm (Some x) None = refl
  symm (Some x) (Some y) = is.symm x y

  trans : (p q r : Option X) → option_eq same p q ≡ true → option_eq same q r ≡ true
      → option_eq same p r ≡ true
  trans None None r a b = b
  trans None (Some y) r a b = absurd (false≢true a)
  trans (Some x) None r a b = absurd (false≢true a)
  trans (Some x) (Some y) None a b = absurd (false≢true b)
  trans (Some x) (Some y) (Some z) a b = is.trans x y z a b

  pub option_per : IsPartialEquivalence (option_eq same)
  option_per = record { symm = symm; trans = trans }
