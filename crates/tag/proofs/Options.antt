-- An option by its test.
use Rattle.std.proofs.Common.{◌≡◌, true, false, Option, Some, None, is_none, is_some, refl, true≢false, sym}
use Rattle.std.proofs.lemmas.Option.{none-some}

-- nothing is not something
pub none_some : {A B : Type 0} {x : A} → None ≡ Some x → B
none_some {x = x} e = absurd (none-some x e)

pub none_from_is_none : {X : Type 0} (o : Option X) → is_none o ≡ true → o ≡ None
none_from_is_none None e = refl
none_from_is_none (Some x) e = absurd (true≢false (sym e))

pub none_from_is_some : {X : Type 0} (o : Option X) → is_some o ≡ false → o ≡ None
none_from_is_some None e = refl
none_from_is_some (Some x) e = absurd (true≢false e)

pub some_from_is_none : {X : Type 0} (o : Option X) → is_none o ≡ false → (x : X) × (o ≡ Some x)
some_from_is_none None e = absurd (true≢false e)
some_from_is_none (Some x) e = (x, refl)

pub some_from_is_some : {X : Type 0} (o : Option X) → is_some o ≡ true → (x : X) × (o ≡ Some x)
some_from_is_some None e = absurd (true≢false (sym e))
some_from_is_some (Some x) e = (x, refl)
