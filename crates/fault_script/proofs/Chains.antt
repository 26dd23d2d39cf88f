-- Steps that may fail, one after another.
use Rattle.std.proofs.Common.{◌≡◌, ◌⊎◌, inl, inr, Bool, true, false, cond, Result, Ok, Err, refl, ap}
use Rattle.fault_script.specs.declared.fault.LineFault.{LineFault}
use Rattle.counted_devices.specs.Answers.{◌>>=◌}

-- what two steps gave, the first of them gave something
pub after : {A B : Type 0} (r : Result A LineFault) (f : A → Result B LineFault) (y : B) → (r >>= f) ≡ Ok y → (x : A) × (r ≡ Ok x)
    × (f x ≡ Ok y)
after (Ok x) f y e = (x, refl, e)
after (Err fault) f y e = absurd (cc)

abbrev pub done : {A : Type 0} → A → Result A LineFault
done x = Ok x

pub inside : {A : Type 0} (x y : A) → done x ≡ done y → x ≡ y
inside x y e = cc

pub picked : {A : Type 0} (b : Bool) (x y : Result A LineFault) (w : A) → cond b x y ≡ Ok w → ((b ≡ true) × (x ≡ Ok w)) ⊎ (y ≡ Ok w)
picked true x y w e = inl (refl, e)
picked false x y w e = inr e

-- what is made of one answer
pub mapped : {A B : Type 0} (r : Result A LineFault) (f : A → B) (y : B) → (r >>= (λ x. done (f x))) ≡ Ok y → (x : A) × (r ≡ Ok x)
    × (f x ≡ y)
mapped (Ok x) f y e = (x, refl, inside (f x) y e)
mapped (Err fault) f y e = absurd (cc)

pub mapped_there : {A B : Type 0} (r : Result A LineFault) (f : A → B) (x : A) → r ≡ Ok x → (r >>= (λ x. done (f x))) ≡ Ok (f x)
mapped_there r f x e = ap (λ r. r >>= (λ x. done (f x))) e
