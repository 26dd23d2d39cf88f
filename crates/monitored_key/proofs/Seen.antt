-- A key as it is seen, and what is kept of it.
use Rattle.std.proofs.Common.{◌≡◌, Option, Some, None, Result, Ok, Err, IfOk, IfSome, OnErr, ap, sym, subst, ◌∙◌}
use Rattle.std.proofs.lemmas.Bool.{false≢true}
use Rattle.std.specs.Result.{result_ok}
use Rattle.monitored_key.specs.declared.kept.Kept.{Kept}
use Rattle.monitored_key.specs.Held.{Held, IsLost}
use Rattle.monitored_key.specs.Kept.{IsSound, held_of, seen}

-- what is taken out is what was seen
pub taken : (o : Option Kept) (kept : Kept) (held : Held) → Some kept ≡ o → held_of o ≡ held → IfSome o IsSound
    → IsSound kept × (seen kept ≡ held)
taken o kept held e view sound = (
  subst (λ (x : Option Kept). IfSome x IsSound) (sym e) sound,
  subst (λ (x : Option Kept). held_of x ≡ held) (sym e) view,
)

pub lost_by : (o : Option Kept) (held : Held) → None ≡ o → held_of o ≡ held → IsLost held
lost_by o held e view =
    sym (ap (λ (h : Held). h.is_lost) view) ∙ ap (λ (x : Option Kept). (held_of x).is_lost) (sym e)

module _ {E : Type 0} where
  pub taken_ok : (r : Result Kept E) (o : Option Kept) (held : Held) → o ≡ result_ok r → held_of o ≡ held → IfSome o IsSound
      → IfOk r (λ kept. IsSound kept × (seen kept ≡ held))
  taken_ok (Ok kept) o held e view sound = taken o kept held (sym e) view sound
  taken_ok (Err d) o held e view sound = tt

  pub lost_err : (r : Result Kept E) (o : Option Kept) (held : Held) → o ≡ result_ok r → held_of o ≡ held → OnErr r (IsLost held)
  lost_err (Ok kept) o held e view = tt
  lost_err (Err d) o held e view = lost_by o held (sym e) view

-- what is kept isn't lost
pub not_lost : (kept : Kept) (held : Held) → seen kept ≡ held → IsLost held → ⊥
not_lost kept held e lost = false≢true (ap (λ (h : Held). h.is_lost) e ∙ lost)

-- what holds of what is kept holds of the key
pub carried : (P : Held → Held → Type 0) (a b old new : Held) → a ≡ old → new ≡ b → P a b → P old new
carried P a b old new e f h = subst (λ (x : Held). P old x) (sym f) (subst (λ (x : Held). P x b) e h)
