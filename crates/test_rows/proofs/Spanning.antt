-- The line of a span, and what holds of an answer.
use Rattle.std.proofs.Common.{ℕ, ◌≡◌, List, [], ◌∷◌, ◌++◌, codes, decimal, length, false, nat_eq, Result, Ok, Err, OnOk, is_ok, if◌then◌else◌, sym, ap, ◌∙◌, append_assoc}
use Rattle.std.proofs.lemmas.Bool.{false≢true}
use Rattle.test_rows.specs.Spans.{span_line}

regroup : (p q r s t u : List ℕ) → p ++ (q ++ (r ++ (s ++ (t ++ u)))) ≡ p ++ q ++ r ++ s ++ t ++ u
regroup p q r s t u = simp append_assoc

-- an answer that isn't empty has its line
pub spelled : (first last : ℕ) (answer text line : List ℕ) (len : ℕ) → len ≡ length answer → nat_eq len 0 ≡ false → text ≡ answer
    → line ≡ decimal first ++ (codes " to " ++ (decimal last ++ (codes ": " ++ (text ++ codes "\n")))) → line ≡ span_line first last answer
spelled first last [] text line len counted empty same is = absurd (false≢true (sym empty ∙ ap (λ (n : ℕ). nat_eq n 0) counted))
spelled first last (byte ∷ bytes) text line len counted empty same is =
    is ∙ ap (λ (t : List ℕ). decimal first ++ (codes " to " ++ (decimal last ++ (codes ": " ++ (t ++ codes "\n"))))) same
    ∙ regroup (decimal first) (codes " to ") (decimal last) (codes ": ") (byte ∷ bytes) (codes "\n")

-- what is added where it went well
pub added : {T E : Type 0} (r : Result T E) (new old text line other : List ℕ) → new ≡ (if is_ok r then old ++ text else other) → text ≡ line → OnOk r (new ≡ old ++ line)
added (Ok x) new old text line other is same = is ∙ ap (λ (t : List ℕ). old ++ t) same
added (Err e) new old text line other is same = tt
