-- What a line says of a text.
use Rattle.std.proofs.Common.{ℕ, ◌≡◌, ◌↔◌, List, ◌++◌, Bool, true, false, Result, Ok, Err, IfOk, sym, ◌∙◌, append_assoc}
use Rattle.std.proofs.lemmas.Bool.{false≢true}
use Rattle.std.specs.Str.Iter.{HasSubslice}

-- four pieces
pub four : (p q r s line : List ℕ) → line ≡ p ++ (q ++ (r ++ s)) → line ≡ p ++ q ++ r ++ s
four p q r s line is = let joined : p ++ (q ++ (r ++ s)) ≡ p ++ q ++ r ++ s = simp append_assoc in is ∙ joined

-- what follows from what is said of an answer
pub weaker : {T E : Type 0} {P Q : T → Type 0} (r : Result T E) → ((x : T) → P x → Q x) → IfOk r P → IfOk r Q
weaker (Ok x) f p = f x p
weaker (Err e) f p = tt

-- a word that isn't found doesn't stand there
pub unfound : (r : Bool) (text word : List ℕ) → (r ≡ true) ↔ HasSubslice text word → r ≡ false → HasSubslice text word → ⊥
unfound r text word found missed stands = false≢true (sym missed ∙ found.1 stands)
