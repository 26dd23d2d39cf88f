-- Numbers that grow by a digit.
use Rattle.std.proofs.Common.{ℕ, zero, suc, ◌≡◌, ◌↔◌, ◌⊎◌, ◌<◌, ◌≤◌, ◌+◌, ◌*◌, ◌-◌, ◌^◌, ◌&&◌, inl, inr, List}
use Rattle.std.proofs.Common.{[], ◌∷◌, length, get_or, take, Option, Some, None, Result, Ok, Err, Bool, true, false}
use Rattle.std.proofs.Common.{cond, fold, nat_le, nat_lt, refl, sym, ap, ◌∙◌, subst, arith}
use Rattle.std.specs.Prelude.{IfOk, IfErr}
use Rattle.std.proofs.lemmas.List.Sums.{fold_more}
use Rattle.std.specs.Bool.{Decides}
use Rattle.std.proofs.lemmas.Bool.{cases_lt, le-leb, leb-true, lt-ltb, le-ltb, ltb-true}
use Rattle.std.proofs.lemmas.Bool.Decides.{Decides-and}
use Rattle.tag.specs.declared.names.NameError.{NameError}
use Rattle.tag.specs.declared.names.NameError.TheVariants as reason
use Rattle.counted_devices.specs.Answers.{Gives}
use Rattle.counted_devices.specs.declared.read_fault.Stop.{Stop}
use Rattle.counted_devices.specs.declared.read_fault.Stop.TheVariants as stop
use Rattle.fault_script.specs.declared.fault.LineFault.{LineFault}
use Rattle.fault_script.specs.declared.fault.LineFault.TheVariants.{Range}
use Rattle.fault_script.specs.Says.{in_range, named}
use Rattle.fault_script.specs.Words.{u64_of, decimal_value}

-- the test of a range says what the range says
pub range_decides : (least most n : ℕ) → Decides (nat_le least n && nat_le n most) ((least ≤ n) × (n ≤ most))
range_decides least most n = Decides-and (nat_le least n) (nat_le n most) (leb-true least n, le-leb least n) (
  leb-true n most,
  le-leb n most,
)

module _ (bad : NameError) (text : List ℕ) (fits : Bool) where
  abbrev IsSaid : Result (List ℕ) (Stop LineFault) → Type 0
  IsSaid answer = Gives (λ (name : List ℕ). name) answer (in_range fits text)

  -- the name that was made of a word is what is said of the word
  pub named_gives : (made : Result (List ℕ) NameError) (answer : Result (List ℕ) (Stop LineFault)) → answer ≡ named made
      → named {X = List ℕ} (Err bad) ≡ Err (stop.Fault Range) → IfOk made (λ name. (name ≡ text) × (fits ≡ true))
      → ((made ≡ Err bad) ↔ (fits ≡ false)) → IfErr made (λ why. (why ≡ bad) ⊎ (why ≡ reason.Memory)) → IsSaid answer
  named_gives (Ok name) answer is fault value refused only =
      subst IsSaid (sym is) (ap (λ (b : Bool). in_range b text) value.1 ∙ ap (λ (t : List ℕ). Ok t) (sym value.0))
  named_gives (Err why) answer is fault value refused only =
      let by = λ (x : NameError). named {X = List ℕ} (Err x) in
      elim only [
        | inl e ↦ subst IsSaid (sym (is ∙ ap by e ∙ fault)) (ap (λ (b : Bool). in_range b text) (refused.0 (ap (λ (x : NameError). Err x) e)))
        | inr e ↦ subst IsSaid (sym (is ∙ ap by e)) tt
      ]

pub u64_of-small : (n : ℕ) → n < 2 ^ 64 → u64_of n ≡ Some n
u64_of-small n lt = ap (λ (b : Bool). cond b (Some n) None) (lt-ltb n (2 ^ 64) lt)

pub u64_of-large : (n : ℕ) → 2 ^ 64 ≤ n → u64_of n ≡ None
u64_of-large n le = ap (λ (b : Bool). cond b (Some n) None) (le-ltb n (2 ^ 64) le)

small_by : (n : ℕ) (b : Bool) (x : ℕ) → cond {A = Option ℕ} b (Some n) None ≡ Some x → (b ≡ true) × (n ≡ x)
small_by n true x e = (refl, cc)
small_by n false x e = absurd (cc)

pub small-u64_of : (n x : ℕ) → u64_of n ≡ Some x → (n < 2 ^ 64) × (n ≡ x)
small-u64_of n x e = let w = small_by n (nat_lt n (2 ^ 64)) x e in (ltb-true n (2 ^ 64) w.0, w.1)

large_by : (n : ℕ) (b : Bool) → cond {A = Option ℕ} b (Some n) None ≡ None → b ≡ false
large_by n true e = absurd (cc)
large_by n false e = refl

pub large-u64_of : (n : ℕ) → u64_of n ≡ None → 2 ^ 64 ≤ n
large-u64_of n e =
    elim (cases_lt n (2 ^ 64)) [
      | inl lt ↦ absurd (let f = large_by n (nat_lt n (2 ^ 64)) e in let t = lt-ltb n (2 ^ 64) lt in cc)
      | inr le ↦ omega arith
    ]

-- one digit more
pub value-more : (xs : List ℕ) (i : ℕ) → i < length xs → decimal_value (take (i + 1) xs)
    ≡ decimal_value (take i xs) * 10 + (get_or xs i 0 - 48)
value-more xs i lt = fold_more (λ (n digit : ℕ). n * 10 + (digit - 48)) 0 xs i 0 lt

-- a number doesn't fall by more digits
grows_from : (ys : List ℕ) (n : ℕ) → n ≤ fold (λ (n digit : ℕ). n * 10 + (digit - 48)) n ys
grows_from [] n = omega arith
grows_from (y ∷ ys) n = omega (arith, grows_from ys (n * 10 + (y - 48)))

take_grows : (xs : List ℕ) (k n : ℕ) → fold (λ (n digit : ℕ). n * 10 + (digit - 48)) n (take k xs)
    ≤ fold (λ (n digit : ℕ). n * 10 + (digit - 48)) n xs
take_grows [] zero n = omega arith
take_grows [] (suc k) n = omega arith
take_grows (x ∷ xs) zero n = grows_from (x ∷ xs) n
take_grows (x ∷ xs) (suc k) n = take_grows xs k (n * 10 + (x - 48))

pub value-take : (xs : List ℕ) (k : ℕ) → decimal_value (take k xs) ≤ decimal_value xs
value-take xs k = take_grows xs k 0
