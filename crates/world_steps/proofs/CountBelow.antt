-- How many numbers below a number pass a test.
use Rattle.std.proofs.Common.{◌≡◌, ℕ, zero, suc, ◌+◌, ◌<◌, ◌≤◌, Bool, true, false, cond, refl, subst, inl, inr, arith, ap}
use Rattle.tag.proofs.Below.{below_or_last}
use Rattle.world_steps.specs.Sound.{count_below}

no_more : (a b : ℕ) (p q : Bool) → a ≤ b → (p ≡ true → q ≡ true) → a + cond p 1 0 ≤ b + cond q 1 0
no_more a b true true le h = omega arith
no_more a b false q le h = omega arith
no_more a b true false le h = let e : false ≡ true = h refl in absurd cc

more_still : (a b : ℕ) (p q : Bool) → a + 1 ≤ b → (p ≡ true → q ≡ true) → (a + cond p 1 0) + 1 ≤ b + cond q 1 0
more_still a b true true le h = omega arith
more_still a b false q le h = omega arith
more_still a b true false le h = let e : false ≡ true = h refl in absurd cc

just_now : (a b : ℕ) (p q : Bool) → a ≤ b → p ≡ false → q ≡ true → (a + cond p 1 0) + 1 ≤ b + cond q 1 0
just_now a b false true le was is = omega arith
just_now a b true q le was is = absurd cc
just_now a b false false le was is = absurd cc

no_further : (a n : ℕ) (b : Bool) → a ≤ n → a + cond b 1 0 ≤ suc n
no_further a n true h = omega arith
no_further a n false h = omega arith

still_fewer : (a n : ℕ) (b : Bool) → a < n → a + cond b 1 0 < suc n
still_fewer a n true h = omega arith
still_fewer a n false h = omega arith

-- where what passes one test passes another
module _ (p q : ℕ → Bool) (goes_on : (n : ℕ) → p n ≡ true → q n ≡ true) where
  -- no fewer pass
  pub count_rises : (n : ℕ) → count_below p n ≤ count_below q n
  count_rises zero = omega arith
  count_rises (suc n) = no_more (count_below p n) (count_below q n) (p n) (q n) (count_rises n) (goes_on n)

  -- one that passes now and didn't
  pub count_one_more : (m : ℕ) → p m ≡ false → q m ≡ true → (n : ℕ) → m < n → count_below p n + 1 ≤ count_below q n
  count_one_more m was is zero lt = absurd (omega arith)
  count_one_more m was is (suc n) lt =
      elim (below_or_last m n lt) [
        | inl less ↦ more_still (count_below p n) (count_below q n) (p n) (q n) (count_one_more m was is n less) (goes_on n)
        | inr same ↦ just_now (count_below p n) (count_below q n) (p n) (q n) (count_rises n) (subst (λ k. p k ≡ false) same was) (subst (λ k. q k ≡ true) same is)
      ]

-- no fewer numbers below a greater one pass
pub count_wider : (p : ℕ → Bool) (n k : ℕ) → count_below p n ≤ count_below p (n + k)
count_wider p n zero = let e : n ≡ n + 0 = omega arith in subst (λ z. count_below p n ≤ count_below p z) e (omega arith)
count_wider p n (suc k) =
    let e : suc (n + k) ≡ n + suc k = omega arith in
    let h : count_below p n ≤ count_below p (n + k) = count_wider p n k in
    subst (λ z. count_below p n ≤ count_below p z) e (omega (arith, h))

-- at most all of them pass
count_within : (p : ℕ → Bool) (n : ℕ) → count_below p n ≤ n
count_within p zero = omega arith
count_within p (suc n) = no_further (count_below p n) n (p n) (count_within p n)

-- where one doesn't pass, fewer pass than there are
pub count_fewer : (p : ℕ → Bool) (m n : ℕ) → p m ≡ false → m < n → count_below p n < n
count_fewer p m zero out lt = absurd (omega arith)
count_fewer p m (suc n) out lt =
    elim (below_or_last m n lt) [
      | inl less ↦ still_fewer (count_below p n) n (p n) (count_fewer p m n out less)
      | inr same ↦
          let here : p n ≡ false = subst (λ k. p k ≡ false) same out in
          let last : count_below p (suc n) ≡ count_below p n + 0 = ap (λ b. count_below p n + cond b 1 0) here in
          let most : count_below p n ≤ n = count_within p n in
          omega (arith, last, most)
    ]
