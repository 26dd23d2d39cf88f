-- There are no more things than others that pass a test, if each has one of these that is of no other.
use Rattle.std.proofs.Common.{ℕ, zero, suc, ◌≡◌, ◌≢◌, ◌<◌, ◌≤◌, ◌+◌, Bool, true, cond, List, [], ◌∷◌, Some, length, count_by, refl, sym, ◌∙◌, ap, subst, arith}
use Rattle.std.specs.List.{slice_get}
use Rattle.std.proofs.lemmas.List.Sums.{sum_by-cons}
use Rattle.std.proofs.lemmas.Option.{none-some, same_Some, slice_get_within}

-- the list without what stands at the place
without : {Y : Type 0} → List Y → ℕ → List Y
without [] place = []
without (y ∷ ys) zero = ys
without (y ∷ ys) (suc place) = y ∷ without ys place

-- what stands at another place stays
stays : {Y : Type 0} (ys : List Y) (place other : ℕ) (z : Y) → slice_get ys other ≡ Some z → other ≢ place → (k : ℕ) × (slice_get (without ys place) k ≡ Some z)
unfolding without
stays [] place other z at apart = absurd (none-some z at)
stays (y ∷ ys) zero zero z at apart = absurd (apart refl)
stays (y ∷ ys) zero (suc other) z at apart = (other, at)
stays (y ∷ ys) (suc place) zero z at apart = (zero, at)
stays (y ∷ ys) (suc place) (suc other) z at apart =
    let s = stays ys place other z at (λ e. apart (ap suc e)) in
    (suc s.0, s.1)

module _ {Y : Type 0} (test : Y → Bool) where
  one_for : Y → ℕ
  one_for y = cond (test y) 1 0

  counted : (y : Y) (ys : List Y) → count_by test (y ∷ ys) ≡ one_for y + count_by test ys
  unfolding one_for
  counted y ys = sum_by-cons (λ z. cond (test z) 1 0) y ys

  one_is : (y : Y) → test y ≡ true → one_for y ≡ 1
  unfolding one_for
  one_is y passes = ap (λ (b : Bool). cond b 1 0) passes

  -- without one that passes, one less passes
  one_less : (ys : List Y) (place : ℕ) (y : Y) → slice_get ys place ≡ Some y → test y ≡ true → count_by test ys ≡ 1 + count_by test (without ys place)
  unfolding without
  one_less [] place y at passes = absurd (none-some y at)
  one_less (z ∷ ys) zero y at passes =
      let same : z ≡ y = same_Some z y at in
      let one = one_is z (ap test same ∙ passes) in
      omega (arith, one, counted z ys)
  one_less (z ∷ ys) (suc place) y at passes =
      let rest = one_less ys place y at passes in
      omega (arith, rest, counted z ys, counted z (without ys place))

-- the list has something of x that passes the test
pub record HasOne {X Y : Type 0} (Of : X → Y → Type 0) (test : Y → Bool) (ys : List Y) (x : X) : Type 0 where
  pub place : ℕ
  pub one : Y
  pub at : slice_get ys place ≡ Some one
  pub passes : test one ≡ true
  pub of : Of x one

module _ {X Y : Type 0} (Of : X → Y → Type 0) (test : Y → Bool) (only : (a b : X) (y : Y) → Of a y → Of b y → a ≡ b) where
  -- what is another's stays when that of x is taken out
  still_has : (ys : List Y) (x other : X) → other ≢ x → (h : HasOne Of test ys x) → HasOne Of test ys other → HasOne Of test (without ys h.place) other
  still_has ys x other apart h o =
      let k = stays ys h.place o.place o.one o.at (λ (e : o.place ≡ h.place).
      (let same : o.one ≡ h.one = same_Some o.one h.one (sym o.at ∙ ap (λ n. slice_get ys n) e ∙ h.at) in
      apart (only other x h.one (subst (λ (y : Y). Of other y) same o.of) h.of))) in
      record { place = k.0; one = o.one; at = k.1; passes = o.passes; of = o.of }

  -- each takes out one of its own
  pub no_more : (xs : List X) (ys : List Y) → ((i j : ℕ) → i < j → j < length xs → slice_get xs i ≢ slice_get xs j) → ((k : ℕ) (x : X) → slice_get xs k ≡ Some x → HasOne Of test ys x) → length xs ≤ count_by test ys
  no_more [] ys once each = omega arith
  no_more (x ∷ xs) ys once each =
      let h = each zero x refl in
      let less = one_less test ys h.place h.one h.at h.passes in
      let rest = no_more xs (without ys h.place)
      (λ i j below within. once (suc i) (suc j) (omega (arith, below)) (omega (arith, within)))
      (λ k y at. still_has ys x y
      (λ e. once zero (suc k) (omega arith) (omega (arith, slice_get_within xs k y at)) (ap Some (sym e) ∙ sym at))
      h (each (suc k) y at)) in
      omega (arith, less, rest)
