-- The first item that passes a test, found by its place and changed.
use Rattle.std.proofs.Common.{ℕ, zero, suc, ◌≡◌, ◌+◌, ◌<◌, ◌≤◌, Bool, true, false, not, cond, ltb, List, [], ◌∷◌, length, Option, None, Some, get_or, set}
use Rattle.std.proofs.Common.{refl, sym, ap, ◌∙◌, inl, inr, arith}
use Rattle.std.specs.List.{find, position, position_or_len, slice_get}
use Rattle.std.specs.Prelude.{IfSome}
use Rattle.std.proofs.lemmas.Bool.{cases_Bool, ltb-false}
use Rattle.std.proofs.lemmas.List.Folds.{find_at}
use Rattle.std.proofs.lemmas.List.Quantifiers.{position-Some}
use Rattle.std.proofs.lemmas.Option.{slice_get-get_or, slice_get_past}
use Rattle.message_scenes.specs.Lists.{change_first}

none_of : (b : Bool) (n : ℕ) → cond b (Some n) None ≡ None → b ≡ false
none_of true n e = absurd cc
none_of false n e = refl

-- where no place was found
past_all : {A : Type 0} (test : A → Bool) (xs : List A) → position test xs ≡ None → length xs ≤ position_or_len test xs
past_all test xs is =
    ltb-false (position_or_len test xs) (length xs) (none_of (ltb (position_or_len test xs) (length xs)) (position_or_len test xs) is)

module _ {A : Type 0} (test : A → Bool) (f : A → A) where
  -- the first item, by whether it passes
  pub heads : (x : A) (xs : List A) (b : Bool) → test x ≡ b → change_first test f (x ∷ xs) ≡ cond b (f x ∷ xs) (x ∷ change_first test f xs)
  heads x xs b e = ap (λ (t : Bool). cond t (f x ∷ xs) (x ∷ change_first test f xs)) e

  -- at a place before which none passes
  changed_at : (xs : List A) (k : ℕ) (d : A) → k < length xs → test (get_or xs k d) ≡ true
      → ((j : ℕ) → j < k → test (get_or xs j d) ≡ false) → change_first test f xs ≡ set xs k (f (get_or xs k d))
  changed_at [] k d inside passes before = absurd (omega (arith, inside))
  changed_at (x ∷ xs) zero d inside passes before = heads x xs true passes
  changed_at (x ∷ xs) (suc k) d inside passes before =
      heads x xs false (before 0 (omega arith))
      ∙ ap (λ (ys : List A). x ∷ ys) (changed_at xs k d (omega (arith, inside)) passes (λ j below. before (suc j) (omega (arith, below))))

  -- where none passes nothing changes
  nowhere : (xs : List A) → length xs ≤ position_or_len test xs → change_first test f xs ≡ xs
  nowhere [] past = refl
  nowhere (x ∷ xs) past = elim (cases_Bool (test x)) [
    | inl hit ↦
        let first : position_or_len test (x ∷ xs) ≡ 0 = ap (λ (b : Bool). cond (not b) (1 + position_or_len test xs) 0) hit in
        absurd (omega (arith, past, first))
    | inr miss ↦
        let rest : position_or_len test (x ∷ xs) ≡ 1 + position_or_len test xs =
        ap (λ (b : Bool). cond (not b) (1 + position_or_len test xs) 0) miss in
        heads x xs false miss ∙ ap (λ (ys : List A). x ∷ ys) (nowhere xs (omega (arith, past, rest)))
  ]

  -- the item at the place that was found is changed
  pub changed_here : (xs : List A) (k : ℕ) (d : A) → position test xs ≡ Some k → set xs k (f (get_or xs k d)) ≡ change_first test f xs
  changed_here xs k d is =
      let (inside, passes, before) = position-Some test xs k d is in
      sym (changed_at xs k d inside passes before)

  -- nothing changes where none was found
  pub unchanged : (xs : List A) → position test xs ≡ None → xs ≡ change_first test f xs
  unchanged xs is = sym (nowhere xs (past_all test xs is))

-- the place that was found is one of the list
pub found_bound : {A : Type 0} (test : A → Bool) (xs : List A) (place : Option ℕ) → place ≡ position test xs → IfSome place (λ k. k < length xs)
found_bound test xs None is = tt
found_bound test [] (Some k) is = absurd (let e : Some k ≡ None = is in cc)
found_bound test (x ∷ xs) (Some k) is = (position-Some test (x ∷ xs) k x (sym is)).0

-- and it is that of the first item that passes
first_place : (b : Bool) (n k : ℕ) → cond {A = Option ℕ} b (Some n) None ≡ Some k → n ≡ k
first_place true n k e = cc
first_place false n k e = absurd cc

module _ {A : Type 0} (test : A → Bool) where
  -- the item at the place that was found is the first that passes
  pub find_here : (xs : List A) (k : ℕ) (d : A) → position test xs ≡ Some k → find test xs ≡ Some (get_or xs k d)
  find_here xs k d is =
      find_at test xs ∙ ap (slice_get xs) (first_place (ltb (position_or_len test xs) (length xs)) (position_or_len test xs) k is)
      ∙ slice_get-get_or xs k d (position-Some test xs k d is).0

  -- no item passes where none was found
  pub find_none : (xs : List A) → position test xs ≡ None → find test xs ≡ None
  find_none xs is = find_at test xs ∙ slice_get_past xs (position_or_len test xs) (past_all test xs is)
