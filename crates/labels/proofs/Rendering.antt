-- The bytes of what is made of each item of a list, of each item and its index, or of each number below a count.
use Rattle.std.proofs.Common.{ℕ, suc, ◌≡◌, ◌<◌, ◌≤◌, ◌+◌, List, [], ◌++◌, length, get_or, drop, refl, sym, ap, subst, ◌∙◌, append-nil, append_assoc, arith}
use Rattle.std.proofs.lemmas.List.{at_drop_more, at_drop_all}
use Rattle.markup.specs.Markup.{Markup, each, rendered}
use Rattle.labels.specs.Each.{each_below, each_from}

module _ {X : Type 0} where
  -- one item on
  each_more : (f : X → Markup) (xs : List X) (i : ℕ) (d : X) → i < length xs
      → rendered (each f (drop i xs)) ≡ rendered (f (get_or xs i d)) ++ rendered (each f (drop (i + 1) xs))
  unfolding rendered
  each_more f xs i d within = at_drop_more (λ (ys : List X). rendered (each f ys)) xs i d within

  -- at the end
  each_end : (f : X → Markup) (xs : List X) (i : ℕ) → length xs ≤ i → rendered (each f (drop i xs)) ≡ []
  unfolding rendered
  each_end f xs i past = at_drop_all (λ (ys : List X). rendered (each f ys)) xs i past

  -- the same, with indexes
  each_from_more : (f : ℕ → X → Markup) (xs : List X) (i : ℕ) (d : X) → i < length xs
      → rendered (each_from f i (drop i xs)) ≡ rendered (f i (get_or xs i d)) ++ rendered (each_from f (i + 1) (drop (i + 1) xs))
  unfolding rendered
  each_from_more f xs i d within = at_drop_more (λ (ys : List X). rendered (each_from f i ys)) xs i d within

  each_from_end : (f : ℕ → X → Markup) (xs : List X) (i : ℕ) → length xs ≤ i → rendered (each_from f i (drop i xs)) ≡ []
  unfolding rendered
  each_from_end f xs i past = at_drop_all (λ (ys : List X). rendered (each_from f i ys)) xs i past

-- a list that goes on, and what is still to come: one piece more
pub after_one : (page next one rest more all : List ℕ) → rest ≡ one ++ more → page ++ rest ≡ all → next ≡ page ++ one → next ++ more ≡ all
after_one page next one rest more all is so_far added =
    ap (λ (s : List ℕ). s ++ more) added ∙ (append_assoc page one more ∙ (ap (λ (s : List ℕ). page ++ s) (sym is) ∙ so_far))

-- nothing is still to come
pub after_all : (page rest all : List ℕ) → rest ≡ [] → page ++ rest ≡ all → page ≡ all
after_all page rest all none so_far = sym (append-nil page) ∙ (ap (λ (s : List ℕ). page ++ s) (sym none) ∙ so_far)

module _ {X : Type 0} where
  -- with one item more, and with all
  pub each_step : (f : X → Markup) (xs : List X) (i : ℕ) (x : X) (page next all : List ℕ) → i < length xs → x ≡ get_or xs i x
      → page ++ rendered (each f (drop i xs)) ≡ all → next ≡ page ++ rendered (f x) → next ++ rendered (each f (drop (i + 1) xs)) ≡ all
  each_step f xs i x page next all within same so_far added =
      after_one page next (rendered (f (get_or xs i x))) (rendered (each f (drop i xs))) (rendered (each f (drop (i + 1) xs))) all
      (each_more f xs i x within) so_far (added ∙ ap (λ (y : X). page ++ rendered (f y)) same)

  pub each_last : (f : X → Markup) (xs : List X) (i : ℕ) (page all : List ℕ) → length xs ≤ i
      → page ++ rendered (each f (drop i xs)) ≡ all → page ≡ all
  each_last f xs i page all past so_far = after_all page (rendered (each f (drop i xs))) all (each_end f xs i past) so_far

  pub each_from_step : (f : ℕ → X → Markup) (xs : List X) (i : ℕ) (x : X) (page next all : List ℕ) → i < length xs → x ≡ get_or xs i x
      → page ++ rendered (each_from f i (drop i xs)) ≡ all → next ≡ page ++ rendered (f i x)
      → next ++ rendered (each_from f (i + 1) (drop (i + 1) xs)) ≡ all
  each_from_step f xs i x page next all within same so_far added =
      after_one page next (rendered (f i (get_or xs i x))) (rendered (each_from f i (drop i xs)))
      (rendered (each_from f (i + 1) (drop (i + 1) xs))) all (each_from_more f xs i x within) so_far
      (added ∙ ap (λ (y : X). page ++ rendered (f i y)) same)

  pub each_from_last : (f : ℕ → X → Markup) (xs : List X) (i : ℕ) (page all : List ℕ) → length xs ≤ i
      → page ++ rendered (each_from f i (drop i xs)) ≡ all → page ≡ all
  each_from_last f xs i page all past so_far = after_all page (rendered (each_from f i (drop i xs))) all (each_from_end f xs i past) so_far

module _ (f : ℕ → Markup) where
  each_below_more : (n : ℕ) → rendered (each_below f (n + 1)) ≡ rendered (each_below f n) ++ rendered (f n)
  unfolding rendered
  each_below_more n =
      let one : suc n ≡ n + 1 = omega arith in
      subst (λ (m : ℕ). rendered (each_below f m) ≡ rendered (each_below f n) ++ rendered (f n)) one refl

  -- with no number, and with one number more
  pub each_below_none : (page : List ℕ) → page ≡ page ++ rendered (each_below f 0)
  unfolding rendered
  each_below_none page = sym (append-nil page)

  pub each_below_step : (n : ℕ) (old page next : List ℕ) → page ≡ old ++ rendered (each_below f n) → next ≡ page ++ rendered (f n)
      → next ≡ old ++ rendered (each_below f (n + 1))
  each_below_step n old page next so_far added =
      added
      ∙ (ap (λ (s : List ℕ). s ++ rendered (f n)) so_far
      ∙ (append_assoc old (rendered (each_below f n)) (rendered (f n)) ∙ ap (λ (s : List ℕ). old ++ s) (sym (each_below_more n))))
