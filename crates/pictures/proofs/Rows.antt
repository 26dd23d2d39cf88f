-- Rows of ticks and dots: each has its own, in the order of their places.
use Rattle.std.proofs.Common.{ℕ, ◌≡◌, ◌<◌, ◌≤◌, ◌+◌, zero, suc, Bool, true, false, cond, nat_le, nat_lt, List, [], ◌∷◌, Some, get_or, map, count_by, refl, sym, ap, ◌∙◌, inl, inr, arith}
use Rattle.std.specs.List.{slice_get}
use Rattle.std.specs.List.Sorted.{IsNonDecreasing, IsStrictlyIncreasing}
use Rattle.std.proofs.lemmas.Bool.{cases_lt}
use Rattle.std.proofs.lemmas.Bool.Decides.{nat_tests}
use Rattle.std.proofs.lemmas.List.Kept.{AllPairs-from_increasing}
use Rattle.std.proofs.lemmas.List.Sums.{count_by-le-length, sum_by-cons}
use Rattle.std.proofs.lemmas.Option.{same_Some, slice_get_within, get_or_from_slice_get}
use Rattle.tag.proofs.Lists.{slice_get-map_at}
use Rattle.tag.proofs.Options.{none_some}
use Rattle.scenes.specs.declared.gaps.Gap.{Gap}
use Rattle.scenes.specs.declared.scene.Dot.{Dot}
use Rattle.scenes.specs.declared.scene.Scene.{Scene}
use Rattle.labels.proofs.Counts.{below, not_below}
use Rattle.pictures.specs.Layout.{HasRowsInOrder, IsInOrder, dots_before, gaps_up_to, row_of_dot, row_of_gap, row_of_place, rows_of, rows_up_to, ticks_before}
use Rattle.pictures.proofs.Counts.{mapped_not_falling}

not_up_to : (m n : ℕ) → n < m → nat_le m n ≡ false
not_up_to m n less = grind (arith, nat_tests)

up_to : (m n : ℕ) → m ≤ n → nat_le m n ≡ true
up_to m n le = grind (arith, nat_tests)

from_below : (m n : ℕ) → nat_lt m n ≡ true → m < n
from_below m n is = grind (arith, nat_tests)

from_up_to : (m n : ℕ) → nat_le m n ≡ true → m ≤ n
from_up_to m n is = grind (arith, nat_tests)

-- one for a test that passes
abbrev one_for : Bool → ℕ
one_for b = cond b 1 0

one_less : (b c : Bool) → (b ≡ true → c ≡ true) → one_for b ≤ one_for c
one_less true true implied = omega arith
one_less true false implied = let no : false ≡ true = implied refl in cc
one_less false true implied = omega arith
one_less false false implied = omega arith

at_most_one : (b : Bool) → one_for b ≤ 1
at_most_one true = omega arith
at_most_one false = omega arith

counted : {X : Type 0} (p : X → Bool) (x : X) (xs : List X) → count_by p (x ∷ xs) ≡ one_for (p x) + count_by p xs
counted p x xs = sum_by-cons (λ y. cond (p y) 1 0) x xs

module _ {X : Type 0} (p q : X → Bool) (implied : (x : X) → p x ≡ true → q x ≡ true) where
  -- a test that asks less passes no fewer
  count_less : (xs : List X) → count_by p xs ≤ count_by q xs
  count_less [] = omega arith
  count_less (x ∷ xs) =
      let one = one_less (p x) (q x) (implied x) in
      let rest = count_less xs in
      omega (arith, one, rest, counted p x xs, counted q x xs)

  -- and more, where one passes it alone
  count_more : (xs : List X) (i : ℕ) (x : X) → slice_get xs i ≡ Some x → p x ≡ false → q x ≡ true → count_by p xs < count_by q xs
  count_more [] i x at fails passes = none_some at
  count_more (y ∷ ys) zero x at fails passes =
      let same : y ≡ x = same_Some y x at in
      let no : one_for (p y) ≡ 0 = ap one_for (ap p same ∙ fails) in
      let one : one_for (q y) ≡ 1 = ap one_for (ap q same ∙ passes) in
      let rest = count_less ys in
      omega (arith, no, one, rest, counted p y ys, counted q y ys)
  count_more (y ∷ ys) (suc i) x at fails passes =
      let one = one_less (p y) (q y) (implied y) in
      let rest = count_more ys i x at fails passes in
      omega (arith, one, rest, counted p y ys, counted q y ys)

module _ {X : Type 0} (p : X → Bool) where
  -- where none passes from an index on, no more pass than stand before it
  count_at_most : (xs : List X) (j : ℕ) → ((k : ℕ) (y : X) → j ≤ k → slice_get xs k ≡ Some y → p y ≡ false) → count_by p xs ≤ j
  count_at_most [] j fails = omega arith
  count_at_most (x ∷ xs) zero fails =
      let no : one_for (p x) ≡ 0 = ap one_for (fails 0 x (omega arith) refl) in
      let rest = count_at_most xs 0 (λ k y le at. fails (suc k) y (omega arith) at) in
      omega (arith, no, rest, counted p x xs)
  count_at_most (x ∷ xs) (suc j) fails =
      let one = at_most_one (p x) in
      let rest = count_at_most xs j (λ k y le at. fails (suc k) y (omega arith) at) in
      omega (arith, one, rest, counted p x xs)

  -- where all up to an index pass, so many do
  count_at_least : (xs : List X) (j : ℕ) (x : X) → slice_get xs j ≡ Some x
      → ((k : ℕ) (y : X) → k ≤ j → slice_get xs k ≡ Some y → p y ≡ true) → j < count_by p xs
  count_at_least [] j x at passes = none_some at
  count_at_least (y ∷ ys) zero x at passes =
      let one : one_for (p y) ≡ 1 = ap one_for (passes 0 y (omega arith) refl) in
      omega (arith, one, counted p y ys)
  count_at_least (y ∷ ys) (suc j) x at passes =
      let one : one_for (p y) ≡ 1 = ap one_for (passes 0 y (omega arith) refl) in
      let rest = count_at_least ys j x at (λ k z le there. passes (suc k) z (omega arith) there) in
      omega (arith, one, rest, counted p y ys)

-- a later tick is a later place
ticks_rise : (ticks : List ℕ) → IsStrictlyIncreasing ticks → (i j p q : ℕ) → i < j → slice_get ticks i ≡ Some p → slice_get ticks j ≡ Some q → p < q
ticks_rise ticks up i j p q less at_i at_j =
    let first : get_or ticks i 0 ≡ p = get_or_from_slice_get ticks i p 0 at_i in
    let second : get_or ticks j 0 ≡ q = get_or_from_slice_get ticks j q 0 at_j in
    let rise : get_or ticks i 0 < get_or ticks j 0 = AllPairs-from_increasing ticks up i j 0 less (slice_get_within ticks j q at_j) in
    omega (arith, first, second, rise)

-- a later dot is at no earlier place
dots_rise : (dots : List Dot) → IsNonDecreasing (map (λ (d : Dot). d.place) dots) → (i j : ℕ) (d e : Dot) → i ≤ j
    → slice_get dots i ≡ Some d → slice_get dots j ≡ Some e → d.place ≤ e.place
dots_rise dots up i j d e le at_i at_j =
    let first : (get_or dots i d).place ≡ d.place = ap (λ (x : Dot). x.place) (get_or_from_slice_get dots i d d at_i) in
    let second : (get_or dots j d).place ≡ e.place = ap (λ (x : Dot). x.place) (get_or_from_slice_get dots j e d at_j) in
    let rise = mapped_not_falling (λ (x : Dot). x.place) dots up i j d le (slice_get_within dots j e at_j) in
    omega (arith, first, second, rise)

-- a later gap is at a later place
gaps_rise : (gaps : List Gap) → IsStrictlyIncreasing (map (λ (g : Gap). g.place) gaps) → (i j : ℕ) (g h : Gap) → i < j
    → slice_get gaps i ≡ Some g → slice_get gaps j ≡ Some h → g.place < h.place
gaps_rise gaps up i j g h less at_i at_j =
    ticks_rise (map (λ (x : Gap). x.place) gaps) up i j g.place h.place less (slice_get-map_at (λ (x : Gap). x.place) gaps i g at_i)
    (slice_get-map_at (λ (x : Gap). x.place) gaps j h at_j)

module _ (scene : Scene) (ordered : IsInOrder scene) where
  -- no fewer gaps stand up to a later place
  gaps_more : (p q : ℕ) → p ≤ q → gaps_up_to scene.gaps.items p ≤ gaps_up_to scene.gaps.items q
  gaps_more p q le = count_less (λ (g : Gap). nat_le g.place p) (λ (g : Gap). nat_le g.place q)
      (λ g is. up_to g.place q (let h = from_up_to g.place p is in omega (arith, h, le))) scene.gaps.items

  -- how many gaps stand up to a place, beside one of them
  gaps_past : (i p : ℕ) (g : Gap) → slice_get scene.gaps.items i ≡ Some g → g.place ≤ p → i < gaps_up_to scene.gaps.items p
  gaps_past i p g at le = count_at_least (λ (x : Gap). nat_le x.place p) scene.gaps.items i g at
      (λ k y earlier at_k. up_to y.place p (elim (cases_lt k i) [
        | inl h ↦ let rise = gaps_rise scene.gaps.items ordered.gaps k i y g h at_k at in omega (arith, rise, le)
        | inr h ↦
            let same : k ≡ i = omega (arith, earlier, h) in
            let one : y ≡ g = same_Some y g (sym at_k ∙ ap (slice_get scene.gaps.items) same ∙ at) in
            let place : y.place ≡ g.place = ap (λ (x : Gap). x.place) one in
            omega (arith, place, le)
      ]))

  gaps_short : (i p : ℕ) (g : Gap) → slice_get scene.gaps.items i ≡ Some g → p < g.place → gaps_up_to scene.gaps.items p ≤ i
  gaps_short i p g at less = count_at_most (λ (x : Gap). nat_le x.place p) scene.gaps.items i
      (λ k y later at_k. not_up_to y.place p (elim (cases_lt i k) [
        | inl h ↦ let rise = gaps_rise scene.gaps.items ordered.gaps i k g y h at at_k in omega (arith, rise, less)
        | inr h ↦
            let same : k ≡ i = omega (arith, later, h) in
            let one : y ≡ g = same_Some y g (sym at_k ∙ ap (slice_get scene.gaps.items) same ∙ at) in
            let place : y.place ≡ g.place = ap (λ (x : Gap). x.place) one in
            omega (arith, place, less)
      ]))

  -- no fewer ticks and dots stand before a later place
  before_more : (p q : ℕ) → p ≤ q → ticks_before scene.ticks.items p + dots_before scene.dots.items p
      ≤ ticks_before scene.ticks.items q + dots_before scene.dots.items q
  before_more p q le =
      let ticks = count_less (λ (t : ℕ). nat_lt t p) (λ (t : ℕ). nat_lt t q) (λ t is. below t q (let h = from_below t p is in omega (arith, h, le))) scene.ticks.items in
      let dots = count_less (λ (d : Dot). nat_lt d.place p) (λ (d : Dot). nat_lt d.place q)
      (λ d is. below d.place q (let h = from_below d.place p is in omega (arith, h, le))) scene.dots.items in
      omega (arith, ticks, dots)

  -- a later place is in no row above that of an earlier one
  pub places_rise : (p q : ℕ) → p ≤ q → row_of_place scene p ≤ row_of_place scene q
  places_rise p q le = omega (arith, before_more p q le, gaps_more p q le)

  -- a tick stands within the rows up to its place or a later one
  pub tick_up_to : (i p q : ℕ) → slice_get scene.ticks.items i ≡ Some p → p ≤ q → row_of_place scene p < rows_up_to scene q
  tick_up_to i p q at_i le =
      let ticks = count_more (λ (t : ℕ). nat_lt t p) (λ (t : ℕ). nat_le t q) (λ t is. up_to t q (let h = from_below t p is in omega (arith, h, le)))
      scene.ticks.items i p at_i (not_below p p (omega arith)) (up_to p q le)
      in
      let dots = count_less (λ (d : Dot). nat_lt d.place p) (λ (d : Dot). nat_le d.place q)
      (λ d is. up_to d.place q (let h = from_below d.place p is in omega (arith, h, le))) scene.dots.items
      in
      let gaps = gaps_more p q le in
      omega (arith, ticks, dots, gaps)

  -- a tick stands above the row of a later place
  pub tick_above : (i p q : ℕ) → slice_get scene.ticks.items i ≡ Some p → p < q → row_of_place scene p < row_of_place scene q
  tick_above i p q at_i rise =
      let ticks = count_more (λ (t : ℕ). nat_lt t p) (λ (t : ℕ). nat_lt t q) (λ t is. below t q (let h = from_below t p is in omega (arith, h, rise)))
      scene.ticks.items i p at_i (not_below p p (omega arith)) (below p q rise)
      in
      let dots = count_less (λ (d : Dot). nat_lt d.place p) (λ (d : Dot). nat_lt d.place q)
      (λ d is. below d.place q (let h = from_below d.place p is in omega (arith, h, rise))) scene.dots.items
      in
      let gaps = gaps_more p q (omega (arith, rise)) in
      omega (arith, ticks, dots, gaps)

  ticks_in_order : (i j p q : ℕ) → i < j → slice_get scene.ticks.items i ≡ Some p → slice_get scene.ticks.items j ≡ Some q
      → row_of_place scene p < row_of_place scene q
  ticks_in_order i j p q less at_i at_j = tick_above i p q at_i (ticks_rise scene.ticks.items ordered.ticks i j p q less at_i at_j)

  dots_in_order : (i j : ℕ) (d e : Dot) → i < j → slice_get scene.dots.items i ≡ Some d → slice_get scene.dots.items j ≡ Some e
      → row_of_dot scene i d.place < row_of_dot scene j e.place
  dots_in_order i j d e less at_i at_j =
      let rise = dots_rise scene.dots.items ordered.dots i j d e (omega arith) at_i at_j in
      let ticks = count_less (λ (t : ℕ). nat_le t d.place) (λ (t : ℕ). nat_le t e.place)
      (λ t is. up_to t e.place (let h = from_up_to t d.place is in omega (arith, h, rise))) scene.ticks.items
      in
      let gaps = gaps_more d.place e.place rise in
      omega (arith, ticks, gaps)

  -- a dot stands in no row above that of an earlier place, or of its own
  pub dot_not_above : (j p : ℕ) (d : Dot) → slice_get scene.dots.items j ≡ Some d → p ≤ d.place → row_of_place scene p ≤ row_of_dot scene j d.place
  dot_not_above j p d at_j le =
      let ticks = count_less (λ (t : ℕ). nat_lt t p) (λ (t : ℕ). nat_le t d.place)
      (λ t is. up_to t d.place (let h = from_below t p is in omega (arith, h, le))) scene.ticks.items
      in
      let dots = count_at_most (λ (x : Dot). nat_lt x.place p) scene.dots.items j (λ k y later at_k.
      not_below y.place p (let rise = dots_rise scene.dots.items ordered.dots j k d y later at_j at_k in omega (arith, rise, le)))
      in
      let gaps = gaps_more p d.place le in
      omega (arith, ticks, dots, gaps)

  -- and above that of a later place
  pub dot_above_place : (j p : ℕ) (d : Dot) → slice_get scene.dots.items j ≡ Some d → d.place < p → row_of_dot scene j d.place < row_of_place scene p
  dot_above_place j p d at_j less =
      let ticks = count_less (λ (t : ℕ). nat_le t d.place) (λ (t : ℕ). nat_lt t p)
      (λ t is. below t p (let h = from_up_to t d.place is in omega (arith, h, less))) scene.ticks.items
      in
      let dots = count_at_least (λ (x : Dot). nat_lt x.place p) scene.dots.items j d at_j (λ k y earlier at_k.
      below y.place p (let rise = dots_rise scene.dots.items ordered.dots k j y d earlier at_k at_j in omega (arith, rise, less)))
      in
      let gaps = gaps_more d.place p (omega (arith, less)) in
      omega (arith, ticks, dots, gaps)

  -- and within the rows up to its place or a later one
  pub dot_up_to : (j p : ℕ) (d : Dot) → slice_get scene.dots.items j ≡ Some d → d.place ≤ p → row_of_dot scene j d.place < rows_up_to scene p
  dot_up_to j p d at_j le =
      let ticks = count_less (λ (t : ℕ). nat_le t d.place) (λ (t : ℕ). nat_le t p)
      (λ t is. up_to t p (let h = from_up_to t d.place is in omega (arith, h, le))) scene.ticks.items
      in
      let dots = count_at_least (λ (x : Dot). nat_le x.place p) scene.dots.items j d at_j (λ k y earlier at_k.
      up_to y.place p (let rise = dots_rise scene.dots.items ordered.dots k j y d earlier at_k at_j in omega (arith, rise, le)))
      in
      let gaps = gaps_more d.place p le in
      omega (arith, ticks, dots, gaps)

  -- the rows up to a place stand above the row of a later one
  pub rows_above : (p q : ℕ) → p < q → rows_up_to scene p ≤ row_of_place scene q
  rows_above p q less =
      let ticks = count_less (λ (t : ℕ). nat_le t p) (λ (t : ℕ). nat_lt t q) (λ t is. below t q (let h = from_up_to t p is in omega (arith, h, less))) scene.ticks.items in
      let dots = count_less (λ (d : Dot). nat_le d.place p) (λ (d : Dot). nat_lt d.place q)
      (λ d is. below d.place q (let h = from_up_to d.place p is in omega (arith, h, less))) scene.dots.items in
      let gaps = gaps_more p q (omega (arith, less)) in
      omega (arith, ticks, dots, gaps)

  -- and within all rows
  pub dot_within_rows : (j : ℕ) (d : Dot) → slice_get scene.dots.items j ≡ Some d → row_of_dot scene j d.place < rows_of scene
  dot_within_rows j d at_j =
      let ticks = count_by-le-length (λ (t : ℕ). nat_le t d.place) scene.ticks.items in
      let within = slice_get_within scene.dots.items j d at_j in
      let gaps = count_by-le-length (λ (g : Gap). nat_le g.place d.place) scene.gaps.items in
      omega (arith, ticks, within, gaps)

  pub tick_within_rows : (i p : ℕ) → slice_get scene.ticks.items i ≡ Some p → row_of_place scene p < rows_of scene
  tick_within_rows i p at_i =
      let fewer = count_more (λ (t : ℕ). nat_lt t p) (λ (t : ℕ). true) (λ t is. refl) scene.ticks.items i p at_i (not_below p p (omega arith)) refl in
      let ticks = count_by-le-length (λ (t : ℕ). true) scene.ticks.items in
      let dots = count_by-le-length (λ (d : Dot). nat_lt d.place p) scene.dots.items in
      let gaps = count_by-le-length (λ (g : Gap). nat_le g.place p) scene.gaps.items in
      omega (arith, fewer, ticks, dots, gaps)

  pub gap_within_rows : (i : ℕ) (g : Gap) → slice_get scene.gaps.items i ≡ Some g → row_of_gap scene i g.place < rows_of scene
  gap_within_rows i g at_i =
      let ticks = count_by-le-length (λ (t : ℕ). nat_lt t g.place) scene.ticks.items in
      let dots = count_by-le-length (λ (d : Dot). nat_lt d.place g.place) scene.dots.items in
      let within = slice_get_within scene.gaps.items i g at_i in
      omega (arith, ticks, dots, within)

  tick_above_dot : (i j p : ℕ) (d : Dot) → slice_get scene.ticks.items i ≡ Some p → slice_get scene.dots.items j ≡ Some d → p ≤ d.place
      → row_of_place scene p < row_of_dot scene j d.place
  tick_above_dot i j p d at_i at_j le =
      let ticks = count_more (λ (t : ℕ). nat_lt t p) (λ (t : ℕ). nat_le t d.place)
      (λ t is. up_to t d.place (let h = from_below t p is in omega (arith, h, le))) scene.ticks.items i p at_i
      (not_below p p (omega arith)) (up_to p d.place le)
      in
      let dots = count_at_most (λ (x : Dot). nat_lt x.place p) scene.dots.items j (λ k y later at_k.
      not_below y.place p (let rise = dots_rise scene.dots.items ordered.dots j k d y later at_j at_k in omega (arith, rise, le)))
      in
      let gaps = gaps_more p d.place le in
      omega (arith, ticks, dots, gaps)

  dot_above_tick : (i j p : ℕ) (d : Dot) → slice_get scene.ticks.items i ≡ Some p → slice_get scene.dots.items j ≡ Some d → d.place < p
      → row_of_dot scene j d.place < row_of_place scene p
  dot_above_tick i j p d at_i at_j less = dot_above_place j p d at_j less

  gaps_in_order : (i j : ℕ) (g h : Gap) → i < j → slice_get scene.gaps.items i ≡ Some g → slice_get scene.gaps.items j ≡ Some h
      → row_of_gap scene i g.place < row_of_gap scene j h.place
  gaps_in_order i j g h less at_i at_j =
      let rise = gaps_rise scene.gaps.items ordered.gaps i j g h less at_i at_j in
      let before = before_more g.place h.place (omega (arith, rise)) in
      omega (arith, before, less)

  gap_above_tick : (i p : ℕ) (g : Gap) → slice_get scene.gaps.items i ≡ Some g → g.place ≤ p → row_of_gap scene i g.place < row_of_place scene p
  gap_above_tick i p g at le =
      let before = before_more g.place p le in
      let past = gaps_past i p g at le in
      omega (arith, before, past)

  tick_above_gap : (i j p : ℕ) (g : Gap) → slice_get scene.gaps.items i ≡ Some g → slice_get scene.ticks.items j ≡ Some p → p < g.place
      → row_of_place scene p < row_of_gap scene i g.place
  tick_above_gap i j p g at at_j less =
      let ticks = count_more (λ (t : ℕ). nat_lt t p) (λ (t : ℕ). nat_lt t g.place)
      (λ t is. below t g.place (let h = from_below t p is in omega (arith, h, less))) scene.ticks.items j p at_j
      (not_below p p (omega arith)) (below p g.place less)
      in
      let dots = count_less (λ (d : Dot). nat_lt d.place p) (λ (d : Dot). nat_lt d.place g.place)
      (λ d is. below d.place g.place (let h = from_below d.place p is in omega (arith, h, less))) scene.dots.items
      in
      let short = gaps_short i p g at less in
      omega (arith, ticks, dots, short)

  gap_above_dot : (i j : ℕ) (g : Gap) (d : Dot) → slice_get scene.gaps.items i ≡ Some g → slice_get scene.dots.items j ≡ Some d → g.place ≤ d.place
      → row_of_gap scene i g.place < row_of_dot scene j d.place
  gap_above_dot i j g d at at_j le =
      let ticks = count_less (λ (t : ℕ). nat_lt t g.place) (λ (t : ℕ). nat_le t d.place)
      (λ t is. up_to t d.place (let h = from_below t g.place is in omega (arith, h, le))) scene.ticks.items
      in
      let dots = count_at_most (λ (x : Dot). nat_lt x.place g.place) scene.dots.items j (λ k y later at_k.
      not_below y.place g.place (let rise = dots_rise scene.dots.items ordered.dots j k d y later at_j at_k in omega (arith, rise, le)))
      in
      let past = gaps_past i d.place g at le in
      omega (arith, ticks, dots, past)

  dot_above_gap : (i j : ℕ) (g : Gap) (d : Dot) → slice_get scene.gaps.items i ≡ Some g → slice_get scene.dots.items j ≡ Some d → d.place < g.place
      → row_of_dot scene j d.place < row_of_gap scene i g.place
  dot_above_gap i j g d at at_j less =
      let ticks = count_less (λ (t : ℕ). nat_le t d.place) (λ (t : ℕ). nat_lt t g.place)
      (λ t is. below t g.place (let h = from_up_to t d.place is in omega (arith, h, less))) scene.ticks.items
      in
      let dots = count_at_least (λ (x : Dot). nat_lt x.place g.place) scene.dots.items j d at_j (λ k y earlier at_k.
      below y.place g.place (let rise = dots_rise scene.dots.items ordered.dots k j y d earlier at_k at_j in omega (arith, rise, less)))
      in
      let short = gaps_short i d.place g at less in
      omega (arith, ticks, dots, short)

  pub rows_in_order : HasRowsInOrder scene
  rows_in_order = record {
    ticks = ticks_in_order;
    dots = dots_in_order;
    tick_above_dot = tick_above_dot;
    dot_above_tick = dot_above_tick;
    gaps = gaps_in_order;
    gap_above_tick = gap_above_tick;
    tick_above_gap = tick_above_gap;
    gap_above_dot = gap_above_dot;
    dot_above_gap = dot_above_gap;
  }
