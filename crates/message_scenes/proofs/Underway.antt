-- The copies under way, by the arrows that have no end.
use Rattle.std.proofs.Common.{ℕ, ◌≡◌, ◌≢◌, ◌+◌, ◌-◌, ◌<◌, ◌≤◌, ◌==◌, ◌&&◌, Bool, true, false, cond, List, [], ◌∷◌, ◌++◌, map, Some}
use Rattle.std.proofs.Common.{refl, sym, ap, ◌∙◌, subst, inl, inr, eqb-true, append_assoc, arith}
use Rattle.std.specs.Cmp.{first_so, second_so}
use Rattle.std.specs.List.{find}
use Rattle.std.specs.List.Sorted.{IsPermutation}
use Rattle.std.proofs.lemmas.Bool.{cases_Bool, ne_eqb}
use Rattle.std.proofs.lemmas.List.Sorted.{IsPermutation-append_right, IsPermutation-sym, IsPermutation-to_front}
use Rattle.message_scenes.specs.Arrows.{end_flight, ended, is_open, is_under_way}
use Rattle.message_scenes.specs.Copies.{EndLater, IsAfter, begin_of, end_of, ends_of}
use Rattle.message_scenes.specs.declared.arrows.Arrow.{Arrow}
use Rattle.message_scenes.specs.declared.arrows.ArrowEnd.{ArrowEnd}
use Rattle.message_scenes.specs.declared.arrows.ArrowEnd.TheVariants as ending

-- how many copies of a flight are under way
abbrev pub open_count : ℕ → List Arrow → ℕ
open_count flight [] = 0
open_count flight (a ∷ arrows) = cond (is_under_way flight a) 1 0 + open_count flight arrows

-- all of them begin before the row
abbrev pub BeginBefore : ℕ → List Arrow → Type 0
BeginBefore row [] = Unit {0}
BeginBefore row (a ∷ arrows) = (a.begins < row) × BeginBefore row arrows

-- an end that is there
closed_end : (flight : ℕ) (there : ArrowEnd) → is_open there ≡ false → end_of flight there ≡ (flight, there) ∷ []
closed_end flight (ending.Arrives row) e = refl
closed_end flight (ending.Stale row) e = refl
closed_end flight (ending.Lost row) e = refl
closed_end flight ending.Open e = absurd cc

-- one that isn't there
open_end : (flight : ℕ) (there : ArrowEnd) → is_open there ≡ true → end_of flight there ≡ []
open_end flight (ending.Arrives row) e = absurd cc
open_end flight (ending.Stale row) e = absurd cc
open_end flight (ending.Lost row) e = absurd cc
open_end flight ending.Open e = refl

-- an arrow under way
pub under_flight : (f : ℕ) (a : Arrow) → is_under_way f a ≡ true → a.flight ≡ f
under_flight f a e = eqb-true a.flight f (first_so (a.flight == f) (is_open a.end) e)

pub under_open : (f : ℕ) (a : Arrow) → is_under_way f a ≡ true → is_open a.end ≡ true
under_open f a e = second_so (a.flight == f) (is_open a.end) e

not_both : (b : Bool) → (b && false) ≡ false
not_both true = refl
not_both false = refl

-- of another flight
other_flight : (f g : ℕ) (a : Arrow) → a.flight ≡ f → g ≢ f → is_under_way g a ≡ false
other_flight f g a is other =
    ap (λ (b : Bool). b && is_open a.end) (ne_eqb a.flight g (λ e. other (sym e ∙ is)))

module _ (f : ℕ) (there : ArrowEnd) where
  -- the first of the arrows, by whether it is the one that ends
  heads : (a : Arrow) (arrows : List Arrow) (b : Bool) → is_under_way f a ≡ b
      → end_flight f there (a ∷ arrows) ≡ cond b (ended there a ∷ arrows) (a ∷ end_flight f there arrows)
  heads a arrows b e = ap (λ (t : Bool). cond t (ended there a ∷ arrows) (a ∷ end_flight f there arrows)) e

  -- arrows begin where they did
  pub begins_kept : (arrows : List Arrow) → map begin_of (end_flight f there arrows) ≡ map begin_of arrows
  begins_kept [] = refl
  begins_kept (a ∷ arrows) = elim (cases_Bool (is_under_way f a)) [
    | inl hit ↦ ap (map begin_of) (heads a arrows true hit)
    | inr miss ↦ ap (map begin_of) (heads a arrows false miss) ∙ ap (λ (l : List (ℕ × ℕ)). begin_of a ∷ l) (begins_kept arrows)
  ]

  pub before_kept : (row : ℕ) (arrows : List Arrow) → BeginBefore row arrows → BeginBefore row (end_flight f there arrows)
  before_kept row [] all = tt
  before_kept row (a ∷ arrows) (first, all) = elim (cases_Bool (is_under_way f a)) [
    | inl hit ↦ subst (BeginBefore row) (sym (heads a arrows true hit)) (first, all)
    | inr miss ↦ subst (BeginBefore row) (sym (heads a arrows false miss)) (first, before_kept row arrows all)
  ]

  -- where it ends is after each row of them
  pub later_kept : (row : ℕ) (arrows : List Arrow) → ((n : ℕ) → n < row → IsAfter n there) → BeginBefore row arrows → EndLater arrows
      → EndLater (end_flight f there arrows)
  later_kept row [] after early all = tt
  later_kept row (a ∷ arrows) after (first, early) (one, all) = elim (cases_Bool (is_under_way f a)) [
    | inl hit ↦ subst EndLater (sym (heads a arrows true hit)) (after a.begins first, all)
    | inr miss ↦ subst EndLater (sym (heads a arrows false miss)) (one, later_kept row arrows after early all)
  ]

  -- after further arrows
  pub ended_first : (arrows further : List Arrow) → 1 ≤ open_count f arrows
      → end_flight f there (arrows ++ further) ≡ end_flight f there arrows ++ further
  ended_first [] further some = absurd (omega (arith, some))
  ended_first (a ∷ arrows) further some = elim (cases_Bool (is_under_way f a)) [
    | inl hit ↦ heads a (arrows ++ further) true hit ∙ ap (λ (l : List Arrow). l ++ further) (sym (heads a arrows true hit))
    | inr miss ↦
        let rest : open_count f (a ∷ arrows) ≡ 0 + open_count f arrows = ap (λ (b : Bool). cond b 1 0 + open_count f arrows) miss in
        heads a (arrows ++ further) false miss ∙ ap (λ (l : List Arrow). a ∷ l) (ended_first arrows further (omega (arith, some, rest)))
        ∙ ap (λ (l : List Arrow). l ++ further) (sym (heads a arrows false miss))
  ]

  module _ (closed : is_open there ≡ false) where
    -- one more of them has an end
    pub ends_more : (arrows : List Arrow) → 1 ≤ open_count f arrows
        → IsPermutation (ends_of (end_flight f there arrows)) (ends_of arrows ++ (f, there) ∷ [])
    ends_more [] some = absurd (omega (arith, some))
    ends_more (a ∷ arrows) some = elim (cases_Bool (is_under_way f a)) [
      | inl hit ↦
          let flight : a.flight ≡ f = under_flight f a hit in
          let new : ends_of (end_flight f there (a ∷ arrows)) ≡ (f, there) ∷ ends_of arrows =
          ap ends_of (heads a arrows true hit)
          ∙ ap (λ (l : List (ℕ × ArrowEnd)). l ++ ends_of arrows) (closed_end a.flight there closed)
          ∙ ap (λ (n : ℕ). (n, there) ∷ ends_of arrows) flight in
          let old : ends_of (a ∷ arrows) ≡ ends_of arrows =
          ap (λ (l : List (ℕ × ArrowEnd)). l ++ ends_of arrows) (open_end a.flight a.end (under_open f a hit)) in
          subst (λ (l : List (ℕ × ArrowEnd)). IsPermutation l (ends_of (a ∷ arrows) ++ (f, there) ∷ [])) (sym new)
          (subst (λ (l : List (ℕ × ArrowEnd)). IsPermutation ((f, there) ∷ ends_of arrows) (l ++ (f, there) ∷ [])) (sym old)
          (IsPermutation-sym _ _ (IsPermutation-to_front (ends_of arrows) (f, there))))
      | inr miss ↦
          let rest : open_count f (a ∷ arrows) ≡ 0 + open_count f arrows = ap (λ (b : Bool). cond b 1 0 + open_count f arrows) miss in
          let first = end_of a.flight a.end in
          let others = ends_more arrows (omega (arith, some, rest)) in
          subst (λ (l : List (ℕ × ArrowEnd)). IsPermutation l (ends_of (a ∷ arrows) ++ (f, there) ∷ [])) (sym (ap ends_of (heads a arrows false miss)))
          (subst (IsPermutation (first ++ ends_of (end_flight f there arrows))) (sym (append_assoc first (ends_of arrows) ((f, there) ∷ [])))
          (IsPermutation-append_right first _ _ others))
    ]

    -- and one copy less is under way
    pub count_less : (arrows : List Arrow) → open_count f (end_flight f there arrows) ≡ open_count f arrows - 1
    count_less [] = refl
    count_less (a ∷ arrows) = elim (cases_Bool (is_under_way f a)) [
      | inl hit ↦
          let old : open_count f (a ∷ arrows) ≡ 1 + open_count f arrows = ap (λ (b : Bool). cond b 1 0 + open_count f arrows) hit in
          let shut : is_under_way f (ended there a) ≡ false = ap (λ (b : Bool). (a.flight == f) && b) closed ∙ not_both (a.flight == f) in
          let new : open_count f (end_flight f there (a ∷ arrows)) ≡ 0 + open_count f arrows =
          ap (open_count f) (heads a arrows true hit) ∙ ap (λ (b : Bool). cond b 1 0 + open_count f arrows) shut in
          omega (arith, old, new)
      | inr miss ↦
          let old : open_count f (a ∷ arrows) ≡ 0 + open_count f arrows = ap (λ (b : Bool). cond b 1 0 + open_count f arrows) miss in
          let new : open_count f (end_flight f there (a ∷ arrows)) ≡ 0 + open_count f (end_flight f there arrows) =
          ap (open_count f) (heads a arrows false miss) ∙ ap (λ (b : Bool). cond b 1 0 + open_count f (end_flight f there arrows)) miss in
          let rest = count_less arrows in
          omega (arith, old, new, rest)
    ]

  -- copies of other flights stay under way
  pub count_kept : (g : ℕ) → g ≢ f → (arrows : List Arrow) → open_count g (end_flight f there arrows) ≡ open_count g arrows
  count_kept g other [] = refl
  count_kept g other (a ∷ arrows) = elim (cases_Bool (is_under_way f a)) [
    | inl hit ↦
        let flight : a.flight ≡ f = under_flight f a hit in
        ap (open_count g) (heads a arrows true hit)
        ∙ ap (λ (b : Bool). cond b 1 0 + open_count g arrows) (other_flight f g (ended there a) flight other)
        ∙ ap (λ (b : Bool). cond b 1 0 + open_count g arrows) (sym (other_flight f g a flight other))
    | inr miss ↦
        ap (open_count g) (heads a arrows false miss) ∙ ap (λ (n : ℕ). cond (is_under_way g a) 1 0 + n) (count_kept g other arrows)
  ]

-- one arrow more
pub count_more : (g : ℕ) (arrows : List Arrow) (a : Arrow) → open_count g (arrows ++ a ∷ []) ≡ open_count g arrows + cond (is_under_way g a) 1 0
count_more g [] a = omega arith
count_more g (x ∷ arrows) a =
    let rest = count_more g arrows a in
    omega (arith, rest)

pub before_more : (row : ℕ) (arrows : List Arrow) (a : Arrow) → BeginBefore row arrows → a.begins ≡ row → BeginBefore (row + 1) (arrows ++ a ∷ [])
before_more row [] a all is = (omega (arith, is), tt)
before_more row (x ∷ arrows) a (first, all) is = (omega (arith, first), before_more row arrows a all is)

pub before_next : (row : ℕ) (arrows : List Arrow) → BeginBefore row arrows → BeginBefore (row + 1) arrows
before_next row [] all = tt
before_next row (x ∷ arrows) (first, all) = (omega (arith, first), before_next row arrows all)

-- an end that isn't there comes after nothing
later_open : (begins : ℕ) (there : ArrowEnd) → is_open there ≡ true → IsAfter begins there
later_open begins (ending.Arrives row) e = absurd cc
later_open begins (ending.Stale row) e = absurd cc
later_open begins (ending.Lost row) e = absurd cc
later_open begins ending.Open e = tt

pub later_more : (arrows : List Arrow) (a : Arrow) → EndLater arrows → is_open a.end ≡ true → EndLater (arrows ++ a ∷ [])
later_more [] a all is = (later_open a.begins a.end is, tt)
later_more (x ∷ arrows) a (one, all) is = (one, later_more arrows a all is)

pub ends_same : (arrows : List Arrow) (a : Arrow) → is_open a.end ≡ true → ends_of (arrows ++ a ∷ []) ≡ ends_of arrows
ends_same [] a is = ap (λ (l : List (ℕ × ArrowEnd)). l ++ []) (open_end a.flight a.end is)
ends_same (x ∷ arrows) a is = ap (λ (l : List (ℕ × ArrowEnd)). end_of x.flight x.end ++ l) (ends_same arrows a is)

-- where a copy is under way, the first of its arrows is found
pub found : (f : ℕ) (arrows : List Arrow) → 1 ≤ open_count f arrows → (a : Arrow) × (find (is_under_way f) arrows ≡ Some a) × (is_under_way f a ≡ true)
found f [] some = absurd (omega (arith, some))
found f (a ∷ arrows) some = elim (cases_Bool (is_under_way f a)) [
  | inl hit ↦ (a, ap (λ (b : Bool). cond b (Some a) (find (is_under_way f) arrows)) hit, hit)
  | inr miss ↦
      let rest : open_count f (a ∷ arrows) ≡ 0 + open_count f arrows = ap (λ (b : Bool). cond b 1 0 + open_count f arrows) miss in
      let (x, is, under) = found f arrows (omega (arith, some, rest)) in
      (x, ap (λ (b : Bool). cond b (Some a) (find (is_under_way f) arrows)) miss ∙ is, under)
]
