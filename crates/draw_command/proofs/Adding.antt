-- What is added for each item of a list, and around what was added.
use Rattle.std.proofs.Common.{ℕ, suc, ◌≡◌, ◌<◌, ◌+◌, List, [], ◌∷◌, ◌++◌, append_assoc, append-nil, flat_map, length, map, take, refl, sym, ap, subst, ◌∙◌, arith}
use Rattle.std.specs.Borrow.{Bor}
use Rattle.std.proofs.lemmas.Grind.{flat_map-append}
use Rattle.std.proofs.lemmas.List.{length-map, length-take-le, map-append}
use Rattle.markup.specs.Markup.{Markup, NamedText, both, closing_tag, each, element, nothing, opening_tag, rendered}
use Rattle.markup.proofs.Rendered.{rendered_each}
use Rattle.markup.specs.declared.names.Element.{Element}
use Rattle.draw_command.specs.Making.{Adds}
use Rattle.draw_command.specs.Pages.{IsEach, IsFramed}

rendered-nothing : (m : Markup) → m ≡ nothing → rendered m ≡ []
unfolding rendered
rendered-nothing m none = ap rendered none

rendered-both : (m a b : Markup) → m ≡ both a b → rendered m ≡ rendered a ++ rendered b
unfolding rendered
rendered-both m a b is = ap rendered is

rendered-element : (e : Element) (attributes : List NamedText) (m : Markup) → rendered (element e attributes m) ≡ opening_tag e attributes ++ rendered m ++ closing_tag e
unfolding rendered
rendered-element e attributes m = refl

module _ {X : Type 0} (Is : ℕ → X → Markup → Type 0) where
  -- one item more at the end
  each_more : (n : ℕ) (xs : List X) (x : X) (m k : Markup) → IsEach Is n xs m → Is (n + length xs) x k
      → (w : Markup) × IsEach Is n (xs ++ x ∷ []) w × (rendered w ≡ rendered m ++ rendered k)
  each_more n [] x m k none here =
      let first : n + 0 ≡ n = omega arith in (
        both k nothing,
        (k, nothing, subst (λ (i : ℕ). Is i x k) first here, refl, refl),
        rendered-both (both k nothing) k nothing refl ∙ ap (λ (l : List ℕ). rendered k ++ l) (rendered-nothing nothing refl) ∙ append-nil (rendered k)
            ∙ ap (λ (l : List ℕ). l ++ rendered k) (sym (rendered-nothing m none)),
      )
  each_more n (y ∷ ys) x m k are here =
      let next : n + suc (length ys) ≡ n + 1 + length ys = omega arith in
      let w = each_more (n + 1) ys x are.1 k are.3 (subst (λ (i : ℕ). Is i x k) next here) in (
        both are.0 w.0,
        (are.0, w.0, are.2, w.1, refl),
        rendered-both (both are.0 w.0) are.0 w.0 refl ∙ ap (λ (l : List ℕ). rendered are.0 ++ l) w.2 ∙ sym (append_assoc (rendered are.0) (rendered are.1) (rendered k))
            ∙ ap (λ (l : List ℕ). l ++ rendered k) (sym (rendered-both m are.0 are.1 are.4)),
      )

  -- nothing is added for no item
  pub adds_none : (old : List ℕ) → Adds (IsEach Is 0 []) old old
  adds_none old = (nothing, refl, sym (ap (λ (l : List ℕ). old ++ l) (rendered-nothing nothing refl) ∙ append-nil old))

  pub adds_more : (xs more : List X) (x : X) (old mid new : List ℕ) (n : ℕ) → more ≡ xs ++ x ∷ [] → n ≡ length xs → Adds (IsEach Is 0 xs) old mid → Adds (Is n x) mid new
      → Adds (IsEach Is 0 more) old new
  adds_more xs more x old mid new n are_more at so_far one =
      let here : 0 + length xs ≡ n = omega (arith, at) in
      let w = each_more 0 xs x so_far.0 one.0 so_far.1 (subst (λ (i : ℕ). Is i x one.0) (sym here) one.1) in (
        w.0,
        subst (λ (l : List X). IsEach Is 0 l w.0) (sym are_more) w.1,
        one.2 ∙ ap (λ (l : List ℕ). l ++ rendered one.0) so_far.2 ∙ append_assoc old (rendered so_far.0) (rendered one.0) ∙ ap (λ (l : List ℕ). old ++ l) (sym w.2),
      )

-- so many stand before an item of a list
pub placed : {X Y : Type 0} (f : X → Y) (xs : List X) (n : ℕ) → n < length xs → n ≡ length (map f (take n xs))
placed f xs n within = sym (length-map (take n xs) f ∙ length-take-le n xs (omega (arith, within)))

regroup : (old p q r : List ℕ) → old ++ p ++ q ++ r ≡ old ++ (p ++ q ++ r)
regroup old p q r = simp append_assoc

-- an element around what was added
pub adds_within : (Is : Markup → Type 0) (e : Element) (attributes : List NamedText) (old a b new : List ℕ) → a ≡ old ++ opening_tag e attributes → Adds Is a b
    → new ≡ b ++ closing_tag e → Adds (IsFramed (element e attributes) Is) old new
adds_within Is e attributes old a b new opened added closed =
    let m = added.0 in (
      element e attributes m,
      (m, added.1, refl),
      closed ∙ ap (λ (l : List ℕ). l ++ closing_tag e) (added.2 ∙ ap (λ (l : List ℕ). l ++ rendered m) opened) ∙ regroup old (opening_tag e attributes) (rendered m) (closing_tag e)
          ∙ ap (λ (l : List ℕ). old ++ l) (sym (rendered-element e attributes m)),
    )

-- something before what was added
pub adds_after : (Is : Markup → Type 0) (first : Markup) (old a new : List ℕ) → a ≡ old ++ rendered first → Adds Is a new → Adds (IsFramed (both first) Is) old new
adds_after Is first old a new before added =
    let m = added.0 in (
      both first m,
      (m, added.1, refl),
      added.2 ∙ ap (λ (l : List ℕ). l ++ rendered m) before ∙ append_assoc old (rendered first) (rendered m) ∙ ap (λ (l : List ℕ). old ++ l) (sym (rendered-both (both first m) first m refl)),
    )

-- one thing that was added, and then another
pub adds_both : (Is Also : Markup → Type 0) (old a new : List ℕ) → Adds Is old a → Adds Also a new
    → Adds (λ m. (first : Markup) × (second : Markup) × Is first × Also second × (m ≡ both first second)) old new
adds_both Is Also old a new one other = (
  both one.0 other.0,
  (one.0, other.0, one.1, other.1, refl),
  other.2 ∙ ap (λ (l : List ℕ). l ++ rendered other.0) one.2 ∙ append_assoc old (rendered one.0) (rendered other.0)
      ∙ ap (λ (l : List ℕ). old ++ l) (sym (rendered-both (both one.0 other.0) one.0 other.0 refl)),
)

-- the bytes of one thing, and then of another
pub both_added : (first second : Markup) (old a new : List ℕ) → a ≡ old ++ rendered first → new ≡ a ++ rendered second → new ≡ old ++ rendered (both first second)
both_added first second old a new one other =
    other ∙ ap (λ (l : List ℕ). l ++ rendered second) one ∙ append_assoc old (rendered first) (rendered second)
    ∙ ap (λ (l : List ℕ). old ++ l) (sym (rendered-both (both first second) first second refl))

-- the bytes of an element around something
pub element_added : (e : Element) (attributes : List NamedText) (m : Markup) (old a b new : List ℕ) → a ≡ old ++ opening_tag e attributes → b ≡ a ++ rendered m → new ≡ b ++ closing_tag e
    → new ≡ old ++ rendered (element e attributes m)
element_added e attributes m old a b new opened inside closed =
    closed ∙ ap (λ (l : List ℕ). l ++ closing_tag e) (inside ∙ ap (λ (l : List ℕ). l ++ rendered m) opened) ∙ regroup old (opening_tag e attributes) (rendered m) (closing_tag e)
    ∙ ap (λ (l : List ℕ). old ++ l) (sym (rendered-element e attributes m))

-- what a frame makes of what another one makes
pub framed_twice : (outer inner : Markup → Markup) (Is : Markup → Type 0) (old new : List ℕ) → Adds (IsFramed outer (IsFramed inner Is)) old new
    → Adds (IsFramed (λ m. outer (inner m)) Is) old new
framed_twice outer inner Is old new added =
    (added.0, (added.1.1.0, added.1.1.1, added.1.2 ∙ ap outer added.1.1.2), added.2)

-- what a function makes of each of several texts, one text more
pub each_next : (f : List ℕ → Markup) (xs : List (Bor (List ℕ))) (x : Bor (List ℕ)) (old mid new : List ℕ) → mid ≡ old ++ rendered (each f (map (λ (t : Bor (List ℕ)). t.now) xs))
    → new ≡ mid ++ rendered (f x.now) → new ≡ old ++ rendered (each f (map (λ (t : Bor (List ℕ)). t.now) (xs ++ x ∷ [])))
each_next f xs x old mid new so_far one =
    let now = λ (t : Bor (List ℕ)). t.now in
    let g = λ (t : List ℕ). rendered (f t) in
    let last : flat_map g (x.now ∷ []) ≡ rendered (f x.now) = append-nil (rendered (f x.now)) in
    let more : rendered (each f (map now (xs ++ x ∷ []))) ≡ rendered (each f (map now xs)) ++ rendered (f x.now) =
    ap (λ (ts : List (List ℕ)). rendered (each f ts)) (map-append now xs (x ∷ [])) ∙ rendered_each f (map now xs ++ x.now ∷ []) ∙ flat_map-append g (map now xs) (x.now ∷ [])
    ∙ ap (λ (l : List ℕ). l ++ flat_map g (x.now ∷ [])) (sym (rendered_each f (map now xs))) ∙ ap (λ (l : List ℕ). rendered (each f (map now xs)) ++ l) last in
    one ∙ ap (λ (l : List ℕ). l ++ rendered (f x.now)) so_far ∙ append_assoc old (rendered (each f (map now xs))) (rendered (f x.now)) ∙ ap (λ (l : List ℕ). old ++ l) (sym more)

pub each_none : (f : List ℕ → Markup) (old : List ℕ) → old ≡ old ++ rendered (each f (map (λ (t : Bor (List ℕ)). t.now) []))
each_none f old = sym (ap (λ (l : List ℕ). old ++ l) (rendered-nothing nothing refl) ∙ append-nil old)
