-- The bytes of what is made of each item of a list, one item more.
use Rattle.std.proofs.Common.{◌≡◌, List, [], ◌∷◌, ◌++◌, ℕ, append_assoc, append-nil, flat_map, map, sym, ap, ◌∙◌}
use Rattle.std.proofs.lemmas.Grind.{flat_map-append}
use Rattle.std.proofs.lemmas.List.{map-append}
use Rattle.markup.specs.Markup.{Markup, each, rendered}
use Rattle.markup.proofs.Rendered.{rendered_each}

module _ {X Y : Type 0} (f : Y → Markup) (v : X → Y) where
  pub each_more : (xs : List X) (x : X) (old mid new : List ℕ) → mid ≡ old ++ rendered (each f (map v xs)) → new ≡ mid ++ rendered (f (v x))
      → new ≡ old ++ rendered (each f (map v (xs ++ x ∷ [])))
  each_more xs x old mid new so_far one =
      let g = λ (y : Y). rendered (f y) in
      let last : flat_map g (v x ∷ []) ≡ rendered (f (v x)) = append-nil (rendered (f (v x))) in
      let more : rendered (each f (map v (xs ++ x ∷ []))) ≡ rendered (each f (map v xs)) ++ rendered (f (v x)) =
      ap (λ (ys : List Y). rendered (each f ys)) (map-append v xs (x ∷ [])) ∙ rendered_each f (map v xs ++ v x ∷ []) ∙ flat_map-append g (map v xs) (v x ∷ [])
      ∙ ap (λ (l : List ℕ). l ++ flat_map g (v x ∷ [])) (sym (rendered_each f (map v xs))) ∙ ap (λ (l : List ℕ). rendered (each f (map v xs)) ++ l) last in
      one ∙ ap (λ (l : List ℕ). l ++ rendered (f (v x))) so_far ∙ append_assoc old (rendered (each f (map v xs))) (rendered (f (v x))) ∙ ap (λ (l : List ℕ). old ++ l) (sym more)

  pub each_none : (old : List ℕ) → old ≡ old ++ rendered (each f (map v []))
  each_none old = sym (ap (λ (l : List ℕ). old ++ l) (rendered_each f []) ∙ append-nil old)
