-- Whether a call has a note, looked for one by one.
use Rattle.std.proofs.Common.{ℕ, ◌≡◌, ◌<◌, ◌+◌, ◌||◌, ◌++◌, Bool, true, false, List, Some, get_or, drop, length, map, take, refl, ap, ◌∙◌}
use Rattle.std.specs.List.{list_any, slice_get}
use Rattle.std.proofs.lemmas.List.Folds.{list_any-append, list_any_at, list_any_more}
use Rattle.std.proofs.lemmas.Option.{get_or_from_slice_get, slice_get_within}
use Rattle.parallel_keys.specs.CheckedKeys.{KeyParts, all_parts}
use Rattle.cli.specs.Hints.{has_note, have_notes}
use Rattle.cli.specs.Justifications.{KeyPart}
use Rattle.cli.proofs.Prefixes.{halls_more, halls_parted}

-- one that stands at a place is enough
pub one_at : {X : Type 0} (test : X → Bool) (xs : List X) (i : ℕ) (x : X) → slice_get xs i ≡ Some x → test x ≡ true → list_any test xs ≡ true
one_at test xs i x at is = list_any_at test xs i x (slice_get_within xs i x at) (ap test (get_or_from_slice_get xs i x x at) ∙ is)

-- no one yet, nor at the place
pub none_more : {X : Type 0} (test : X → Bool) (xs : List X) (i : ℕ) (x : X) → slice_get xs i ≡ Some x → test x ≡ false → list_any test (take i xs) ≡ false
    → list_any test (take (i + 1) xs) ≡ false
none_more test xs i x at is so_far =
    list_any_more test xs i x (slice_get_within xs i x at) ∙ ap (λ (b : Bool). b || test (get_or xs i x)) so_far ∙ ap test (get_or_from_slice_get xs i x x at) ∙ is

or_true : (b : Bool) → (b || true) ≡ true
or_true true = refl
or_true false = refl

module _ {X : Type 0} (parts_in : X → KeyParts) (halls : List X) (i : ℕ) (own : X) (below : i < length halls) (is : own ≡ get_or halls i own) where
  abbrev noted_key : KeyPart → Bool
  noted_key entry = has_note entry.1

  -- a hall more has none
  pub hall_unnoted : have_notes (parts_in own) ≡ false → have_notes (all_parts (map parts_in (take i halls))) ≡ false → have_notes (all_parts (map parts_in (take (i + 1) halls))) ≡ false
  hall_unnoted none so_far =
      ap have_notes (halls_more parts_in halls i own below is) ∙ list_any-append noted_key (all_parts (map parts_in (take i halls))) (parts_in own)
      ∙ ap (λ (b : Bool). b || have_notes (parts_in own)) so_far ∙ none

  -- the hall has one
  pub hall_noted : have_notes (parts_in own) ≡ true → have_notes (all_parts (map parts_in halls)) ≡ true
  hall_noted some =
      let earlier = all_parts (map parts_in (take i halls)) in
      let later = all_parts (map parts_in (drop (i + 1) halls)) in
      ap have_notes (halls_parted parts_in halls i own below is) ∙ list_any-append noted_key earlier (parts_in own ++ later)
      ∙ ap (λ (b : Bool). have_notes earlier || b) (list_any-append noted_key (parts_in own) later ∙ ap (λ (b : Bool). b || have_notes later) some)
      ∙ or_true (have_notes earlier)
