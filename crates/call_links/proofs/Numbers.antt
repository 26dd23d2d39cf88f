-- What follows a number, and what stands before a hyphen.
use Rattle.std.proofs.Common.{ℕ, ◌≡◌, ◌<◌, ◌^◌, ◌+◌, ◌%◌, Bool, true, false, not, ◌==◌, List, [], ◌∷◌, ◌++◌, Some, None, decimal, drop, get_or, length}
use Rattle.std.proofs.Common.{nat_eq, refl, sym, ap, ◌∙◌, append_assoc, ◌&&◌, if◌then◌else◌, arith}
use Rattle.std.specs.List.{list_all, slice_get, starts_with}
use Rattle.std.proofs.lemmas.Bool.{agree_below_at, and_parts, and_from, false≢true}
use Rattle.std.proofs.lemmas.Fmt.{decimal_by_steps, decimal_injective}
use Rattle.std.proofs.lemmas.List.Folds.{list_all-append}
use Rattle.call_links.specs.Ids.{bar_id}
use Rattle.call_links.specs.Linked.{is_digit, rest_after}

-- no number is there
pub rest_none : (word number : List ℕ) → starts_with nat_eq word number ≡ false → None ≡ rest_after word number
rest_none word number lacks = sym (ap (λ (b : Bool). if b && not (is_digit (slice_get (drop (length number) word) 0)) then Some (drop (length number) word) else None) lacks)

-- one is there, and no digit follows
pub rest_some : (word number rest : List ℕ) → starts_with nat_eq word number ≡ true → rest ≡ drop (length number) word
    → is_digit (slice_get rest 0) ≡ false → Some rest ≡ rest_after word number
rest_some word number rest begins is free =
    let after : is_digit (slice_get (drop (length number) word) 0) ≡ false = ap (λ (r : List ℕ). is_digit (slice_get r 0)) (sym is) ∙ free in
    let value : (if true && not false then Some (drop (length number) word) else None) ≡ rest_after word number =
    sym (ap (λ (b : Bool). if b && not (is_digit (slice_get (drop (length number) word) 0)) then Some (drop (length number) word) else None) begins
    ∙ ap (λ (b : Bool). if true && not b then Some (drop (length number) word) else None) after) in
    ap Some is ∙ value

-- the byte isn't a hyphen
abbrev is_other : ℕ → Bool
is_other b = not (b == 45)

other_digit : (n : ℕ) → n < 10 → is_other (48 + n) ≡ true
other_digit n small = agree_below_at (λ d. is_other (48 + d)) (λ _. true) 10 n refl small

other_digits : (n : ℕ) → n < 2 ^ 64 → list_all is_other (decimal n) ≡ true
other_digits n fits = decimal_by_steps (λ _ ds. list_all is_other ds ≡ true)
    (λ d small. and_from _ _ (other_digit d small) refl)
    (λ m ds above h. list_all-append is_other ds ((48 + m % 10) ∷ [])
    ∙ and_from _ _ h (and_from _ _ (other_digit (m % 10) (omega arith)) refl))
    n fits

-- a hyphen isn't another byte
no_hyphen : (b : ℕ) → is_other b ≡ true → b ≡ 45 → ⊥
no_hyphen b other is = false≢true (sym (ap is_other is) ∙ other)

-- texts are the same that are cut at their first hyphen, if the wholes are
same_parts : (xs ys us vs : List ℕ) → list_all is_other xs ≡ true → list_all is_other us ≡ true → xs ++ 45 ∷ ys ≡ us ++ 45 ∷ vs → (xs ≡ us) × (ys ≡ vs)
same_parts [] ys [] vs a b e = (refl, ap (drop 1) e)
same_parts [] ys (u ∷ us) vs a b e =
    elim (no_hyphen u (and_parts _ _ b).0 (sym (ap (λ (l : List ℕ). get_or l 0 0) e))) [ ]
same_parts (x ∷ xs) ys [] vs a b e =
    elim (no_hyphen x (and_parts _ _ a).0 (ap (λ (l : List ℕ). get_or l 0 0) e)) [ ]
same_parts (x ∷ xs) ys (u ∷ us) vs a b e =
    let head : x ≡ u = ap (λ (l : List ℕ). get_or l 0 0) e in
    let rest = same_parts xs ys us vs (and_parts _ _ a).1 (and_parts _ _ b).1 (ap (drop 1) e) in
    (ap (λ (h : ℕ). h ∷ xs) head ∙ ap (λ (t : List ℕ). u ∷ t) rest.0, rest.1)

pub own_id : (section other call own : ℕ) → section < 2 ^ 64 → other < 2 ^ 64 → call < 2 ^ 64 → own < 2 ^ 64
    → bar_id section call ≡ bar_id other own → (section ≡ other) × (call ≡ own)
own_id section other call own fits fits_other fits_call fits_own e =
    let inner : (decimal section ++ (45 ∷ [])) ++ decimal call ≡ (decimal other ++ (45 ∷ [])) ++ decimal own = ap (drop 5) e in
    let apart : decimal section ++ 45 ∷ decimal call ≡ decimal other ++ 45 ∷ decimal own =
    sym (append_assoc (decimal section) (45 ∷ []) (decimal call)) ∙ inner ∙ append_assoc (decimal other) (45 ∷ []) (decimal own) in
    let parts = same_parts (decimal section) (decimal call) (decimal other) (decimal own) (other_digits section fits) (other_digits other fits_other) apart in
    (decimal_injective section other fits fits_other parts.0, decimal_injective call own fits_call fits_own parts.1)
