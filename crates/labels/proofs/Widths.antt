-- The beginning of a text that fits into a room, character by character.
use Rattle.std.proofs.Common.{ℕ, ◌≡◌, ◌≤◌, ◌+◌, ◌-◌, Bool, true, List, [], ◌∷◌, ◌++◌, length, flat_map, chars}
use Rattle.std.proofs.Common.{inl, inr, refl, sym, ap, ◌∙◌, arith}
use lib.Utf8.{encode, encodes, scalar, scalars}
use Rattle.std.specs.List.{list_all, sum_by}
use Rattle.std.specs.Str.{IsUtf8}
use Rattle.std.proofs.lemmas.Bool.{and_parts, and_from, cases_lt, eqb-true, le-ltb, lt-ltb}
use Rattle.std.proofs.lemmas.List.{length-append}
use Rattle.std.proofs.lemmas.List.Sums.{sum_by-cons}
use Rattle.std.proofs.lemmas.Str.{chars-encodes, encodes-chars, length-le-encodes, scalars-chars}
use Rattle.labels.specs.Cuts.{beginning, cells, fits, fitting, width}

flat_encodes : (cs : List ℕ) → flat_map encode cs ≡ encodes cs
flat_encodes [] = refl
flat_encodes (c ∷ cs) = ap (λ (s : List ℕ). encode c ++ s) (flat_encodes cs)

-- what holds of what fits where nothing does, and where one character more does
by_room : (P : List ℕ → Type 0) (room c : ℕ) (cs : List ℕ) → P []
    → (cells c ≤ room → P (c ∷ fitting (room - cells c) cs)) → P (fitting room (c ∷ cs))
by_room P room c cs none one = elim (cases_lt room (cells c)) [
  | inl little ↦ rw (lt-ltb room (cells c) little) none
  | inr enough ↦ rw (le-ltb room (cells c) enough) (one enough)
]

-- what holds of each character holds of each that fits
all_fitting : (p : ℕ → Bool) (room : ℕ) (cs : List ℕ) → list_all p cs ≡ true → list_all p (fitting room cs) ≡ true
all_fitting p room [] e = refl
all_fitting p room (c ∷ cs) e =
    let parts = and_parts (p c) (list_all p cs) e in
    by_room (λ fit. list_all p fit ≡ true) room c cs refl
    (λ enough. and_from _ _ parts.0 (all_fitting p (room - cells c) cs parts.1))

scalars_fitting : (room : ℕ) (cs : List ℕ) → scalars cs ≡ true → scalars (fitting room cs) ≡ true
scalars_fitting room [] e = refl
scalars_fitting room (c ∷ cs) e =
    let parts = and_parts (scalar c) (scalars cs) e in
    by_room (λ fit. scalars fit ≡ true) room c cs refl
    (λ enough. and_from _ _ parts.0 (scalars_fitting (room - cells c) cs parts.1))

-- what fits takes no more than the room
fitting_width : (room : ℕ) (cs : List ℕ) → sum_by cells (fitting room cs) ≤ room
fitting_width room [] = omega arith
fitting_width room (c ∷ cs) =
    by_room (λ fit. sum_by cells fit ≤ room) room c cs (omega arith)
    (λ enough. omega (arith, enough, sum_by-cons cells c (fitting (room - cells c) cs), fitting_width (room - cells c) cs))

-- the characters of a beginning
pub beginning_chars : (room : ℕ) (words : List ℕ) → IsUtf8 words → chars (beginning room words) ≡ fitting room (chars words)
unfolding beginning
beginning_chars room words utf8 =
    ap chars (flat_encodes (fitting room (chars words)))
    ∙ chars-encodes (fitting room (chars words)) (scalars_fitting room (chars words) (scalars-chars words utf8))

pub beginning_all : (p : ℕ → Bool) (room : ℕ) (words : List ℕ) → IsUtf8 words → list_all p (chars words) ≡ true
    → list_all p (chars (beginning room words)) ≡ true
beginning_all p room words utf8 e =
    ap (λ (cs : List ℕ). list_all p cs) (beginning_chars room words utf8) ∙ all_fitting p room (chars words) e

pub beginning_width : (room : ℕ) (words : List ℕ) → IsUtf8 words → width (beginning room words) ≤ room
beginning_width room words utf8 =
    let is : width (beginning room words) ≡ sum_by cells (fitting room (chars words)) =
    ap (λ (cs : List ℕ). sum_by cells cs) (beginning_chars room words utf8) in
    omega (arith, is, fitting_width room (chars words))

-- a beginning of as many bytes is the whole
same_size : (room : ℕ) (cs : List ℕ) → length (encodes (fitting room cs)) ≡ length (encodes cs) → fitting room cs ≡ cs
same_size room [] e = refl
same_size room (c ∷ cs) e =
    by_room (λ fit. length (encodes fit) ≡ length (encodes (c ∷ cs)) → fit ≡ c ∷ cs) room c cs
    (λ same. let some = length-le-encodes (c ∷ cs) in absurd (omega (arith, same, some)))
    (λ enough same. ap (λ (fit : List ℕ). c ∷ fit) (same_size (room - cells c) cs
    (omega (arith, same, length-append (encode c) (encodes (fitting (room - cells c) cs)), length-append (encode c) (encodes cs))))) e

pub whole_width : (room : ℕ) (words : List ℕ) → IsUtf8 words → fits room words ≡ true → width words ≤ room
unfolding beginning
whole_width room words utf8 e =
    let cs = chars words in
    let sizes : length (encodes (fitting room cs)) ≡ length (encodes cs) =
    sym (ap length (flat_encodes (fitting room cs))) ∙ eqb-true _ _ e ∙ sym (ap length (encodes-chars words utf8)) in
    let is : sum_by cells (fitting room cs) ≡ width words = ap (λ (l : List ℕ). sum_by cells l) (same_size room cs sizes) in
    omega (arith, is, fitting_width room cs)
