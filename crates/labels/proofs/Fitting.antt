-- The characters of a text that fit into a room, one by one.
use Rattle.std.proofs.Common.{ℕ, ◌≡◌, ◌<◌, ◌≤◌, ◌+◌, ◌-◌, Bool, true, false, nat_lt, cond, List, [], ◌∷◌, ◌++◌, length, get_or, drop, flat_map, refl, sym, ap, ◌∙◌, append_assoc, arith}
use Rattle.std.specs.Char.{encode_utf8}
use Rattle.std.proofs.lemmas.Bool.Decides.{nat_tests}
use Rattle.std.proofs.lemmas.List.{at_drop_more, at_drop_all}
use Rattle.labels.specs.Cuts.{beginning, cells, fitting}
use Rattle.std.specs.Str.{chars}

-- what fits of the rest of the characters
abbrev pub rest : ℕ → ℕ → List ℕ → List ℕ
rest room i cs = flat_map encode_utf8 (fitting room (drop i cs))

fits_one : (room c : ℕ) (cs : List ℕ) → cells c ≤ room
    → flat_map encode_utf8 (fitting room (c ∷ cs)) ≡ encode_utf8 c ++ flat_map encode_utf8 (fitting (room - cells c) cs)
fits_one room c cs enough =
    let test : nat_lt room (cells c) ≡ false = grind (arith, nat_tests) in
    ap (λ (b : Bool). flat_map encode_utf8 (cond b [] (c ∷ fitting (room - cells c) cs))) test

fits_none : (room c : ℕ) (cs : List ℕ) → room < cells c → flat_map encode_utf8 (fitting room (c ∷ cs)) ≡ []
fits_none room c cs little =
    let test : nat_lt room (cells c) ≡ true = grind (arith, nat_tests) in
    ap (λ (b : Bool). flat_map encode_utf8 (cond b [] (c ∷ fitting (room - cells c) cs))) test

-- one character more fits
pub rest_more : (room i c : ℕ) (cs : List ℕ) → i < length cs → c ≡ get_or cs i c → cells c ≤ room
    → rest room i cs ≡ encode_utf8 c ++ rest (room - cells c) (i + 1) cs
rest_more room i c cs within same enough =
    at_drop_more (λ (l : List ℕ). flat_map encode_utf8 (fitting room l)) cs i c within
    ∙ (ap (λ (x : ℕ). flat_map encode_utf8 (fitting room (x ∷ drop (i + 1) cs))) (sym same) ∙ fits_one room c (drop (i + 1) cs) enough)

-- the next character doesn't fit
pub rest_stops : (room i c : ℕ) (cs : List ℕ) → i < length cs → c ≡ get_or cs i c → room < cells c → rest room i cs ≡ []
rest_stops room i c cs within same little =
    at_drop_more (λ (l : List ℕ). flat_map encode_utf8 (fitting room l)) cs i c within
    ∙ (ap (λ (x : ℕ). flat_map encode_utf8 (fitting room (x ∷ drop (i + 1) cs))) (sym same) ∙ fits_none room c (drop (i + 1) cs) little)

-- no character is left
pub rest_end : (room i : ℕ) (cs : List ℕ) → length cs ≤ i → rest room i cs ≡ []
rest_end room i cs past = at_drop_all (λ (l : List ℕ). flat_map encode_utf8 (fitting room l)) cs i past

-- what is kept and what fits of the rest, with one character more
pub rest_step : (room i n c width : ℕ) (cs kept next all : List ℕ) → i < length cs → c ≡ get_or cs i c → width ≡ cells c → width ≤ room
    → n ≡ i + 1 → next ≡ kept ++ encode_utf8 c → kept ++ rest room i cs ≡ all → next ++ rest (room - width) n cs ≡ all
rest_step room i n c width cs kept next all within same wide enough one added so_far =
    let fits : cells c ≤ room = omega (arith, wide, enough) in
    let more : encode_utf8 c ++ rest (room - width) n cs ≡ rest room i cs =
    ap (λ (w : ℕ). encode_utf8 c ++ rest (room - w) n cs) wide
    ∙ (ap (λ (m : ℕ). encode_utf8 c ++ rest (room - cells c) m cs) one ∙ sym (rest_more room i c cs within same fits))
    in
    ap (λ (s : List ℕ). s ++ rest (room - width) n cs) added
    ∙ (append_assoc kept (encode_utf8 c) (rest (room - width) n cs) ∙ (ap (λ (s : List ℕ). kept ++ s) more ∙ so_far))

-- at first
pub rest_start : (room : ℕ) (words : List ℕ) → rest room 0 (chars words) ≡ beginning room words
unfolding beginning
rest_start room words = refl
