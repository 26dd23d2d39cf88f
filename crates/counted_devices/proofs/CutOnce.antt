-- Bytes are cut into lines in one way.
use Rattle.std.proofs.Common.{ℕ, ◌≡◌, ◌≢◌, List, [], ◌∷◌, ◌++◌, drop, get_or, length, refl, sym, ap}
use Rattle.std.proofs.Common.{◌∙◌, append_assoc, suc-ne-zero}
use Rattle.std.specs.Prelude.{All}
use Rattle.std.specs.List.{flat_map}
use Rattle.std.proofs.lemmas.List.Elements.{All-head, All-tail}
use Rattle.counted_devices.specs.Cuts.{with_end, HasNoEnd, Splits}

first_of : (b : ℕ) (bytes : List ℕ) → HasNoEnd (b ∷ bytes) → b ≢ 10
first_of b bytes h = All-head (λ (x : ℕ). x ≢ 10) b bytes h

rest_of : (b : ℕ) (bytes : List ℕ) → HasNoEnd (b ∷ bytes) → HasNoEnd bytes
rest_of b bytes h = All-tail (λ (x : ℕ). x ≢ 10) b bytes h

-- lists that are the same begin with the same element, and what follows is the same
same_first : (a b : ℕ) (xs ys : List ℕ) → a ∷ xs ≡ b ∷ ys → a ≡ b
same_first a b xs ys e = ap (λ (l : List ℕ). get_or l 0 0) e

same_rest : (a b : ℕ) (xs ys : List ℕ) → a ∷ xs ≡ b ∷ ys → xs ≡ ys
same_rest a b xs ys e = ap (λ (l : List ℕ). drop 1 l) e

same_cons : {X : Type 0} (x y : X) (xs ys : List X) → x ≡ y → xs ≡ ys → x ∷ xs ≡ y ∷ ys
same_cons {X} x y xs ys first rest = ap (λ (z : X). z ∷ xs) first ∙ ap (λ (l : List X). y ∷ l) rest

never_empty : (x : ℕ) (xs : List ℕ) → [] ≡ x ∷ xs → ⊥
never_empty x xs e = suc-ne-zero (length xs) (sym (ap length e))

-- bytes without an end are cut at the first end in one way
cut_once : (a b xs ys : List ℕ) → HasNoEnd a → HasNoEnd b → a ++ 10 ∷ xs ≡ b ++ 10 ∷ ys → (a ≡ b)
    × (xs ≡ ys)
cut_once [] [] xs ys h k e = (refl, same_rest 10 10 xs ys e)
cut_once [] (c ∷ b) xs ys h k e =
    absurd (first_of c b k (sym (same_first 10 c xs (b ++ 10 ∷ ys) e)))
cut_once (c ∷ a) [] xs ys h k e = absurd (first_of c a h (same_first c 10 (a ++ 10 ∷ xs) ys e))
cut_once (c ∷ a) (d ∷ b) xs ys h k e =
    let same : c ≡ d = same_first c d (a ++ 10 ∷ xs) (b ++ 10 ∷ ys) e in
    let more : a ++ 10 ∷ xs ≡ b ++ 10 ∷ ys = same_rest c d (a ++ 10 ∷ xs) (b ++ 10 ∷ ys) e in
    let w = cut_once a b xs ys (rest_of c a h) (rest_of d b k) more in
    (same_cons c d a b same w.0, w.1)

-- bytes with an end have one
never_whole : (rest a xs : List ℕ) → HasNoEnd rest → rest ≡ a ++ 10 ∷ xs → ⊥
never_whole [] [] xs h e = never_empty 10 xs e
never_whole [] (c ∷ a) xs h e = never_empty c (a ++ 10 ∷ xs) e
never_whole (b ∷ rest) [] xs h e = first_of b rest h (same_first b 10 rest xs e)
never_whole (b ∷ rest) (c ∷ a) xs h e =
    never_whole rest a xs (rest_of b rest h) (same_rest b c rest (a ++ 10 ∷ xs) e)

first_line : (line : List ℕ) (lines : List (List ℕ)) → All HasNoEnd (line ∷ lines) → HasNoEnd line
first_line line lines h = All-head HasNoEnd line lines h

more_lines : (line : List ℕ) (lines : List (List ℕ)) → All HasNoEnd (line ∷ lines)
    → All HasNoEnd lines
more_lines line lines h = All-tail HasNoEnd line lines h

spread : (line xs rest : List ℕ) → ((line ++ 10 ∷ []) ++ xs) ++ rest ≡ line ++ 10 ∷ (xs ++ rest)
spread line xs rest =
    append_assoc (line ++ 10 ∷ []) xs rest ∙ append_assoc line (10 ∷ []) (xs ++ rest)

lines_once : (ls ms : List (List ℕ)) (x y : List ℕ) → All HasNoEnd ls → All HasNoEnd ms → HasNoEnd x
    → HasNoEnd y → flat_map with_end ls ++ x ≡ flat_map with_end ms ++ y → (ls ≡ ms) × (x ≡ y)
lines_once [] [] x y h k p q e = (refl, e)
lines_once [] (b ∷ ms) x y h k p q e =
    absurd (never_whole x b (flat_map with_end ms ++ y) p (e ∙ spread b (flat_map with_end ms) y))
lines_once (a ∷ ls) [] x y h k p q e = absurd (never_whole y a (flat_map with_end ls ++ x) q (sym e
    ∙ spread a (flat_map with_end ls) x))
lines_once (a ∷ ls) (b ∷ ms) x y h k p q e =
    let one = cut_once a b (flat_map with_end ls ++ x) (flat_map with_end ms
    ++ y) (first_line a ls h) (first_line b ms k) (sym (spread a (flat_map with_end ls) x) ∙ e
    ∙ spread b (flat_map with_end ms) y) in
    let others = lines_once ls ms x y (more_lines a ls h) (more_lines b ms k) p q one.1 in
    (same_cons a b ls ms one.0 others.0, others.1)

-- bytes are cut into lines in one way
pub splits_once : (bytes : List ℕ) (ls ms : List (List ℕ)) (x y : List ℕ) → Splits bytes ls x
    → Splits bytes ms y → (ls ≡ ms) × (x ≡ y)
splits_once bytes ls ms x y s t =
    lines_once ls ms x y s.each t.each s.partial t.partial (sym s.whole ∙ t.whole)
