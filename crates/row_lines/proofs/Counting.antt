-- Numbers that follow one another, and others after them.
use Rattle.std.proofs.Common.{ℕ, ◌≡◌, ◌<◌, ◌≤◌, ◌+◌, ◌-◌, zero, suc, List, [], ◌∷◌, ◌++◌, Some, length, append-nil, ap, ap₂, sym, ◌∙◌, arith}
use Rattle.std.specs.List.{range_with_len, slice_get}
use Rattle.std.proofs.lemmas.List.FromFn.{length-range_with_len, get_or-range_with_len}
use Rattle.std.proofs.lemmas.Option.{slice_get-get_or}
use Rattle.tag.proofs.Lists.{slice_get-append_left}

-- one number more at the end
range_more : (a n : ℕ) → range_with_len a (suc n) ≡ range_with_len a n ++ (a + n) ∷ []
range_more a zero = let e : a ≡ a + 0 = omega arith in ap (λ (k : ℕ). k ∷ []) e
range_more a (suc n) =
    let e : a + 1 + n ≡ a + suc n = omega arith in
    ap (λ (ks : List ℕ). a ∷ ks) (range_more (a + 1) n) ∙ ap (λ (k : ℕ). a ∷ (range_with_len (a + 1) n ++ k ∷ [])) e

pub counted_more : (n : ℕ) (kept : List ℕ) (line : ℕ) → kept ≡ [] → line ≡ n + 2 → range_with_len 2 (n + 1) ++ kept ≡ (range_with_len 2 n ++ kept) ++ line ∷ []
counted_more n kept line none is =
    let e : n + 1 ≡ suc n = omega arith in
    let at : 2 + n ≡ line = omega (arith, is) in
    let old : range_with_len 2 n ≡ range_with_len 2 n ++ kept = sym (append-nil (range_with_len 2 n)) ∙ ap (λ (ks : List ℕ). range_with_len 2 n ++ ks) (sym none) in
    ap₂ (λ (m : ℕ) (ks : List ℕ). range_with_len 2 m ++ ks) e none ∙ append-nil (range_with_len 2 (suc n)) ∙ range_more 2 n
    ∙ ap₂ (λ (ks : List ℕ) (k : ℕ). ks ++ k ∷ []) old at

-- ---- what stands at a place

pub counted_at : (n : ℕ) (kept : List ℕ) (k : ℕ) → k < n → Some (k + 2) ≡ slice_get (range_with_len 2 n ++ kept) k
counted_at n kept k less =
    let inside : k < length (range_with_len 2 n) = omega (arith, less, length-range_with_len 2 n) in
    let value : 2 + k ≡ k + 2 = omega arith in
    sym (slice_get-append_left (range_with_len 2 n) kept k (k + 2) (slice_get-get_or (range_with_len 2 n) k 0 inside ∙ ap Some (get_or-range_with_len 2 n k 0 less ∙ value)))

late_at : (xs ys : List ℕ) (k : ℕ) → length xs ≤ k → slice_get ys (k - length xs) ≡ slice_get (xs ++ ys) k
late_at [] ys k late = let e : k - 0 ≡ k = omega arith in ap (slice_get ys) e
late_at (x ∷ xs) ys zero late = absurd (omega arith)
late_at (x ∷ xs) ys (suc k) late =
    let e : suc k - suc (length xs) ≡ k - length xs = omega arith in
    ap (slice_get ys) e ∙ late_at xs ys k (omega arith)

pub kept_at : (n : ℕ) (kept : List ℕ) (k : ℕ) → n ≤ k → slice_get kept (k - n) ≡ slice_get (range_with_len 2 n ++ kept) k
kept_at n kept k late =
    let e : n ≡ length (range_with_len 2 n) = sym (length-range_with_len 2 n) in
    ap (λ (m : ℕ). slice_get kept (k - m)) e ∙ late_at (range_with_len 2 n) kept k (omega (arith, late, e))
