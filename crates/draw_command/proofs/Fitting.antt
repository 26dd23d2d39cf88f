-- How many keys have pictures.
use Rattle.std.proofs.Common.{ℕ, ◌≡◌, ◌≤◌, ◌<◌, ◌+◌, List, get_or, inl, inr, length, map, min, take, sym, ap, subst, ◌∙◌, arith}
use Rattle.std.specs.Prelude.{sum_by}
use Rattle.std.proofs.Math.ListN.{get_or-map}
use Rattle.std.proofs.lemmas.Bool.{cases_lt}
use Rattle.std.proofs.lemmas.List.{length-map, length-take, length-take-le, take-map, take-take, take_all}
use Rattle.std.proofs.lemmas.List.Sums.{sum_by-take-le, sum_by_more}
use Rattle.judged_keys.specs.Judgements.{Judgement, judgement_of}
use Rattle.judged_keys.specs.declared.finding.JudgedKey.{JudgedKey}
use Rattle.draw_command.specs.Pictured.{ArePictured, Fit, page_calls, window_size}
use Rattle.draw_command.specs.declared.drawn.Drawn.{Drawn}

-- the calls of the first so many, with one key more
pub one_more : (f : Judgement → ℕ) (keys : List JudgedKey) (n : ℕ) (key : JudgedKey) → n < length keys → key ≡ get_or keys n key
    → sum_by f (take (n + 1) (map judgement_of keys)) ≡ sum_by f (take n (map judgement_of keys)) + f (judgement_of key)
one_more f keys n key within is =
    let js = map judgement_of keys in
    let same : get_or js n (judgement_of key) ≡ judgement_of key = get_or-map judgement_of keys n key ∙ ap judgement_of (sym is) in
    sum_by_more f js n (judgement_of key) (subst (λ (k : ℕ). n < k) (sym (length-map keys judgement_of)) within) ∙ ap (λ (j : Judgement). sum_by f (take n js) + f j) same

-- more keys have no fewer calls
sums_grow : (f : Judgement → ℕ) (js : List Judgement) (n m : ℕ) → n ≤ m → sum_by f (take n js) ≤ sum_by f (take m js)
sums_grow f js n m le = subst (λ (few : List Judgement). sum_by f few ≤ sum_by f (take m js)) (take-take n m js le) (sum_by-take-le f (take m js) n)

module _ (drawn : Drawn) (keys : List JudgedKey) where
  js : List Judgement
  js = map judgement_of keys

  -- of the first m keys the first n are those of all
  front : (n m : ℕ) → n ≤ m → take n (map judgement_of (take m keys)) ≡ take n js
  unfolding js
  front n m le = ap (λ (l : List Judgement). take n l) (sym (take-map judgement_of m keys)) ∙ take-take n m (map judgement_of keys) le

  -- a page has room for the first n, and none for one more
  pub no_room : (m n : ℕ) → m ≤ drawn.selection.most → n < length (take m keys) → sum_by (window_size drawn) (take n (map judgement_of (take m keys))) ≤ page_calls
      → page_calls < sum_by (window_size drawn) (take (n + 1) (map judgement_of (take m keys))) → ArePictured drawn (map judgement_of keys) n
  unfolding js
  no_room m n asked within room none = record { fit = record { asked = omega (arith, asked, below); there = omega (arith, below, all); room = subst (λ (l : List Judgement). sum_by (window_size drawn) l ≤ page_calls) (front n m (omega (arith, below))) room }; most = most }
    where
      below : n < min m (length keys)
      below = let taken = length-take m keys in omega (arith, within, taken)

      all : length (map judgement_of keys) ≡ length keys
      all = length-map keys judgement_of

      over : page_calls < sum_by (window_size drawn) (take (n + 1) (map judgement_of keys))
      over = subst (λ (l : List Judgement). page_calls < sum_by (window_size drawn) l) (front (n + 1) m (omega (arith, below))) none

      most : (k : ℕ) → Fit drawn (map judgement_of keys) k → k ≤ n
      most k fit = elim (cases_lt n k) [
        | inl lt ↦ let more = sums_grow (window_size drawn) (map judgement_of keys) (n + 1) k (omega (arith, lt)) in absurd (omega (arith, more, fit.room, over))
        | inr le ↦ le
      ]

  -- a page has room for all that are to be drawn
  pub all_fit : (m n : ℕ) → m ≡ min (length keys) drawn.selection.most → length (take m keys) ≤ n → sum_by (window_size drawn) (take n (map judgement_of (take m keys))) ≤ page_calls
      → ArePictured drawn (map judgement_of keys) (length (take m keys))
  unfolding js
  all_fit m n is over room = subst (ArePictured drawn (map judgement_of keys)) (sym counted) (record { fit = record { asked = omega (arith, is); there = omega (arith, is, all); room = fits }; most = λ k fit. let at = fit.asked in let there = fit.there in omega (arith, is, all, at, there) })
    where
      all : length (map judgement_of keys) ≡ length keys
      all = length-map keys judgement_of

      counted : length (take m keys) ≡ m
      counted = length-take-le m keys (omega (arith, is))

      whole : take n (map judgement_of (take m keys)) ≡ take m (map judgement_of keys)
      whole = take_all n (map judgement_of (take m keys)) (let long = length-map (take m keys) judgement_of in omega (arith, long, over)) ∙ sym (take-map judgement_of m keys)

      fits : sum_by (window_size drawn) (take m (map judgement_of keys)) ≤ page_calls
      fits = subst (λ (l : List Judgement). sum_by (window_size drawn) l ≤ page_calls) whole room
