-- Keys, parts and orders of lists that stand one after another.
use Rattle.std.proofs.Common.{ℕ, zero, suc, ◌≡◌, ◌<◌, ◌≤◌, ◌-◌, ◌+◌, List, [], ◌∷◌, ◌++◌, Some, length, map, get_or, subst, ap, ◌∙◌, arith}
use Rattle.std.proofs.Common.{length-append}
use Rattle.std.specs.Borrow.{Bor}
use Rattle.std.specs.Prelude.{IfOk}
use Rattle.std.proofs.Common.{Result, Ok, Err}
use Rattle.std.specs.List.{slice_get}
use Rattle.std.specs.Option.{option_map}
use Rattle.std.proofs.lemmas.List.{length-map}
use Rattle.std.proofs.lemmas.Option.{slice_get-map, slice_get-get_or}
use Rattle.tag.proofs.Lists.{slice_get-append_left}
use Rattle.recorder.specs.declared.order.KeyOrder.{KeyOrder}
use Rattle.certificate_check.specs.Verdicts.{IsVerdict}
use Rattle.certificate_check.specs.declared.verdict.Verdict.{Verdict}
use Rattle.parallel_keys.specs.declared.collect_keys.KeyToCheck.{KeyToCheck}
use Rattle.parallel_keys.specs.CheckedKeys.{CheckedKey, other_key}
use Rattle.parallel_keys.specs.KeysToCheck.{others_in, what_of}

-- what stands in the second list stands in both, so many places later
pub later_at : {X : Type 0} (xs ys : List X) (j k : ℕ) (y : X) → k ≡ length xs + j
    → slice_get ys j ≡ Some y → slice_get (xs ++ ys) k ≡ Some y
later_at {X} [] ys j k y is at =
    let same : j ≡ k = omega (arith, is) in subst (λ (n : ℕ). slice_get ys n ≡ Some y) same at
later_at (z ∷ zs) ys j zero y is at = absurd (omega (arith, is))
later_at (z ∷ zs) ys j (suc k) y is at = later_at zs ys j k y (omega (arith, is)) at

-- a key that has a part
pub recorded_at : (recorded : List KeyToCheck) (others : List (Bor KeyOrder)) (place : ℕ)
    (one : KeyToCheck) → place < length recorded
    → slice_get (map what_of recorded ++ others_in others) place
    ≡ Some (what_of (get_or recorded place one))
recorded_at recorded others place one below =
    slice_get-append_left (map what_of recorded) (others_in others) place (what_of (get_or recorded place one))
    (slice_get-map what_of recorded place ∙ ap (option_map what_of) (slice_get-get_or recorded place one below))

-- a key that only the orders have
pub other_at : (recorded : List KeyToCheck) (others : List (Bor KeyOrder)) (place : ℕ)
    (one : Bor KeyOrder) → length recorded ≤ place
    → place < length (map what_of recorded ++ others_in others)
    → slice_get (map what_of recorded ++ others_in others) place
    ≡ Some (other_key (get_or others (place - length recorded) one).now)
other_at recorded others place one later below =
    later_at (map what_of recorded) (others_in others) j place (other_key (get_or others j one).now)
    (omega (arith, later, length-map recorded what_of))
    (slice_get-map other_key (map now others) j ∙ ap (option_map other_key)
    (slice_get-map now others j ∙ ap (option_map now) (slice_get-get_or others j one within)))
  where
    j : ℕ
    j = place - length recorded

    now : Bor KeyOrder → KeyOrder
    now o = o.now

    within : j < length others
    within = omega (arith, later, below, length-append (map what_of recorded) (others_in others), length-map recorded what_of, length-map (map now others) other_key, length-map others now)

-- what is checked of the key at hand
pub told_of : {E : Type 0} (keys : List CheckedKey) (place : ℕ) (one : CheckedKey) (told : Result Verdict E)
    → slice_get keys place ≡ Some one → IfOk told (IsVerdict one.part one.order)
    → IfOk told (λ verdict. (own : CheckedKey) × (slice_get keys place ≡ Some own) × IsVerdict own.part own.order verdict)
told_of keys place one (Ok verdict) at is = (one, at, is)
told_of keys place one (Err error) at is = is
