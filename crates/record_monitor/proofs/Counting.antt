-- Rows with one more.
use Rattle.std.proofs.Common.{◌≡◌, ◌+◌, List, [], ◌∷◌, ◌++◌, cond, length, length-append, take, refl, arith}
use Rattle.std.proofs.lemmas.List.{take_all, take_at}
use Rattle.recorder.specs.declared.row.Row.{Row}
use Rattle.recorder.specs.Histories.{is_invoke, call_count}

pub count_push : (rows : List Row) (row : Row) → call_count (rows ++ row ∷ []) ≡ call_count rows + cond (is_invoke row) 1 0
count_push [] row = omega arith
count_push (r ∷ rows) row = omega (arith, count_push rows row)

pub one_longer : {X : Type 0} (xs : List X) (x : X) → length (xs ++ x ∷ []) ≡ length xs + 1
one_longer xs x = length-append xs (x ∷ [])

-- the rows before the last one, and all of them
pub all_but_last : {X : Type 0} (xs : List X) (x : X) → take (length xs) (xs ++ x ∷ []) ≡ xs
all_but_last xs x = take_at xs (x ∷ []) (length xs) refl

pub with_last : {X : Type 0} (xs : List X) (x : X) → take (length xs + 1) (xs ++ x ∷ []) ≡ xs ++ x ∷ []
with_last xs x = take_all (length xs + 1) (xs ++ x ∷ []) (omega (arith, one_longer xs x))
