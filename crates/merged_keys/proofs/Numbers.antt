-- Calls by their numbers: numbers rise with the places of invocations, so a call is begun once.
use Rattle.std.proofs.Common.{ℕ, zero, suc, ◌≡◌, ◌<◌, inl, inr, List, [], ◌∷◌, Some, true, take, ap, ◌∙◌, refl, arith}
use Rattle.std.specs.List.{slice_get}
use Rattle.std.proofs.lemmas.Bool.{cases_lt}
use Rattle.std.proofs.lemmas.List.{take-take}
use Rattle.tag.specs.declared.actions.Action.{Action}
use Rattle.tag.specs.declared.numbers.OpId.{OpId}
use Rattle.tag.proofs.Lists.{slice_get-take}
use Rattle.recorder.specs.declared.row.Row.{Row}
use Rattle.recorder.specs.declared.row.Row.TheVariants.{Invoke}
use Rattle.recorder.specs.Histories.{is_invoke, call_count, IsWellFormed}

-- fewer calls are begun before a row that begins one than in all
pub count_below : (rows : List Row) (i : ℕ) (row : Row) → slice_get rows i ≡ Some row → is_invoke row ≡ true
    → call_count (take i rows) < call_count rows
count_below [] i row h b = absurd (cc)
count_below (r ∷ rows) zero row h b = let same : is_invoke r ≡ true = cc in rw same (omega arith)
count_below (r ∷ rows) (suc i) row h b = omega (arith, count_below rows i row h b)

module _ (rows : List Row) (formed : IsWellFormed rows) where
  -- a later call has a higher number, since a call's number is the count of those before it
  numbers_rise : (i j : ℕ) (a b : OpId) (c d : ℕ) (k l : List ℕ) (x y : Action) → i < j → slice_get rows i ≡ Some (Invoke a c k x)
      → slice_get rows j ≡ Some (Invoke b d l y) → a.0 < b.0
  numbers_rise i j a b c d k l x y less at_i at_j =
      let first = (formed i (Invoke a c k x) at_i).0 in
      let second = (formed j (Invoke b d l y) at_j).0 in
      let below = count_below (take j rows) i (Invoke a c k x) (slice_get-take rows j i less ∙ at_i) refl in
      let front = ap call_count (take-take i j rows (omega arith)) in
      omega (arith, first, second, below, front)

  -- a call is begun once
  pub begun_once : (i j : ℕ) (op : OpId) (c d : ℕ) (k l : List ℕ) (x y : Action) → slice_get rows i ≡ Some (Invoke op c k x)
      → slice_get rows j ≡ Some (Invoke op d l y) → i ≡ j
  begun_once i j op c d k l x y at_i at_j =
      elim (cases_lt i j) [
        | inl h ↦ absurd (omega (arith, numbers_rise i j op op c d k l x y h at_i at_j))
        | inr h ↦ elim (cases_lt j i) [
          | inl g ↦ absurd (omega (arith, numbers_rise j i op op d c l k y x g at_j at_i))
          | inr g ↦ omega arith
        ]
      ]
