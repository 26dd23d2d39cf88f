-- What rows say of their calls by place.
use Rattle.std.proofs.Common.{ℕ, zero, suc, ◌≡◌, ◌<◌, ◌≤◌, inl, inr, List, [], ◌∷◌, ◌++◌, Some, true, length, take}
use Rattle.std.proofs.Common.{sym, subst, refl, arith}
use Rattle.std.specs.List.{slice_get, Contains}
use Rattle.std.proofs.lemmas.List.{take-append-le, take_at}
use Rattle.std.proofs.lemmas.Option.{slice_get_within}
use Rattle.tag.specs.declared.actions.Action.{Action}
use Rattle.tag.specs.declared.numbers.OpId.{OpId}
use Rattle.tag.proofs.Lists.{Contains-slice_get, place_of, push_cases, in_front}
use Rattle.recorder.specs.declared.row.Row.{Row}
use Rattle.recorder.specs.declared.row.Row.TheVariants.{Invoke, Note, Respond}
use Rattle.recorder.specs.Histories.{is_invoke, call_count, MayFollow, IsWellFormed}
use Rattle.split_rows.specs.Pieces.{op_of}

-- rows with one more are well formed, if it may follow
pub formed_next : (rows : List Row) (row : Row) → IsWellFormed rows → MayFollow rows row → IsWellFormed (rows ++ row ∷ [])
formed_next rows row formed may k r at =
    elim (push_cases rows row k r at) [
      | inl w ↦
          let le : k ≤ length rows = omega (arith, slice_get_within rows k r w) in
          subst (λ (x : List Row). MayFollow x r) (sym (take-append-le k rows (row ∷ []) le)) (formed k r w)
      | inr w ↦ subst (λ (x : List Row). MayFollow x r) (sym (take_at rows (row ∷ []) k (sym w.0))) (subst (λ (x : Row). MayFollow rows
          x) w.1 may)
    ]

-- a row that begins a call is counted after the rows before it
count_below : (rows : List Row) (i : ℕ) (row : Row) → slice_get rows i ≡ Some row → is_invoke row ≡ true
    → call_count (take i rows) < call_count rows
count_below [] i row h b = absurd (cc)
count_below (r ∷ rows) zero row h b = let same : is_invoke r ≡ true = cc in rw same (omega arith)
count_below (r ∷ rows) (suc i) row h b = omega (arith, count_below rows i row h b)

module _ (rows : List Row) (formed : IsWellFormed rows) where
  begun_below : (op : OpId) (client : ℕ) (key : List ℕ) (action : Action) → Contains rows (Invoke op client key action)
      → op.0 < call_count rows
  begun_below op client key action there =
      let i = place_of rows (Invoke op client key action) there in
      let number = (formed i.0 (Invoke op client key action) i.1).0 in
      omega (arith, number, count_below rows i.0 (Invoke op client key action) i.1 refl)

  in_rows : (n : ℕ) (row : Row) → Contains (take n rows) row → Contains rows row
  in_rows n row there =
      let k = place_of (take n rows) row there in
      Contains-slice_get rows k.0 row (in_front rows n k.0 row k.1).1

  -- so the number of a row's call is below their count
  pub number_below : (place : ℕ) (row : Row) → slice_get rows place ≡ Some row → (op_of row).0 < call_count rows
  number_below place (Invoke op client key action) at =
      begun_below op client key action (Contains-slice_get rows place (Invoke op client key action) at)
  number_below place (Note op tag) at =
      let p = (formed place (Note op tag) at).0 in
      begun_below op p.0 p.2.key p.1 (in_rows place (Invoke op p.0 p.2.key p.1) p.2.invoked)
  number_below place (Respond op returned) at =
      let p = formed place (Respond op returned) at in
      begun_below op p.0 p.2.key p.1 (in_rows place (Invoke op p.0 p.2.key p.1) p.2.invoked)
