-- A piece of a history with one row more.
use Rattle.std.proofs.Common.{ℕ, ◌≡◌, ◌<◌, ◌≤◌, ◌⊎◌, inl, inr, List, [], ◌∷◌, ◌++◌, Some, Bool, true, false, nat_eq, length, take}
use Rattle.std.proofs.Common.{sym, ◌∙◌, ap, subst, refl, arith}
use Rattle.std.specs.List.{slice_get, Contains}
use Rattle.std.proofs.lemmas.Bool.{eq-eqb, ne_eqb}
use Rattle.std.proofs.lemmas.List.{take-append-le, take_at}
use Rattle.std.proofs.lemmas.List.Elements.{Contains-append_left, Contains-push, Contains-push_cases}
use Rattle.std.proofs.lemmas.Option.{slice_get_within}
use Rattle.tag.specs.declared.actions.Action.{Action}
use Rattle.tag.specs.declared.numbers.OpId.{OpId}
use Rattle.tag.proofs.Below.{below_or_next}
use Rattle.tag.proofs.Lists.{get_at, push_cases, slice_get-push_left, slice_get-push_last}
use Rattle.recorder.specs.declared.row.Row.{Row}
use Rattle.recorder.specs.declared.row.Row.TheVariants.{Invoke, Note, Respond}
use Rattle.recorder.specs.Histories.{call_count, IsWellFormed}
use Rattle.split_rows.specs.Pieces.{op_of, with_op, IsCallOf, IsFrom, IsPiece}
use Rattle.split_rows.proofs.Rows.{number_below, one_longer}

-- the row begins that call on one of these keys
abbrev pub BeginsOf : Row → (List ℕ → Type 0) → OpId → Type 0
BeginsOf row mine op = (client : ℕ) × (key : List ℕ) × (action : Action) × mine key × (row ≡ Invoke op client key action)

module _ (rows : List Row) (row : Row) (mine : List ℕ → Type 0) where
  pub call_push : (op : OpId) → IsCallOf rows mine op → IsCallOf (rows ++ row ∷ []) mine op
  call_push op of =
      (of.0, of.1, (of.2.0, of.2.1, Contains-append_left rows (row ∷ []) (Invoke op of.2.0 of.0 of.2.1) of.2.2))

  pub call_cases : (op : OpId) → IsCallOf (rows ++ row ∷ []) mine op → IsCallOf rows mine op ⊎ BeginsOf row mine op
  call_cases op of = elim (Contains-push_cases rows row (Invoke op of.2.0 of.0 of.2.1) of.2.2) [
    | inl w ↦ inl (of.0, of.1, (of.2.0, of.2.1, w))
    | inr w ↦ inr (of.2.0, of.0, of.2.1, of.1, w)
  ]

module _ (rows : List Row) (row : Row) (mine : List ℕ → Type 0) (number later : OpId → OpId) (piece : List Row)
    (is : IsPiece rows mine number piece)
    (still : (op : OpId) → IsCallOf rows mine op → later op ≡ number op) where
  -- the rows that the piece has come from where they came from
  from_before : (place : ℕ) (r : Row) → IsFrom rows mine number place r → IsFrom (rows ++ row ∷ []) mine later place r
  from_before place r f = record {
    source = f.source;
    stands = slice_get-push_left rows row place f.source f.stands;
    of = call_push rows row mine (op_of f.source) f.of;
    is = f.is ∙ ap (with_op f.source) (sym (still (op_of f.source) f.of));
  }

  -- ---- a row that isn't of its calls

  module _ (other : IsCallOf (rows ++ row ∷ []) mine (op_of row) → ⊥) where
    none_begun : (op : OpId) → BeginsOf row mine op → ⊥
    none_begun op b = other (
      b.1,
      b.3,
      (b.0, b.2, subst (Contains (rows ++ row ∷ [])) (b.4 ∙ ap (λ (o : OpId). Invoke o b.0 b.1 b.2) (sym (ap op_of b.4))) (Contains-push rows row)),
    )

    call_back : (op : OpId) → IsCallOf (rows ++ row ∷ []) mine op → IsCallOf rows mine op
    call_back op of = elim (call_cases rows row mine op of) [ inl w ↦ w | inr w ↦ absurd (none_begun op w) ]

    pub piece_same : IsPiece (rows ++ row ∷ []) mine later piece
    piece_same = record {
      place = is.place;
      each = λ k r at. from_before (is.place k) r (is.each k r at);
      all = λ at r stands of. elim (push_cases rows row at r stands) [
        | inl w ↦ is.all at r w (call_back (op_of r) of)
        | inr w ↦ absurd (other (subst (λ (x : Row). IsCallOf (rows ++ row ∷ []) mine (op_of x)) (sym w.1) of))
      ];
      rises = is.rises;
      anew = is.anew;
    }

  -- ---- a row of its calls

  place_by : Bool → ℕ → ℕ
  place_by true old = length rows
  place_by false old = old

  place_more : ℕ → ℕ
  place_more k = place_by (nat_eq k (length piece)) (is.place k)

  place_old : (k : ℕ) → k < length piece → place_more k ≡ is.place k
  unfolding place_more place_by
  place_old k within = ap (λ (b : Bool). place_by b (is.place k)) (ne_eqb k (length piece) (λ e. absurd (omega (arith, within, e))))

  place_new : (k : ℕ) → k ≡ length piece → place_more k ≡ length rows
  unfolding place_more place_by
  place_new k last = ap (λ (b : Bool). place_by b (is.place k)) (eq-eqb k (length piece) last)

  place_within : (k : ℕ) → k < length piece → is.place k < length rows
  place_within k within =
      let x = get_at piece k within in
      let f = is.each k x.0 x.1 in
      slice_get_within rows (is.place k) f.source f.stands

  module _ (formed : IsWellFormed rows) (of_row : IsCallOf (rows ++ row ∷ []) mine (op_of row))
      (fresh : (op : OpId) (client : ℕ) (key : List ℕ) (action : Action) → row ≡ Invoke op client key action
      → (op.0 ≡ call_count rows) × ((later op).0 ≡ call_count piece)) where
    abbrev pub more : Row
    more = with_op row (later (op_of row))

    -- a row of the history before that is of its calls was so before
    was_of : (at : ℕ) (r : Row) → slice_get rows at ≡ Some r → IsCallOf (rows ++ row ∷ []) mine (op_of r) → IsCallOf rows mine (op_of r)
    was_of at r stands of = elim (call_cases rows row mine (op_of r) of) [
      | inl w ↦ w
      | inr w ↦ absurd (omega (arith, (fresh (op_of r) w.0 w.1 w.2 w.4).0, number_below rows formed at r stands))
    ]

    anew_last : (r : Row) → r ≡ row → (k : ℕ) → k ≡ length piece → (op : OpId) (client : ℕ) (key : List ℕ) (action : Action)
        → with_op r (later (op_of r)) ≡ Invoke op client key action → op.0 ≡ call_count (take k (piece ++ more ∷ []))
    anew_last (Invoke o d l b) same k last op client key action e =
        let op_is : later o ≡ op = cc in
        let y = fresh o d l b (sym same) in
        let front = take_at piece (more ∷ []) k (sym last) in
        ap (λ (x : OpId). x.0) (sym op_is) ∙ (y.1 ∙ ap call_count (sym front))
    anew_last (Note o t) same k last op client key action e = absurd cc
    anew_last (Respond o s) same k last op client key action e = absurd cc

    pub piece_more : IsPiece (rows ++ row ∷ []) mine later (piece ++ more ∷ [])
    piece_more = record {
      place = place_more;
      each = λ k r at. elim (push_cases piece more k r at) [
        | inl w ↦ subst (λ (p : ℕ). IsFrom (rows ++ row ∷ []) mine later p r) (sym (place_old k (slice_get_within piece k r w)))
            (from_before (is.place k) r (is.each k r w))
        | inr w ↦ subst (λ (p : ℕ). IsFrom (rows ++ row ∷ []) mine later p r) (sym (place_new k w.0)) (record {
          source = row;
          stands = slice_get-push_last rows row;
          of = of_row;
          is = sym w.1;
        })
      ];
      all = λ at r stands of. elim (push_cases rows row at r stands) [
        | inl w ↦
            let a = is.all at r w (was_of at r w of) in
            (a.0, omega (arith, a.1, one_longer piece more), place_old a.0 a.1 ∙ a.2)
        | inr w ↦ (length piece, omega (arith, one_longer piece more), place_new (length piece) refl ∙ sym w.0)
      ];
      rises = λ j k less within. elim (below_or_next k (length piece) (omega (arith, within, one_longer piece more))) [
        | inl w ↦ omega (arith, is.rises j k less w, place_old j (omega (arith, less, w)), place_old k w)
        | inr w ↦
            let early : j < length piece = omega (arith, less, w) in
            omega (arith, place_within j early, place_old j early, place_new k w)
      ];
      anew = λ k op client key action at. elim (push_cases piece more k (Invoke op client key action) at) [
        | inl w ↦
            let le : k ≤ length piece = omega (arith, slice_get_within piece k (Invoke op client key action) w) in
            is.anew k op client key action w ∙ ap call_count (sym (take-append-le k piece (more ∷ []) le))
        | inr w ↦ anew_last row refl k w.0 op client key action w.1
      ];
    }
