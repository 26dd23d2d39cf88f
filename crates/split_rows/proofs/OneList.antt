-- A piece is one list.
use Rattle.std.proofs.Common.{ℕ, zero, suc, ◌≡◌, ◌<◌, ◌≤◌, inl, inr, List, [], ◌∷◌, ◌++◌, Some, take, length}
use Rattle.std.proofs.Common.{sym, ◌∙◌, ap, subst, refl, arith}
use Rattle.std.specs.List.{slice_get}
use Rattle.std.proofs.lemmas.Bool.{cases_lt}
use Rattle.std.proofs.lemmas.List.{take_all}
use Rattle.std.proofs.lemmas.Option.{same_Some}
use Rattle.tag.specs.declared.actions.Action.{Action}
use Rattle.tag.specs.declared.numbers.OpId.{OpId}
use Rattle.tag.proofs.Below.{below_or_last}
use Rattle.tag.proofs.Lists.{get_at, slice_get-take, take_push}
use Rattle.tag.proofs.SameTags.{same_op}
use Rattle.recorder.specs.declared.row.Row.{Row}
use Rattle.recorder.specs.declared.row.Row.TheVariants.{Invoke}
use Rattle.recorder.specs.Histories.{call_count, IsWellFormed}
use Rattle.split_rows.specs.Pieces.{op_of, with_op, IsCallOf, IsPiece}
use Rattle.split_rows.proofs.PieceRows.{lower, row_in, same_row}
use Rattle.split_rows.proofs.Rows.{began}

none_taken : (xs ys : List Row) → take 0 xs ≡ take 0 ys
none_taken [] [] = refl
none_taken [] (y ∷ ys) = refl
none_taken (x ∷ xs) [] = refl
none_taken (x ∷ xs) (y ∷ ys) = refl

invoke_number : (a b : OpId) (client : ℕ) (key : List ℕ) (action : Action) → Invoke a client key action ≡ Invoke b client key action → a ≡ b
invoke_number a b client key action e = cc

-- what stands in a list also stands in one with the same front
in_same_front : (xs ys : List Row) (k j : ℕ) (row : Row) → take k xs ≡ take k ys → j < k → slice_get xs j ≡ Some row → slice_get ys j ≡ Some row
in_same_front xs ys k j row same less at =
    sym (slice_get-take ys k j less) ∙ (ap (λ (l : List Row). slice_get l j) (sym same) ∙ (slice_get-take xs k j less ∙ at))

module _ (rows : List Row) (formed : IsWellFormed rows) (mine : List ℕ → Type 0) where
  -- the first k rows are the same, and come from the same places
  record AgreeTo (number other : OpId → OpId) (xs ys : List Row) (x : IsPiece rows mine number xs) (y : IsPiece rows mine other ys) (k : ℕ) :
      Type 0 where
    pub within : k ≤ length ys
    pub same : take k xs ≡ take k ys
    pub places : (j : ℕ) → j < k → x.place j ≡ y.place j

  module _ (number other : OpId → OpId) (xs ys : List Row) (x : IsPiece rows mine number xs) (y : IsPiece rows mine other ys) where
    -- the next row comes from the same place
    next_place : (k : ℕ) → k < length xs → AgreeTo number other xs ys x y k → (k < length ys) × (y.place k ≡ x.place k)
    next_place k less agree =
        let r = get_at xs k less in
        let f = x.each k r.0 r.1 in
        let s = y.all (x.place k) f.source f.stands f.of in
        elim (cases_lt s.0 k) [
          | inl h ↦ absurd (omega (arith, x.rises s.0 k h less, agree.places s.0 h, s.2))
          | inr h ↦ elim (cases_lt k s.0) [
            | inl g ↦
                let within : k < length ys = (let below = s.1 in omega (arith, g, below)) in
                let q = get_at ys k within in
                let e = y.each k q.0 q.1 in
                let t = x.all (y.place k) e.source e.stands e.of in
                let early : x.place t.0 < x.place k = omega (arith, t.2, y.rises k s.0 g s.1, s.2) in
                let before = lower rows formed mine number xs x t.0 k t.1 early in
                absurd (omega (arith, y.rises t.0 k before within, agree.places t.0 before, t.2))
            | inr g ↦
                let same : s.0 ≡ k = omega (arith, h, g) in
                (subst (λ (n : ℕ). n < length ys) same s.1, ap y.place (sym same) ∙ s.2)
          ]
        ]

    -- and its call has the same number
    next_number : (k : ℕ) → k < length xs → AgreeTo number other xs ys x y k → (row : Row) → slice_get rows (x.place k) ≡ Some row
        → IsCallOf rows mine (op_of row) → number (op_of row) ≡ other (op_of row)
    next_number k less agree row stands of =
        let next = next_place k less agree in
        let b = began rows formed (x.place k) row stands in
        let begins : Row = Invoke (op_of row) b.2.client b.2.key b.2.action in
        let s = row_in rows formed mine number xs x b.0 begins b.2.stands of in
        let t = row_in rows formed mine other ys y b.0 begins b.2.stands of in
        elim (cases_lt s.k k) [
          | inl h ↦
              let placed : y.place t.k ≡ y.place s.k = omega (arith, t.place, s.place, agree.places s.k h) in
              let here = agree.within in
              let one : t.k ≡ s.k = same_row rows formed mine other ys y t.k s.k t.within (omega (arith, h, here)) placed in
              let at = in_same_front xs ys k s.k (Invoke (number (op_of row)) b.2.client b.2.key b.2.action) agree.same h s.stands in
              invoke_number (number (op_of row)) (other (op_of row)) b.2.client b.2.key b.2.action
              (same_Some (Invoke (number (op_of row)) b.2.client b.2.key b.2.action) (Invoke (other (op_of row)) b.2.client b.2.key b.2.action)
              (sym at ∙ (ap (slice_get ys) (sym one) ∙ t.stands)))
          | inr h ↦
              let last : s.k ≡ k = elim (cases_lt k s.k) [
                | inl g ↦ absurd (let up = x.rises k s.k g s.within in let low = b.1 in let at = s.place in omega (arith, up, low, at))
                | inr g ↦ omega (arith, h, g)
              ] in
              let placed : y.place t.k ≡ y.place k = omega (arith, t.place, s.place, ap x.place last, next.1) in
              let one : t.k ≡ k = same_row rows formed mine other ys y t.k k t.within next.0 placed in
              let first = x.anew s.k (number (op_of row)) b.2.client b.2.key b.2.action s.stands in
              let second = y.anew t.k (other (op_of row)) b.2.client b.2.key b.2.action t.stands in
              let count_x = ap (λ (n : ℕ). call_count (take n xs)) last in
              let count_y = ap (λ (n : ℕ). call_count (take n ys)) one in
              let counts = ap call_count agree.same in
              same_op (number (op_of row)) (other (op_of row)) (first ∙ (count_x ∙ (counts ∙ sym (second ∙ count_y))))
        ]

    agree_next : (k : ℕ) → k < length xs → AgreeTo number other xs ys x y k → AgreeTo number other xs ys x y (suc k)
    agree_next k less agree =
        let next = next_place k less agree in
        let r = get_at xs k less in
        let q = get_at ys k next.0 in
        let f = x.each k r.0 r.1 in
        let e = y.each k q.0 q.1 in
        let source : e.source ≡ f.source = same_Some e.source f.source (sym e.stands ∙ (ap (slice_get rows) next.1 ∙ f.stands)) in
        let number_is = next_number k less agree f.source f.stands f.of in
        let row : r.0 ≡ q.0 = f.is ∙ (ap (with_op f.source) number_is ∙ (ap (λ (z : Row). with_op z (other (op_of z))) (sym source) ∙ sym e.is)) in
        let below = next.0 in
        record {
          within = omega (arith, below);
          same = take_push xs k r.0 r.1 ∙ (ap (λ (l : List Row). l ++ r.0 ∷ []) agree.same
              ∙ (ap (λ (z : Row). take k ys ++ z ∷ []) row ∙ sym (take_push ys k q.0 q.1)));
          places = λ j early. elim (below_or_last j k early) [
            | inl w ↦ agree.places j w
            | inr w ↦ ap x.place w ∙ (sym next.1 ∙ ap y.place (sym
                w))
          ];
        }

    agree_to : (k : ℕ) → k ≤ length xs → AgreeTo number other xs ys x y k
    agree_to zero le = record { within = omega arith; same = none_taken xs ys; places = λ j less. absurd (omega (arith, less)) }
    agree_to (suc k) le = agree_next k (omega (arith, le)) (agree_to k (omega (arith, le)))

  pub one_list : (number other : OpId → OpId) (xs ys : List Row) → IsPiece rows mine number xs → IsPiece rows mine other ys → xs ≡ ys
  one_list number other xs ys x y =
      let forth = agree_to number other xs ys x y (length xs) (omega arith) in
      let back = agree_to other number ys xs y x (length ys) (omega arith) in
      let short = forth.within in
      let long = back.within in
      sym (take_all (length xs) xs (omega arith)) ∙ (forth.same ∙ take_all (length xs) ys (omega (arith, short, long)))
