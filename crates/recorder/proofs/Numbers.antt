-- The numbers of a history's calls: they rise with the places of the invocations.
use Rattle.std.proofs.Common.{ℕ, zero, suc, ◌≡◌, ◌<◌, ◌≤◌, ◌+◌, inl, inr, List, [], ◌∷◌, ◌++◌, Some, true, cond, length, take, sym, ◌∙◌, ap, subst, refl, arith}
use Rattle.std.specs.List.{slice_get, Contains}
use Rattle.std.proofs.lemmas.Option.{slice_get_within}
use Rattle.std.proofs.lemmas.Bool.{cases_lt}
use Rattle.std.proofs.lemmas.List.{take-append-le, take_at, take-take}
use Rattle.tag.specs.declared.actions.Action.{Action}
use Rattle.tag.specs.declared.actions.Returned.{Returned}
use Rattle.tag.specs.declared.numbers.OpId.{OpId}
use Rattle.recorder.specs.declared.row.Row.{Row}
use Rattle.recorder.specs.declared.row.Row.TheVariants.{Invoke, Note, Respond}
use Rattle.recorder.specs.Histories.{is_invoke, call_count, HasNote, HasResponse, IsPendingCall, MayFollow, IsWellFormed}
use Rattle.tag.proofs.Lists.{place_of, push_cases, slice_get-take}
use Rattle.recorder.proofs.Lists.{place_of-take, Contains-front, Contains-take}

-- how many calls the rows begin, with one row more, and before a row that begins one
pub count_push : (rows : List Row) (row : Row) → call_count (rows ++ row ∷ []) ≡ call_count rows + cond (is_invoke row) 1 0
count_push [] row = omega arith
count_push (r ∷ rows) row = omega (arith, count_push rows row)

pub count_below : (rows : List Row) (i : ℕ) (row : Row) → slice_get rows i ≡ Some row → is_invoke row ≡ true → call_count (take i rows) < call_count rows
count_below [] i row h b = absurd (cc)
count_below (r ∷ rows) zero row h b = let same : is_invoke r ≡ true = cc in rw same (omega arith)
count_below (r ∷ rows) (suc i) row h b = omega (arith, count_below rows i row h b)

-- a history with one row more is a history, if the row may follow
pub IsWellFormed-push : (rows : List Row) (row : Row) → IsWellFormed rows → MayFollow rows row → IsWellFormed (rows ++ row ∷ [])
IsWellFormed-push rows row formed may k r at =
    elim (push_cases rows row k r at) [
      | inl w ↦
          let le : k ≤ length rows = omega (arith, slice_get_within rows k r w) in
          subst (λ (x : List Row). MayFollow x r) (sym (take-append-le k rows (row ∷ []) le)) (formed k r w)
      | inr w ↦ subst (λ (x : List Row). MayFollow x r) (sym (take_at rows (row ∷ []) k (sym w.0))) (subst (λ (x : Row). MayFollow rows x) w.1 may)
    ]

module _ (rows : List Row) (formed : IsWellFormed rows) where
  -- the number of a call that the rows begin is below their count
  pub number_below : (op : OpId) (client : ℕ) (key : List ℕ) (action : Action) → Contains rows (Invoke op client key action) → op.0 < call_count rows
  number_below op client key action h =
      let i = place_of rows (Invoke op client key action) h in
      let number = (formed i.0 (Invoke op client key action) i.1).0 in
      omega (arith, number, count_below rows i.0 (Invoke op client key action) i.1 refl)

  -- numbers rise with the places
  pub numbers_rise : (i j : ℕ) (a b : OpId) (c d : ℕ) (k l : List ℕ) (x y : Action) → i < j → slice_get rows i ≡ Some (Invoke a c k x) → slice_get rows j ≡ Some (Invoke b d l y) → a.0 < b.0
  numbers_rise i j a b c d k l x y less at_i at_j =
      let first = (formed i (Invoke a c k x) at_i).0 in
      let second = (formed j (Invoke b d l y) at_j).0 in
      let below = count_below (take j rows) i (Invoke a c k x) (slice_get-take rows j i less ∙ at_i) refl in
      let front = ap call_count (take-take i j rows (omega arith)) in
      omega (arith, first, second, below, front)

  -- so a call is begun once
  pub begun_once : (i j : ℕ) (op : OpId) (c d : ℕ) (k l : List ℕ) (x y : Action) → slice_get rows i ≡ Some (Invoke op c k x) → slice_get rows j ≡ Some (Invoke op d l y) → i ≡ j
  begun_once i j op c d k l x y at_i at_j =
      elim (cases_lt i j) [
        | inl h ↦ absurd (omega (arith, numbers_rise i j op op c d k l x y h at_i at_j))
        | inr h ↦ elim (cases_lt j i) [
          | inl g ↦ absurd (omega (arith, numbers_rise j i op op d c l k y x g at_j at_i))
          | inr g ↦ omega arith
        ]
      ]

  pub same_client : (op : OpId) (c d : ℕ) (k l : List ℕ) (x y : Action) → Contains rows (Invoke op c k x) → Contains rows (Invoke op d l y) → c ≡ d
  same_client op c d k l x y p q =
      let i = place_of rows (Invoke op c k x) p in
      let j = place_of rows (Invoke op d l y) q in
      let same : i.0 ≡ j.0 = begun_once i.0 j.0 op c d k l x y i.1 j.1 in
      let rows_same : Invoke op c k x ≡ Invoke op d l y = cc (i.1, j.1, ap (slice_get rows) same) in
      cc

  -- a call has a note and a response only after its invocation
  pub begun_before : (place : ℕ) (op : OpId) (returned : Returned) → slice_get rows place ≡ Some (Respond op returned) → (i : ℕ) (c : ℕ) (k : List ℕ) (x : Action) → slice_get rows i ≡ Some (Invoke op c k x) → i < place
  begun_before place op returned at i c k x begun =
      let p = formed place (Respond op returned) at in
      let j = place_of-take rows place (Invoke op p.0 p.2.key p.1) p.2.invoked in
      let same : i ≡ j.0 = begun_once i j.0 op c p.0 k p.2.key x p.1 begun j.2 in
      omega (arith, same, j.1)

  pub no_note : (op : OpId) → op.0 ≡ call_count rows → HasNote rows op → ⊥
  no_note op fresh h =
      let i = place_of rows (Note op h.0) h.1 in
      let p = (formed i.0 (Note op h.0) i.1).0 in
      let below = number_below op p.0 p.2.key p.1 (Contains-front rows i.0 (Invoke op p.0 p.2.key p.1) p.2.invoked) in
      omega arith

  pub no_response : (op : OpId) → op.0 ≡ call_count rows → HasResponse rows op → ⊥
  no_response op fresh h =
      let i = place_of rows (Respond op h.0) h.1 in
      let p = formed i.0 (Respond op h.0) i.1 in
      let below = number_below op p.0 p.2.key p.1 (Contains-front rows i.0 (Invoke op p.0 p.2.key p.1) p.2.invoked) in
      omega arith

  -- a client has one pending call at most
  pub one_pending : (client : ℕ) (a b : OpId) (x y : Action) → IsPendingCall rows a client x → IsPendingCall rows b client y → a ≡ b
  one_pending client a b x y p q =
      let i = place_of rows (Invoke a client p.key x) p.invoked in
      let j = place_of rows (Invoke b client q.key y) q.invoked in
      elim (cases_lt i.0 j.0) [
        | inl h ↦ absurd (clash client a b x y p q i.0 j.0 i.1 j.1 h)
        | inr h ↦ elim (cases_lt j.0 i.0) [
          | inl g ↦ absurd (clash client b a y x q p j.0 i.0 j.1 i.1 g)
          | inr g ↦
              let same : i.0 ≡ j.0 = omega arith in
              let rows_same : Invoke a client p.key x ≡ Invoke b client q.key y = cc (i.1, j.1, ap (slice_get rows) same) in
              cc
        ]
      ]
    where
      clash : (client : ℕ) (a b : OpId) (x y : Action) → (p : IsPendingCall rows a client x) (q : IsPendingCall rows b client y) → (i j : ℕ) → slice_get rows i ≡ Some (Invoke a client p.key x) → slice_get rows j ≡ Some (Invoke b client q.key y) → i < j → ⊥
      clash client a b x y p q i j at_i at_j less =
          let free = (formed j (Invoke b client q.key y) at_j).1 in
          free (
            a,
            x,
            record {
              key = p.key;
              invoked = Contains-take rows j i (Invoke a client p.key x) less at_i;
              unanswered = λ h. p.unanswered (h.0, Contains-front rows j (Respond a h.0) h.1);
            },
          )
