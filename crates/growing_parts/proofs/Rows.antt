-- What rows say of a call by place: it begins at one, and what is said of it follows.
use Rattle.std.proofs.Common.{ℕ, zero, suc, ◌≡◌, ◌<◌, ◌≤◌, ◌↔◌, inl, inr, List, [], ◌∷◌, ◌++◌, Some, true, length, take}
use Rattle.std.proofs.Common.{sym, ◌∙◌, ap, subst, refl, arith}
use Rattle.std.specs.List.{slice_get, Contains}
use Rattle.std.proofs.lemmas.Bool.{cases_lt}
use Rattle.std.proofs.lemmas.List.{take-append-le, take_at, take-take}
use Rattle.std.proofs.lemmas.List.Elements.{Contains-push_cases}
use Rattle.std.proofs.lemmas.Option.{slice_get_within}
use Rattle.tag.specs.declared.actions.Action.{Action}
use Rattle.tag.specs.declared.actions.Returned.{Returned}
use Rattle.tag.specs.declared.numbers.OpId.{OpId}
use Rattle.tag.proofs.Lists.{place_of, Contains-slice_get, push_cases, slice_get-push_left, slice_get-take, in_front}
use Rattle.recorder.specs.declared.row.Row.{Row}
use Rattle.recorder.specs.declared.row.Row.TheVariants.{Invoke, Note, Respond}
use Rattle.recorder.specs.Histories.{is_invoke, call_count, HasNote, HasResponse, MayFollow, IsWellFormed}

-- ---- lists with one element more

pub slice_get-back : {X : Type 0} (xs : List X) (y : X) (k : ℕ) (z : X) → slice_get (xs ++ y ∷ []) k ≡ Some z → (y ≡ z → ⊥)
    → slice_get xs k ≡ Some z
slice_get-back xs y k z at other = elim (push_cases xs y k z at) [ inl w ↦ w | inr w ↦ absurd (other w.1) ]

pub Contains-back : {X : Type 0} (xs : List X) (y x : X) → Contains (xs ++ y ∷ []) x → (y ≡ x → ⊥) → Contains xs x
Contains-back xs y x h other = elim (Contains-push_cases xs y x h) [ inl w ↦ w | inr w ↦ absurd (other w) ]

-- ---- how many calls rows begin

count_below : (rows : List Row) (i : ℕ) (row : Row) → slice_get rows i ≡ Some row → is_invoke row ≡ true
    → call_count (take i rows) < call_count rows
count_below [] i row h b = absurd (cc)
count_below (r ∷ rows) zero row h b = let same : is_invoke r ≡ true = cc in rw same (omega arith)
count_below (r ∷ rows) (suc i) row h b = omega (arith, count_below rows i row h b)

-- rows with one more are well formed, if it may follow
pub formed_next : (rows : List Row) (row : Row) → IsWellFormed rows → MayFollow rows row → IsWellFormed (rows ++ row ∷ [])
formed_next rows row formed may k r at =
    elim (push_cases rows row k r at) [
      | inl w ↦
          let le : k ≤ length rows = omega (arith, slice_get_within rows k r w) in
          subst (λ (x : List Row). MayFollow x r) (sym (take-append-le k rows (row ∷ []) le)) (formed k r w)
      | inr w ↦ subst (λ (x : List Row). MayFollow x r) (sym (take_at rows (row ∷ []) k (sym w.0))) (subst (λ (x : Row). MayFollow rows
          x) w.1 may)
    ]

-- ---- numbers and places

module _ (rows : List Row) (formed : IsWellFormed rows) where
  pub number_below : (op : OpId) (client : ℕ) (key : List ℕ) (action : Action) → Contains rows (Invoke op client key action)
      → op.0 < call_count rows
  number_below op client key action h =
      let i = place_of rows (Invoke op client key action) h in
      let number = (formed i.0 (Invoke op client key action) i.1).0 in
      omega (arith, number, count_below rows i.0 (Invoke op client key action) i.1 refl)

  pub numbers_rise : (i j : ℕ) (a b : OpId) (c d : ℕ) (k l : List ℕ) (x y : Action) → i < j → slice_get rows i ≡ Some (Invoke a c k x)
      → slice_get rows j ≡ Some (Invoke b d l y) → a.0 < b.0
  numbers_rise i j a b c d k l x y less at_i at_j =
      let first = (formed i (Invoke a c k x) at_i).0 in
      let second = (formed j (Invoke b d l y) at_j).0 in
      let below = count_below (take j rows) i (Invoke a c k x) (slice_get-take rows j i less ∙ at_i) refl in
      let front = ap call_count (take-take i j rows (omega arith)) in
      omega (arith, first, second, below, front)

  -- a call begins at one place
  pub begun_once : (i j : ℕ) (op : OpId) (c d : ℕ) (k l : List ℕ) (x y : Action) → slice_get rows i ≡ Some (Invoke op c k x)
      → slice_get rows j ≡ Some (Invoke op d l y) → i ≡ j
  begun_once i j op c d k l x y at_i at_j =
      elim (cases_lt i j) [
        | inl h ↦ absurd (omega (arith, numbers_rise i j op op c d k l x y h at_i at_j))
        | inr h ↦ elim (cases_lt j i) [
          | inl g ↦ absurd (omega (arith, numbers_rise j i op op d c l k y x g at_j at_i))
          | inr g ↦ omega arith
        ]
      ]

  -- so by one row
  pub begun_alike : (i j : ℕ) (op : OpId) (c d : ℕ) (k l : List ℕ) (x y : Action) → slice_get rows i ≡ Some (Invoke op c k x)
      → slice_get rows j ≡ Some (Invoke op d l y) → ◌≡◌ {A = Row} (Invoke op c k x) (Invoke op d l y)
  begun_alike i j op c d k l x y at_i at_j =
      let same : i ≡ j = begun_once i j op c d k l x y at_i at_j in
      cc (at_i, at_j, ap (slice_get rows) same)

  front_of : (n : ℕ) (row : Row) → Contains (take n rows) row → (k : ℕ) × (k < n) × (slice_get rows k ≡ Some row)
  front_of n row h =
      let k = place_of (take n rows) row h in
      let f = in_front rows n k.0 row k.1 in
      (k.0, f.0, f.1)

  -- its response comes after it
  pub begun_before : (place : ℕ) (op : OpId) (returned : Returned) → slice_get rows place ≡ Some (Respond op returned) → (i c : ℕ) (k :
      List ℕ) (x : Action) → slice_get rows i ≡ Some (Invoke op c k x) → i < place
  begun_before place op returned at i c k x begun =
      let p = formed place (Respond op returned) at in
      let j = front_of place (Invoke op p.0 p.2.key p.1) p.2.invoked in
      let same : i ≡ j.0 = begun_once i j.0 op c p.0 k p.2.key x p.1 begun j.2 in
      omega (arith, same, j.1)

  -- a call that isn't begun has no note and no response
  pub no_note : (op : OpId) → op.0 ≡ call_count rows → HasNote rows op → ⊥
  no_note op fresh h =
      let i = place_of rows (Note op h.0) h.1 in
      let p = (formed i.0 (Note op h.0) i.1).0 in
      let j = front_of i.0 (Invoke op p.0 p.2.key p.1) p.2.invoked in
      let below = number_below op p.0 p.2.key p.1 (Contains-slice_get rows j.0 (Invoke op p.0 p.2.key p.1) j.2) in
      omega arith

  pub no_response : (op : OpId) → op.0 ≡ call_count rows → HasResponse rows op → ⊥
  no_response op fresh h =
      let i = place_of rows (Respond op h.0) h.1 in
      let p = formed i.0 (Respond op h.0) i.1 in
      let j = front_of i.0 (Invoke op p.0 p.2.key p.1) p.2.invoked in
      let below = number_below op p.0 p.2.key p.1 (Contains-slice_get rows j.0 (Invoke op p.0 p.2.key p.1) j.2) in
      omega arith

-- ---- rows that agree up to one

-- up to the row both begin and answer the same calls
pub record AgreeBy (row : ℕ) (one other : List Row) : Type 0 where
  pub begun : (place : ℕ) (op : OpId) (client : ℕ) (key : List ℕ) (action : Action) → place ≤ row
      → (slice_get one place ≡ Some (Invoke op client key action)) ↔ (slice_get other place ≡ Some (Invoke op client key action))
  pub answered : (place : ℕ) (op : OpId) (returned : Returned) → place ≤ row
      → (slice_get one place ≡ Some (Respond op returned)) ↔ (slice_get other place ≡ Some (Respond op returned))

pub agree_same : (row : ℕ) (rows : List Row) → AgreeBy row rows rows
agree_same row rows = record {
  begun = λ place op client key action le. (λ at. at, λ at. at);
  answered = λ place op returned le. (λ at. at, λ at. at);
}

-- what stands before the last place
early_back : (rows : List Row) (next : Row) (place : ℕ) (row : Row) → place < length rows → slice_get (rows ++ next ∷ []) place ≡ Some row
    → slice_get rows place ≡ Some row
early_back rows next place row early at = elim (push_cases rows next place row at) [ inl w ↦ w | inr w ↦ absurd (omega (arith, w.0)) ]

pub agree_before : (row : ℕ) (rows : List Row) (next : Row) → row < length rows → AgreeBy row rows (rows ++ next ∷ [])
agree_before row rows next less = record {
  begun = λ place op client key action le. (
    λ at. slice_get-push_left rows next place (Invoke op client key action) at,
    λ at. early_back rows next place (Invoke op client key action) (omega arith) at,
  );
  answered = λ place op returned le. (
    λ at. slice_get-push_left rows next place (Respond op returned) at,
    λ at. early_back rows next place (Respond op returned) (omega arith) at,
  );
}

-- with a row that begins none and answers none
pub agree_always : (row : ℕ) (rows : List Row) (next : Row) → ((op : OpId) (client : ℕ) (key : List ℕ) (action : Action)
    → next ≡ Invoke op client key action → ⊥) → ((op : OpId) (returned : Returned) → next ≡ Respond op returned → ⊥)
    → AgreeBy row rows (rows ++ next ∷ [])
agree_always row rows next begins answers = record {
  begun = λ place op client key action le. (
    λ at. slice_get-push_left rows next place (Invoke op client key action) at,
    λ at. slice_get-back rows next place (Invoke op client key action) at (begins op client key action),
  );
  answered = λ place op returned le. (
    λ at. slice_get-push_left rows next place (Respond op returned) at,
    λ at. slice_get-back rows next place (Respond op returned) at (answers op returned),
  );
}
