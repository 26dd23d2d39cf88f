-- What rows say of their calls by place.
use Rattle.std.proofs.Common.{ℕ, zero, suc, ◌≡◌, ◌<◌, ◌≤◌, ◌+◌, inl, inr, List, [], ◌∷◌, ◌++◌, Some, true, cond, length, length-append, take}
use Rattle.std.proofs.Common.{sym, ◌∙◌, ap, subst, refl, arith}
use Rattle.std.specs.List.{slice_get, Contains}
use Rattle.std.proofs.lemmas.Bool.{cases_lt}
use Rattle.std.proofs.lemmas.List.{take-append-le, take_at, take-take}
use Rattle.std.proofs.lemmas.Option.{slice_get_within}
use Rattle.tag.specs.declared.actions.Action.{Action}
use Rattle.tag.specs.declared.numbers.OpId.{OpId}
use Rattle.tag.proofs.Lists.{place_of, Contains-slice_get, push_cases, slice_get-take, in_front}
use Rattle.recorder.specs.declared.row.Row.{Row}
use Rattle.recorder.specs.declared.row.Row.TheVariants.{Invoke, Note, Respond}
use Rattle.recorder.specs.Histories.{is_invoke, call_count, MayFollow, IsWellFormed}
use Rattle.split_rows.specs.Pieces.{op_of, IsCallOn}

-- how many calls rows begin, with one row more, and before a row that begins one
pub count_push : (rows : List Row) (row : Row) → call_count (rows ++ row ∷ []) ≡ call_count rows + cond (is_invoke row) 1 0
count_push [] row = omega arith
count_push (r ∷ rows) row = omega (arith, count_push rows row)

pub one_longer : {X : Type 0} (xs : List X) (x : X) → length (xs ++ x ∷ []) ≡ length xs + 1
one_longer xs x = length-append xs (x ∷ [])

count_below : (rows : List Row) (i : ℕ) (row : Row) → slice_get rows i ≡ Some row → is_invoke row ≡ true
    → call_count (take i rows) < call_count rows
count_below [] i row h b = absurd (cc)
count_below (r ∷ rows) zero row h b = let same : is_invoke r ≡ true = cc in rw same (omega arith)
count_below (r ∷ rows) (suc i) row h b = omega (arith, count_below rows i row h b)

pub count_rises : (rows : List Row) (i j : ℕ) (row : Row) → slice_get rows i ≡ Some row → is_invoke row ≡ true → i < j
    → call_count (take i rows) < call_count (take j rows)
count_rises rows i j row at b less =
    let below = count_below (take j rows) i row (slice_get-take rows j i less ∙ at) b in
    let front = ap call_count (take-take i j rows (omega arith)) in
    omega (arith, below, front)

-- rows with one more are well formed, if it may follow
pub formed_next : (rows : List Row) (row : Row) → IsWellFormed rows → MayFollow rows row → IsWellFormed (rows ++ row ∷ [])
formed_next rows row formed may k r at =
    elim (push_cases rows row k r at) [
      | inl w ↦
          let le : k ≤ length rows = omega (arith, slice_get_within rows k r w) in
          subst (λ (x : List Row). MayFollow x r) (sym (take-append-le k rows (row ∷ []) le)) (formed k r w)
      | inr w ↦ subst (λ (x : List Row). MayFollow x r) (sym (take_at rows (row ∷ []) k (sym w.0))) (subst (λ (x : Row). MayFollow rows
          x) w.1 may)
    ]

-- what stands in a front stands in the rows, below its end; and back
pub front_of : (rows : List Row) (n : ℕ) (row : Row) → Contains (take n rows) row → (k : ℕ) × (k < n) × (slice_get rows k ≡ Some row)
front_of rows n row h =
    let k = place_of (take n rows) row h in
    let f = in_front rows n k.0 row k.1 in
    (k.0, f.0, f.1)

pub to_front : (rows : List Row) (n k : ℕ) (row : Row) → k < n → slice_get rows k ≡ Some row → Contains (take n rows) row
to_front rows n k row less at = Contains-slice_get (take n rows) k row (slice_get-take rows n k less ∙ at)

-- where a call began
pub record BeganAt (rows : List Row) (op : OpId) (i : ℕ) : Type 0 where
  pub client : ℕ
  pub key : List ℕ
  pub action : Action
  pub stands : slice_get rows i ≡ Some (Invoke op client key action)

module _ (rows : List Row) (formed : IsWellFormed rows) where
  -- the call of a row began there, or before it
  pub began : (place : ℕ) (row : Row) → slice_get rows place ≡ Some row → (i : ℕ) × (i ≤ place) × BeganAt rows (op_of row) i
  began place (Invoke op client key action) at =
      (place, omega arith, record { client = client; key = key; action = action; stands = at })
  began place (Note op tag) at =
      let p = (formed place (Note op tag) at).0 in
      let j = front_of rows place (Invoke op p.0 p.2.key p.1) p.2.invoked in
      (j.0, omega (arith, j.1), record { client = p.0; key = p.2.key; action = p.1; stands = j.2 })
  began place (Respond op returned) at =
      let p = formed place (Respond op returned) at in
      let j = front_of rows place (Invoke op p.0 p.2.key p.1) p.2.invoked in
      (j.0, omega (arith, j.1), record { client = p.0; key = p.2.key; action = p.1; stands = j.2 })

  began_below : (i : ℕ) (op : OpId) → BeganAt rows op i → op.0 < call_count rows
  began_below i op b =
      let number = (formed i (Invoke op b.client b.key b.action) b.stands).0 in
      omega (arith, number, count_below rows i (Invoke op b.client b.key b.action) b.stands refl)

  -- so the number of a row's call is below their count
  pub number_below : (place : ℕ) (row : Row) → slice_get rows place ≡ Some row → (op_of row).0 < call_count rows
  number_below place row at = let b = began place row at in began_below b.0 (op_of row) b.2

  -- numbers rise with places
  numbers_rise : (i j : ℕ) (a b : OpId) → BeganAt rows a i → BeganAt rows b j → i < j → a.0 < b.0
  numbers_rise i j a b x y less =
      let first = (formed i (Invoke a x.client x.key x.action) x.stands).0 in
      let second = (formed j (Invoke b y.client y.key y.action) y.stands).0 in
      omega (arith, first, second, count_rises rows i j (Invoke a x.client x.key x.action) x.stands refl less)

  -- so the lower number is that of the earlier place
  pub earlier : (i j : ℕ) (a b : OpId) → BeganAt rows a i → BeganAt rows b j → a.0 < b.0 → i < j
  earlier i j a b x y less =
      elim (cases_lt i j) [
        | inl h ↦ h
        | inr h ↦ elim (cases_lt j i) [
          | inl g ↦ absurd (omega (arith, less, numbers_rise j i b a y x g))
          | inr g ↦
              let same : i ≡ j = omega arith in
              let rows_same : ◌≡◌ {A = Row} (Invoke a x.client x.key x.action) (Invoke b y.client y.key y.action) = cc (
                x.stands,
                y.stands,
                ap (slice_get rows) same,
              ) in
              let ops : a ≡ b = cc in
              absurd (omega (arith, less, ap (λ (o : OpId). o.0) ops))
        ]
      ]

  -- a call begins once
  pub began_once : (i j : ℕ) (op : OpId) → BeganAt rows op i → BeganAt rows op j → i ≡ j
  began_once i j op x y =
      elim (cases_lt i j) [
        | inl h ↦ absurd (omega (arith, numbers_rise i j op op x y h))
        | inr h ↦ elim (cases_lt j i) [ inl g ↦ absurd (omega (arith, numbers_rise j i op op y x g)) | inr g ↦ omega arith ]
      ]

  -- so on one key
  pub one_key : (i j : ℕ) (op : OpId) (x : BeganAt rows op i) (y : BeganAt rows op j) → x.key ≡ y.key
  one_key i j op x y =
      let same : i ≡ j = began_once i j op x y in
      let rows_same : ◌≡◌ {A = Row} (Invoke op x.client x.key x.action) (Invoke op y.client y.key y.action) = cc (
        x.stands,
        y.stands,
        ap (slice_get rows) same,
      ) in
      cc

  pub began_on : (key : List ℕ) (op : OpId) → IsCallOn rows key op → (i : ℕ) × (x : BeganAt rows op i) × (x.key ≡ key)
  began_on key op on =
      let i = place_of rows (Invoke op on.0 key on.1) on.2 in
      (i.0, record { client = on.0; key = key; action = on.1; stands = i.1 }, refl)
