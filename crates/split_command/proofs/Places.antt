-- With one row more, the rows of the pieces come from where they came from, and the new one from the end.
use Rattle.std.proofs.Common.{ℕ, zero, suc, ◌≡◌, ◌<◌, inl, inr, List, [], ◌∷◌, ◌++◌, Some, length}
use Rattle.std.proofs.Common.{sym, ◌∙◌, ap, subst, arith}
use Rattle.std.specs.List.{slice_get, Contains}
use Rattle.std.proofs.lemmas.Bool.{cases_lt}
use Rattle.std.proofs.lemmas.List.Elements.{Contains-append_left, Contains-push_cases}
use Rattle.std.proofs.lemmas.Option.{same_Some, slice_get_within}
use Rattle.tag.specs.declared.actions.Action.{Action}
use Rattle.tag.specs.declared.numbers.OpId.{OpId}
use Rattle.tag.proofs.Below.{below_or_last}
use Rattle.tag.proofs.Lists.{get_at, place_of, push_cases, slice_get-push_left}
use Rattle.recorder.specs.declared.row.Row.{Row}
use Rattle.recorder.specs.declared.row.Row.TheVariants.{Invoke}
use Rattle.recorder.specs.Histories.{call_count, IsWellFormed, MayFollow}
use Rattle.recorder.specs.Records.{BeginsAt}
use Rattle.split_rows.specs.Pieces.{op_of, with_op, ArePieces, IsCallOf, IsKeyOf, IsPiece}
use Rattle.split_command.proofs.Rows.{formed_next, number_below}

-- the law of a key and its piece
abbrev pub OnePieceOfKey : Type 0
OnePieceOfKey = (parts : ℕ) (rows : List Row) (keys : List (List ℕ)) (number : OpId → OpId) (pieces : ℕ → List Row) (key : List ℕ)
    (place : ℕ) → 0 < parts → IsWellFormed rows → ArePieces parts rows keys number pieces → BeginsAt rows key place
    → (p : ℕ) × (p < parts) × IsKeyOf parts keys p key × ((q at : ℕ) → BeginsAt (pieces q) key at → q ≡ p)

-- a call on a key of the piece begins there
begins_there : (rows : List Row) (mine : List ℕ → Type 0) (number : OpId → OpId) (piece : List Row) (is : IsPiece rows mine number piece)
    (op : OpId) (client : ℕ) (key : List ℕ) (action : Action) → mine key → Contains rows (Invoke op client key action)
    → (k : ℕ) × BeginsAt piece key k
begins_there rows mine number piece is op client key action m there =
    let begins : Row = Invoke op client key action in
    let i = place_of rows begins there in
    let a = is.all i.0 begins i.1 (key, m, (client, action, there)) in
    let g = get_at piece a.0 a.1 in
    let f = is.each a.0 g.0 g.1 in
    let same : f.source ≡ begins = same_Some f.source begins (sym f.stands ∙ (ap (slice_get rows) a.2 ∙ i.1)) in
    (a.0, (number op, client, action, g.1 ∙ ap Some (f.is ∙ ap (λ (r : Row). with_op r (number (op_of r))) same)))

module _ (law : OnePieceOfKey) (parts : ℕ) (some : 0 < parts) (rows : List Row) (row : Row) (formed : IsWellFormed rows)
    (may : MayFollow rows row) (keys later : List (List ℕ)) (number other : OpId → OpId) (pieces after : ℕ → List Row)
    (x : ArePieces parts rows keys number pieces) (y : ArePieces parts (rows ++ row ∷ []) later other after)
    (grows : (q k : ℕ) (r : Row) → slice_get (pieces q) k ≡ Some r → slice_get (after q) k ≡ Some r) where
  -- ---- keys

  begins_after : (q : ℕ) (key : List ℕ) (k : ℕ) → BeginsAt (pieces q) key k → BeginsAt (after q) key k
  begins_after q key k b = (b.0, b.1, b.2, grows q k (Invoke b.0 b.1 key b.2) b.3)

  -- the piece of a key on which a call is begun, before and after
  piece_of : (op : OpId) (client : ℕ) (key : List ℕ) (action : Action) → Contains rows (Invoke op client key action)
      → (p : ℕ) × IsKeyOf parts keys p key × IsKeyOf parts later p key
      × ((q : ℕ) → IsKeyOf parts keys q key → q ≡ p) × ((q : ℕ) → IsKeyOf parts later q key → q ≡ p)
  piece_of op client key action there =
      let begins : Row = Invoke op client key action in
      let i = place_of rows begins there in
      let now = Contains-append_left rows (row ∷ []) begins there in
      let old = law parts rows keys number pieces key i.0 some formed x (op, client, action, i.1) in
      let new = law parts (rows ++ row ∷ []) later other after key i.0 some (formed_next rows row formed may) y
      (op, client, action, slice_get-push_left rows row i.0 begins i.1) in
      let only : (q : ℕ) → IsKeyOf parts keys q key → q ≡ new.0 = λ q m.
      let b = begins_there rows (IsKeyOf parts keys q) number (pieces q) (x.each q) op client key action m there in
      new.3 q b.0 (begins_after q key b.0 b.1) in
      let only_after : (q : ℕ) → IsKeyOf parts later q key → q ≡ new.0 = λ q m.
      let b = begins_there (rows ++ row ∷ []) (IsKeyOf parts later q) other (after q) (y.each q) op client key action m now in
      new.3 q b.0 b.1 in
      (new.0, subst (λ (q : ℕ). IsKeyOf parts keys q key) (only old.0 old.2) old.2, new.2, only, only_after)

  -- ---- calls

  call_after : (q : ℕ) (op : OpId) → IsCallOf rows (IsKeyOf parts keys q) op → IsCallOf (rows ++ row ∷ []) (IsKeyOf parts later q) op
  call_after q op of =
      let p = piece_of op of.2.0 of.0 of.2.1 of.2.2 in (
        of.0,
        subst (λ (r : ℕ). IsKeyOf parts later r of.0) (sym (p.3 q of.1)) p.2,
        (of.2.0, of.2.1, Contains-append_left rows (row ∷ []) (Invoke op of.2.0 of.0 of.2.1) of.2.2),
      )

  -- the row itself begins no call that a row before it is of
  not_new : (op : OpId) (client : ℕ) (key : List ℕ) (action : Action) → row ≡ Invoke op client key action → op.0 < call_count rows → ⊥
  not_new op client key action is below =
      let turn = (subst (MayFollow rows) is may).0 in
      absurd (omega (arith, turn, below))

  call_before : (q at : ℕ) (r : Row) → slice_get rows at ≡ Some r → IsCallOf (rows ++ row ∷ []) (IsKeyOf parts later q) (op_of r)
      → IsCallOf rows (IsKeyOf parts keys q) (op_of r)
  call_before q at r stands of =
      elim (Contains-push_cases rows row (Invoke (op_of r) of.2.0 of.0 of.2.1) of.2.2) [
        | inl w ↦
            let p = piece_of (op_of r) of.2.0 of.0 of.2.1 w in
            (of.0, subst (λ (s : ℕ). IsKeyOf parts keys s of.0) (sym (p.4 q of.1)) p.1, (of.2.0, of.2.1, w))
        | inr w ↦ absurd (not_new (op_of r) of.2.0 of.0 of.2.1 w (number_below rows formed at r stands))
      ]

  -- ---- places

  module _ (q : ℕ) where
    abbrev was : ℕ → ℕ
    was = (x.each q).place

    abbrev is : ℕ → ℕ
    is = (y.each q).place

    longer : (k : ℕ) → k < length (pieces q) → k < length (after q)
    longer k within =
        let r = get_at (pieces q) k within in
        slice_get_within (after q) k r.0 (grows q k r.0 r.1)

    -- a row of the piece that comes from before the end was in it
    from_before : (k : ℕ) → k < length (after q) → is k < length rows → (t : ℕ) × (t < length (pieces q)) × (was t ≡ is k)
    from_before k within early =
        let r = get_at (after q) k within in
        let f = (y.each q).each k r.0 r.1 in
        elim (push_cases rows row (is k) f.source f.stands) [
          | inl w ↦ (x.each q).all (is k) f.source w (call_before q (is k) f.source w f.of)
          | inr w ↦ absurd (omega (arith, early, w.0))
        ]

    lower : (j k : ℕ) → j < length (pieces q) → was j < was k → j < k
    lower j k within less = elim (cases_lt j k) [
      | inl h ↦ h
      | inr h ↦ elim (cases_lt k j) [
        | inl g ↦ absurd (omega (arith, less, (x.each q).rises k j g within))
        | inr g ↦
            let same : j ≡ k = omega (arith, h, g) in
            let place : was j ≡ was k = ap was same in
            absurd (omega (arith, less, place))
      ]
    ]

    next : (k : ℕ) → k < length (pieces q) → ((j : ℕ) → j < k → is j ≡ was j) → is k ≡ was k
    next k within before =
        let r = get_at (pieces q) k within in
        let f = (x.each q).each k r.0 r.1 in
        let below = slice_get_within rows (was k) f.source f.stands in
        let s = (y.each q).all (was k) f.source (slice_get-push_left rows row (was k) f.source f.stands)
        (call_after q (op_of f.source) f.of) in
        elim (cases_lt s.0 k) [
          | inl h ↦ absurd (omega (arith, (x.each q).rises s.0 k h within, before s.0 h, s.2))
          | inr h ↦ elim (cases_lt k s.0) [
            | inl g ↦
                let up = (y.each q).rises k s.0 g s.1 in
                let t = from_before k (longer k within) (omega (arith, up, s.2, below)) in
                let first = lower t.0 k t.1 (omega (arith, t.2, up, s.2)) in
                absurd (omega (arith, (y.each q).rises t.0 k first (longer k within), before t.0 first, t.2))
            | inr g ↦
                let same : k ≡ s.0 = omega (arith, h, g) in
                ap is same ∙ s.2
          ]
        ]

    first_places : (n j : ℕ) → j < n → j < length (pieces q) → is j ≡ was j
    first_places zero j less within = absurd (omega (arith, less))
    first_places (suc n) j less within = elim (below_or_last j n less) [
      | inl w ↦ first_places n j w within
      | inr w ↦ next j within (λ i early. first_places n i (omega (arith, early, w)) (omega (arith, early, within)))
    ]

    -- the rows before stay where they come from
    pub same_place : (k : ℕ) → k < length (pieces q) → (y.each q).place k ≡ (x.each q).place k
    same_place k within = first_places (suc k) k (omega arith) within

    -- a row more comes from the end
    pub last_place : length (pieces q) < length (after q) → (y.each q).place (length (pieces q)) ≡ length rows
    last_place within =
        let n = length (pieces q) in
        let r = get_at (after q) n within in
        let f = (y.each q).each n r.0 r.1 in
        elim (push_cases rows row (is n) f.source f.stands) [
          | inl w ↦
              let t = (x.each q).all (is n) f.source w (call_before q (is n) f.source w f.of) in
              absurd (omega (arith, (y.each q).rises t.0 n t.1 within, same_place t.0 t.1, t.2))
          | inr w ↦ w.0
        ]
