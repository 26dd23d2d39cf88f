-- The rows of a piece, and where they stand in the history.
use Rattle.std.proofs.Common.{ℕ, ◌≡◌, ◌<◌, ◌↔◌, inl, inr, List, Some, length, sym, ◌∙◌, ap, subst, refl, arith}
use Rattle.std.specs.List.{slice_get}
use Rattle.std.proofs.lemmas.Bool.{cases_lt}
use Rattle.std.proofs.lemmas.Option.{same_Some}
use Rattle.tag.specs.declared.actions.Action.{Action}
use Rattle.tag.specs.declared.actions.Returned.{Returned}
use Rattle.tag.specs.declared.numbers.OpId.{OpId}
use Rattle.tag.specs.Tags.{Tag}
use Rattle.tag.proofs.Lists.{get_at, Contains-slice_get}
use Rattle.tag.proofs.SameTags.{same_op}
use Rattle.recorder.specs.declared.row.Row.{Row}
use Rattle.recorder.specs.declared.row.Row.TheVariants.{Invoke, Note, Respond}
use Rattle.recorder.specs.Histories.{IsWellFormed}
use Rattle.split_rows.specs.Pieces.{op_of, with_op, IsCallOn, IsCallOf, IsPiece}
use Rattle.split_rows.proofs.Rows.{BeganAt, began_on, count_rises, earlier, one_key}

-- ---- of which row a renumbered one comes

module _ (number : OpId → OpId) where
  invoke_from : (source : Row) (new : OpId) (client : ℕ) (key : List ℕ) (action : Action)
      → Invoke new client key action ≡ with_op source (number (op_of source))
      → (op : OpId) × (source ≡ Invoke op client key action) × (new ≡ number op)
  invoke_from (Invoke o d l b) new client key action e =
      let client_is : client ≡ d = cc in
      let key_is : key ≡ l = cc in
      let action_is : action ≡ b = cc in
      (o, cc, cc)
  invoke_from (Note o t) new client key action e = absurd cc
  invoke_from (Respond o r) new client key action e = absurd cc

  note_from : (source : Row) (new : OpId) (tag : Tag) → Note new tag ≡ with_op source (number (op_of source))
      → (op : OpId) × (source ≡ Note op tag) × (new ≡ number op)
  note_from (Invoke o d l b) new tag e = absurd cc
  note_from (Note o t) new tag e = let tag_is : tag ≡ t = cc in (o, cc, cc)
  note_from (Respond o r) new tag e = absurd cc

  respond_from : (source : Row) (new : OpId) (returned : Returned) → Respond new returned ≡ with_op source (number (op_of source))
      → (op : OpId) × (source ≡ Respond op returned) × (new ≡ number op)
  respond_from (Invoke o d l b) new returned e = absurd cc
  respond_from (Note o t) new returned e = absurd cc
  respond_from (Respond o r) new returned e = let returned_is : returned ≡ r = cc in (o, cc, cc)

module _ (rows : List Row) (formed : IsWellFormed rows) (mine : List ℕ → Type 0) (number : OpId → OpId) (piece : List Row)
    (is : IsPiece rows mine number piece) where
  -- ---- places

  -- the lower of two places is that of the earlier row
  pub lower : (j k : ℕ) → j < length piece → is.place j < is.place k → j < k
  lower j k within less =
      elim (cases_lt j k) [
        | inl h ↦ h
        | inr h ↦ elim (cases_lt k j) [
          | inl g ↦ absurd (omega (arith, less, is.rises k j g within))
          | inr g ↦
              let same : j ≡ k = omega arith in
              let place : is.place j ≡ is.place k = ap is.place same in
              absurd (omega (arith, less, place))
        ]
      ]

  -- one place is that of one row
  pub same_row : (j k : ℕ) → j < length piece → k < length piece → is.place j ≡ is.place k → j ≡ k
  same_row j k in_j in_k same =
      elim (cases_lt j k) [
        | inl h ↦ absurd (omega (arith, same, is.rises j k h in_k))
        | inr h ↦ elim (cases_lt k j) [ inl g ↦ absurd (omega (arith, same, is.rises k j g in_j)) | inr g ↦ omega arith ]
      ]

  -- ---- rows

  -- a call of the piece is on one of its keys
  pub on_key : (op : OpId) (key : List ℕ) → IsCallOf rows mine op → IsCallOn rows key op → mine key
  on_key op key of on =
      let x = began_on rows formed of.0 op of.2 in
      let y = began_on rows formed key op on in
      let same : of.0 ≡ key = sym x.2 ∙ (one_key rows formed x.0 y.0 op x.1 y.1 ∙ y.2) in
      subst mine same of.1

  -- the row stands there in the piece, with its call's number
  pub record StandsIn (at : ℕ) (row : Row) : Type 0 where
    pub k : ℕ
    pub within : k < length piece
    pub place : is.place k ≡ at
    pub stands : slice_get piece k ≡ Some (with_op row (number (op_of row)))

  -- so each row of the piece's calls does
  pub row_in : (at : ℕ) (row : Row) → slice_get rows at ≡ Some row → IsCallOf rows mine (op_of row) → StandsIn at row
  row_in at row stands of =
      let a = is.all at row stands of in
      let x = get_at piece a.0 a.1 in
      let f = is.each a.0 x.0 x.1 in
      let same : f.source ≡ row = same_Some f.source row (sym f.stands ∙ (ap (slice_get rows) a.2 ∙ stands)) in
      record {
        k = a.0;
        within = a.1;
        place = a.2;
        stands = x.1 ∙ ap Some (f.is ∙ ap (λ (r : Row). with_op r (number (op_of r))) same);
      }

  -- and each row of the piece comes from one
  pub record ComesFrom (k : ℕ) (source : OpId → Row) (new : OpId) : Type 0 where
    pub op : OpId
    pub stands : slice_get rows (is.place k) ≡ Some (source op)
    pub of : IsCallOf rows mine op
    pub new_is : new ≡ number op

  pub invoke_out : (k : ℕ) (new : OpId) (client : ℕ) (key : List ℕ) (action : Action) → slice_get piece k ≡ Some (Invoke new client key action)
      → ComesFrom k (λ op. Invoke op client key action) new
  invoke_out k new client key action at =
      let f = is.each k (Invoke new client key action) at in
      let g = invoke_from number f.source new client key action f.is in
      record {
        op = g.0;
        stands = f.stands ∙ ap Some g.1;
        of = subst (λ (r : Row). IsCallOf rows mine (op_of r)) g.1 f.of;
        new_is = g.2;
      }

  pub note_out : (k : ℕ) (new : OpId) (tag : Tag) → slice_get piece k ≡ Some (Note new tag) → ComesFrom k (λ op. Note op tag) new
  note_out k new tag at =
      let f = is.each k (Note new tag) at in
      let g = note_from number f.source new tag f.is in
      record {
        op = g.0;
        stands = f.stands ∙ ap Some g.1;
        of = subst (λ (r : Row). IsCallOf rows mine (op_of r)) g.1 f.of;
        new_is = g.2;
      }

  pub respond_out : (k : ℕ) (new : OpId) (returned : Returned) → slice_get piece k ≡ Some (Respond new returned)
      → ComesFrom k (λ op. Respond op returned) new
  respond_out k new returned at =
      let f = is.each k (Respond new returned) at in
      let g = respond_from number f.source new returned f.is in
      record {
        op = g.0;
        stands = f.stands ∙ ap Some g.1;
        of = subst (λ (r : Row). IsCallOf rows mine (op_of r)) g.1 f.of;
        new_is = g.2;
      }

  -- the row that begins a call is on one of the piece's keys
  pub begun_key : (k : ℕ) (new : OpId) (client : ℕ) (key : List ℕ) (action : Action) → slice_get piece k ≡ Some (Invoke new client key action)
      → mine key
  begun_key k new client key action at =
      let f = invoke_out k new client key action at in
      on_key f.op key f.of (client, action, Contains-slice_get rows (is.place k) (Invoke f.op client key action) f.stands)

  -- ---- numbers

  -- where a call of the piece begins, in the history and in the piece
  begins_in : (op : OpId) → IsCallOf rows mine op → (i : ℕ) × (x : BeganAt rows op i) × StandsIn i (Invoke op x.client x.key x.action)
  begins_in op of =
      let x = began_on rows formed of.0 op of.2 in
      (x.0, x.1, row_in x.0 (Invoke op x.1.client x.1.key x.1.action) x.1.stands of)

  -- numbers rise as they do in the history
  pub numbers_rise : (a b : OpId) → IsCallOf rows mine a → IsCallOf rows mine b → a.0 < b.0 → (number a).0 < (number b).0
  numbers_rise a b of_a of_b less =
      let x = begins_in a of_a in
      let y = begins_in b of_b in
      let before = earlier rows formed x.0 y.0 a b x.1 y.1 less in
      let placed : is.place x.2.k < is.place y.2.k = omega (arith, before, x.2.place, y.2.place) in
      let up = lower x.2.k y.2.k x.2.within placed in
      let first = is.anew x.2.k (number a) x.1.client x.1.key x.1.action x.2.stands in
      let second = is.anew y.2.k (number b) y.1.client y.1.key y.1.action y.2.stands in
      omega (arith, first, second, count_rises piece x.2.k y.2.k (Invoke (number a) x.1.client x.1.key x.1.action) x.2.stands refl up)

  -- so they tell the calls apart
  pub one_number : (a b : OpId) → IsCallOf rows mine a → IsCallOf rows mine b → number a ≡ number b → a ≡ b
  one_number a b of_a of_b same =
      let numbers : (number a).0 ≡ (number b).0 = ap (λ (o : OpId). o.0) same in
      elim (cases_lt a.0 b.0) [
        | inl h ↦ absurd (omega (arith, numbers, numbers_rise a b of_a of_b h))
        | inr h ↦ elim (cases_lt b.0 a.0) [
          | inl g ↦ absurd (omega (arith, numbers, numbers_rise b a of_b of_a g))
          | inr g ↦ same_op a b (omega (arith, h, g))
        ]
      ]

  pub same_order : (a b : OpId) → IsCallOf rows mine a → IsCallOf rows mine b → (a.0 < b.0) ↔ ((number a).0 < (number b).0)
  same_order a b of_a of_b = (
    numbers_rise a b of_a of_b,
    λ less. elim (cases_lt a.0 b.0) [
      | inl h ↦ h
      | inr h ↦ elim (cases_lt b.0 a.0) [
        | inl g ↦ absurd (omega (arith, less, numbers_rise b a of_b of_a g))
        | inr g ↦
            let same : a ≡ b = same_op a b (omega (arith, h, g)) in
            let numbers : (number a).0 ≡ (number b).0 = ap (λ (o : OpId). (number o).0) same in
            absurd (omega (arith, less, numbers))
      ]
    ],
  )
