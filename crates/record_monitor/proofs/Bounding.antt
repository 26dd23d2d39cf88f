-- Rows are at most three times their calls: a call has one note and one answer at most.
use Rattle.std.proofs.Common.{ℕ, zero, suc, ◌≡◌, ◌≢◌, ◌<◌, ◌≤◌, ◌+◌, ◌^◌, ◌⊎◌, inl, inr, List, [], ◌∷◌, Some, Bool, true, false, ◌||◌}
use Rattle.std.proofs.Common.{eqb, length, take, ap, sym, ◌∙◌, refl, arith}
use Rattle.std.specs.List.{slice_get, AllByRecursion, IsDistinct, list_any}
use Rattle.std.proofs.lemmas.Bool.{ne_eqb}
use Rattle.std.proofs.lemmas.Bool.Decides.{eqb_tells}
use Rattle.std.proofs.lemmas.Map.Steps.{length-le_from_distinct_below}
use Rattle.tag.specs.declared.actions.Returned.{Returned}
use Rattle.tag.specs.declared.numbers.OpId.{OpId}
use Rattle.tag.specs.Tags.{Tag}
use Rattle.tag.proofs.Lists.{place_of, Contains-slice_get, slice_get-take, in_front}
use Rattle.tag.proofs.SameTags.{same_op}
use Rattle.recorder.specs.declared.row.Row.{Row}
use Rattle.recorder.specs.declared.row.Row.TheVariants.{Invoke, Note, Respond}
use Rattle.recorder.specs.Histories.{call_count, IsPendingOp, IsWellFormed}
use Rattle.growing_parts.proofs.Rows.{number_below}

-- the numbers of the calls that the rows note, and of those that they answer
abbrev noted : List Row → List ℕ
noted [] = []
noted (Invoke op client key action ∷ rows) = noted rows
noted (Note op tag ∷ rows) = op.0 ∷ noted rows
noted (Respond op returned ∷ rows) = noted rows

abbrev answered : List Row → List ℕ
answered [] = []
answered (Invoke op client key action ∷ rows) = answered rows
answered (Note op tag ∷ rows) = answered rows
answered (Respond op returned ∷ rows) = op.0 ∷ answered rows

counted : (rows : List Row) → length rows ≡ call_count rows + (length (noted rows) + length (answered rows))
counted [] = refl
counted (Invoke op client key action ∷ rows) = omega (arith, counted rows)
counted (Note op tag ∷ rows) = omega (arith, counted rows)
counted (Respond op returned ∷ rows) = omega (arith, counted rows)

any_cases : (q x : ℕ) (xs : List ℕ) → list_any (eqb q) (x ∷ xs) ≡ true → (q ≡ x) ⊎ (list_any (eqb q) xs ≡ true)
any_cases q x xs h = elim (eqb_tells q x) [
  | inl same ↦ inl same.1
  | inr apart ↦ inr (sym (ap (λ (b : Bool). b || list_any (eqb q) xs) apart.0) ∙ h)
]

none_found : {X : Type 0} → false ≡ true → X
none_found h = absurd (cc h)

module _ (x : ℕ) where
  -- no row notes that call
  apart_noted : (rows : List Row) → ((k : ℕ) (op : OpId) (tag : Tag) → slice_get rows k ≡ Some (Note op tag) → x ≢ op.0)
      → AllByRecursion (λ y. eqb x y ≡ false) (noted rows)
  apart_noted [] none = tt
  apart_noted (Invoke op client key action ∷ rows) none = apart_noted rows (λ k. none (suc k))
  apart_noted (Note op tag ∷ rows) none = (ne_eqb x op.0 (none zero op tag refl), apart_noted rows (λ k. none (suc k)))
  apart_noted (Respond op returned ∷ rows) none = apart_noted rows (λ k. none (suc k))

  -- none answers it
  apart_answered : (rows : List Row) → ((k : ℕ) (op : OpId) (returned : Returned) → slice_get rows k ≡ Some (Respond op returned)
      → x ≢ op.0) → AllByRecursion (λ y. eqb x y ≡ false) (answered rows)
  apart_answered [] none = tt
  apart_answered (Invoke op client key action ∷ rows) none = apart_answered rows (λ k. none (suc k))
  apart_answered (Note op tag ∷ rows) none = apart_answered rows (λ k. none (suc k))
  apart_answered (Respond op returned ∷ rows) none = (
    ne_eqb x op.0 (none zero op returned refl),
    apart_answered rows (λ k. none (suc k)),
  )

  -- or one does
  noted_there : (rows : List Row) → list_any (eqb x) (noted rows) ≡ true
      → (k : ℕ) × (op : OpId) × (tag : Tag) × (slice_get rows k ≡ Some (Note op tag)) × (x ≡ op.0)
  noted_there [] h = none_found h
  noted_there (Invoke op client key action ∷ rows) h = let r = noted_there rows h in (suc r.0, r.1, r.2, r.3, r.4)
  noted_there (Note op tag ∷ rows) h = elim (any_cases x op.0 (noted rows) h) [
    | inl same ↦ (zero, op, tag, refl, same)
    | inr w ↦ let r = noted_there rows w in (suc r.0, r.1, r.2, r.3, r.4)
  ]
  noted_there (Respond op returned ∷ rows) h = let r = noted_there rows h in (suc r.0, r.1, r.2, r.3, r.4)

  answered_there : (rows : List Row) → list_any (eqb x) (answered rows) ≡ true
      → (k : ℕ) × (op : OpId) × (returned : Returned) × (slice_get rows k ≡ Some (Respond op returned)) × (x ≡ op.0)
  answered_there [] h = none_found h
  answered_there (Invoke op client key action ∷ rows) h = let r = answered_there rows h in (suc r.0, r.1, r.2, r.3, r.4)
  answered_there (Note op tag ∷ rows) h = let r = answered_there rows h in (suc r.0, r.1, r.2, r.3, r.4)
  answered_there (Respond op returned ∷ rows) h = elim (any_cases x op.0 (answered rows) h) [
    | inl same ↦ (zero, op, returned, refl, same)
    | inr w ↦ let r = answered_there rows w in (suc r.0, r.1, r.2, r.3, r.4)
  ]

-- ---- each call once

abbrev AreNotedOnce : List Row → Type 0
AreNotedOnce rows = (i j : ℕ) (a b : OpId) (s t : Tag) → i < j → slice_get rows i ≡ Some (Note a s) → slice_get rows j ≡ Some (Note b t)
    → a.0 ≡ b.0 → ⊥

abbrev AreAnsweredOnce : List Row → Type 0
AreAnsweredOnce rows = (i j : ℕ) (a b : OpId) (r s : Returned) → i < j → slice_get rows i ≡ Some (Respond a r)
    → slice_get rows j ≡ Some (Respond b s) → a.0 ≡ b.0 → ⊥

distinct_noted : (rows : List Row) → AreNotedOnce rows → IsDistinct eqb (noted rows)
unfolding IsDistinct
distinct_noted [] once = tt
distinct_noted (Invoke op client key action ∷ rows) once =
    distinct_noted rows (λ i j a b s t less. once (suc i) (suc j) a b s t (omega arith))
distinct_noted (Note op tag ∷ rows) once = (
  apart_noted op.0 rows (λ k o t at same. once zero (suc k) op o tag t (omega arith) refl at same),
  distinct_noted rows (λ i j a b s t less. once (suc i) (suc j) a b s t (omega arith)),
)
distinct_noted (Respond op returned ∷ rows) once =
    distinct_noted rows (λ i j a b s t less. once (suc i) (suc j) a b s t (omega arith))

distinct_answered : (rows : List Row) → AreAnsweredOnce rows → IsDistinct eqb (answered rows)
unfolding IsDistinct
distinct_answered [] once = tt
distinct_answered (Invoke op client key action ∷ rows) once =
    distinct_answered rows (λ i j a b r s less. once (suc i) (suc j) a b r s (omega arith))
distinct_answered (Note op tag ∷ rows) once =
    distinct_answered rows (λ i j a b r s less. once (suc i) (suc j) a b r s (omega arith))
distinct_answered (Respond op returned ∷ rows) once = (
  apart_answered op.0 rows (λ k o r at same. once zero (suc k) op o returned r (omega arith) refl at same),
  distinct_answered rows (λ i j a b r s less. once (suc i) (suc j) a b r s (omega arith)),
)

module _ (rows : List Row) (formed : IsWellFormed rows) where
  noted_once : AreNotedOnce rows
  noted_once i j a b s t less at_i at_j same =
      let front : slice_get (take j rows) i ≡ Some (Note b s) =
      slice_get-take rows j i less ∙ (at_i ∙ ap (λ (o : OpId). Some (Note o s)) (same_op a b same)) in
      (formed j (Note b t) at_j).1 (s, Contains-slice_get (take j rows) i (Note b s) front)

  answered_once : AreAnsweredOnce rows
  answered_once i j a b r s less at_i at_j same =
      let front : slice_get (take j rows) i ≡ Some (Respond b r) =
      slice_get-take rows j i less ∙ (at_i ∙ ap (λ (o : OpId). Some (Respond o r)) (same_op a b same)) in
      (formed j (Respond b s) at_j).2.unanswered (r, Contains-slice_get (take j rows) i (Respond b r) front)

  pending_below : (k : ℕ) (op : OpId) → IsPendingOp (take k rows) op → op.0 < call_count rows
  pending_below k op p =
      let i = place_of (take k rows) (Invoke op p.0 p.2.key p.1) p.2.invoked in
      number_below rows formed op p.0 p.2.key p.1
      (Contains-slice_get rows i.0 (Invoke op p.0 p.2.key p.1) (in_front rows k i.0 (Invoke op p.0 p.2.key p.1) i.1).1)

  few_noted : length (noted rows) ≤ call_count rows
  few_noted = length-le_from_distinct_below (noted rows) (call_count rows) (distinct_noted rows noted_once) (λ q h.
      let r = noted_there q rows h in
      let below = pending_below r.0 r.1 (formed r.0 (Note r.1 r.2) r.3).0 in
      omega (arith, r.4, below))

  few_answered : length (answered rows) ≤ call_count rows
  few_answered = length-le_from_distinct_below (answered rows) (call_count rows) (distinct_answered rows answered_once) (λ q h.
      let r = answered_there q rows h in
      let may = formed r.0 (Respond r.1 r.2) r.3 in
      let below = pending_below r.0 r.1 (may.0, may.1, may.2) in
      omega (arith, r.4, below))

  -- so they are few, if their calls have numbers below 2^32
  pub few_rows : call_count rows ≤ 2 ^ 32 → length rows < 2 ^ 63
  few_rows few = omega (arith, few, counted rows, few_noted, few_answered)
