-- Places of a table: which are taken, and what stands there.
use Rattle.std.proofs.Common.{ℕ, ◌≡◌, ◌≢◌, ◌<◌, ◌+◌, inl, inr, List, Some, length, get_or, length-set, set, sym, ◌∙◌, ap, subst, arith, below_more}
use Rattle.std.specs.List.{slice_get}
use Rattle.std.proofs.lemmas.Bool.{cases_lt, cases_eq}
use Rattle.std.proofs.lemmas.Option.{same_Some, slice_get_within, slice_get-get_or}
use Rattle.tag.proofs.Lists.{slice_get-set}
use Rattle.recorder.specs.declared.part.Call.{Call}
use Rattle.value_order.specs.declared.firsts.Slot.{Slot}
use Rattle.value_order.specs.Classes.{IsFirstWrite}
use Rattle.value_order.specs.Firsts.{place_of, AreTaken, IsFree, Stands, StandsNowhere}

module _ (slots : List Slot) where
  -- a place that is free isn't taken
  pub not_taken : (mark place : ℕ) → IsFree slots mark place → AreTaken slots mark 16 → ⊥
  not_taken mark place free taken =
      let t = taken free.steps free.within in
      let here : slice_get slots (place_of mark free.steps (length slots)) ≡ Some free.slot = ap (slice_get slots) (sym free.is) ∙ free.here in
      t.2 (ap (λ (s : Slot). s.mark) (same_Some t.0 free.slot (sym t.1 ∙ here)) ∙ free.unused)

  module _ (mark place : ℕ) (free : IsFree slots mark place) (slot : Slot) where
    -- a place that is taken keeps its slot where the free one is filled
    kept_at : (at : ℕ) (there : Slot) → slice_get slots at ≡ Some there → there.mark ≢ 0 → slice_get (set slots place slot) at ≡ Some there
    kept_at at there is taken = elim (slice_get-set slots place at slot (slice_get_within slots place free.slot free.here)) [
      | inl w ↦
          let same : free.slot ≡ there = same_Some free.slot there (sym free.here ∙ (ap (slice_get slots) (sym w.0) ∙ is)) in
          absurd (taken (sym (ap (λ (s : Slot). s.mark) same) ∙ free.unused))
      | inr w ↦ w.1 ∙ is
    ]

    -- so places stay taken
    pub still_taken : (of steps : ℕ) → AreTaken slots of steps → AreTaken (set slots place slot) of steps
    still_taken of steps before k below = rw (length-set slots place slot) (let t = before k below in (t.0, kept_at (place_of of k (length slots)) t.0 t.1 t.2, t.2))

    -- and what stood still stands
    pub still_stands : (of index : ℕ) → Stands slots of index → Stands (set slots place slot) of index
    still_stands of index h = record {
      steps = h.steps;
      within = h.within;
      here = rw (length-set slots place slot) (kept_at (place_of of h.steps (length slots)) (record { mark = of; index = index }) h.here h.taken);
      taken = h.taken;
      before = still_taken of h.steps h.before;
    }

  -- what is put at its mark's first free place stands
  pub new_stands : (mark index place : ℕ) → mark ≢ 0 → IsFree slots mark place → Stands (set slots place (record { mark = mark; index = index })) mark index
  new_stands mark index place taken free =
      let slot : Slot = record { mark = mark; index = index } in
      record {
        steps = free.steps;
        within = free.within;
        here = rw (length-set slots place slot, sym free.is) (elim (slice_get-set slots place place slot (slice_get_within slots place free.slot free.here)) [
          | inl w ↦ w.1
          | inr w ↦ absurd (w.0 (λ i. place))
        ]);
        taken = taken;
        before = still_taken mark place free slot mark free.steps free.before;
      }

  -- ---- looking for a value under its mark

  -- the slot that was looked at, so many steps from the mark's home
  pub slot_at : (mark steps place : ℕ) (default : Slot) → place ≡ place_of mark steps (length slots) → place < length slots → slice_get slots (place_of mark steps (length slots)) ≡ Some (get_or slots place default)
  slot_at mark steps place default is within = ap (slice_get slots) (sym is) ∙ slice_get-get_or slots place default within

  -- what has the mark stands there
  pub stands_at : (mark steps : ℕ) (slot : Slot) → steps < 16 → slice_get slots (place_of mark steps (length slots)) ≡ Some slot → slot.mark ≡ mark → slot.mark ≢ 0 → AreTaken slots mark steps → Stands slots mark slot.index
  stands_at mark steps slot within here same taken before = record {
    steps = steps;
    within = within;
    here = here ∙ ap (λ (m : ℕ). Some (record { mark = m; index = slot.index })) same;
    taken = λ e. taken (same ∙ e);
    before = before;
  }

  -- its first write stands at none of the places before so many steps
  abbrev pub IsPassed : List Call → ℕ → List ℕ → ℕ → Type 0
  IsPassed part mark value steps = (k : ℕ) → k < steps → (index : ℕ) → IsFirstWrite part value index → slice_get slots (place_of mark k (length slots)) ≡ Some (record { mark = mark; index = index }) → ⊥

  module _ (part : List Call) (mark : ℕ) (value : List ℕ) where
    -- where all places are passed, it stands nowhere
    pub all_passed : IsPassed part mark value 16 → StandsNowhere part slots mark value
    all_passed passed index first h = passed h.steps h.within index first h.here

    -- nor where a place is free, since those before what stands are taken
    pub stops : (steps : ℕ) → IsPassed part mark value steps → (slot : Slot) → slice_get slots (place_of mark steps (length slots)) ≡ Some slot → slot.mark ≡ 0 → StandsNowhere part slots mark value
    stops steps passed slot here unused index first h = elim (cases_lt h.steps steps) [
      | inl before ↦ passed h.steps before index first h.here
      | inr later ↦ elim (cases_eq h.steps steps) [
        | inl same ↦
            let at : slice_get slots (place_of mark steps (length slots)) ≡ Some (record { mark = mark; index = index }) = ap (λ (k : ℕ). slice_get slots (place_of mark k (length slots))) (sym same) ∙ h.here in
            h.taken (ap (λ (s : Slot). s.mark) (same_Some (record { mark = mark; index = index }) slot (sym at ∙ here)) ∙ unused)
        | inr apart ↦
            let t = h.before steps (omega (arith, later, apart)) in
            t.2 (ap (λ (s : Slot). s.mark) (same_Some t.0 slot (sym t.1 ∙ here)) ∙ unused)
      ]
    ]

    -- a place more is passed
    pub passed_more : (steps : ℕ) → IsPassed part mark value steps → (slot : Slot) → slice_get slots (place_of mark steps (length slots)) ≡ Some slot → (slot.mark ≡ mark → IsFirstWrite part value slot.index → ⊥) → IsPassed part mark value (steps + 1)
    passed_more steps passed slot here other = below_more _ _ passed (λ index first is.
        let same : slot ≡ record { mark = mark; index = index } = same_Some slot (record { mark = mark; index = index }) (sym here ∙ is) in
        other (ap (λ (s : Slot). s.mark) same) (subst (IsFirstWrite part value) (sym (ap (λ (s : Slot). s.index) same)) first))
