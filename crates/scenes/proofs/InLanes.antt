-- The bars of shown calls are in the lanes of their clients.
use Rattle.std.proofs.Common.{ℕ, zero, suc, ◌≡◌, ◌<◌, inl, inr, List, [], ◌∷◌, Option, Some, None, ◌≤◌, length, refl, sym, ap, ◌∙◌, subst, arith}
use Rattle.std.specs.List.{slice_get, Contains, AllZip}
use Rattle.std.specs.List.Sorted.{IsStrictlyIncreasing}
use Rattle.std.proofs.lemmas.Bool.{cases_lt}
use Rattle.std.proofs.lemmas.Option.{same_Some, slice_get_within}
use Rattle.tag.proofs.Lists.{place_of, get_at, Contains-slice_get}
use Rattle.tag.proofs.Options.{none_some}
use Rattle.recorder.specs.declared.row.Row.{Row}
use Rattle.recorder.specs.declared.part.Call.{Call}
use Rattle.recorder.specs.Parts.{IsSequence}
use Rattle.scenes.specs.declared.scene.Bar.{Bar}
use Rattle.scenes.specs.FirstFit.{AreInLanes}
use Rattle.scenes.specs.declared.columns.TheConstants.{OWN_COLUMNS}
use Rattle.scenes.specs.declared.scene.Dot.{Dot}
use Rattle.scenes.specs.Ends.{AreEnded, HasItsEnd}
use Rattle.scenes.specs.Scenes.{AreBarsOf, HasCallOf, IsRisingListOf, IsSelection}
use Rattle.scenes.proofs.Rising.{rises_in, rises_mapped}
use Rattle.scenes.proofs.ShownCalls.{IsBarAt, end_there, zip_back}

-- what stands in the first list stands beside an element of the second
zip_there : {A B : Type 0} (R : A → B → Type 0) (xs : List A) (ys : List B) (k : ℕ) (x : A) → AllZip R xs ys → slice_get xs k ≡ Some x
    → (y : B) × (slice_get ys k ≡ Some y) × R x y
zip_there R [] [] k x zipped at = none_some at
zip_there R [] (y ∷ ys) k x zipped at = absurd zipped
zip_there R (z ∷ xs) [] k x zipped at = absurd zipped
zip_there R (z ∷ xs) (y ∷ ys) zero x zipped at = (y, refl, subst (λ w. R w y) (same_Some z x at) zipped.0)
zip_there R (z ∷ xs) (y ∷ ys) (suc k) x zipped at = zip_there R xs ys k x zipped.1 at

-- a number stands once in a rising list
one_index : (list : List ℕ) → IsStrictlyIncreasing list → (i j n : ℕ) → slice_get list i ≡ Some n → slice_get list j ≡ Some n → i ≡ j
one_index list up i j n at_i at_j = elim (cases_lt i j) [
  | inl h ↦ absurd (let rise : n < n = rises_in list up i j n n h at_i at_j in omega arith)
  | inr h ↦ elim (cases_lt j i) [
    | inl g ↦ absurd (let rise : n < n = rises_in list up j i n n g at_j at_i in omega arith)
    | inr g ↦ omega (arith, g, h)
  ]
]

module _ (part : List Call) (shown : List ℕ) (rows : List Row) (lanes : List ℕ) (bars : List Bar) (sequence : IsSequence part) (selection : IsSelection part shown)
    (clients : IsRisingListOf (HasCallOf part shown) lanes) (are : AreBarsOf part shown rows lanes bars) (dots : List Dot) (ended : AreEnded dots (length lanes) bars) where
  beside : (bar : Bar) → Contains bars bar → (k : ℕ) × (i : ℕ) × (slice_get bars k ≡ Some bar) × (slice_get shown k ≡ Some i) × IsBarAt part rows lanes i bar
  beside bar there =
      let k = place_of bars bar there in
      let w = zip_back (IsBarAt part rows lanes) shown bars k.0 bar are k.1 in
      (k.0, w.0, k.1, w.1, w.2)

  by_answer : (bar : Bar) (end index : ℕ) → bar.ends ≡ Some end → HasItsEnd dots index (length lanes) bar
      → ((place : ℕ) → bar.answered ≡ Some place → bar.begins < place) → (answer : Option ℕ) → bar.answered ≡ answer → bar.begins ≤ end
  by_answer bar end index ends own later (Some place) answered =
      let up = later place answered in
      let same : place ≡ end = same_Some place end (sym (own.answered place answered) ∙ ends) in
      omega (arith, up, same)
  by_answer bar end index ends own later None pending = elim (cases_lt OWN_COLUMNS (length lanes)) [
    | inl many ↦
        let s = own.short many pending in
        let same : s.0 ≡ end = same_Some s.0 end (sym s.1 ∙ ends) in
        let low = s.2.last bar.begins (inl refl) in
        omega (arith, low, same)
    | inr few ↦ none_some (sym (own.endless few pending) ∙ ends)
  ]

  -- a bar doesn't end before it begins
  pub forward : (bar : Bar) → Contains bars bar → (end : ℕ) → bar.ends ≡ Some end → bar.begins ≤ end
  forward bar there end ends =
      let w = beside bar there in
      let is = w.4 in
      by_answer bar end w.0 ends (ended w.0 bar w.2)
      (λ place answered.
      let r = end_there is.0.response place (sym is.2.answered ∙ answered) in
      let up : is.0.invoked < r.0.place = sequence.responses is.0 r.0 (Contains-slice_get part w.1 is.0 is.1) r.1 in
      omega (arith, up, is.2.begins, r.2))
      bar.answered refl

  pub in_lanes : AreInLanes (length lanes) bars
  in_lanes = record {
    within = λ bar there. let w = beside bar there in slice_get_within lanes bar.lane w.4.0.client w.4.2.lane;
    each = λ lane less.
        let client = get_at lanes lane less in
        let has = (clients.exactly client.0).0 (Contains-slice_get lanes lane client.0 client.1) in
        let k = place_of shown has.0 has.2 in
        let w = zip_there (IsBarAt part rows lanes) shown bars k.0 has.0 are k.1 in
        let call : has.1 ≡ w.2.0 = same_Some has.1 w.2.0 (sym has.3 ∙ w.2.1) in
        let same : w.2.0.client ≡ client.0 = sym (ap (λ (c : Call). c.client) call) ∙ has.4 in
        let there : slice_get lanes w.0.lane ≡ Some client.0 = w.2.2.lane ∙ ap Some same in
        (w.0, (Contains-slice_get bars k.0 w.0 w.1, one_index lanes clients.rising w.0.lane lane client.0 there client.1));
    rising = rises_mapped (λ (bar : Bar). bar.begins) bars (λ i j a b less at_a at_b.
        let first = zip_back (IsBarAt part rows lanes) shown bars i a are at_a in
        let second = zip_back (IsBarAt part rows lanes) shown bars j b are at_b in
        let up : first.0 < second.0 = rises_in shown selection.rising i j first.0 second.0 less first.1 second.1 in
        let places : first.2.0.invoked < second.2.0.invoked = sequence.places first.0 second.0 first.2.0 second.2.0 up first.2.1 second.2.1 in
        omega (arith, places, first.2.2.begins, second.2.2.begins));
    forward = forward;
  }
