-- The shown calls: their clients, and a bar for each.
use Rattle.std.proofs.Common.{ℕ, zero, suc, ◌≡◌, ◌<◌, ◌≤◌, ◌+◌, inl, inr, List, [], ◌∷◌, ◌++◌, Option, Some, None, take, map}
use Rattle.std.proofs.Common.{length, refl, sym, ap, ◌∙◌, subst, arith, add-one}
use Rattle.std.specs.List.{slice_get, Contains, AllZip}
use Rattle.std.specs.List.Sorted.{IsStrictlyIncreasing, IsNonDecreasing}
use Rattle.std.specs.Option.{option_map}
use Rattle.std.proofs.lemmas.Bool.{cases_lt}
use Rattle.std.proofs.lemmas.List.{length-map}
use Rattle.std.proofs.lemmas.Option.{same_Some, slice_get_within, get_or_from_slice_get}
use Rattle.std.proofs.lemmas.Slice.Zip.{all_zipped_more}
use Rattle.std.proofs.Common.{get_or}
use Rattle.tag.proofs.Lists.{get_at, Contains-slice_get, take_push, slice_get-map_at}
use Rattle.tag.proofs.Options.{none_some}
use Rattle.tag.specs.declared.numbers.OpId.{OpId}
use Rattle.recorder.specs.declared.row.Row.{Row}
use Rattle.recorder.specs.declared.part.Call.{Call}
use Rattle.recorder.specs.declared.part.Response.{Response}
use Rattle.recorder.specs.Parts.{IsSequence}
use Rattle.scenes.proofs.Just.{HasJust, just_more, in_longer, last_in_longer, in_shorter}
use Rattle.scenes.proofs.Rising.{rises_in, rises_from, rises_mapped}
use Rattle.scenes.specs.declared.scene.Bar.{Bar}
use Rattle.scenes.specs.declared.scene.Dot.{Dot}
use Rattle.scenes.specs.declared.scene.Scene.{Scene}
use Rattle.linearization_points.specs.Points.{ArePoints}
use Rattle.scenes.specs.declared.columns.TheConstants.{OWN_COLUMNS}
use Rattle.scenes.specs.Ends.{HasDotAt, HasItsEnd}
use Rattle.scenes.specs.Scenes.{IsSelection, HasCallOf, IsBarOf, AreBarsOf, IsDotOf, IsPlaceIn, IsSceneOf}

-- the clients of one call more
pub clients_more : (part : List Call) (shown : List ℕ) (k i : ℕ) (call : Call) (clients now : List ℕ) → slice_get shown k ≡ Some i
    → slice_get part i ≡ Some call → now ≡ clients ++ call.client ∷ []
    → HasJust (HasCallOf part (take k shown)) clients → HasJust (HasCallOf part (take (k + 1) shown)) now
clients_more part shown k i call clients now at there more before =
    just_more (HasCallOf part (take k shown)) (HasCallOf part (take (k + 1) shown)) clients now call.client more
    (λ client has. (has.0, has.1, in_longer shown k i has.0 at has.2, has.3, has.4))
    (i, call, last_in_longer shown k i at, there, refl)
    (λ client has. elim (in_shorter shown k i has.0 at has.2) [
      | inl old ↦ inl (has.0, has.1, old, has.3, has.4)
      | inr last ↦
          let here : slice_get part i ≡ slice_get part has.0 = ap (slice_get part) last in
          let same : call ≡ has.1 = same_Some call has.1 (sym there ∙ here ∙ has.3) in
          inr (ap (λ (c : Call). c.client) same ∙ has.4)
    ])
    before

-- the bar of the call at an index
abbrev pub IsBarAt : List Call → List Row → List ℕ → ℕ → Bar → Type 0
IsBarAt part rows lanes i bar = (call : Call) × (slice_get part i ≡ Some call) × IsBarOf rows lanes call bar

-- one element more of each list
pub zip_more : {A B : Type 0} (R : A → B → Type 0) (xs : List A) (ys now : List B) (i : ℕ) (x : A) (y : B) → slice_get xs i ≡ Some x
    → now ≡ ys ++ y ∷ []
    → AllZip R (take i xs) ys → R x y → AllZip R (take (i + 1) xs) now
zip_more {A} {B} R xs ys now i x y at more before holds =
    let front : take (i + 1) xs ≡ take i xs ++ x ∷ [] = rw add-one (take_push xs i x at) in
    subst (λ (l : List A). AllZip R l now) (sym front)
    (subst (λ (l : List B). AllZip R (take i xs ++ x ∷ []) l) (sym more) (all_zipped_more R (take i xs) ys x y before holds))

-- what stands in the second list stands beside an element of the first
pub zip_back : {A B : Type 0} (R : A → B → Type 0) (xs : List A) (ys : List B) (k : ℕ) (y : B) → AllZip R xs ys → slice_get ys k ≡ Some y
    → (x : A) × (slice_get xs k ≡ Some x) × R x y
zip_back R [] [] k y zipped at = none_some at
zip_back R [] (z ∷ ys) k y zipped at = absurd zipped
zip_back R (x ∷ xs) [] k y zipped at = none_some at
zip_back R (x ∷ xs) (z ∷ ys) zero y zipped at = (x, refl, subst (R x) (same_Some z y at) zipped.0)
zip_back R (x ∷ xs) (z ∷ ys) (suc k) y zipped at = zip_back R xs ys k y zipped.1 at

-- the calls of the bars rise
pub bars_rise : (part : List Call) (shown : List ℕ) (rows : List Row) (lanes : List ℕ) (bars : List Bar) → IsSequence part
    → IsSelection part shown → AreBarsOf part shown rows lanes bars → IsStrictlyIncreasing (map (λ (bar : Bar). bar.call.0) bars)
bars_rise part shown rows lanes bars sequence selection are = rises_mapped (λ (bar : Bar). bar.call.0) bars
    (λ i j a b less at_a at_b.
    let first = zip_back (IsBarAt part rows lanes) shown bars i a are at_a in
    let second = zip_back (IsBarAt part rows lanes) shown bars j b are at_b in
    let up : first.0 < second.0 = rises_in shown selection.rising i j first.0 second.0 less first.1 second.1 in
    let numbers : first.2.0.op.0 < second.2.0.op.0 = sequence.numbers first.0 second.0 first.2.0 second.2.0 up first.2.1 second.2.1 in
    let number_a : a.call.0 ≡ first.2.0.op.0 = ap (λ (o : OpId). o.0) first.2.2.call_is in
    let number_b : b.call.0 ≡ second.2.0.op.0 = ap (λ (o : OpId). o.0) second.2.2.call_is in
    omega (arith, numbers, number_a, number_b))

-- the response whose place is the end of a bar
pub end_there : (response : Option Response) (end : ℕ) → option_map (λ (r : Response). r.place) response ≡ Some end
    → (r : Response) × (response ≡ Some r) × (r.place ≡ end)
end_there None end is = none_some is
end_there (Some r) end is = (r, refl, same_Some r.place end is)

-- a place before the response and not after the marks isn't after the end
pub not_after : (dots : List Dot) (index lanes place : ℕ) (bar : Bar) → HasItsEnd dots index lanes bar → HasDotAt dots index place
    → ((answer : ℕ) → bar.answered ≡ Some answer → place < answer) → (end : ℕ) → bar.ends ≡ Some end
    → (answer : Option ℕ) → bar.answered ≡ answer → place ≤ end
not_after dots index lanes place bar own has before end ends (Some answer) answered =
    let less = before answer answered in
    let same : answer ≡ end = same_Some answer end (sym (own.answered answer answered) ∙ ends) in
    omega (arith, less, same)
not_after dots index lanes place bar own has before end ends None pending = elim (cases_lt OWN_COLUMNS lanes) [
  | inl many ↦
      let s = own.short many pending in
      let same : s.0 ≡ end = same_Some s.0 end (sym s.1 ∙ ends) in
      let low = s.2.last place (inr (inr has)) in
      omega (arith, low, same)
  | inr few ↦ none_some (sym (own.endless few pending) ∙ ends)
]

module _ (rows : List Row) (part : List Call) (shown : List ℕ) (order : List OpId) (points : List ℕ) (scene : Scene) where
  -- the dot of a bar lies within it, since the point lies within the call
  pub within_bar : (dot : Dot) (bar : Bar) → ArePoints part order points → IsSceneOf part shown rows order points scene
      → Contains scene.dots.items dot → slice_get scene.bars.items dot.bar ≡ Some bar → IsPlaceIn bar dot.place
  within_bar dot bar are is there at =
      let has : IsDotOf order points scene.bars.items dot = (is.dots.exactly dot).0 there in
      let same : has.0 ≡ bar = same_Some has.0 bar (sym has.1 ∙ at) in
      let beside = zip_back (IsBarAt part rows scene.lanes.items) shown scene.bars.items dot.bar bar is.bars at in
      let call = beside.2.0 in
      let drawn = beside.2.2 in
      let number : has.0.call ≡ call.op = ap (λ (b : Bar). b.call) same ∙ drawn.call_is in
      let listed : slice_get order dot.number ≡ Some call.op = has.2 ∙ ap Some number in
      let recorded = Contains-slice_get part beside.0 call beside.2.1 in
      let within = are.within dot.number dot.place call has.3 (record { listed = listed; recorded = recorded }) in
      let answered : (answer : ℕ) → bar.answered ≡ Some answer → dot.place < answer = λ answer is_answer.
      let r = end_there call.response answer (sym drawn.answered ∙ is_answer) in
      subst (λ (n : ℕ). dot.place < n) r.2 (within.1 r.0 r.1)
      in
      record {
        begun = subst (λ (n : ℕ). n ≤ dot.place) (sym drawn.begins) within.0;
        unanswered = answered;
        lasting = λ end ends. not_after scene.dots.items dot.bar (length scene.lanes.items) dot.place bar (is.ends dot.bar bar at) (dot, there, refl, refl)
            answered end ends bar.answered refl;
      }

  -- the places of the dots don't fall, since the points don't
  pub places_up : ArePoints part order points → IsSceneOf part shown rows order points scene
      → IsNonDecreasing (map (λ (dot : Dot). dot.place) scene.dots.items)
  places_up are is i j d le within =
      let dots = scene.dots.items in
      let places = map (λ (dot : Dot). dot.place) dots in
      let in_j : j < length dots = omega (arith, within, length-map dots (λ (dot : Dot). dot.place)) in
      let a = get_at dots i (omega arith) in
      let b = get_at dots j in_j in
      let value_a : get_or places i d ≡ a.0.place = get_or_from_slice_get places i a.0.place d
      (slice_get-map_at (λ (dot : Dot). dot.place) dots i a.0 a.1) in
      let value_b : get_or places j d ≡ b.0.place = get_or_from_slice_get places j b.0.place d
      (slice_get-map_at (λ (dot : Dot). dot.place) dots j b.0 b.1) in
      let has_a : IsDotOf order points scene.bars.items a.0 = (is.dots.exactly a.0).0 (Contains-slice_get dots i a.0 a.1) in
      let has_b : IsDotOf order points scene.bars.items b.0 = (is.dots.exactly b.0).0 (Contains-slice_get dots j b.0 b.1) in
      let numbers : a.0.number ≤ b.0.number = elim (cases_lt i j) [
        | inl h ↦
            let less : a.0.number < b.0.number = rises_from (λ (dot : Dot). dot.number) dots is.dots.rising i j a.0 b.0 h a.1 b.1 in
            omega arith
        | inr h ↦
            let same : i ≡ j = omega arith in
            let there : slice_get dots i ≡ slice_get dots j = ap (slice_get dots) same in
            let one : a.0 ≡ b.0 = same_Some a.0 b.0 (sym a.1 ∙ there ∙ b.1) in
            let number : a.0.number ≡ b.0.number = ap (λ (dot : Dot). dot.number) one in
            omega arith
      ] in
      let up : get_or points a.0.number 0 ≤ get_or points b.0.number 0 = are.rising a.0.number b.0.number 0 numbers
      (slice_get_within points b.0.number b.0.place has_b.3) in
      let point_a : get_or points a.0.number 0 ≡ a.0.place = get_or_from_slice_get points a.0.number a.0.place 0 has_a.3 in
      let point_b : get_or points b.0.number 0 ≡ b.0.place = get_or_from_slice_get points b.0.number b.0.place 0 has_b.3 in
      let rise : get_or places i d ≤ get_or places j d = omega (arith, value_a, value_b, up, point_a, point_b) in
      rise
