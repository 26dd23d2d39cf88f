-- The first places of calls in an order, place by place.
use Rattle.std.proofs.Common.{ℕ, ◌≡◌, ◌≢◌, ◌+◌, ◌⊎◌, inl, inr, List, [], Option, Some, None, length, take, sym, ap, ◌∙◌, subst, arith}
use Rattle.std.specs.List.{slice_get, Contains}
use Rattle.std.proofs.lemmas.Bool.{cases_eq, cases_lt}
use Rattle.std.proofs.lemmas.Option.{same_Some}
use Rattle.tag.proofs.Lists.{Contains-slice_get, in_front, slice_get-take}
use Rattle.tag.proofs.Options.{none_some}
use Rattle.tag.specs.declared.numbers.OpId.{OpId}
use Rattle.scenes.specs.declared.scene.Bar.{Bar}
use Rattle.scenes.specs.Listed.{AreFirstPlaces, IsFirstPlace, IsKept, IsPut}
use Rattle.scenes.proofs.Rising.{Rises}

module _ (order : List OpId) (bars : List Bar) where
  -- one place more, at which another call stands
  still : (k : ℕ) (op here : OpId) (place : Option ℕ) → slice_get order k ≡ Some here → here ≢ op → IsFirstPlace (take k order) op place
      → IsFirstPlace (take (k + 1) order) op place
  still k op here None at other before = λ place there.
      let w = in_front order (k + 1) place op there in
      elim (cases_lt place k) [
        | inl h ↦ before place (slice_get-take order k place h ∙ w.1)
        | inr h ↦
            let same : k ≡ place = omega (arith, h, w.0) in
            other (same_Some here op (sym at ∙ subst (λ (n : ℕ). slice_get order n ≡ Some op) (sym same) w.1))
      ]
  still k op here (Some n) at other before =
      let w = in_front order k n op before.0 in (
        slice_get-take order (k + 1) n (omega (arith, w.0)) ∙ w.1,
        λ earlier less there.
            let v = in_front order (k + 1) earlier op there in
            before.1 earlier less (slice_get-take order k earlier (omega (arith, less, w.0)) ∙ v.1),
      )

  -- the call stands there, but not for the first time
  again : (k n : ℕ) (op : OpId) → IsFirstPlace (take k order) op (Some n) → IsFirstPlace (take (k + 1) order) op (Some n)
  again k n op before =
      let w = in_front order k n op before.0 in (
        slice_get-take order (k + 1) n (omega (arith, w.0)) ∙ w.1,
        λ earlier less there.
            let v = in_front order (k + 1) earlier op there in
            before.1 earlier less (slice_get-take order k earlier (omega (arith, less, w.0)) ∙ v.1),
      )

  -- for the first time
  first : (k : ℕ) (op : OpId) → slice_get order k ≡ Some op → IsFirstPlace (take k order) op None → IsFirstPlace (take (k + 1) order) op (Some k)
  first k op at before = (
    slice_get-take order (k + 1) k (omega arith) ∙ at,
    λ earlier less there.
        let v = in_front order (k + 1) earlier op there in
        before earlier (slice_get-take order k earlier less ∙ v.1),
  )

  module _ (up : Rises (λ (bar : Bar). bar.call.0) bars) where
    -- no other bar is of that call
    other_call : (b j : ℕ) (bar other : Bar) → slice_get bars b ≡ Some bar → slice_get bars j ≡ Some other → j ≢ b → bar.call ≢ other.call
    other_call b j bar other at_b at_j apart same =
        let number : bar.call.0 ≡ other.call.0 = ap (λ (o : OpId). o.0) same in
        elim (cases_lt b j) [
          | inl h ↦ (let less = up b j bar other h at_b at_j in omega (arith, less, number))
          | inr h ↦ elim (cases_lt j b) [
            | inl g ↦ (let less = up j b other bar g at_j at_b in omega (arith, less, number))
            | inr g ↦ apart (omega (arith, g, h))
          ]
        ]

    -- no bar is of the call
    pub places_none : (k : ℕ) (here : OpId) (places : List (Option ℕ)) → slice_get order k ≡ Some here
        → ((bar : Bar) → Contains bars bar → bar.call ≡ here → ⊥)
        → AreFirstPlaces (take k order) bars places → AreFirstPlaces (take (k + 1) order) bars places
    places_none k here places at none before = record {
      all = before.all;
      each = λ index bar place at_bar at_place.
          still k bar.call here place at (λ same. none bar (Contains-slice_get bars index bar at_bar) (sym same)) (before.each index bar place at_bar at_place);
    }

    -- the bar's call has a place already
    pub places_same : (k b n : ℕ) (bar : Bar) (here : OpId) (places : List (Option ℕ)) → slice_get order k ≡ Some here → slice_get bars b ≡ Some bar
        → bar.call ≡ here → slice_get places b ≡ Some (Some n)
        → AreFirstPlaces (take k order) bars places → AreFirstPlaces (take (k + 1) order) bars places
    places_same k b n bar here places at at_b is there before = record {
      all = before.all;
      each = λ index other place at_bar at_place. elim (cases_eq index b) [
        | inl same ↦
            let one : Some n ≡ place = same_Some (Some n) place (sym there ∙ subst (λ (i : ℕ). slice_get places i ≡ Some place) same at_place) in
            let own = before.each index other (Some n) at_bar (subst (λ (i : ℕ). slice_get places i ≡ Some (Some n)) (sym same) there) in
            subst (IsFirstPlace (take (k + 1) order) other.call) one (again k n other.call own)
        | inr apart ↦ still k other.call here place at (λ same. other_call b index bar other at_b at_bar apart (is ∙ same)) (before.each index other place at_bar at_place)
      ];
    }

    -- it has none yet
    pub places_put : (k b : ℕ) (bar : Bar) (here : OpId) (places now : List (Option ℕ)) → slice_get order k ≡ Some here → slice_get bars b ≡ Some bar
        → bar.call ≡ here → IsPut places now b k
        → AreFirstPlaces (take k order) bars places → AreFirstPlaces (take (k + 1) order) bars now
    places_put k b bar here places now at at_b is w before = record {
      all = w.long ∙ before.all;
      each = λ index other place at_bar at_place. elim (cases_eq index b) [
        | inl same ↦
            let one : bar ≡ other = same_Some bar other (sym at_b ∙ subst (λ (i : ℕ). slice_get bars i ≡ Some other) same at_bar) in
            let call : here ≡ other.call = sym is ∙ ap (λ (x : Bar). x.call) one in
            let own = before.each b bar None at_b w.none in
            let none = subst (λ (op : OpId). IsFirstPlace (take k order) op None) (ap (λ (x : Bar). x.call) one) own in
            let value : Some k ≡ place = same_Some (Some k) place (sym w.put.here ∙ subst (λ (i : ℕ). slice_get now i ≡ Some place) same at_place) in
            subst (IsFirstPlace (take (k + 1) order) other.call) value (first k other.call (at ∙ ap Some call) none)
        | inr apart ↦ still k other.call here place at (λ same. other_call b index bar other at_b at_bar apart (is ∙ same))
            (before.each index other place at_bar (sym (w.put.others index apart) ∙ at_place))
      ];
    }

    -- either
    pub places_next : (k b : ℕ) (here : OpId) (places now : List (Option ℕ)) → slice_get order k ≡ Some here
        → ((bar : Bar) × (slice_get bars b ≡ Some bar) × (bar.call ≡ here)) → IsPut places now b k ⊎ IsKept places now b
        → AreFirstPlaces (take k order) bars places → AreFirstPlaces (take (k + 1) order) bars now
    places_next k b here places now at found (inl put) before = places_put k b found.0 here places now at found.1 found.2 put before
    places_next k b here places now at found (inr kept) before =
        subst (AreFirstPlaces (take (k + 1) order) bars) (sym kept.same) (places_same k b kept.first found.0 here places at found.1 found.2 kept.there before)

-- before any place
pub no_places : (bars : List Bar) (places : List (Option ℕ)) → length places ≡ length bars
    → ((i : ℕ) (place : Option ℕ) → slice_get places i ≡ Some place → place ≡ None) → AreFirstPlaces [] bars places
no_places bars places all none = record {
  all = all;
  each = λ index bar place at_bar at_place. subst (IsFirstPlace [] bar.call) (sym (none index place at_place)) (λ i there. none_some there);
}
