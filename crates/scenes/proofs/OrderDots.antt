-- The dots of the first places of an order.
use Rattle.std.proofs.Common.{ℕ, ◌≡◌, ◌<◌, ◌≤◌, ◌+◌, inl, inr, List, [], ◌∷◌, ◌++◌, Some, Result, Ok, Err, length}
use Rattle.std.proofs.Common.{get_or, sym, ap, ◌∙◌, arith}
use Rattle.std.specs.List.{slice_get, Contains}
use Rattle.std.specs.List.Sorted.{IsSearchInRange, IsBinarySearchResult, IsNonDecreasingBy}
use Rattle.std.specs.Option.{IfSome, IfNone}
use Rattle.std.specs.Ordering.{nat_cmp, ordering_index}
use Rattle.std.specs.Result.{result_ok}
use Rattle.std.proofs.lemmas.Bool.{cases_lt}
use Rattle.std.proofs.lemmas.Bool.Decides.{nat_tests}
use Rattle.std.proofs.lemmas.Cmp.{ranked}
use Rattle.std.proofs.lemmas.Option.{same_Some, slice_get-get_or, slice_get_within, get_or_from_slice_get}
use Rattle.tag.proofs.Lists.{get_at, Contains-slice_get}
use Rattle.tag.specs.declared.numbers.OpId.{OpId}
use Rattle.scenes.proofs.Just.{HasJust, just_more, just_same}
use Rattle.scenes.proofs.Rising.{Rises, rises_mapped, rises_more}
use Rattle.scenes.specs.declared.scene.Bar.{Bar}
use Rattle.scenes.specs.declared.scene.Dot.{Dot}
use Rattle.scenes.specs.Scenes.{IsDotOf, AreDotsOf}

abbrev number_of : Bar → ℕ
number_of bar = bar.call.0

-- the bar at the index is that of the call
abbrev pub IsBarOfCall : List Bar → OpId → ℕ → Type 0
IsBarOfCall bars op k = (bar : Bar) × (slice_get bars k ≡ Some bar) × (bar.call ≡ op)

-- a binary search by number finds the bar of the call, or that there is none
module _ (bars : List Bar) (up : Rises number_of bars) (op : OpId) where
  calls_rise : (i j : ℕ) (d : Bar) → i ≤ j → j < length bars → (get_or bars i d).call.0 ≤ (get_or bars j d).call.0
  calls_rise i j d le within =
      elim (cases_lt i j) [
        | inl h ↦
            let less : (get_or bars i d).call.0 < (get_or bars j d).call.0 = up i j (get_or bars i d) (get_or bars j d) h
            (slice_get-get_or bars i d (omega arith)) (slice_get-get_or bars j d within) in
            omega arith
        | inr h ↦
            let same : i ≡ j = omega arith in
            let equal : (get_or bars i d).call.0 ≡ (get_or bars j d).call.0 = ap (λ (k : ℕ). (get_or bars k d).call.0) same in
            omega arith
      ]

  comparisons_rise : IsNonDecreasingBy (λ bar. ordering_index (nat_cmp bar.call.0 op.0)) bars
  comparisons_rise i j d le within = let rise = calls_rise i j d le within in grind (arith, nat_tests)

  pub bar_found : (r : Result ℕ ℕ) → IsSearchInRange r (length bars) → IsBinarySearchResult (λ bar. nat_cmp bar.call.0 op.0) bars r
      → IfSome (result_ok r) (IsBarOfCall bars op)
      × IfNone (result_ok r) ((bar : Bar) → Contains bars bar → bar.call ≡ op → ⊥)
  bar_found (Ok at) in_range equal = (
    (let bar = get_at bars at in_range in
        let value : get_or bars at bar.0 ≡ bar.0 = get_or_from_slice_get bars at bar.0 bar.0 bar.1 in
        let same : (get_or bars at bar.0).call.0 ≡ op.0 = ranked _ op.0 _ (sym (equal bar.0)) in
        (bar.0, bar.1, ap (λ (x : Bar). x.call) (sym value) ∙ ap (λ (n : ℕ). let o : OpId = record { 0 = n } in o) same)),
    tt,
  )
  bar_found (Err at) in_range parted = (
    tt,
    λ bar there same.
        let value : get_or bars there.0 bar ≡ bar = there.2 in
        let number : (get_or bars there.0 bar).call.0 ≡ op.0 = ap (λ (x : Bar). x.call.0) value ∙ ap (λ (o : OpId). o.0) same in
        elim (cases_lt there.0 at) [
          | inl h ↦
              let less : (get_or bars there.0 bar).call.0 < op.0 = ranked _ op.0 _
              (sym ((parted comparisons_rise).0 there.0 bar (omega arith) h)) in
              absurd (omega arith)
          | inr h ↦
              let more : op.0 < (get_or bars there.0 bar).call.0 = ranked _ op.0 _
              (sym ((parted comparisons_rise).1 there.0 bar h there.1)) in
              absurd (omega arith)
        ],
  )

-- a call has one bar
one_bar : (bars : List Bar) → Rises number_of bars → (j k : ℕ) (a b : Bar) → slice_get bars j ≡ Some a → slice_get bars k ≡ Some b
    → a.call ≡ b.call → j ≡ k
one_bar bars up j k a b at_a at_b same =
    let number : a.call.0 ≡ b.call.0 = ap (λ (o : OpId). o.0) same in
    elim (cases_lt j k) [
      | inl h ↦ absurd (let less : a.call.0 < b.call.0 = up j k a b h at_a at_b in omega arith)
      | inr h ↦ elim (cases_lt k j) [
        | inl g ↦ absurd (let less : b.call.0 < a.call.0 = up k j b a g at_b at_a in omega arith)
        | inr g ↦ omega arith
      ]
    ]

abbrev dot_at : ℕ → ℕ → ℕ → Dot
dot_at bar number place = record { bar = bar; number = number; place = place }

same_dot : (a b : Dot) → a.bar ≡ b.bar → a.number ≡ b.number → a.place ≡ b.place → a ≡ b
same_dot a b bar number place = ap (λ (x : ℕ). dot_at x a.number a.place) bar
    ∙ (ap (λ (x : ℕ). dot_at b.bar x a.place) number ∙ ap (dot_at b.bar b.number) place)

module _ (order : List OpId) (points : List ℕ) (bars : List Bar) where
  -- the dot of one of the first n places
  abbrev IsEarlyDot : ℕ → Dot → Type 0
  IsEarlyDot n dot = IsDotOf order points bars dot × (dot.number < n)

  -- the dots of the first n places
  pub record DotsSoFar (n : ℕ) (dots : List Dot) : Type 0 where
    pub rising : Rises (λ (dot : Dot). dot.number) dots
    pub exactly : HasJust (IsEarlyDot n) dots

  pub no_dots : DotsSoFar 0 []
  no_dots = record {
    rising = λ i j a b less at_a at_b. absurd (let h = slice_get_within [] i a at_a in omega arith);
    exactly = λ dot. (λ there. absurd (let h = there.1 in omega arith), λ early. absurd (let h = early.1 in omega arith));
  }

  wider : (n : ℕ) (dot : Dot) → IsEarlyDot n dot → IsEarlyDot (n + 1) dot
  wider n dot early = (early.0, omega (arith, early.1))

  -- the next place, whose call has a bar
  pub dots_more : Rises number_of bars → (n k place : ℕ) (op : OpId) (dots now : List Dot) → slice_get order n ≡ Some op
      → slice_get points n ≡ Some place
      → IsBarOfCall bars op k → now ≡ dots ++ dot_at k n place ∷ [] → DotsSoFar n dots → DotsSoFar (n + 1) now
  dots_more up n k place op dots now at_order at_points found more before =
      let new = dot_at k n place in
      let last : n < n + 1 = omega arith in
      let listed : slice_get order n ≡ Some found.0.call = at_order ∙ ap Some (sym found.2) in
      record {
        rising = rises_more (λ (dot : Dot). dot.number) dots now new more
            (λ dot there. ((before.exactly dot).0 there).1) before.rising;
        exactly = just_more (IsEarlyDot n) (IsEarlyDot (n + 1)) dots now new more (wider n)
            ((found.0, found.1, listed, at_points), last)
            (λ dot early. elim (cases_lt dot.number n) [
              | inl h ↦ inl (early.0, h)
              | inr h ↦
                  let here : n ≡ dot.number = omega (arith, early.1) in
                  let has = early.0 in
                  let in_order : slice_get order n ≡ slice_get order dot.number = ap (slice_get order) here in
                  let in_points : slice_get points n ≡ slice_get points dot.number = ap (slice_get points) here in
                  let call : found.0.call ≡ has.0.call = same_Some found.0.call has.0.call (sym listed ∙ (in_order ∙ has.2)) in
                  let point : place ≡ dot.place = same_Some place dot.place (sym at_points ∙ (in_points ∙ has.3)) in
                  inr (same_dot new dot (one_bar bars up k dot.bar found.0 has.0 found.1 has.1 call) here point)
            ]) before.exactly;
      }

  -- the next place, whose call has none
  pub dots_none : (n : ℕ) (op : OpId) (dots : List Dot) → slice_get order n ≡ Some op
      → ((bar : Bar) → Contains bars bar → bar.call ≡ op → ⊥) → DotsSoFar n dots → DotsSoFar (n + 1) dots
  dots_none n op dots at_order absent before = record {
    rising = before.rising;
    exactly = just_same (IsEarlyDot n) (IsEarlyDot (n + 1)) dots (wider n)
        (λ dot early. elim (cases_lt dot.number n) [
          | inl h ↦ (early.0, h)
          | inr h ↦
              let here : n ≡ dot.number = omega (arith, early.1) in
              let has = early.0 in
              let in_order : slice_get order n ≡ slice_get order dot.number = ap (slice_get order) here in
              let call : op ≡ has.0.call = same_Some op has.0.call (sym at_order ∙ (in_order ∙ has.2)) in
              absurd (absent has.0 (Contains-slice_get bars dot.bar has.0 has.1) (sym call))
        ]) before.exactly;
  }

  -- the dots of all places
  pub AreDotsOf-all : (n : ℕ) (dots : List Dot) → ((i : ℕ) → i < length order → i < length points → i < n) → DotsSoFar n dots
      → AreDotsOf order points bars dots
  AreDotsOf-all n dots all so_far = record {
    rising = rises_mapped (λ (dot : Dot). dot.number) dots so_far.rising;
    exactly = just_same (IsEarlyDot n) (IsDotOf order points bars) dots (λ dot early. early.0)
        (λ dot has. (
          has,
          all dot.number (slice_get_within order dot.number has.0.call has.2)
              (slice_get_within points dot.number dot.place has.3),
        )) so_far.exactly;
  }
