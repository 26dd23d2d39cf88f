-- The calls that are left out: they begin one after another, and with the shown calls they are all.
use Rattle.std.proofs.Common.{ℕ, zero, suc, ◌≡◌, ◌<◌, ◌≤◌, ◌+◌, ◌-◌, List, [], ◌∷◌, ◌++◌, Option, Some, None, length, drop, get_or, map, append-nil, append_assoc, refl}
use Rattle.std.proofs.Common.{sym, ap, subst, ◌∙◌, arith}
use Rattle.std.specs.List.{slice_get, sum_by}
use Rattle.std.specs.List.Sorted.{IsStrictlyIncreasing}
use Rattle.std.proofs.lemmas.List.{at_drop_all}
use Rattle.std.proofs.lemmas.List.Kept.{AllPairs-from_increasing}
use Rattle.std.proofs.lemmas.List.Sums.{sum_by-cons}
use Rattle.std.proofs.lemmas.Option.{get_or_from_slice_get, same_Some, slice_get_within}
use Rattle.tag.proofs.Lists.{get_at, Contains-slice_get}
use Rattle.tag.proofs.Options.{none_some}
use Rattle.recorder.specs.Parts.{IsSequence}
use Rattle.recorder.specs.declared.part.Call.{Call}
use Rattle.scenes.specs.declared.gaps.Gap.{Gap}
use Rattle.scenes.specs.Gaps.{AreGaps, gap_between, gap_of, gaps_from}
use Rattle.scenes.specs.Scenes.{IsSelection}
use Rattle.scenes.proofs.Rising.{Rises, rises_mapped}

-- what holds of the first gap, if there is one, and of the others
each_gap : (P : Gap → Type 0) (o : Option Call) (n : ℕ) (rest : List Gap)
    → ((call : Call) (gap : Gap) → o ≡ Some call → gap.place ≡ call.invoked → P gap)
    → ((j : ℕ) (gap : Gap) → slice_get rest j ≡ Some gap → P gap) → (j : ℕ) (gap : Gap) → slice_get (gap_of o n ++ rest) j ≡ Some gap → P gap
each_gap P None n rest first others j gap at = others j gap at
each_gap P (Some call) zero rest first others j gap at = others j gap at
each_gap P (Some call) (suc n) rest first others zero gap at = first call gap refl (sym (ap (λ (g : Gap). g.place) (same_Some _ gap at)))
each_gap P (Some call) (suc n) rest first others (suc j) gap at = others j gap at

-- gaps rise that begin after the first one
rises_after : (o : Option Call) (n : ℕ) (rest : List Gap) → Rises (λ (gap : Gap). gap.place) rest
    → ((call : Call) (j : ℕ) (gap : Gap) → o ≡ Some call → slice_get rest j ≡ Some gap → call.invoked < gap.place)
    → Rises (λ (gap : Gap). gap.place) (gap_of o n ++ rest)
rises_after None n rest up later i j a b less at_a at_b = up i j a b less at_a at_b
rises_after (Some call) zero rest up later i j a b less at_a at_b = up i j a b less at_a at_b
rises_after (Some call) (suc n) rest up later zero zero a b less at_a at_b = omega (arith, less)
rises_after (Some call) (suc n) rest up later zero (suc j) a b less at_a at_b =
    let first : call.invoked ≡ a.place = ap (λ (g : Gap). g.place) (same_Some _ a at_a) in
    let more = later call j b refl at_b in
    omega (arith, first, more)
rises_after (Some call) (suc n) rest up later (suc i) zero a b less at_a at_b = omega (arith, less)
rises_after (Some call) (suc n) rest up later (suc i) (suc j) a b less at_a at_b = up i j a b (omega (arith, less)) at_a at_b

-- how many calls the gaps have
abbrev pub left_out : List Gap → ℕ
left_out gaps = sum_by (λ (gap : Gap). gap.calls) gaps

sum_after : (o : Option Call) (n : ℕ) (rest : List Gap) → (0 < n → (call : Call) × (o ≡ Some call)) → left_out (gap_of o n ++ rest) ≡ n + left_out rest
sum_after None zero rest there = let same : left_out (gap_of None 0 ++ rest) ≡ left_out rest = refl in omega (arith, same)
sum_after None (suc n) rest there = none_some (there (omega arith)).1
sum_after (Some call) zero rest there = let same : left_out (gap_of (Some call) 0 ++ rest) ≡ left_out rest = refl in omega (arith, same)
sum_after (Some call) (suc n) rest there = sum_by-cons (λ (gap : Gap). gap.calls) (record { place = call.invoked; calls = suc n }) rest

module _ (part : List Call) where
  -- a gap that begins at a call from that index on
  abbrev Late : ℕ → Gap → Type 0
  Late from gap = (k : ℕ) × (call : Call) × (from ≤ k) × (slice_get part k ≡ Some call) × (gap.place ≡ call.invoked)

  later : (from more : ℕ) (gap : Gap) → from ≤ more → Late more gap → Late from gap
  later from more gap le late = (late.0, late.1, (let h = late.2 in omega (arith, le, h)), late.3, late.4)

  -- the shown indexes from one on, each past the one before it
  pub record Follow (from : ℕ) (shown : List ℕ) : Type 0 where
    pub here : (k i : ℕ) → slice_get shown k ≡ Some i → from ≤ i
    pub up : (k m i j : ℕ) → k < m → slice_get shown k ≡ Some i → slice_get shown m ≡ Some j → i < j
    pub within : (k i : ℕ) → slice_get shown k ≡ Some i → i < length part

  next : (from i : ℕ) (shown : List ℕ) → Follow from (i ∷ shown) → Follow (i + 1) shown
  next from i shown are = record {
    here = λ k j at. let less = are.up 0 (suc k) i j (omega arith) refl at in omega (arith, less);
    up = λ k m a b less at_a at_b. are.up (suc k) (suc m) a b (omega (arith, less)) at_a at_b;
    within = λ k j at. are.within (suc k) j at;
  }

  pub follow : (shown : List ℕ) → IsSelection part shown → Follow 0 shown
  follow shown selection = record {
    here = λ k i at. omega arith;
    up = λ k m i j less at_i at_j.
        let first : get_or shown k 0 ≡ i = get_or_from_slice_get shown k i 0 at_i in
        let second : get_or shown m 0 ≡ j = get_or_from_slice_get shown m j 0 at_j in
        let rise : get_or shown k 0 < get_or shown m 0 = AllPairs-from_increasing shown selection.rising k m 0 less (slice_get_within shown m j at_j) in
        omega (arith, first, second, rise);
    within = λ k i at. selection.within i (Contains-slice_get shown k i at);
  }

  -- the gaps from an index on begin at calls from there on
  late_gaps : (from : ℕ) (shown : List ℕ) → Follow from shown → (j : ℕ) (gap : Gap) → slice_get (gaps_from part from shown) j ≡ Some gap → Late from gap
  late_gaps from [] are j gap at =
      each_gap (Late from) (slice_get part from) (length part - from) [] (λ call g there place. (from, call, omega arith, there, place))
      (λ k g none. none_some none) j gap (subst (λ (gs : List Gap). slice_get gs j ≡ Some gap) (sym (append-nil (gap_between part from (length part)))) at)
  late_gaps from (i ∷ shown) are j gap at =
      let le = are.here 0 i refl in
      each_gap (Late from) (slice_get part from) (i - from) (gaps_from part (i + 1) shown) (λ call g there place. (from, call, omega arith, there, place))
      (λ k g there. later from (i + 1) g (omega (arith, le)) (late_gaps (i + 1) shown (next from i shown are) k g there)) j gap at

  module _ (sequence : IsSequence part) where
    rising_gaps : (from : ℕ) (shown : List ℕ) → Follow from shown → Rises (λ (gap : Gap). gap.place) (gaps_from part from shown)
    rising_gaps from [] are =
        subst (λ (gs : List Gap). Rises (λ (gap : Gap). gap.place) gs) (append-nil (gap_between part from (length part)))
        (rises_after (slice_get part from) (length part - from) [] (λ i j a b less at_a at_b. none_some at_a) (λ call j gap there none. none_some none))
    rising_gaps from (i ∷ shown) are =
        let le = are.here 0 i refl in
        rises_after (slice_get part from) (i - from) (gaps_from part (i + 1) shown) (rising_gaps (i + 1) shown (next from i shown are))
        (λ call j gap there at.
        let late = late_gaps (i + 1) shown (next from i shown are) j gap at in
        let past = late.2 in
        let less = sequence.places from late.0 call late.1 (omega (arith, le, past)) there late.3 in
        let place = late.4 in
        omega (arith, less, place))

    pub are_gaps : (shown : List ℕ) (gaps : List Gap) → IsSelection part shown → gaps ≡ gaps_from part 0 shown → AreGaps part shown gaps
    are_gaps shown gaps selection is = record {
      are = is;
      rising = subst (λ (gs : List Gap). IsStrictlyIncreasing (map (λ (gap : Gap). gap.place) gs)) (sym is)
          (rises_mapped (λ (gap : Gap). gap.place) (gaps_from part 0 shown) (rising_gaps 0 shown (follow shown selection)));
    }

  -- a call is there from which others are left out
  there : (from to : ℕ) → to ≤ length part → 0 < to - from → (call : Call) × (slice_get part from ≡ Some call)
  there from to le some = get_at part from (omega (arith, le, some))

  all_calls : (from : ℕ) (shown : List ℕ) → from ≤ length part → Follow from shown → length shown + left_out (gaps_from part from shown) + from ≡ length part
  all_calls from [] le are =
      let sum = sum_after (slice_get part from) (length part - from) [] (there from (length part) (omega arith)) in
      let same : left_out (gap_between part from (length part) ++ []) ≡ left_out (gap_between part from (length part)) =
      ap left_out (append-nil (gap_between part from (length part))) in
      let none : left_out [] ≡ 0 = refl in
      omega (arith, sum, same, none, le)
  all_calls from (i ∷ shown) le are =
      let first = are.here 0 i refl in
      let inside = are.within 0 i refl in
      let sum = sum_after (slice_get part from) (i - from) (gaps_from part (i + 1) shown) (there from i (omega (arith, inside))) in
      let rest = all_calls (i + 1) shown (omega (arith, inside)) (next from i shown are) in
      omega (arith, first, inside, sum, rest)

  pub none_is_lost : (shown : List ℕ) (gaps : List Gap) → IsSelection part shown → AreGaps part shown gaps → length shown + left_out gaps ≡ length part
  none_is_lost shown gaps selection are =
      let all = all_calls 0 shown (omega arith) (follow shown selection) in
      let same : left_out gaps ≡ left_out (gaps_from part 0 shown) = ap left_out are.are in
      omega (arith, all, same)

  -- one shown index on
  gaps_more : (from : ℕ) (shown : List ℕ) (k d : ℕ) → k < length shown
      → gaps_from part from (drop k shown) ≡ gap_between part from (get_or shown k d) ++ gaps_from part (get_or shown k d + 1) (drop (k + 1) shown)
  gaps_more from [] k d within = absurd (omega (arith, within))
  gaps_more from (x ∷ shown) zero d within = refl
  gaps_more from (x ∷ shown) (suc k) d within =
      let next_index : suc k + 1 ≡ suc (k + 1) = omega arith in
      let same : drop (suc k + 1) (x ∷ shown) ≡ drop (k + 1) shown = ap (λ (n : ℕ). drop n (x ∷ shown)) next_index in
      gaps_more from shown k d (omega (arith, within))
      ∙ ap (λ (is : List ℕ). gap_between part from (get_or shown k d) ++ gaps_from part (get_or shown k d + 1) is) (sym same)

  pub gaps_step : (from k d : ℕ) (shown : List ℕ) (old new all : List Gap) → k < length shown → new ≡ old ++ gap_between part from (get_or shown k d)
      → old ++ gaps_from part from (drop k shown) ≡ all → new ++ gaps_from part (get_or shown k d + 1) (drop (k + 1) shown) ≡ all
  gaps_step from k d shown old new all within added so_far =
      ap (λ (gs : List Gap). gs ++ gaps_from part (get_or shown k d + 1) (drop (k + 1) shown)) added
      ∙ append_assoc old (gap_between part from (get_or shown k d)) (gaps_from part (get_or shown k d + 1) (drop (k + 1) shown))
      ∙ ap (λ (gs : List Gap). old ++ gs) (sym (gaps_more from shown k d within)) ∙ so_far

  -- and after the last one
  pub gaps_last : (from k : ℕ) (shown : List ℕ) (old new all : List Gap) → length shown ≤ k → new ≡ old ++ gap_between part from (length part)
      → old ++ gaps_from part from (drop k shown) ≡ all → new ≡ all
  gaps_last from k shown old new all past added so_far =
      added ∙ ap (λ (gs : List Gap). old ++ gs) (sym (at_drop_all (λ (is : List ℕ). gaps_from part from is) shown k past)) ∙ so_far
