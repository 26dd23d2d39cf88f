-- Where bars end, before and after they reach to their dots.
use Rattle.std.proofs.Common.{ℕ, suc, ◌≡◌, ◌≢◌, ◌<◌, ◌≤◌, ◌+◌, ◌⊎◌, true, false, inl, inr, List, [], ◌∷◌, Option, Some, None, take, map, set, max, nat_le, cond, unwrap_or, get_or}
use Rattle.std.proofs.Common.{length, refl, sym, ap, ◌∙◌, subst, arith}
use Rattle.std.specs.List.{slice_get, Contains, AllZip}
use Rattle.std.specs.List.Sorted.{IsStrictlyIncreasing}
use Rattle.std.proofs.lemmas.Bool.{cases_lt}
use Rattle.std.proofs.lemmas.Bool.Decides.{nat_tests}
use Rattle.std.proofs.lemmas.List.{length-set}
use Rattle.std.proofs.lemmas.Option.{same_Some, slice_get-get_or, slice_get_within}
use Rattle.tag.proofs.Lists.{place_of, get_at, slice_get-set, Contains-slice_get}
use Rattle.tag.proofs.Options.{none_some}
use Rattle.tag.specs.declared.numbers.OpId.{OpId}
use Rattle.recorder.specs.declared.row.Row.{Row}
use Rattle.recorder.specs.declared.part.Call.{Call}
use Rattle.recorder.specs.Parts.{IsSequence}
use Rattle.scenes.specs.declared.columns.TheConstants.{OWN_COLUMNS}
use Rattle.scenes.specs.declared.scene.Bar.{Bar}
use Rattle.scenes.specs.declared.scene.Dot.{Dot}
use Rattle.scenes.specs.Ends.{AreEnded, AreReaching, HasDotAt, HasItsEnd, IsLastMark, Reaches, ReachesTo, first_end, reached}
use Rattle.scenes.specs.Scenes.{AreBarsOf, AreBegunBars, AreDotsOf, IsSelection}
use Rattle.scenes.proofs.Just.{in_longer, in_shorter, last_in_longer}
use Rattle.scenes.proofs.ShownCalls.{IsBarAt, bars_rise, zip_back}

-- the bar of the call at an index, before the dots are known
abbrev pub IsBegunAt : List Call → List Row → List ℕ → ℕ → Bar → Type 0
IsBegunAt part rows lanes i bar = IsBarAt part rows lanes i bar × (bar.ends ≡ first_end (length lanes) bar.answered bar.begins bar.note)

-- pairs of another relation, element by element
pub zip_moved : {A B : Type 0} (R Q : A → B → Type 0) (xs : List A) (ys zs : List B) → AllZip R xs ys → length zs ≡ length ys
    → ((k : ℕ) (x : A) (y z : B) → slice_get ys k ≡ Some y → slice_get zs k ≡ Some z → R x y → Q x z) → AllZip Q xs zs
zip_moved R Q [] [] [] zipped long move = tt
zip_moved R Q [] [] (z ∷ zs) zipped long move = absurd (omega (arith, long))
zip_moved R Q [] (y ∷ ys) zs zipped long move = absurd zipped
zip_moved R Q (x ∷ xs) [] zs zipped long move = absurd zipped
zip_moved R Q (x ∷ xs) (y ∷ ys) [] zipped long move = absurd (omega (arith, long))
zip_moved R Q (x ∷ xs) (y ∷ ys) (z ∷ zs) zipped long move =
    (move 0 x y z refl refl zipped.0, zip_moved R Q xs ys zs zipped.1 (omega (arith, long)) (λ k a b c at_b at_c. move (suc k) a b c at_b at_c))

pub zip_same : {A B : Type 0} (R Q : A → B → Type 0) (xs : List A) (ys : List B) → AllZip R xs ys → ((x : A) (y : B) → R x y → Q x y) → AllZip Q xs ys
zip_same R Q [] [] zipped move = tt
zip_same R Q [] (y ∷ ys) zipped move = absurd zipped
zip_same R Q (x ∷ xs) [] zipped move = absurd zipped
zip_same R Q (x ∷ xs) (y ∷ ys) zipped move = (move x y zipped.0, zip_same R Q xs ys zipped.1 move)

pub begun_rise : (part : List Call) (shown : List ℕ) (rows : List Row) (lanes : List ℕ) (bars : List Bar) → IsSequence part
    → IsSelection part shown → AreBegunBars part shown rows lanes bars → IsStrictlyIncreasing (map (λ (bar : Bar). bar.call.0) bars)
begun_rise part shown rows lanes bars sequence selection are = bars_rise part shown rows lanes bars sequence selection
    (zip_same (IsBegunAt part rows lanes) (IsBarAt part rows lanes) shown bars are (λ i bar is. is.0))

-- ---- one dot more

reached_kept : (answered ends : Option ℕ) (place answer : ℕ) → answered ≡ Some answer → reached answered ends place ≡ ends
reached_kept None ends place answer is = none_some is
reached_kept (Some n) ends place answer is = refl

reached_open : (answered ends : Option ℕ) (place : ℕ) → ends ≡ None → reached answered ends place ≡ None
reached_open None None place is = refl
reached_open None (Some end) place is = none_some (sym is)
reached_open (Some n) ends place is = is

reached_end : (answered ends : Option ℕ) (place end : ℕ) → answered ≡ None → ends ≡ Some end → reached answered ends place ≡ Some (max end place)
reached_end None None place end pending is = none_some is
reached_end None (Some e) place end pending is = ap (λ (n : ℕ). Some (max n place)) (same_Some e end is)
reached_end (Some n) ends place end pending is = none_some (sym pending)

greater : (a b : ℕ) → (max a b ≡ a) ⊎ (max a b ≡ b)
greater a b = elim (cases_lt a b) [ inl h ↦ inr (omega (arith, h)) | inr h ↦ inl (omega (arith, h)) ]

-- the bar with another end
abbrev pub with_end : Bar → Option ℕ → Bar
with_end bar ends = record {
  call = bar.call;
  lane = bar.lane;
  begins = bar.begins;
  ends = ends;
  answered = bar.answered;
  note = bar.note;
}

module _ (dots : List Dot) (k : ℕ) (dot : Dot) (at : slice_get dots k ≡ Some dot) where
  old_dot : (index place : ℕ) → HasDotAt (take k dots) index place → HasDotAt (take (k + 1) dots) index place
  old_dot index place has = (has.0, in_longer dots k dot has.0 at has.1, has.2, has.3)

  new_dot : HasDotAt (take (k + 1) dots) dot.bar dot.place
  new_dot = (dot, last_in_longer dots k dot at, refl, refl)

  either_dot : (index place : ℕ) → HasDotAt (take (k + 1) dots) index place → HasDotAt (take k dots) index place ⊎ ((dot.bar ≡ index) × (dot.place ≡ place))
  either_dot index place has = elim (in_shorter dots k dot has.0 at has.1) [
    | inl old ↦ inl (has.0, old, has.2, has.3)
    | inr new ↦ inr (ap (λ (d : Dot). d.bar) new ∙ has.2, ap (λ (d : Dot). d.place) new ∙ has.3)
  ]

  -- of the dot's bar
  reaches_here : (from : ℕ) (answered ends : Option ℕ) → answered ≡ None → ReachesTo (take k dots) dot.bar from ends
      → ReachesTo (take (k + 1) dots) dot.bar from (reached answered ends dot.place)
  reaches_here from answered ends pending before =
      record {
        end = max before.end dot.place;
        is = reached_end answered ends dot.place before.end pending before.is;
        from_on = omega (arith, before.from_on);
        dots_before = λ place has. elim (either_dot dot.bar place has) [
          | inl old ↦ (let low = before.dots_before place old in omega (arith, low))
          | inr new ↦ omega (arith, new.1)
        ];
        either = elim (greater before.end dot.place) [
          | inl same ↦ elim before.either [
            | inl first ↦ inl (same ∙ first)
            | inr has ↦ inr (subst (HasDotAt (take (k + 1) dots) dot.bar) (sym same) (old_dot dot.bar before.end has))
          ]
          | inr same ↦ inr (subst (HasDotAt (take (k + 1) dots) dot.bar) (sym same) new_dot)
        ];
      }

  -- of another one
  reaches_there : (index from : ℕ) (ends : Option ℕ) → dot.bar ≢ index → ReachesTo (take k dots) index from ends → ReachesTo (take (k + 1) dots) index from ends
  reaches_there index from ends other before =
      record {
        end = before.end;
        is = before.is;
        from_on = before.from_on;
        dots_before = λ place has. elim (either_dot index place has) [
          | inl old ↦ before.dots_before place old
          | inr new ↦ absurd (other new.0)
        ];
        either = elim before.either [ inl first ↦ inl first | inr has ↦ inr (old_dot index before.end has) ];
      }

  abbrev reaching : Bar → Bar
  reaching bar = with_end bar (reached bar.answered bar.ends dot.place)

  bar_here : (was bar : Bar) → Reaches (take k dots) dot.bar was bar → Reaches (take (k + 1) dots) dot.bar was (reaching bar)
  bar_here was bar before = record {
    call = before.call;
    lane = before.lane;
    begins = before.begins;
    answered = before.answered;
    note = before.note;
    kept = λ place answered. reached_kept bar.answered bar.ends dot.place place (before.answered ∙ answered) ∙ before.kept place answered;
    endless = λ none. reached_open bar.answered bar.ends dot.place (before.endless none);
    reaching = λ from pending ends. reaches_here from bar.answered bar.ends (before.answered ∙ pending) (before.reaching from pending ends);
  }

  bar_there : (index : ℕ) (was bar : Bar) → dot.bar ≢ index → Reaches (take k dots) index was bar → Reaches (take (k + 1) dots) index was bar
  bar_there index was bar other before = record {
    call = before.call;
    lane = before.lane;
    begins = before.begins;
    answered = before.answered;
    note = before.note;
    kept = before.kept;
    endless = before.endless;
    reaching = λ from pending ends. reaches_there index from bar.ends other (before.reaching from pending ends);
  }

  pub reaching_more : (old now : List Bar) (bar : Bar) → slice_get now dot.bar ≡ Some bar → AreReaching (take k dots) old now
      → AreReaching (take (k + 1) dots) old (set now dot.bar (reaching bar))
  reaching_more old now bar at_bar before = record {
    all = length-set now dot.bar (reaching bar) ∙ before.all;
    each = λ index was at_was.
        let b = before.each index was at_was in
        elim (slice_get-set now dot.bar index (reaching bar) (slice_get_within now dot.bar bar at_bar)) [
          | inl here ↦
              let there : slice_get now dot.bar ≡ Some b.0 = subst (λ (n : ℕ). slice_get now n ≡ Some b.0) here.0 b.1 in
              let one : b.0 ≡ bar = same_Some b.0 bar (sym there ∙ at_bar) in
              let reaches = subst (λ (n : ℕ). Reaches (take k dots) n was bar) here.0 (subst (Reaches (take k dots) index was) one b.2) in
              let new = bar_here was bar reaches in
              (reaching bar, here.1, subst (λ (n : ℕ). Reaches (take (k + 1) dots) n was (reaching bar)) (sym here.0) new)
          | inr other ↦ (b.0, other.1 ∙ b.1, bar_there index was b.0 (λ same. other.0 (sym same)) b.2)
        ];
  }

  -- the same of a bar that is made anew
  pub reaching_next : (old now : List Bar) (bar : Bar) (ends : Option ℕ) → slice_get now dot.bar ≡ Some bar → ends ≡ reached bar.answered bar.ends dot.place
      → AreReaching (take k dots) old now → AreReaching (take (k + 1) dots) old (set now dot.bar (with_end bar ends))
  reaching_next old now bar ends at_bar is before =
      subst (λ (e : Option ℕ). AreReaching (take (k + 1) dots) old (set now dot.bar (with_end bar e))) (sym is) (reaching_more old now bar at_bar before)

abbrev pub no_dot : Dot
no_dot = record { bar = 0; number = 0; place = 0 }

pub dot_there : (dots : List Dot) (k : ℕ) → k < length dots → slice_get dots k ≡ Some (get_or dots k no_dot)
dot_there dots k less = slice_get-get_or dots k no_dot less

pub dot_within : (dots : List Dot) (old now : List Bar) (k : ℕ) → k < length dots → ((dot : Dot) → Contains dots dot → dot.bar < length old)
    → AreReaching (take k dots) old now → (get_or dots k no_dot).bar < length now
dot_within dots old now k less within are =
    let own = within (get_or dots k no_dot) (Contains-slice_get dots k (get_or dots k no_dot) (dot_there dots k less)) in
    omega (arith, own, are.all)

pub reaching_none : (bars : List Bar) → AreReaching [] bars bars
reaching_none bars = record {
  all = refl;
  each = λ index bar at. (
    bar,
    at,
    record {
      call = refl;
      lane = refl;
      begins = refl;
      answered = refl;
      note = refl;
      kept = λ place answered. refl;
      endless = λ none. none;
      reaching = λ from pending ends. record {
        end = from;
        is = ends;
        from_on = omega arith;
        dots_before = λ place has. absurd (no_dot index place has);
        either = inl refl;
      };
    },
  );
}
  where
    no_dot : (index place : ℕ) → HasDotAt [] index place → ⊥
    no_dot index place has = let at = place_of [] has.0 has.1 in none_some at.1

-- ---- all dots

first_few : (lanes : ℕ) (answered : Option ℕ) (begins : ℕ) (noted : Option ℕ) → lanes ≤ OWN_COLUMNS → answered ≡ None → first_end lanes answered begins noted ≡ None
first_few lanes None begins noted few pending = ap (λ b. cond b None (Some (max begins (unwrap_or noted begins)))) (test lanes few)
  where
    test : (lanes : ℕ) → lanes ≤ OWN_COLUMNS → nat_le lanes OWN_COLUMNS ≡ true
    test lanes few = grind (arith, nat_tests)
first_few lanes (Some n) begins noted few pending = none_some (sym pending)

first_many : (lanes : ℕ) (answered : Option ℕ) (begins : ℕ) (noted : Option ℕ) → OWN_COLUMNS < lanes → answered ≡ None
    → first_end lanes answered begins noted ≡ Some (max begins (unwrap_or noted begins))
first_many lanes None begins noted many pending = ap (λ b. cond b None (Some (max begins (unwrap_or noted begins)))) (test lanes many)
  where
    test : (lanes : ℕ) → OWN_COLUMNS < lanes → nat_le lanes OWN_COLUMNS ≡ false
    test lanes many = grind (arith, nat_tests)
first_many lanes (Some n) begins noted many pending = none_some (sym pending)

first_answered : (lanes : ℕ) (answered : Option ℕ) (begins : ℕ) (noted : Option ℕ) (place : ℕ) → answered ≡ Some place
    → first_end lanes answered begins noted ≡ Some place
first_answered lanes None begins noted place is = none_some is
first_answered lanes (Some n) begins noted place is = is

-- the later of a begin and a note is one of them, and none of them comes after it
note_up_to : (begins : ℕ) (note : Option ℕ) (place : ℕ) → note ≡ Some place → place ≤ max begins (unwrap_or note begins)
note_up_to begins None place is = none_some is
note_up_to begins (Some n) place is = let same = same_Some n place is in omega (arith, same)

one_of_them : (begins : ℕ) (note : Option ℕ) → (begins ≡ max begins (unwrap_or note begins)) ⊎ (note ≡ Some (max begins (unwrap_or note begins)))
one_of_them begins None = inl (omega arith)
one_of_them begins (Some n) = elim (greater begins n) [ inl same ↦ inl (sym same) | inr same ↦ inr (ap Some (sym same)) ]

module _ (dots : List Dot) (index lanes : ℕ) (was bar : Bar) (first : was.ends ≡ first_end lanes was.answered was.begins was.note)
    (reaches : Reaches dots index was bar) where
  abbrev from : ℕ
  from = max was.begins (unwrap_or was.note was.begins)

  last_mark : (to : ReachesTo dots index from bar.ends) → IsLastMark dots index bar to.end
  last_mark to = record {
    mark = elim to.either [
      | inl same ↦ elim (one_of_them was.begins was.note) [
        | inl begins ↦ inl (reaches.begins ∙ begins ∙ sym same)
        | inr note ↦ inr (inl (reaches.note ∙ note ∙ ap Some (sym same)))
      ]
      | inr has ↦ inr (inr has)
    ];
    last = λ other mark. elim mark [
      | inl begins ↦ omega (arith, begins, reaches.begins, to.from_on)
      | inr more ↦ elim more [
        | inl note ↦ (let low = note_up_to was.begins was.note other (sym reaches.note ∙ note) in omega (arith, low, to.from_on))
        | inr has ↦ to.dots_before other has
      ]
    ];
  }

  ends_well : HasItsEnd dots index lanes bar
  ends_well = record {
    answered = λ place answered.
        let before : was.answered ≡ Some place = sym reaches.answered ∙ answered in
        reaches.kept place before ∙ first ∙ first_answered lanes was.answered was.begins was.note place before;
    endless = λ few pending. reaches.endless (first ∙ first_few lanes was.answered was.begins was.note few (sym reaches.answered ∙ pending));
    short = λ many pending.
        let before : was.answered ≡ None = sym reaches.answered ∙ pending in
        let to = reaches.reaching from before (first ∙ first_many lanes was.answered was.begins was.note many before) in
        (to.end, to.is, last_mark to);
  }

module _ (part : List Call) (shown : List ℕ) (rows : List Row) (lanes : List ℕ) (old bars : List Bar) (dots : List Dot)
    (are : AreBegunBars part shown rows lanes old) (reaching_are : AreReaching dots old bars) where
  -- the bar was there before
  was_there : (index : ℕ) (bar : Bar) → slice_get bars index ≡ Some bar → (was : Bar) × (slice_get old index ≡ Some was) × Reaches dots index was bar
  was_there index bar at =
      let w = get_at old index (omega (arith, slice_get_within bars index bar at, reaching_are.all)) in
      let now = reaching_are.each index w.0 w.1 in
      (w.0, w.1, subst (Reaches dots index w.0) (same_Some now.0 bar (sym now.1 ∙ at)) now.2)

  pub bars_are : AreBarsOf part shown rows lanes bars
  bars_are = zip_moved (IsBegunAt part rows lanes) (IsBarAt part rows lanes) shown old bars are reaching_are.all
      (λ k i was bar at_was at_bar begun.
      let w = was_there k bar at_bar in
      let same : w.0 ≡ was = same_Some w.0 was (sym w.1 ∙ at_was) in
      let r : Reaches dots k was bar = subst (λ (b : Bar). Reaches dots k b bar) same w.2 in
      let is = begun.0.2 in (
        begun.0.0,
        begun.0.1,
        record {
          call_is = r.call ∙ is.call_is;
          lane = subst (λ (l : ℕ). slice_get lanes l ≡ Some begun.0.0.client) (sym r.lane) is.lane;
          begins = r.begins ∙ is.begins;
          answered = r.answered ∙ is.answered;
          note = r.note ∙ is.note;
        },
      ))

  pub bars_ended : AreEnded dots (length lanes) bars
  bars_ended = λ index bar at.
      let w = was_there index bar at in
      let begun = zip_back (IsBegunAt part rows lanes) shown old index w.0 are w.1 in
      ends_well dots index (length lanes) w.0 bar begun.2.1 w.2

  pub dots_are : (order : List OpId) (points : List ℕ) → AreDotsOf order points old dots → AreDotsOf order points bars dots
  dots_are order points before = record {
    rising = before.rising;
    exactly = λ dot. (
      λ there.
          let has = (before.exactly dot).0 there in
          let now = reaching_are.each dot.bar has.0 has.1 in
          (now.0, now.1, has.2 ∙ ap Some (sym now.2.call), has.3),
      λ has.
          let w = was_there dot.bar has.0 has.1 in
          (before.exactly dot).1 (w.0, w.1, has.2 ∙ ap Some w.2.call, has.3),
    );
  }
