-- Lanes are put into columns, each into the first that is free where its first bar begins.
use Rattle.std.proofs.Common.{ℕ, ◌≡◌, ◌≢◌, ◌<◌, ◌≤◌, ◌+◌, ◌⊎◌, inl, inr, List, [], ◌∷◌, ◌++◌, Option, Some, None, get_or, length, map, set, take}
use Rattle.std.proofs.Common.{refl, sym, ap, ◌∙◌, subst, arith}
use Rattle.std.specs.List.{slice_get}
use Rattle.std.proofs.lemmas.Bool.{cases_eq, cases_lt}
use Rattle.std.proofs.lemmas.List.{length-map, length-set}
use Rattle.std.proofs.lemmas.Option.{same_Some, slice_get-get_or, slice_get_past, slice_get_within}
use Rattle.tag.proofs.Lists.{place_of, get_at, slice_get-push_left, slice_get-push_last, slice_get-set, set_cases, slice_get-map_at, slice_get-map_back, Contains-slice_get}
use Rattle.tag.proofs.Options.{none_some}
use Rattle.scenes.specs.declared.columns.TheConstants.{OWN_COLUMNS}
use Rattle.scenes.specs.declared.scene.Bar.{Bar}
use Rattle.scenes.specs.Columns.{LastsTo, BeginsAt, IsWithin, IsFirstFit, IsInLane}
use Rattle.scenes.specs.FirstFit.{AreInLanes, IsUpTo, AreLastEnds, IsFirstFree, HasAt, Stays, Takes, AreCountedColumns}
use Rattle.scenes.proofs.Just.{in_shorter, in_longer, last_in_longer}
use Rattle.scenes.proofs.Rising.{rises_from}

-- ---- ends

pub up_to_self : (end : Option ℕ) → IsUpTo end end
up_to_self end n is = (n, is, omega arith)

up_to_trans : (a b c : Option ℕ) → IsUpTo a b → IsUpTo b c → IsUpTo a c
up_to_trans a b c low high n is =
    let m = high n is in
    let l = low m.0 m.1 in
    (l.0, l.1, omega (arith, l.2, m.2))

-- what isn't over before a place is no end before it
pub lasts_past : (ends until : Option ℕ) (n place : ℕ) → IsUpTo ends until → until ≡ Some n → LastsTo ends place → place ≤ n
lasts_past ends until n place up is lasts =
    let m = up n is in
    let last = lasts m.0 m.1 in
    omega (arith, last, m.2)

pub lasts_from_zero : (ends : Option ℕ) (place : ℕ) → place ≤ 0 → LastsTo ends place
lasts_from_zero ends place low end is = omega (arith, low)

-- before any bar
pub no_last_ends : (lanes : ℕ) (ends : List (Option ℕ)) → length ends ≡ lanes → ((lane : ℕ) (end : Option ℕ) → slice_get ends lane ≡ Some end → end ≡ Some 0)
    → AreLastEnds lanes [] ends
no_last_ends lanes ends all zero = record {
  all = all;
  last = λ bar end there. absurd (let h = there.1 in omega arith);
  reached = λ lane end at. inr (zero lane end at);
}

-- one bar more
pub last_ends_more : (lanes : ℕ) (bars : List Bar) (k : ℕ) (bar : Bar) (ends : List (Option ℕ)) (own end : Option ℕ) → slice_get bars k ≡ Some bar → bar.lane < length ends
    → slice_get ends bar.lane ≡ Some own → IsUpTo own end → IsUpTo bar.ends end → (end ≡ own) ⊎ (end ≡ bar.ends)
    → AreLastEnds lanes (take k bars) ends → AreLastEnds lanes (take (k + 1) bars) (set ends bar.lane end)
last_ends_more lanes bars k bar ends own end at within at_own from_own from_bar either before = record {
  all = length-set ends bar.lane end ∙ before.all;
  last = λ other last there at_other. elim (set_cases ends bar.lane end other.lane last at_other) [
    | inl here ↦ subst (λ (e : Option ℕ). IsUpTo other.ends e) here.1
        (elim (in_shorter bars k bar other at there) [
          | inl old ↦ up_to_trans other.ends own end (before.last other own old (subst (λ (l : ℕ). slice_get ends l ≡ Some own) (sym here.0) at_own)) from_own
          | inr new ↦ subst (λ (b : Bar). IsUpTo b.ends end) new from_bar
        ])
    | inr apart ↦ elim (in_shorter bars k bar other at there) [
      | inl old ↦ before.last other last old apart.1
      | inr new ↦ absurd (apart.0 (sym (ap (λ (b : Bar). b.lane) new)))
    ]
  ];
  reached = λ lane last at_lane. elim (set_cases ends bar.lane end lane last at_lane) [
    | inl here ↦ elim either [
      | inl same ↦ elim (before.reached bar.lane own at_own) [
        | inl w ↦ inl (w.0, (in_longer bars k bar w.0 at w.1.0, w.1.1 ∙ sym here.0), w.2 ∙ sym same ∙ here.1)
        | inr zero ↦ inr (sym here.1 ∙ same ∙ zero)
      ]
      | inr same ↦ inl (bar, (last_in_longer bars k bar at, sym here.0), sym same ∙ here.1)
    ]
    | inr apart ↦ elim (before.reached lane last apart.1) [
      | inl w ↦ inl (w.0, (in_longer bars k bar w.0 at w.1.0, w.1.1), w.2)
      | inr zero ↦ inr zero
    ]
  ];
}

abbrev pub no_bar : Bar
no_bar = record { call = record { 0 = 0 }; lane = 0; begins = 0; ends = None; answered = None; note = None }

pub bar_there : (bars : List Bar) (k : ℕ) → k < length bars → slice_get bars k ≡ Some (get_or bars k no_bar)
bar_there bars k less = slice_get-get_or bars k no_bar less

pub bar_within : (lanes : ℕ) (bars : List Bar) → AreInLanes lanes bars → (k : ℕ) → k < length bars → (get_or bars k no_bar).lane < lanes
bar_within lanes bars are k less = are.within (get_or bars k no_bar) (Contains-slice_get bars k (get_or bars k no_bar) (bar_there bars k less))

-- ---- one element written

pub written : {X : Type 0} (xs : List X) (i : ℕ) (x : X) → i < length xs → HasAt xs (set xs i x) i x
written xs i x within = record {
  here = elim (slice_get-set xs i i x within) [ inl h ↦ h.1 | inr h ↦ absurd (h.0 refl) ];
  others = λ k other. elim (slice_get-set xs i k x within) [ inl h ↦ absurd (other h.0) | inr h ↦ h.1 ];
}

pub pushed : {X : Type 0} (xs now : List X) (i : ℕ) (x : X) → i ≤ length xs → length xs ≤ i → now ≡ xs ++ x ∷ [] → HasAt xs now i x
pushed {X} xs now i x low high is =
    let same : i ≡ length xs = omega arith in
    subst (λ (l : List X). HasAt xs l i x) (sym is) (record {
      here = subst (λ (k : ℕ). slice_get (xs ++ x ∷ []) k ≡ Some x) (sym same) (slice_get-push_last xs x);
      others = λ k other. elim (cases_lt k (length xs)) [
        | inl h ↦ (let y = get_at xs k h in slice_get-push_left xs x k y.0 y.1 ∙ sym y.1)
        | inr h ↦ (let past : length xs < k = above same other h in slice_get_past (xs ++ x ∷ []) k (omega (arith, past, length-push xs x)) ∙ sym (slice_get_past xs k h))
      ];
    })
  where
    above : {i n k : ℕ} → i ≡ n → k ≢ i → n ≤ k → n < k
    above {i} {n} {k} same other le = elim (cases_lt n k) [ inl h ↦ h | inr h ↦ absurd (other (omega (arith, same, le, h))) ]

    length-push : {X : Type 0} (xs : List X) (x : X) → length (xs ++ x ∷ []) ≡ length xs + 1
    length-push [] x = refl
    length-push (y ∷ ys) x = let rest = length-push ys x in omega (arith, rest)

-- ---- the lanes of the first bars stand in columns

module _ (bars : List Bar) (ends : List (Option ℕ)) where
  -- the last bar of a lane ends before each bar of the other begins
  abbrev pub LaneBefore : ℕ → ℕ → Type 0
  LaneBefore one other = (n : ℕ) × (slice_get ends one ≡ Some (Some n)) × ((bar : Bar) → IsInLane bars other bar → n < bar.begins)

  -- the lanes of the first k bars stand in columns, which are taken until these ends
  pub record Fitted (k : ℕ) (columns taken : List (Option ℕ)) : Type 0 where
    pub all : length columns ≡ length ends
    pub seated : (i : ℕ) (bar : Bar) → i < k → slice_get bars i ≡ Some bar → (c : ℕ) × (slice_get columns bar.lane ≡ Some (Some c))
    pub begun : (lane c : ℕ) → slice_get columns lane ≡ Some (Some c) → (i : ℕ) × (bar : Bar) × (i < k) × (slice_get bars i ≡ Some bar) × (bar.lane ≡ lane)
    pub up : (lane c : ℕ) (end : Option ℕ) → slice_get columns lane ≡ Some (Some c) → slice_get ends lane ≡ Some end
        → (until : Option ℕ) × (slice_get taken c ≡ Some until) × IsUpTo end until
    pub reached : (c : ℕ) (until : Option ℕ) → slice_get taken c ≡ Some until
        → (lane : ℕ) × (slice_get columns lane ≡ Some (Some c)) × (slice_get ends lane ≡ Some until)
    pub apart : (one other c : ℕ) → slice_get columns one ≡ Some (Some c) → slice_get columns other ≡ Some (Some c)
        → (one ≡ other) ⊎ (LaneBefore one other ⊎ LaneBefore other one)
    pub full : (lane c place before : ℕ) → slice_get columns lane ≡ Some (Some c) → BeginsAt bars lane place → before < c
        → (other : ℕ) × (slice_get columns other ≡ Some (Some before)) × IsWithin bars other place

  pub none_fitted : (columns : List (Option ℕ)) → length columns ≡ length ends → ((lane : ℕ) (column : Option ℕ) → slice_get columns lane ≡ Some column → column ≡ None)
      → Fitted 0 columns []
  none_fitted columns all none =
      let never = λ (lane c : ℕ) (at : slice_get columns lane ≡ Some (Some c)). none_some (sym (none lane (Some c) at)) in
      record {
        all = all;
        seated = λ i bar less. absurd (omega (arith, less));
        begun = λ lane c at. absurd (never lane c at);
        up = λ lane c end at. absurd (never lane c at);
        reached = λ c until at. none_some at;
        apart = λ one other c at. absurd (never one c at);
        full = λ lane c place before at. absurd (never lane c at);
      }

  -- the lane stands in a column already
  pub fitted_same : (k c : ℕ) (bar : Bar) (columns taken : List (Option ℕ)) → slice_get bars k ≡ Some bar → slice_get columns bar.lane ≡ Some (Some c)
      → Fitted k columns taken → Fitted (k + 1) columns taken
  fitted_same k c bar columns taken at there before = record {
    all = before.all;
    seated = λ i other less at_i. elim (cases_lt i k) [
      | inl h ↦ before.seated i other h at_i
      | inr h ↦
          let same : k ≡ i = omega (arith, less, h) in
          let one : bar ≡ other = same_Some bar other (sym at ∙ subst (λ (n : ℕ). slice_get bars n ≡ Some other) (sym same) at_i) in
          (c, subst (λ (b : Bar). slice_get columns b.lane ≡ Some (Some c)) one there)
    ];
    begun = λ lane d at_lane. let w = before.begun lane d at_lane in (w.0, w.1, omega (arith, w.2), w.3, w.4);
    up = before.up;
    reached = before.reached;
    apart = before.apart;
    full = before.full;
  }

  module _ (lanes : AreInLanes (length ends) bars) (are : AreLastEnds (length ends) bars ends) where
    -- the bars of a lane that has no column yet begin at the bar or after it
    not_earlier : (k : ℕ) (bar other : Bar) (columns taken : List (Option ℕ)) → slice_get bars k ≡ Some bar → slice_get columns bar.lane ≡ Some None
        → Fitted k columns taken → IsInLane bars bar.lane other → bar.begins ≤ other.begins
    not_earlier k bar other columns taken at none before own =
        let i = place_of bars other own.0 in
        elim (cases_lt i.0 k) [
          | inl early ↦
              let w = before.seated i.0 other early i.1 in
              let here : slice_get columns bar.lane ≡ Some (Some w.0) = subst (λ (l : ℕ). slice_get columns l ≡ Some (Some w.0)) own.1 w.1 in
              none_some (same_Some None (Some w.0) (sym none ∙ here))
          | inr late ↦ elim (cases_lt k i.0) [
            | inl h ↦ (let up : bar.begins < other.begins = rises_from (λ (b : Bar). b.begins) bars lanes.rising k i.0 bar other h at i.1 in omega arith)
            | inr h ↦
                let same : k ≡ i.0 = omega (arith, late, h) in
                let one : bar ≡ other = same_Some bar other (sym at ∙ subst (λ (n : ℕ). slice_get bars n ≡ Some other) (sym same) i.1) in
                let begins : bar.begins ≡ other.begins = ap (λ (b : Bar). b.begins) one in
                omega arith
          ]
        ]

    -- a place lies within a lane whose column isn't free there
    is_within : (k place : ℕ) (bar : Bar) (lane c : ℕ) (until : Option ℕ) (columns taken : List (Option ℕ)) → slice_get bars k ≡ Some bar → bar.begins ≡ place
        → Fitted k columns taken
        → slice_get columns lane ≡ Some (Some c) → slice_get ends lane ≡ Some until → LastsTo until place → IsWithin bars lane place
    is_within k place bar lane c until columns taken at is before there at_end lasts =
        let w = before.begun lane c there in
        let up : w.1.begins < bar.begins = rises_from (λ (b : Bar). b.begins) bars lanes.rising w.0 k w.1 bar w.2 w.3 at in
        let own : IsInLane bars lane w.1 = (Contains-slice_get bars w.0 w.1 w.3, w.4) in
        elim (are.reached lane until at_end) [
          | inl last ↦ record {
            begun = w.1;
            own = own;
            by_then = omega (arith, up, is);
            lasting = last.0;
            own_too = last.1;
            to_there = subst (λ (e : Option ℕ). LastsTo e place) (sym last.2) lasts;
          }
          | inr zero ↦ record {
            begun = w.1;
            own = own;
            by_then = omega (arith, up, is);
            lasting = w.1;
            own_too = own;
            to_there = lasts_from_zero w.1.ends place (lasts 0 zero);
          }
        ]

    -- the lane of the bar is put into the first free column
    module _ (k column : ℕ) (bar : Bar) (end : Option ℕ) (columns now taken then : List (Option ℕ)) (at : slice_get bars k ≡ Some bar)
        (none : slice_get columns bar.lane ≡ Some None) (at_end : slice_get ends bar.lane ≡ Some end) (free : IsFirstFree taken bar.begins column)
        (put : HasAt columns now bar.lane (Some column)) (took : HasAt taken then column end) (before : Fitted k columns taken) where
      -- what stands in a column is the lane, or stood there before
      was : (lane c : ℕ) → slice_get now lane ≡ Some (Some c) → ((lane ≡ bar.lane) × (column ≡ c)) ⊎ ((lane ≢ bar.lane) × (slice_get columns lane ≡ Some (Some c)))
      was lane c there = elim (cases_eq lane bar.lane) [
        | inl same ↦ inl (same, same_Some column c (same_Some (Some column) (Some c) (sym put.here ∙ subst (λ (l : ℕ). slice_get now l ≡ Some (Some c)) same there)))
        | inr other ↦ inr (other, sym (put.others lane other) ∙ there)
      ]

      other_lane : (lane c : ℕ) → slice_get columns lane ≡ Some (Some c) → lane ≢ bar.lane
      other_lane lane c there same =
          none_some (same_Some None (Some c) (sym none ∙ subst (λ (l : ℕ). slice_get columns l ≡ Some (Some c)) same there))

      stays : (lane c : ℕ) → slice_get columns lane ≡ Some (Some c) → slice_get now lane ≡ Some (Some c)
      stays lane c there = put.others lane (other_lane lane c there) ∙ there

      -- the last end of the bar's lane isn't before the bar
      not_over : (n : ℕ) → end ≡ Some n → bar.begins ≤ n
      not_over n is =
          let there = Contains-slice_get bars k bar at in
          lasts_past bar.ends end n bar.begins (are.last bar end there at_end) is (lanes.forward bar there)

      -- what stood in the column has ended before the bar begins
      gone : (lane : ℕ) → slice_get columns lane ≡ Some (Some column) → (n : ℕ) × (slice_get ends lane ≡ Some (Some n)) × (n < bar.begins)
      gone lane there =
          let within : lane < length ends = omega (arith, slice_get_within columns lane (Some column) there, before.all) in
          let own = get_at ends lane within in
          let u = before.up lane column own.0 there own.1 in
          let f = free.free u.0 u.1 in
          let m = u.2 f.0 f.1 in
          (m.0, own.1 ∙ ap Some m.1, omega (arith, m.2, f.2))

      before_bar : (lane : ℕ) → slice_get columns lane ≡ Some (Some column) → LaneBefore lane bar.lane
      before_bar lane there =
          let g = gone lane there in
          (g.0, g.1, λ other own. let late = not_earlier k bar other columns taken at none before own in omega (arith, late, g.2))

      up_now : (lane c : ℕ) (last : Option ℕ) → slice_get now lane ≡ Some (Some c) → slice_get ends lane ≡ Some last
          → (until : Option ℕ) × (slice_get then c ≡ Some until) × IsUpTo last until
      up_now lane c last there at_last = elim (was lane c there) [
        | inl new ↦
            let same : end ≡ last = same_Some end last (sym at_end ∙ subst (λ (l : ℕ). slice_get ends l ≡ Some last) new.0 at_last) in
            (end, subst (λ (n : ℕ). slice_get then n ≡ Some end) new.1 took.here, subst (λ (e : Option ℕ). IsUpTo e end) same (up_to_self end))
        | inr old ↦ elim (cases_eq c column) [
          | inl same ↦
              let here = subst (λ (n : ℕ). slice_get columns lane ≡ Some (Some n)) same old.1 in
              let g = gone lane here in
              let ended : last ≡ Some g.0 = same_Some last (Some g.0) (sym at_last ∙ g.1) in (
                end,
                subst (λ (n : ℕ). slice_get then n ≡ Some end) (sym same) took.here,
                λ n is. (g.0, ended, let low = not_over n is in omega (arith, low, g.2)),
              )
          | inr other ↦ (let u = before.up lane c last old.1 at_last in (u.0, took.others c other ∙ u.1, u.2))
        ]
      ]

      reached_now : (c : ℕ) (until : Option ℕ) → slice_get then c ≡ Some until
          → (lane : ℕ) × (slice_get now lane ≡ Some (Some c)) × (slice_get ends lane ≡ Some until)
      reached_now c until there = elim (cases_eq c column) [
        | inl same ↦
            let is : end ≡ until = same_Some end until (sym took.here ∙ subst (λ (n : ℕ). slice_get then n ≡ Some until) same there) in
            (bar.lane, subst (λ (n : ℕ). slice_get now bar.lane ≡ Some (Some n)) (sym same) put.here, at_end ∙ ap Some is)
        | inr other ↦ (let w = before.reached c until (sym (took.others c other) ∙ there) in (w.0, stays w.0 c w.1, w.2))
      ]

      apart_now : (one other c : ℕ) → slice_get now one ≡ Some (Some c) → slice_get now other ≡ Some (Some c)
          → (one ≡ other) ⊎ (LaneBefore one other ⊎ LaneBefore other one)
      apart_now one other c there_one there_other = elim (was one c there_one) [
        | inl new ↦ elim (was other c there_other) [
          | inl too ↦ inl (new.0 ∙ sym too.0)
          | inr old ↦ inr (inr (subst (LaneBefore other) (sym new.0)
              (before_bar other (subst (λ (n : ℕ). slice_get columns other ≡ Some (Some n)) (sym new.1) old.1))))
        ]
        | inr old ↦ elim (was other c there_other) [
          | inl new ↦ inr (inl (subst (LaneBefore one) (sym new.0)
              (before_bar one (subst (λ (n : ℕ). slice_get columns one ≡ Some (Some n)) (sym new.1) old.1))))
          | inr too ↦ before.apart one other c old.1 too.1
        ]
      ]

      full_now : (lane c place earlier : ℕ) → slice_get now lane ≡ Some (Some c) → BeginsAt bars lane place → earlier < c
          → (other : ℕ) × (slice_get now other ≡ Some (Some earlier)) × IsWithin bars other place
      full_now lane c place earlier there begins less = elim (was lane c there) [
        | inl new ↦
            let own = subst (λ (l : ℕ). IsInLane bars l begins.bar) new.0 begins.own in
            let low = not_earlier k bar begins.bar columns taken at none before own in
            let high = begins.first bar (Contains-slice_get bars k bar at, sym new.0) in
            let same : bar.begins ≡ place = omega (arith, low, high, begins.here) in
            let among : earlier < length taken = omega (arith, free.among, less, new.1) in
            let until = get_at taken earlier among in
            let lasts = free.first earlier until.0 (omega (arith, less, new.1)) until.1 in
            let w = before.reached earlier until.0 until.1 in (
              w.0,
              stays w.0 earlier w.1,
              is_within k place bar w.0 earlier until.0 columns taken at same before w.1 w.2 (subst (LastsTo until.0) same lasts),
            )
        | inr old ↦ (let w = before.full lane c place earlier old.1 begins less in (w.0, stays w.0 earlier w.1, w.2))
      ]

      pub fitted_more : length now ≡ length columns → Fitted (k + 1) now then
      fitted_more long = record {
        all = long ∙ before.all;
        seated = λ i other less at_i. elim (cases_lt i k) [
          | inl h ↦ (let w = before.seated i other h at_i in (w.0, stays other.lane w.0 w.1))
          | inr h ↦
              let same : k ≡ i = omega (arith, less, h) in
              let one : bar ≡ other = same_Some bar other (sym at ∙ subst (λ (n : ℕ). slice_get bars n ≡ Some other) (sym same) at_i) in
              (column, subst (λ (b : Bar). slice_get now b.lane ≡ Some (Some column)) one put.here)
        ];
        begun = λ lane c there. elim (was lane c there) [
          | inl new ↦ (k, bar, omega arith, at, sym new.0)
          | inr old ↦ (let w = before.begun lane c old.1 in (w.0, w.1, omega (arith, w.2), w.3, w.4))
        ];
        up = up_now;
        reached = reached_now;
        apart = apart_now;
        full = full_now;
      }

    -- one bar more
    pub fitted_next : (k : ℕ) (bar : Bar) (end : Option ℕ) (columns now taken then : List (Option ℕ)) → slice_get bars k ≡ Some bar → slice_get ends bar.lane ≡ Some end
        → length now ≡ length columns → Stays bar.lane columns now taken then ⊎ Takes bar.lane bar.begins end columns now taken then
        → Fitted k columns taken → Fitted (k + 1) now then
    fitted_next k bar end columns now taken then at at_end long (inl stays) before =
        subst (λ (l : List (Option ℕ)). Fitted (k + 1) l then) (sym stays.same)
        (subst (Fitted (k + 1) columns) (sym stays.free) (fitted_same k stays.column bar columns taken at stays.there before))
    fitted_next k bar end columns now taken then at at_end long (inr takes) before =
        fitted_more k takes.column bar end columns now taken then at takes.none at_end takes.free takes.put takes.took before long

    -- ---- all of them

    -- each lane stands in a column
    pub each_stands : (k : ℕ) (columns taken : List (Option ℕ)) → length bars ≤ k → Fitted k columns taken
        → (lane : ℕ) (column : Option ℕ) → slice_get columns lane ≡ Some column → (c : ℕ) × (column ≡ Some c)
    each_stands k columns taken past done lane column at =
        let within : lane < length ends = omega (arith, slice_get_within columns lane column at, done.all) in
        let w = lanes.each lane within in
        let i = place_of bars w.0 w.1.0 in
        let c = done.seated i.0 w.0 (omega (arith, past, slice_get_within bars i.0 w.0 i.1)) i.1 in
        let here : slice_get columns lane ≡ Some (Some c.0) = subst (λ (l : ℕ). slice_get columns l ≡ Some (Some c.0)) w.1.1 c.1 in
        let same : Some column ≡ Some (Some c.0) = sym at ∙ here in
        (c.0, same_Some column (Some c.0) same)

    module _ (k : ℕ) (columns taken : List (Option ℕ)) (done : Fitted k columns taken) (of_lanes : List ℕ) (is : map Some of_lanes ≡ columns) where
      there : (lane c : ℕ) → slice_get of_lanes lane ≡ Some c → slice_get columns lane ≡ Some (Some c)
      there lane c at = subst (λ (l : List (Option ℕ)). slice_get l lane ≡ Some (Some c)) is (slice_get-map_at Some of_lanes lane c at)

      back : (lane c : ℕ) → slice_get columns lane ≡ Some (Some c) → slice_get of_lanes lane ≡ Some c
      back lane c at =
          let w = slice_get-map_back Some of_lanes lane (Some c) (subst (λ (l : List (Option ℕ)). slice_get l lane ≡ Some (Some c)) (sym is) at) in
          w.1 ∙ w.2

      -- no place lies within a lane and one that begins after it
      never_both : (one other place : ℕ) → LaneBefore one other → IsWithin bars one place → IsWithin bars other place → ⊥
      never_both one other place order in_one in_other =
          let late = order.2 in_other.begun in_other.own in
          let at : slice_get ends in_one.lasting.lane ≡ Some (Some order.0) = subst (λ (l : ℕ). slice_get ends l ≡ Some (Some order.0)) (sym in_one.own_too.1) order.1 in
          let low = lasts_past in_one.lasting.ends (Some order.0) order.0 place (are.last in_one.lasting (Some order.0) in_one.own_too.0 at) refl in_one.to_there in
          omega (arith, late, low, in_other.by_then)

      fits : IsFirstFit bars of_lanes
      fits = record {
        apart = λ one other column place at_one at_other in_one in_other. elim (done.apart one other column (there one column at_one) (there other column at_other)) [
          | inl same ↦ same
          | inr orders ↦ elim orders [
            | inl order ↦ absurd (never_both one other place order in_one in_other)
            | inr order ↦ absurd (never_both other one place order in_other in_one)
          ]
        ];
        full = λ lane column place earlier at begins less.
            let w = done.full lane column place earlier (there lane column at) begins less in
            (w.0, back w.0 earlier w.1, w.2);
      }

      pub all_fitted : OWN_COLUMNS < length ends → (count : ℕ) → count ≡ length taken → AreCountedColumns bars (length ends) of_lanes count
      all_fitted many count is_count = record {
        columns_are = record {
          each = sym (length-map of_lanes Some) ∙ ap length is ∙ done.all;
          few = λ few. absurd (omega (arith, few, many));
          many = λ h. fits;
        };
        each = λ number less.
            let until = get_at taken number (omega (arith, less, is_count)) in
            let w = done.reached number until.0 until.1 in
            (w.0, back w.0 number w.1);
        within = λ lane number at.
            let column = there lane number at in
            let inside : lane < length ends = omega (arith, slice_get_within columns lane (Some number) column, done.all) in
            let end = get_at ends lane inside in
            let u = done.up lane number end.0 column end.1 in
            omega (arith, slice_get_within taken number u.0 u.1, is_count);
      }
