-- No two bars of one column are at one place.
use Rattle.std.proofs.Common.{ℕ, ◌≡◌, ◌<◌, ◌≤◌, ◌⊎◌, inl, inr, List, Option, Some, None, length, take, refl, sym, ap, ◌∙◌, subst, arith}
use Rattle.std.specs.List.{slice_get, Contains}
use Rattle.std.specs.Option.{option_map}
use Rattle.std.proofs.lemmas.Bool.{cases_eq, cases_lt}
use Rattle.std.proofs.lemmas.Option.{same_Some, slice_get_within}
use Rattle.tag.proofs.Lists.{place_of, get_at, in_front, slice_get-take, Contains-slice_get}
use Rattle.tag.proofs.Options.{none_some}
use Rattle.tag.specs.declared.numbers.OpId.{OpId}
use Rattle.recorder.specs.Histories.{IsWellFormed, HasResponse}
use Rattle.recorder.specs.Parts.{IsSequence}
use Rattle.recorder.specs.Records.{IsRecorded}
use Rattle.recorder.specs.declared.part.Call.{Call}
use Rattle.recorder.specs.declared.part.Response.{Response}
use Rattle.recorder.specs.declared.row.Row.{Row}
use Rattle.recorder.specs.declared.row.Row.TheVariants.{Invoke, Respond}
use Rattle.scenes.specs.declared.columns.TheConstants.{OWN_COLUMNS}
use Rattle.scenes.specs.declared.scene.Bar.{Bar}
use Rattle.scenes.specs.declared.scene.Scene.{Scene}
use Rattle.scenes.specs.Columns.{EndsBefore, LastsTo, ShareColumn, StandApart}
use Rattle.scenes.specs.Scenes.{AreRecorded, IsSceneOf, IsSelection}
use Rattle.scenes.proofs.InLanes.{forward}
use Rattle.scenes.proofs.ShownCalls.{IsBarAt, zip_back}

-- what has that end is over before the place, or lasts to there
ends_or_lasts : (ends : Option ℕ) (place : ℕ) → ((n : ℕ) × (ends ≡ Some n) × (n < place)) ⊎ LastsTo ends place
ends_or_lasts None place = inr (λ end is. none_some is)
ends_or_lasts (Some n) place = elim (cases_lt n place) [
  | inl h ↦ inl (n, refl, h)
  | inr h ↦ inr (λ end is. omega (arith, h, same_Some n end is))
]

either_way : (bar other : Bar) → StandApart bar other → StandApart other bar
either_way bar other (inl h) = inr h
either_way bar other (inr h) = inl h

-- a client begins a call after its call before was answered
module _ (rows : List Row) (well : IsWellFormed rows) (a b : Call) (key other : List ℕ) (has_a : IsRecorded rows key a) (has_b : IsRecorded rows other b)
    (one : a.client ≡ b.client) (later : a.invoked < b.invoked) where
  abbrev early : List Row
  early = take b.invoked rows

  begun : Contains early (Invoke a.op b.client key a.action)
  begun =
      let at : slice_get early a.invoked ≡ Some (Invoke a.op a.client key a.action) = slice_get-take rows b.invoked a.invoked later ∙ has_a.begun in
      subst (λ (client : ℕ). Contains early (Invoke a.op client key a.action)) one (Contains-slice_get early a.invoked (Invoke a.op a.client key a.action) at)

  unanswered : LastsTo (option_map (λ (r : Response). r.place) a.response) b.invoked → HasResponse early a.op → ⊥
  unanswered lasts has =
      let place = place_of early (Respond a.op has.0) has.1 in
      let there = in_front rows b.invoked place.0 (Respond a.op has.0) place.1 in
      let is = (has_a.answered place.0 has.0).1 there.1 in
      let late = lasts place.0 (ap (option_map (λ (r : Response). r.place)) is) in
      omega (arith, late, there.0)

  pub one_at_a_time : (n : ℕ) × (option_map (λ (r : Response). r.place) a.response ≡ Some n) × (n < b.invoked)
  one_at_a_time = elim (ends_or_lasts (option_map (λ (r : Response). r.place) a.response) b.invoked) [
    | inl h ↦ h
    | inr lasts ↦ absurd
        ((well b.invoked (Invoke b.op b.client other b.action) has_b.begun).1
        (a.op, a.action, record { key = key; invoked = begun; unanswered = unanswered lasts }))
  ]

module _ (rows : List Row) (part : List Call) (shown : List ℕ) (order : List OpId) (points : List ℕ) (scene : Scene) (well : IsWellFormed rows)
    (recorded : AreRecorded rows part) (sequence : IsSequence part) (selection : IsSelection part shown) (is : IsSceneOf part shown rows order points scene) where
  abbrev lanes : List ℕ
  lanes = scene.lanes.items

  -- the call of a bar
  abbrev Beside : Bar → Type 0
  Beside bar = (i : ℕ) × IsBarAt part rows lanes i bar

  beside : (bar : Bar) → Contains scene.bars.items bar → Beside bar
  beside bar there =
      let k = place_of scene.bars.items bar there in
      let w = zip_back (IsBarAt part rows lanes) shown scene.bars.items k.0 bar is.bars k.1 in
      (w.0, w.2)

  -- of one lane the bar that begins first ends first
  one_lane : (bar other : Bar) → Contains scene.bars.items bar → Beside bar → Beside other → bar.lane ≡ other.lane → bar.begins < other.begins → EndsBefore bar other
  one_lane bar other there a b same less =
      let k = place_of scene.bars.items bar there in
      let call = a.1.0 in
      let next = b.1.0 in
      let here : slice_get lanes other.lane ≡ Some call.client = subst (λ (l : ℕ). slice_get lanes l ≡ Some call.client) same a.1.2.lane in
      let client : call.client ≡ next.client = same_Some call.client next.client (sym here ∙ b.1.2.lane) in
      let own = recorded call (Contains-slice_get part a.0 call a.1.1) in
      let others = recorded next (Contains-slice_get part b.0 next b.1.1) in
      let w = one_at_a_time rows well call next own.0 others.0 own.1 others.1 client (omega (arith, less, a.1.2.begins, b.1.2.begins)) in
      (w.0, (is.ends k.0 bar k.1).answered w.0 (a.1.2.answered ∙ w.1), omega (arith, w.2, b.1.2.begins))

  -- of two lanes of a column too
  two_lanes : (bar other : Bar) → Contains scene.bars.items bar → Contains scene.bars.items other → (bar.lane ≡ other.lane → ⊥)
      → ShareColumn scene.lane_columns.items bar other → bar.begins ≤ other.begins → StandApart bar other
  two_lanes bar other there too apart share le = elim (ends_or_lasts bar.ends other.begins) [
    | inl h ↦ inl h
    | inr lasts ↦
        let columns = scene.lane_columns.items in
        let within : bar.lane < length lanes = slice_get_within lanes bar.lane (beside bar there).1.0.client (beside bar there).1.2.lane in
        let within_too : other.lane < length lanes = slice_get_within lanes other.lane (beside other too).1.0.client (beside other too).1.2.lane in
        let column = get_at columns bar.lane (omega (arith, within, is.lane_columns.each)) in
        elim (cases_lt OWN_COLUMNS (length lanes)) [
          | inl many ↦ absurd (apart ((is.lane_columns.many many).apart bar.lane other.lane column.0 other.begins column.1 (sym share ∙ column.1)
              (record { begun = bar; own = (there, refl); by_then = le; lasting = bar; own_too = (there, refl); to_there = lasts })
              (record {
                begun = other;
                own = (too, refl);
                by_then = omega arith;
                lasting = other;
                own_too = (too, refl);
                to_there = λ end ends.
                    let up = forward part shown rows lanes scene.bars.items sequence selection is.lanes is.bars scene.dots.items is.ends other too end ends in
                    omega (arith, up);
              })))
          | inr few ↦
              let own = is.lane_columns.few few bar.lane within in
              let others = is.lane_columns.few few other.lane within_too in
              absurd (apart (same_Some bar.lane other.lane (sym own ∙ share ∙ others)))
        ]
  ]

  pub stand_apart : (bar other : Bar) → Contains scene.bars.items bar → Contains scene.bars.items other → (bar.call ≡ other.call → ⊥)
      → ShareColumn scene.lane_columns.items bar other → StandApart bar other
  stand_apart bar other there too differ share =
      let a = beside bar there in
      let b = beside other too in
      elim (cases_eq bar.lane other.lane) [
        | inl same ↦ elim (cases_lt bar.begins other.begins) [
          | inl h ↦ inl (one_lane bar other there a b same h)
          | inr h ↦ elim (cases_lt other.begins bar.begins) [
            | inl g ↦ inr (one_lane other bar too b a (sym same) g)
            | inr g ↦ absurd (differ (one_call a b (omega (arith, g, h, a.1.2.begins, b.1.2.begins))))
          ]
        ]
        | inr apart ↦ elim (cases_lt other.begins bar.begins) [
          | inl g ↦ either_way other bar (two_lanes other bar too there (λ same. apart (sym same)) (sym share) (omega (arith, g)))
          | inr g ↦ two_lanes bar other there too apart share g
        ]
      ]
    where
      -- calls that begin at one place are one
      one_call : {bar other : Bar} (a : Beside bar) (b : Beside other) → a.1.0.invoked ≡ b.1.0.invoked → bar.call ≡ other.call
      one_call {bar} {other} a b same =
          let call = a.1.0 in
          let next = b.1.0 in
          let index : a.0 ≡ b.0 = elim (cases_lt a.0 b.0) [
            | inl h ↦ absurd (let up = sequence.places a.0 b.0 call next h a.1.1 b.1.1 in omega (arith, up, same))
            | inr h ↦ elim (cases_lt b.0 a.0) [
              | inl g ↦ absurd (let up = sequence.places b.0 a.0 next call g b.1.1 a.1.1 in omega (arith, up, same))
              | inr g ↦ omega (arith, g, h)
            ]
          ] in
          let one : call ≡ next = same_Some call next (sym a.1.1 ∙ subst (λ (k : ℕ). slice_get part k ≡ Some next) (sym index) b.1.1) in
          a.1.2.call_is ∙ ap (λ (c : Call). c.op) one ∙ sym b.1.2.call_is
