use Rattle.std.proofs.Common.{ℕ, List, refl, subst}
use Rattle.std.proofs.lemmas.List.{take_all}
use Rattle.std.proofs.lemmas.Option.{slice_get-get_or}
use Rattle.tag.proofs.Lists.{Contains-slice_get}
use Rattle.scenes.specs.Scenes.{AreBegunBars}
use Rattle.scenes.proofs.ShownCalls.{zip_more}
use Rattle.scenes.proofs.Ending.{IsBegunAt, begun_rise}
use Rattle.scenes.proofs.bars.bars_of.Goals as goal

pub call-call-requires : goal.call-call-requires
call-call-requires c =
    let shown = c.args.shown.now in
    let k = c.loop-i.i-index in
    c.requires.shown.within _ (Contains-slice_get shown k _ (slice_get-get_or shown k 0 c.loop-i-test.true))

pub lane_of-requires-clause-there : goal.lane_of-requires-clause-there
lane_of-requires-clause-there c =
    let shown = c.args.shown.now in
    let k = c.loop-i.i-index in
    let call = c.call-call.result in
    let there = Contains-slice_get shown k _ (slice_get-get_or shown k 0 c.loop-i-test.true) in
    (c.requires.lanes.exactly call.client).1 (_, call, there, c.call-call.ensures, refl)

pub loop-i-preserved : goal.loop-i-preserved
loop-i-preserved c =
    let shown = c.args.shown.now in
    let k = c.loop-i.i-index in
    zip_more (IsBegunAt c.args.part.now c.args.history.now.rows c.args.lanes.now) shown c.loop-i.bars.items _ k _ _
    (slice_get-get_or shown k 0 c.loop-i-test.true) c.in_ok-push.ensures.items c.loop-i.invariant (
      (
        c.call-call.result,
        c.call-call.ensures,
        record {
          call_is = refl;
          lane = c.lane_of.ensures;
          begins = refl;
          answered = c.end_of-answered.ensures;
          note = c.note_place-note.ensures;
        },
      ),
      c.first_end.ensures,
    )

pub returns-clause-calls : goal.returns-clause-calls
returns-clause-calls c =
    let part = c.args.part.now in
    let shown = c.args.shown.now in
    let rows = c.args.history.now.rows in
    let lanes = c.args.lanes.now in
    let bars = c.loop-i.bars.items in
    begun_rise part shown rows lanes bars c.len-sequence.ensures.sequence c.requires.shown
    (subst (λ (l : List ℕ). AreBegunBars part l rows lanes bars) (take_all c.loop-i.i-index shown c.loop-i-test.false) c.loop-i.invariant)
