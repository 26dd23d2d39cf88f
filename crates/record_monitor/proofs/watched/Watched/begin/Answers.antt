use Rattle.std.proofs.Common.{◌++◌, ◌∷◌, []}
use Rattle.std.proofs.lemmas.Result.{on_ok_weaker}
use Rattle.recorder.specs.declared.row.Row.TheVariants.{Invoke}
use Rattle.record_monitor.proofs.KeptStates.{goes_kept, ok_always, state_kept}
use Rattle.record_monitor.proofs.ToldRows.{are_told_on, told_kept, told_now}
use Rattle.record_monitor.proofs.watched.Watched.begin.Goals as goal

pub returns-clause-follows : goal.returns-clause-follows
returns-clause-follows c =
    let old = c.args.self.now in
    let mid = c.begin_state.new.self in
    let new = c.keep_begun.new.self in
    let call = c.args.call.now in
    let action = c.args.action.now in
    on_ok_weaker c.keep_begun.result (λ keeps rows key gone formed e may are f.
    let row = Invoke call.op call.client key action in
    let told = told_kept (rows ++ row ∷ []) key old mid c.in_ok-begin_state.ensures.told (are_told_on rows row key old f.1) in (
      state_kept mid new c.keep_begun.ensures.state (rows ++ row ∷ []) key gone
          (c.in_ok-begin_state.ensures.follows rows key gone call.client formed e may are f.0),
      keeps (rows ++ row ∷ []) key told (told_now rows key call action c.args.place c.requires.bare e),
    )) c.keep_begun.ensures.told

pub returns-clause-goes : goal.returns-clause-goes
returns-clause-goes c =
    ok_always c.keep_begun.result (goes_kept c.args.self.now c.begin_state.new.self c.keep_begun.new.self c.keep_begun.ensures.state
    c.in_ok-begin_state.ensures.goes)
