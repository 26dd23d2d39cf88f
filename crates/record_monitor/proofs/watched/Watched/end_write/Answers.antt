use Rattle.std.proofs.Common.{ℕ, ◌≡◌, ◌++◌, ◌∷◌, [], Some, subst}
use Rattle.std.specs.List.{slice_get}
use Rattle.std.proofs.lemmas.Result.{on_ok_weaker}
use Rattle.tag.specs.declared.actions.Action.TheVariants.{Write}
use Rattle.tag.specs.declared.actions.Returned.TheVariants.{Written}
use Rattle.tag.proofs.Lists.{Contains-slice_get, slice_get-push_last}
use Rattle.recorder.specs.declared.row.Row.TheVariants.{Invoke, Respond}
use Rattle.record_monitor.proofs.KeptStates.{goes_after, next_kept, state_kept}
use Rattle.record_monitor.proofs.ToldRows.{are_told_on, told_begun, told_kept, told_on}
use Rattle.record_monitor.proofs.watched.Watched.end_write.Goals as goal

pub end_write_state-requires-clause-next : goal.end_write_state-requires-clause-next
end_write_state-requires-clause-next c =
    next_kept c.args.self.now c.keep_write.new.self c.in_ok-keep_write.ensures.state c.args.place c.requires.next

pub returns-clause-follows : goal.returns-clause-follows
returns-clause-follows c =
    let old = c.args.self.now in
    let mid = c.keep_write.new.self in
    let new = c.end_write_state.new.self in
    let call = c.args.call.now in
    on_ok_weaker c.end_write_state.result (λ follows rows key gone value formed e at may stays f.
    let row = Respond call.op Written in
    let own = told_on rows row key call (told_begun rows key call (Write value) c.requires.bare at) in
    let answer = subst (λ (p : ℕ). slice_get (rows ++ row ∷ []) p ≡ Some row) e (slice_get-push_last rows row) in
    let told = c.in_ok-keep_write.ensures.told (rows ++ row ∷ []) key (are_told_on rows row key old f.1) own (Written, answer) in (
      follows rows key gone value call.client formed e
          (Contains-slice_get rows call.begun (Invoke call.op call.client key (Write value)) at) may stays
          (state_kept old mid c.in_ok-keep_write.ensures.state rows key gone f.0),
      told_kept (rows ++ row ∷ []) key mid new c.end_write_state.ensures.told told,
    )) c.end_write_state.ensures.follows

pub returns-clause-goes : goal.returns-clause-goes
returns-clause-goes c =
    on_ok_weaker c.end_write_state.result (λ goes. goes_after c.args.self.now c.keep_write.new.self c.end_write_state.new.self
    c.in_ok-keep_write.ensures.state goes) c.end_write_state.ensures.goes
