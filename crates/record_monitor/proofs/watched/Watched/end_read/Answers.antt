use Rattle.std.proofs.Common.{ℕ, ◌≡◌, ◌++◌, ◌∷◌, [], Option, Some, IfSome, subst, sym, refl, arith}
use Rattle.std.specs.List.{slice_get, Contains}
use Rattle.std.specs.Option.{option_copied}
use Rattle.std.proofs.lemmas.Result.{IfOk-weaker}
use Rattle.tag.specs.declared.actions.Action.TheVariants.{Read}
use Rattle.tag.specs.declared.actions.Returned.TheVariants.{Value}
use Rattle.tag.specs.declared.numbers.OpId.{OpId}
use Rattle.tag.proofs.Lists.{slice_get-push_last}
use Rattle.recorder.specs.declared.row.Row.TheVariants.{Invoke, Respond}
use Rattle.recorder.specs.Histories.{MayFollow}
use Rattle.monitored_key.specs.Held.{Held}
use Rattle.record_monitor.specs.Ended.{HasEnded}
use Rattle.record_monitor.specs.Followed.{AreTold, FollowsState, IsFollowed, KeepsState}
use Rattle.record_monitor.specs.Told.{IsToldCall}
use Rattle.record_monitor.specs.Waiting.{AreGivenUp}
use Rattle.record_monitor.proofs.KeptStates.{as_ended, ended_after, next_kept, none_when, state_kept}
use Rattle.record_monitor.proofs.ToldRows.{are_told_on, told_begun, told_on}
use Rattle.record_monitor.proofs.watched.Watched.end_read.Goals as goal

pub returns-then-is_none : goal.returns-then-is_none
returns-then-is_none c = λ most rows key gone formed e at may up stays f.
    let old = c.args.self.now in
    let row = Respond c.args.call.now.op (Value (option_copied c.args.value)) in
    let none = none_when old.state c.is_none.result c.is_none.ensures c.if-is_none.true in (
      (
        subst (λ (o : Option Held). IfSome o (IsFollowed (rows ++ row ∷ []) key gone old.is_doubtful)) (sym none) tt,
        are_told_on rows row key old f.1,
      ),
      record { doubt = refl; refused = λ n. n; followed = λ n. n },
    )

pub judge-requires-clause-began : goal.judge-requires-clause-began
judge-requires-clause-began c = omega (arith, c.answered-read.ensures.same.at, c.requires.began)

pub judge-requires-clause-next : goal.judge-requires-clause-next
judge-requires-clause-next c =
    let state = c.in_ok-keep_read.ensures.state in
    next_kept c.args.self.now c.keep_read.new.self (record { state = state.state; doubt = state.doubt }) c.args.place c.requires.next

pub returns : goal.returns
returns c =
    let old = c.args.self.now in
    let mid = c.keep_read.new.self in
    let new = c.judge.new.self in
    let call = c.args.call.now in
    let read = c.answered-read.result in
    let place = c.args.place in
    let value = option_copied c.args.value in
    let same = c.answered-read.ensures.same in
    let state : KeepsState old mid =
    record { state = c.in_ok-keep_read.ensures.state.state; doubt = c.in_ok-keep_read.ensures.state.doubt } in
    IfOk-weaker c.judge.result _ _ (λ found h most rows key gone formed e at may up stays f.
    let row = Respond call.op (Value value) in
    let after = rows ++ row ∷ [] in
    let answer = subst (λ (p : ℕ). slice_get after p ≡ Some row) e (slice_get-push_last rows row) in
    let own = told_on rows row key call (told_begun rows key call Read c.requires.bare at) in
    let told = are_told_on rows row key old f.1 in
    let read_told = c.answered-read.ensures.told after key told.calls own (Value value, answer) in
    let mid_told = c.in_ok-keep_read.ensures.told after key
    (record { calls = c.answered-read.ensures.knows after key told.calls; told = told.told }) read_told in
    let judged = as_ended call read place same (λ (op : OpId) (client begun : ℕ).
    slice_get rows begun ≡ Some (Invoke op client key Read) → MayFollow rows (Respond op (Value value)) → AreGivenUp most rows gone
    → (Contains gone op.0 → ⊥) → read.answered ≡ Some place → FollowsState rows key gone mid
    → AreTold (rows ++ Respond op (Value value) ∷ []) key mid → IsToldCall (rows ++ Respond op (Value value) ∷ []) key read
    → HasEnded most (rows ++ Respond op (Value value) ∷ []) place key gone mid new found)
    (h most rows key gone formed e) in
    ended_after most after place key gone old mid new state found
    (judged at may up stays same.end (state_kept old mid state rows key gone f.0) mid_told read_told)) c.judge.ensures
