use Rattle.std.proofs.Common.{◌≡◌, ℕ, List, inl, subst}
use Rattle.std.proofs.lemmas.Result.{err_from_is_err_and}
use Rattle.node_threads.specs.Stores.{reach_of}
use Rattle.recorder.specs.Halls.{hall_of}
use Rattle.load.specs.Turns.{action_at, key_at}
use Rattle.load.specs.declared.turns.Turn.{Turn}
use Rattle.seats.specs.Answers.{FailsWith, HasReason}
use Rattle.seats.specs.Rounds.{Reach}
use Rattle.seats.specs.Seats.{Seat}
use Rattle.seats.specs.declared.errors.CallError.{CallError}
use Rattle.tag.specs.declared.actions.Action.{Action}
use Rattle.load_run.specs.Callers.{RefusesCall}
use Rattle.load_run.proofs.callers.call_once.Goals as goal

-- the call that the store refused is the turn's
refused : (reach : Reach) (halls : ℕ) (turn : Turn) (error : CallError) (old new : Seat) (key : List ℕ) (action : Action) → key ≡ key_at turn
    → action ≡ action_at turn → FailsWith error old (hall_of halls key) key action new → HasReason reach error old (hall_of halls key) key action new
    → RefusesCall reach halls turn error old new
refused reach halls turn error old new key action key_is action_is failed reason =
    let Says : List ℕ → Action → Type 0 = λ k a.
    FailsWith error old (hall_of halls k) k a new × HasReason reach error old (hall_of halls k) k a new in
    let both = subst (λ (k : List ℕ). Says k (action_at turn)) key_is (subst (λ (a : Action). Says key a) action_is (failed, reason)) in
    record { failed = both.0; reason = both.1 }

pub returns-in_err-call-clause-refused : goal.returns-in_err-call-clause-refused
returns-in_err-call-clause-refused g c =
    let p = err_from_is_err_and c.from_residual-in_err-call.result c.from_residual-in_err-call.ensures.1 in
    rw (p.1, p.2) (inl (refused (reach_of c.args.store.now.config) c.args.store.now.config.halls c.args.turn _ c.args.seat.now c.call.new.seat
    c.in_ok-key.key c.in_ok-key.action c.in_ok-key.ensures.key c.in_ok-key.ensures.action c.in_err-call.ensures.failed
    (c.in_err-call.ensures.reason c.requires.open_seat.unspent c.requires.open_seat.own)))
