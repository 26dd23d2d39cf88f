use Rattle.std.proofs.Common.{Option, sym, ap, ap₂, ◌∙◌}
use Rattle.std.proofs.lemmas.Option.{get_or_from_slice_get}
use Rattle.tag.proofs.Lists.{item_at}
use Rattle.tag.specs.declared.actions.Action.{Action}
use Rattle.recorder.specs.declared.part.Response.{Response}
use Rattle.recorder.specs.States.{call_with, no_state}
use Rattle.recorder.proofs.record.Record.call.Goals as goal

pub action_of-requires : goal.action_of-requires
action_of-requires c =
    let s = c.args.self.now in
    let state = c.index-state.result.now in
    (c.requires.kept c.args.op state (item_at s.states.items c.args.op.0 state c.requires.begun c.index-state.ensures)).there

pub response_of-requires : goal.response_of-requires
response_of-requires c =
    let s = c.args.self.now in
    let state = c.index-state.result.now in
    (c.requires.kept c.args.op state (item_at s.states.items c.args.op.0 state c.requires.begun c.index-state.ensures)).there

pub returns : goal.returns
returns c =
    let s = c.args.self.now in
    let state = c.index-state.result.now in
    let at = item_at s.states.items c.args.op.0 state c.requires.begun c.index-state.ensures in
    ap₂ (λ (a : Action) (r : Option Response). record { op = c.args.op; client = state.client; action = a; note = state.note; invoked = state.invoked; response = r }) c.action_of.ensures c.response_of.ensures
    ∙ ap (call_with s.rows.texts c.args.op.0) (sym (get_or_from_slice_get s.states.items c.args.op.0 state no_state at))
