-- The bars of a scene show the calls of its run.
use Rattle.std.proofs.Common.{ℕ, ◌≡◌, ◌⊎◌, Bool, true, false, List, [], ◌∷◌, ◌++◌, map, length, Option, None, Some}
use Rattle.std.proofs.Common.{refl, sym, ap, ◌∙◌, subst, inl, inr, append-nil, arith}
use Rattle.std.specs.FinMap as finite
use Rattle.std.specs.List.{filter, slice_get}
use Rattle.std.specs.Prelude.{take}
use Rattle.std.proofs.lemmas.Bool.{cases_Bool}
use Rattle.std.proofs.lemmas.List.{map-append}
use Rattle.std.proofs.lemmas.List.Elements.{filter-append}
use Rattle.std.proofs.lemmas.Option.{slice_get_past}
use Rattle.tag.specs.declared.actions.Action.{Action}
use Rattle.tag.specs.declared.numbers.OpId.{OpId}
use Rattle.replica.specs.declared.replies.Reply.{Reply}
use Rattle.replica.specs.declared.requests.Request.{Request}
use Rattle.client_phases.specs.Clients.{reply_result, request_of}
use Rattle.client_phases.specs.declared.clients.Client.{Client}
use Rattle.client_phases.specs.declared.outcomes.Taken.{Taken}
use Rattle.client_phases.specs.declared.outcomes.Taken.TheVariants as outcome
use Rattle.client_phases.specs.declared.states.State.{State}
use Rattle.client_phases.specs.declared.states.State.TheVariants.{Idle, Ask, Put, Ready, Stopped}
use Rattle.network.specs.Flights.{message_of}
use Rattle.network.specs.declared.messages.Message.{Message}
use Rattle.network.specs.declared.messages.Message.TheVariants.{ToReplica, ToClient}
use Rattle.recorder.specs.Histories.{Recorded, caller_of}
use Rattle.recorder.specs.declared.row.Row.{Row}
use Rattle.recorder.specs.declared.row.Row.TheVariants.{Invoke, Note, Respond}
use Rattle.world_steps.specs.Configs.{Config}
use Rattle.world_steps.specs.Systems.{answered_op, deliver, handle, invoke, op_of, opening, respond, send, send_to, set_up, stop, system_after, with_note}
use Rattle.world_steps.specs.Systems.{take as take_reply}
use Rattle.world_steps.specs.declared.nodes.Node.{Node}
use Rattle.world_steps.specs.declared.step.Step.{Step}
use Rattle.world_steps.specs.declared.step.Step.TheVariants as step
use Rattle.world_steps.specs.declared.system.System.{System}
use Rattle.script_runs.specs.declared.command.NumberedCommand.{NumberedCommand}
use Rattle.script_runs.specs.declared.origin.Origin.{Origin}
use Rattle.message_scenes.specs.CallBars.{ShowCalls, invocation_of, is_invocation, recorded_after}
use Rattle.message_scenes.specs.Calls.{calls_after, calls_with, closed, is_of_call, is_pending_of, noted}
use Rattle.message_scenes.specs.Lists.{change_first}
use Rattle.message_scenes.specs.Shapes.{Shapes, no_shapes, with_row, with_rows, with_step}
use Rattle.message_scenes.specs.Tried.{Tried, TriesAll, refused, taken_step, unfinished}
use Rattle.message_scenes.specs.declared.calls.CallBar.{CallBar}
use Rattle.message_scenes.specs.declared.calls.CallEnd.TheVariants as ending
use Rattle.message_scenes.proofs.Changed.{heads}
use Rattle.message_scenes.proofs.Chain.{AreChained, chain_all, chain_first}
use Rattle.message_scenes.proofs.Chain.AreChained.{begins, ends, leaves, refuses}

-- ---- a bar that is changed shows the same call
module _ (test : CallBar → Bool) (f : CallBar → CallBar) (same : (bar : CallBar) → invocation_of (f bar) ≡ invocation_of bar) where
  calls_kept : (bars : List CallBar) → map invocation_of (change_first test f bars) ≡ map invocation_of bars
  calls_kept [] = refl
  calls_kept (bar ∷ bars) = elim (cases_Bool (test bar)) [
    | inl hit ↦
        ap (map invocation_of) (heads test f bar bars true hit) ∙ ap (λ (row : Row). row ∷ map invocation_of bars) (same bar)
    | inr miss ↦
        ap (map invocation_of) (heads test f bar bars false miss) ∙ ap (λ (rows : List Row). invocation_of bar ∷ rows) (calls_kept bars)
  ]

-- ---- one row more of the record
other_row : (rows : List Row) (r : Row) → filter is_invocation (r ∷ []) ≡ [] → filter is_invocation (rows ++ r ∷ []) ≡ filter is_invocation rows
other_row rows r none =
    filter-append is_invocation rows (r ∷ []) ∙ ap (λ (l : List Row). filter is_invocation rows ++ l) none
    ∙ append-nil (filter is_invocation rows)

calls_more : (row : ℕ) (r : Row) (bars : List CallBar) (rows : List Row) → ShowCalls rows bars → ShowCalls (rows ++ r ∷ []) (calls_with row (Some r) bars)
calls_more row (Invoke op name key action) bars rows shown =
    let bar : CallBar = record { call = op; client = name; key = key; action = action; begins = row; note = None; end = ending.Open } in
    map-append invocation_of bars (bar ∷ []) ∙ ap (λ (l : List Row). l ++ Invoke op name key action ∷ []) shown
    ∙ sym (filter-append is_invocation rows (Invoke op name key action ∷ []))
calls_more row (Note op tag) bars rows shown =
    calls_kept (is_of_call op) (noted row tag) (λ bar. refl) bars ∙ shown ∙ sym (other_row rows (Note op tag) refl)
calls_more row (Respond op returned) bars rows shown =
    calls_kept (is_of_call op) (closed (ending.Answered row returned)) (λ bar. refl) bars ∙ shown
    ∙ sym (other_row rows (Respond op returned) refl)

-- the record is as it was, or has one row more
abbrev Grown : List Row → List Row → Type 0
Grown before after = (after ≡ before) ⊎ ((r : Row) × (after ≡ before ++ r ∷ []))

here : (rows : List Row) (r : Row) → slice_get (rows ++ r ∷ []) (length rows) ≡ Some r
here [] r = refl
here (x ∷ rows) r = here rows r

grown_calls : (row : ℕ) (before after : List Row) (bars : List CallBar) → Grown before after → ShowCalls before bars
    → ShowCalls after (calls_with row (slice_get after (length before)) bars)
grown_calls row before after bars (inl same) shown =
    let none : slice_get before (length before) ≡ None = slice_get_past before (length before) (omega arith) in
    subst (λ (rows : List Row). ShowCalls rows (calls_with row (slice_get rows (length before)) bars)) (sym same)
    (subst (λ (found : Option Row). ShowCalls before (calls_with row found bars)) (sym none) shown)
grown_calls row before after bars (inr more) shown =
    let r : Row = more.0 in
    subst (λ (rows : List Row). ShowCalls rows (calls_with row (slice_get rows (length before)) bars)) (sym more.1)
    (subst (λ (found : Option Row). ShowCalls (before ++ r ∷ []) (calls_with row found bars)) (sym (here before r))
    (calls_more row r bars before shown))

-- ---- what steps add to the record
invoke_rows : (s : System) (name : ℕ) (key : List ℕ) (action : Action) (client : Option Client) → Grown s.history.rows (invoke s name key action client).history.rows
invoke_rows s name key action None = inl refl
invoke_rows s name key action (Some client) = inr (_, refl)

request_rows : (s : System) (replica : ℕ) (request : Option Request) → Grown s.history.rows (send_to s replica request).history.rows
request_rows s replica None = inl refl
request_rows s replica (Some request) = inl refl

send_rows : (s : System) (replica : ℕ) (client : Option Client) → Grown s.history.rows (send s replica client).history.rows
send_rows s replica None = inl refl
send_rows s replica (Some client) = request_rows s replica (request_of client)

handle_rows : (s : System) (number : ℕ) (request : Request) (node : Option Node) (caller : Option ℕ) → Grown s.history.rows (handle s number request node caller).history.rows
handle_rows s number request (Some node) (Some client) = inl refl
handle_rows s number request (Some node) None = inl refl
handle_rows s number request None caller = inl refl

note_rows : (h : Recorded) (op : OpId) (taken : Taken) → Grown h.rows (with_note h op taken).rows
note_rows h op (outcome.Noted tag) = inr (_, refl)
note_rows h op (outcome.Agreed tag) = inr (_, refl)
note_rows h op outcome.Stale = inl refl
note_rows h op outcome.Counted = inl refl
note_rows h op outcome.Ready = inl refl

take_rows : (s : System) (name : ℕ) (reply : Reply) (client : Option Client) → Grown s.history.rows (take_reply s name reply client).history.rows
take_rows s name reply None = inl refl
take_rows s name reply (Some client) = note_rows s.history (answered_op reply) (reply_result client reply)

arrive_rows : (s : System) (flight : ℕ) (message : Option Message) → Grown s.history.rows (deliver s flight message).history.rows
arrive_rows s flight None = inl refl
arrive_rows s flight (Some (ToReplica number request)) =
    handle_rows s number request (slice_get s.nodes number) (caller_of s.history.rows (op_of request))
arrive_rows s flight (Some (ToClient name reply)) = take_rows s name reply (finite.get s.members.clients name)

ready_rows : (s : System) (name : ℕ) (client : Client) (x : State)
    → Grown s.history.rows (respond s name (Some (record client { state = x }))).history.rows
ready_rows s name client (Ready chosen) = inr (_, refl)
ready_rows s name client Idle = inl refl
ready_rows s name client (Ask asking) = inl refl
ready_rows s name client (Put chosen counted) = inl refl
ready_rows s name client Stopped = inl refl

respond_rows : (s : System) (name : ℕ) (client : Option Client) → Grown s.history.rows (respond s name client).history.rows
respond_rows s name None = inl refl
respond_rows s name (Some client) = ready_rows s name client client.state

stop_rows : (s : System) (name : ℕ) (client : Option Client) → (stop s name client).history.rows ≡ s.history.rows
stop_rows s name None = refl
stop_rows s name (Some client) = refl

up_rows : (s : System) (number : ℕ) (is_up : Bool) (node : Option Node) → Grown s.history.rows (set_up s number is_up node).history.rows
up_rows s number is_up None = inl refl
up_rows s number is_up (Some node) = inl refl

-- ---- steps
calls_on : (row : ℕ) (origin : Origin) (s : System) (bars : List CallBar) (x : Step) → ShowCalls s.history.rows bars
    → ShowCalls (system_after s x).history.rows (calls_after row (taken_step origin s x) bars)
unfolding calls_after
calls_on row origin s bars (step.Join name) shown = grown_calls row s.history.rows s.history.rows bars (inl refl) shown
calls_on row origin s bars (step.Invoke name key action) shown =
    grown_calls row s.history.rows (system_after s (step.Invoke name key action)).history.rows bars
    (invoke_rows s name key action (finite.get s.members.clients name)) shown
calls_on row origin s bars (step.Send name replica) shown =
    grown_calls row s.history.rows (system_after s (step.Send name replica)).history.rows bars
    (send_rows s replica (finite.get s.members.clients name)) shown
calls_on row origin s bars (step.Deliver flight) shown =
    grown_calls row s.history.rows (system_after s (step.Deliver flight)).history.rows bars
    (arrive_rows s flight (message_of s.pool.flights flight)) shown
calls_on row origin s bars (step.Lose flight) shown = grown_calls row s.history.rows s.history.rows bars (inl refl) shown
calls_on row origin s bars (step.Repeat flight) shown = grown_calls row s.history.rows s.history.rows bars (inl refl) shown
calls_on row origin s bars (step.Respond name) shown =
    grown_calls row s.history.rows (system_after s (step.Respond name)).history.rows bars
    (respond_rows s name (finite.get s.members.clients name)) shown
calls_on row origin s bars (step.StopClient name) shown =
    calls_kept (is_pending_of name) (closed (ending.Stopped row)) (λ bar. refl) bars ∙ shown
    ∙ ap (filter is_invocation) (sym (stop_rows s name (finite.get s.members.clients name)))
calls_on row origin s bars (step.StopReplica number) shown =
    grown_calls row s.history.rows (system_after s (step.StopReplica number)).history.rows bars
    (up_rows s number false (slice_get s.nodes number)) shown
calls_on row origin s bars (step.StartReplica number) shown =
    grown_calls row s.history.rows (system_after s (step.StartReplica number)).history.rows bars
    (up_rows s number true (slice_get s.nodes number)) shown

step_on : (origin : Origin) (s : System) (x : Step) (shapes : Shapes) → ShowCalls s.history.rows shapes.calls
    → ShowCalls (system_after s x).history.rows (with_step shapes (taken_step origin s x)).calls
unfolding with_step
step_on origin s x shapes shown = calls_on (length shapes.rows) origin s shapes.calls x shown

all_on : (s last : System) (tried : List Tried) (shapes : Shapes) → AreChained s tried last → ShowCalls s.history.rows shapes.calls
    → ShowCalls (recorded_after s.history.rows tried) (with_rows shapes tried).calls
all_on s last tried shapes (ends a) shown = shown
all_on s last tried shapes (begins origin a x others end none rest) shown =
    all_on (system_after a x) end others (with_step shapes (taken_step origin a x)) rest (step_on origin a x shapes shown)
all_on s last tried shapes (refuses origin a x why others end rest) shown =
    all_on a end others (with_row shapes (refused origin x why)) rest shown
all_on s last tried shapes (leaves line name why a others end rest) shown =
    all_on a end others (with_row shapes (unfinished line name why)) rest shown

pub calls_shown : (config : Config) (commands : List NumberedCommand) (last : System) (tried : List Tried) (most : ℕ)
    → TriesAll (opening config) commands last tried
    → ShowCalls (recorded_after [] (take most tried)) (with_rows no_shapes (take most tried)).calls
calls_shown config commands last tried most all =
    let (mid, chained) = chain_first most (opening config) last tried (chain_all (opening config) last commands tried all) in
    all_on (opening config) mid (take most tried) no_shapes chained refl
