-- The states beside the rows, with one row more.
use Rattle.std.proofs.Common.{ℕ, ◌≡◌, ◌⊎◌, inl, inr, List, [], ◌∷◌, ◌++◌, Option, Some, None, IsSome, length, get_or, set, sym, ◌∙◌, ap, subst, refl, arith, length-append, length-set}
use Rattle.std.specs.List.{slice_get, Contains}
use Rattle.std.proofs.lemmas.Option.{get_or_from_slice_get}
use Rattle.recorder.specs.declared.row_table.Span.{Span}
use Rattle.std.proofs.lemmas.List.Elements.{Contains-push, Contains-push_cases}
use Rattle.tag.specs.declared.actions.Action.{Action}
use Rattle.tag.specs.declared.actions.Returned.{Returned}
use Rattle.tag.specs.declared.numbers.OpId.{OpId}
use Rattle.tag.specs.Tags.{Tag}
use Rattle.recorder.specs.declared.row.Row.{Row}
use Rattle.recorder.specs.declared.row.Row.TheVariants.{Invoke, Note, Respond}
use Rattle.recorder.specs.declared.record.CallState.{CallState}
use Rattle.recorder.specs.Histories.{call_count, HasNote, HasResponse, IsPendingCall, IsPendingOp, IsWellFormed, MayFollow}
use Rattle.recorder.specs.KeptCalls.{IsKeptCall}
use Rattle.recorder.specs.States.{Describes, AreStates, IsStateOf, call_of, call_with, is_write, no_state, place_in, response_at}
use Rattle.recorder.specs.Tables.{Table}
use Rattle.tag.proofs.SameTags.{same_op}
use Rattle.tag.proofs.Lists.{place_of, get_at, push_cases, set_cases, slice_get-push_last, Contains-slice_get}
use Rattle.recorder.proofs.Numbers.{count_push, number_below, no_note, no_response}
use Rattle.recorder.proofs.OneMore.{NotesAnother, AnswersAnother, Describes-more, Describes-push, noted_same, answered_same}

-- what a state says of its call
module _ (rows : List Row) (op : OpId) (state : CallState) (d : Describes rows op state) where
  pub not_noted : state.note ≡ None → HasNote rows op → ⊥
  not_noted none h = let some : state.note ≡ Some h.0 = (d.noted h.0).1 h.1 in cc

  pub has_note : IsSome state.note → HasNote rows op
  has_note some = by state.note refl some
    where
      by : (note : Option Tag) → state.note ≡ note → IsSome note → HasNote rows op
      by None e h = absurd (cc)
      by (Some tag) e h = (tag, (d.noted tag).0 e)

  pub not_answered : state.response ≡ None → HasResponse rows op → ⊥
  not_answered none h =
      let k = place_of rows (Respond op h.0) h.1 in
      let some : state.response ≡ Some k.0 = (d.answered k.0).1 (h.0, k.1) in
      cc

  pub has_response : IsSome state.response → HasResponse rows op
  has_response some = by state.response refl some
    where
      by : (response : Option ℕ) → state.response ≡ response → IsSome response → HasResponse rows op
      by None e h = absurd (cc)
      by (Some place) e h =
          let r = (d.answered place).0 e in
          (r.0, Contains-slice_get rows place (Respond op r.0) r.1)

  pub pending_from : state.response ≡ None → IsPendingCall rows op state.client d.action
  pending_from waits = record { key = d.key; invoked = Contains-slice_get rows state.invoked (Invoke op state.client d.key d.action) d.invoked; unanswered = not_answered waits }

  pub may_note : (tag : Tag) → state.response ≡ None → state.note ≡ None → MayFollow rows (Note op tag)
  may_note tag waits none = ((state.client, d.action, pending_from waits), not_noted none)

-- a call whose state, if any, has a response isn't pending
pub not_pending : (rows : List Row) (states : List CallState) → IsWellFormed rows → AreStates rows states → (op : OpId) → ((state : CallState) → slice_get states op.0 ≡ Some state → IsSome state.response) → IsPendingOp rows op → ⊥
not_pending rows states formed are op done pending =
    let p = pending.2 in
    let below = number_below rows formed op pending.0 p.key pending.1 p.invoked in
    let s = get_at states op.0 (omega (arith, below, are.all)) in
    p.unanswered (has_response rows op s.0 (are.each op s.0 s.1) (done s.0 s.1))

-- the state of a pending call, as it was found
pub waits_from : {rows : List Row} {states : List CallState} → AreStates rows states → (op : OpId) (state : CallState) → (slice_get states op.0 ≡ Some state) × (state.response ≡ None) → Describes rows op state × (state.response ≡ None)
waits_from are op state found = (are.each op state found.0, found.1)

-- the state that stands there is the one that was found
pub state_there : (states : List CallState) (k : ℕ) (state here : CallState) → slice_get states k ≡ Some state → here ≡ get_or states k here → here ≡ state
state_there states k state here found is = is ∙ get_or_from_slice_get states k state here found

-- a call's state is written anew with a row that is about it alone
AreStates-set : (rows : List Row) (row : Row) (op : OpId) (states : List CallState) (new : CallState) → AreStates rows states → call_count (rows ++ row ∷ []) ≡ call_count rows → ((o : OpId) → (o.0 ≡ op.0 → ⊥) → NotesAnother row o × AnswersAnother row o) → Describes (rows ++ row ∷ []) op new → AreStates (rows ++ row ∷ []) (set states op.0 new)
AreStates-set rows row op states new are same others d = record {
  all = length-set states op.0 new ∙ (are.all ∙ sym same);
  each = λ o s there. elim (set_cases states op.0 new o.0 s there) [
    | inl w ↦ subst (λ (x : OpId). Describes (rows ++ row ∷ []) x s) (sym (same_op o op w.0)) (subst (Describes (rows ++ row ∷ []) op) w.1 d)
    | inr w ↦ Describes-push rows row o s (others o w.0).0 (others o w.0).1 (are.each o s w.1)
  ];
}

-- one note more
module _ (rows : List Row) (op : OpId) (tag : Tag) where
  pub Describes-noted : (state : CallState) → state.note ≡ None → Describes rows op state → Describes (rows ++ Note op tag ∷ []) op (record state { note = Some tag })
  Describes-noted state none d =
      let same = answered_same rows (Note op tag) op (λ r e. cc) in
      Describes-more rows (Note op tag) op state (Some tag) state.response state.value d (λ t. (λ e. let here : tag ≡ t = cc in subst (λ (x : Tag). Contains (rows ++ Note op tag ∷ []) (Note op x)) here (Contains-push rows (Note op tag)), λ h. by t (Contains-push_cases rows (Note op tag) (Note op t) h)))
      (λ place. (λ e. (same place).0 ((d.answered place).0 e), λ h. (d.answered place).1 ((same place).1 h)))
    where
      by : (t : Tag) → Contains rows (Note op t) ⊎ (Note op tag ≡ Note op t) → Some tag ≡ Some t
      by t (inl h) = absurd (not_noted rows op state d none (t, h))
      by t (inr e) = cc

  pub states_note : (states : List CallState) (state noted : CallState) → AreStates rows states → slice_get states op.0 ≡ Some state → state.note ≡ None → noted ≡ record state { note = Some tag } → AreStates (rows ++ Note op tag ∷ []) (set states op.0 noted)
  states_note states state noted are at none is = AreStates-set rows (Note op tag) op states noted are (count_push rows (Note op tag) ∙ omega arith)
      (λ o other. (λ t e. other (let same : op ≡ o = cc in ap (λ (x : OpId). x.0) (sym same)), λ r e. cc))
      (subst (Describes (rows ++ Note op tag ∷ []) op) (sym is) (Describes-noted state none (are.each op state at)))

-- one response more
module _ (rows : List Row) (op : OpId) (returned : Returned) where
  pub Describes-answered : (state : CallState) (value : Option Span) → state.response ≡ None → Describes rows op state → Describes (rows ++ Respond op returned ∷ []) op (record state { response = Some (length rows); value = value })
  Describes-answered state value none d =
      let same = noted_same rows (Respond op returned) op (λ t e. cc) in
      Describes-more rows (Respond op returned) op state state.note (Some (length rows)) value d (λ t. (λ e. (same t).0 ((d.noted t).0 e), λ h. (d.noted t).1 ((same t).1 h)))
      (λ place. (λ e. let here : length rows ≡ place = cc in (returned, subst (λ (k : ℕ). slice_get (rows ++ Respond op returned ∷ []) k ≡ Some (Respond op returned)) here (slice_get-push_last rows (Respond op returned))), λ h. by place h.0 (push_cases rows (Respond op returned) place (Respond op h.0) h.1)))
    where
      by : (place : ℕ) (r : Returned) → (slice_get rows place ≡ Some (Respond op r)) ⊎ ((place ≡ length rows) × (Respond op returned ≡ Respond op r)) → Some (length rows) ≡ Some place
      by place r (inl h) = absurd (not_answered rows op state d none (r, Contains-slice_get rows place (Respond op r) h))
      by place r (inr e) = ap Some (sym e.0)

  pub states_respond : (states : List CallState) (state answered : CallState) (value : Option Span) → AreStates rows states → slice_get states op.0 ≡ Some state → state.response ≡ None → answered ≡ record state { response = Some (length rows); value = value } → AreStates (rows ++ Respond op returned ∷ []) (set states op.0 answered)
  states_respond states state answered value are at none is = AreStates-set rows (Respond op returned) op states answered are (count_push rows (Respond op returned) ∙ omega arith)
      (λ o other. (λ t e. cc, λ r e. other (let same : op ≡ o = cc in ap (λ (x : OpId). x.0) (sym same))))
      (subst (Describes (rows ++ Respond op returned ∷ []) op) (sym is) (Describes-answered state value none (are.each op state at)))

-- the state of a call that begins there
abbrev pub begun : ℕ → ℕ → Action → ℕ → Option Span → CallState
begun client number action place value = record {
  client = client;
  note = None;
  key = number;
  is_write = is_write action;
  invoked = place;
  response = None;
  value = value;
}

-- one invocation more
module _ (rows : List Row) (formed : IsWellFormed rows) (op : OpId) (client : ℕ) (key : List ℕ) (action : Action) (fresh : op.0 ≡ call_count rows) (number : ℕ) (value : Option Span) where
  pub Describes-begun : Describes (rows ++ Invoke op client key action ∷ []) op (begun client number action (length rows) value)
  Describes-begun =
      let notes = noted_same rows (Invoke op client key action) op (λ t e. cc) in
      let answers = answered_same rows (Invoke op client key action) op (λ r e. cc) in
      record {
        key = key;
        action = action;
        kind = refl;
        invoked = slice_get-push_last rows (Invoke op client key action);
        noted = λ t. (λ e. absurd (cc), λ h. absurd (no_note rows formed op fresh (t, (notes t).1 h)));
        answered = λ place. (λ e. absurd (cc), λ h. let r = (answers place).1 h in absurd (no_response rows formed op fresh (r.0, Contains-slice_get rows place (Respond op r.0) r.1)));
      }

  pub states_invoke : (states : List CallState) (state : CallState) → AreStates rows states → state ≡ begun client number action (length rows) value → AreStates (rows ++ Invoke op client key action ∷ []) (states ++ state ∷ [])
  states_invoke states state are is = record {
    all = simp length-append (omega (arith, count_push rows (Invoke op client key action), are.all));
    each = λ o s there. elim (push_cases states state o.0 s there) [
      | inl w ↦ Describes-push rows (Invoke op client key action) o s (λ t e. cc) (λ r e. cc) (are.each o s w)
      | inr w ↦
          let here : o ≡ op = same_op o op (omega (arith, w.0, are.all, fresh)) in
          let same : begun client number action (length rows) value ≡ s = sym is ∙ w.1 in
          subst (λ (x : OpId). Describes (rows ++ Invoke op client key action ∷ []) x s) (sym here) (subst (λ (x : CallState). Describes (rows ++ Invoke op client key action ∷ []) op x) same Describes-begun)
    ];
  }

-- the place of a response
place_there : (place : Option ℕ) (returned : Returned) → place ≡ place_in (response_at place returned)
place_there None returned = refl
place_there (Some k) returned = refl

-- a state that describes a call is that of the call
pub IsStateOf-there : (table : Table) (states : List CallState) (op : OpId) (state : CallState) → slice_get states op.0 ≡ Some state → Describes table.rows op state → IsKeptCall table op state → IsStateOf (call_of table.texts states op.0) state
IsStateOf-there table states op state at d k =
    subst (λ (s : CallState). IsStateOf (call_with table.texts op.0 s) state) (sym (get_or_from_slice_get states op.0 state no_state at)) (record {
      client = refl;
      kind = d.kind ∙ ap is_write (k.asks state.client d.key d.action d.invoked);
      note = refl;
      invoked = refl;
      response = place_there state.response _;
    })
