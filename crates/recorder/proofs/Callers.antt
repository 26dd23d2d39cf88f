-- The client that begins a call.
use Rattle.std.proofs.Common.{ℕ, zero, suc, ◌≡◌, ◌<◌, List, [], ◌∷◌, Some, None, Bool, true, false, cond, nat_eq, eqb-true, ap, refl}
use Rattle.std.specs.List.{slice_get, Contains}
use Rattle.std.proofs.lemmas.Bool.{eqb-false}
use Rattle.tag.specs.declared.actions.Action.{Action}
use Rattle.tag.specs.declared.numbers.OpId.{OpId}
use Rattle.recorder.specs.declared.row.Row.{Row}
use Rattle.recorder.specs.declared.row.Row.TheVariants.{Invoke, Note, Respond}
use Rattle.recorder.specs.declared.record.CallState.{CallState}
use Rattle.recorder.specs.Histories.{IsWellFormed, call_count, caller_of}
use Rattle.recorder.specs.States.{AreStates}
use Rattle.tag.proofs.Lists.{place_of, Contains-slice_get}
use Rattle.recorder.proofs.Numbers.{number_below, same_client}
use Rattle.tag.proofs.SameTags.{same_op}

-- where every row that begins the call names the client, and one does, it is the caller
found_below : (o : OpId) (c : ℕ) (l : List ℕ) (a : Action) (rows : List Row) (op : OpId) (client : ℕ) (b : Bool) → nat_eq o.0 op.0 ≡ b
    → ((k d : ℕ) (key : List ℕ) (action : Action) → slice_get (Invoke o c l a ∷ rows) k ≡ Some (Invoke op d key action) → d ≡ client)
    → ((k d : ℕ) (key : List ℕ) (action : Action) → slice_get rows k ≡ Some (Invoke op d key action) → caller_of rows op ≡ Some client)
    → (k d : ℕ) (key : List ℕ) (action : Action) → slice_get (Invoke o c l a ∷ rows) k ≡ Some (Invoke op d key action) → cond b (Some c) (caller_of rows op) ≡ Some client
found_below o c l a rows op client true e all below k d key action at =
    let same : o ≡ op = same_op o op (eqb-true o.0 op.0 e) in
    ap Some (all 0 c l a (ap (λ (x : OpId). Some (Invoke x c l a)) same))
found_below o c l a rows op client false e all below zero d key action at =
    let same : ◌≡◌ {A = Row} (Invoke o c l a) (Invoke op d key action) = cc in
    let ops : o ≡ op = cc in
    absurd (eqb-false o.0 op.0 e (ap (λ (x : OpId). x.0) ops))
found_below o c l a rows op client false e all below (suc k) d key action at = below k d key action at

found : (rows : List Row) (op : OpId) (client : ℕ) → ((k d : ℕ) (key : List ℕ) (action : Action) → slice_get rows k ≡ Some (Invoke op d key action) → d ≡ client)
    → (k d : ℕ) (key : List ℕ) (action : Action) → slice_get rows k ≡ Some (Invoke op d key action) → caller_of rows op ≡ Some client
found [] op client all k d key action at = absurd cc
found (Invoke o c l a ∷ rows) op client all k d key action at = found_below o c l a rows op client (nat_eq o.0 op.0) refl all (found rows op client (λ j. all (suc j))) k d key action at
found (Note o t ∷ rows) op client all zero d key action at = absurd cc
found (Note o t ∷ rows) op client all (suc k) d key action at = found rows op client (λ j. all (suc j)) k d key action at
found (Respond o r ∷ rows) op client all zero d key action at = absurd cc
found (Respond o r ∷ rows) op client all (suc k) d key action at = found rows op client (λ j. all (suc j)) k d key action at

-- where no row begins the call, nobody is
missing_below : (o : OpId) (c : ℕ) (l : List ℕ) (a : Action) (rows : List Row) (op : OpId) (b : Bool) → nat_eq o.0 op.0 ≡ b
    → ((k d : ℕ) (key : List ℕ) (action : Action) → slice_get (Invoke o c l a ∷ rows) k ≡ Some (Invoke op d key action) → ⊥)
    → caller_of rows op ≡ None → cond b (Some c) (caller_of rows op) ≡ None
missing_below o c l a rows op true e none below =
    let same : o ≡ op = same_op o op (eqb-true o.0 op.0 e) in
    absurd (none 0 c l a (ap (λ (x : OpId). Some (Invoke x c l a)) same))
missing_below o c l a rows op false e none below = below

missing : (rows : List Row) (op : OpId) → ((k d : ℕ) (key : List ℕ) (action : Action) → slice_get rows k ≡ Some (Invoke op d key action) → ⊥) → caller_of rows op ≡ None
missing [] op none = refl
missing (Invoke o c l a ∷ rows) op none = missing_below o c l a rows op (nat_eq o.0 op.0) refl none (missing rows op (λ j. none (suc j)))
missing (Note o t ∷ rows) op none = missing rows op (λ j. none (suc j))
missing (Respond o r ∷ rows) op none = missing rows op (λ j. none (suc j))

module _ (rows : List Row) (formed : IsWellFormed rows) where
  -- the client of a row that begins the call is its caller
  pub caller_found : (op : OpId) (client : ℕ) (key : List ℕ) (action : Action) → Contains rows (Invoke op client key action) → caller_of rows op ≡ Some client
  caller_found op client key action h =
      let i = place_of rows (Invoke op client key action) h in
      found rows op client (λ k d l a at. same_client rows formed op d client l key a action (Contains-slice_get rows k (Invoke op d l a) at) h) i.0 client key action i.1

  -- a state's client is its call's caller, and a call without a state has none
  pub caller_of_state : (states : List CallState) → AreStates rows states → (op : OpId) (state : CallState) → slice_get states op.0 ≡ Some state → caller_of rows op ≡ Some state.client
  caller_of_state states are op state at =
      let d = are.each op state at in
      caller_found op state.client d.key d.action (Contains-slice_get rows state.invoked (Invoke op state.client d.key d.action) d.invoked)

  pub caller_missing : (op : OpId) → (op.0 < call_count rows → ⊥) → caller_of rows op ≡ None
  caller_missing op above = missing rows op (λ k d key action at. above (number_below rows formed op d key action (Contains-slice_get rows k (Invoke op d key action) at)))
