-- The caller of a call that is begun once.
use Rattle.std.proofs.Common.{◌≡◌, ℕ, zero, suc, Bool, true, false, cond, nat_eq, eqb-true, List}
use Rattle.std.proofs.Common.{[], ◌∷◌, Option, None, Some, refl, ap}
use Rattle.std.proofs.lemmas.Bool.{eqb-false, false≢true}
use Rattle.tag.proofs.SameTags.{same_op}
use Rattle.tag.specs.declared.actions.Action.{Action}
use Rattle.tag.specs.declared.numbers.OpId.{OpId}
use Rattle.recorder.specs.Histories.{caller_of, is_invoke}
use Rattle.recorder.specs.declared.row.Row.{Row}
use Rattle.recorder.specs.declared.row.Row.TheVariants.{Invoke, Note, Respond}
use Rattle.world_steps.specs.Sound.{At, RowsSound, Invoked}
use Rattle.world_steps.proofs.RowLaws.{same_client}

-- the call that a row begins; where it begins none, the one that is given
abbrev begun_call : OpId → Option Row → OpId
begun_call other None = other
begun_call other (Some (Invoke op client key action)) = op
begun_call other (Some (Note op tag)) = other
begun_call other (Some (Respond op returned)) = other

abbrev begins : Option Row → Bool
begins None = false
begins (Some row) = is_invoke row

-- each row that begins the call names the client
abbrev NamesOnly : List Row → OpId → ℕ → Type 0
NamesOnly rows op client =
    (p d : ℕ) (key : List ℕ) (action : Action) → At rows p (Invoke op d key action) → d ≡ client

found_by : (o : OpId) (c : ℕ) (l : List ℕ) (a : Action) (rows : List Row) (op : OpId) (client : ℕ)
    (b : Bool) → nat_eq o.0 op.0 ≡ b → NamesOnly (Invoke o c l a ∷ rows) op client
    → ((p d : ℕ) (key : List ℕ) (action : Action) → At rows p (Invoke op d key action)
    → caller_of rows op ≡ Some client)
    → (p d : ℕ) (key : List ℕ) (action : Action)
    → At (Invoke o c l a ∷ rows) p (Invoke op d key action)
    → cond b (Some c) (caller_of rows op) ≡ Some client
found_by o c l a rows op client true e names later p d key action is =
    ap Some (names 0 c l a (ap (λ (x : OpId). Some (Invoke x c l a))
    (same_op o op (eqb-true o.0 op.0 e))))
found_by o c l a rows op client false e names later zero d key action is =
    absurd (eqb-false o.0 op.0 e (ap (λ (x : Option Row). (begun_call o x).0) is))
found_by o c l a rows op client false e names later (suc p) d key action is =
    later p d key action is

found : (rows : List Row) (op : OpId) (client : ℕ) → NamesOnly rows op client
    → (p d : ℕ) (key : List ℕ) (action : Action) → At rows p (Invoke op d key action)
    → caller_of rows op ≡ Some client
found [] op client names p d key action is = absurd (false≢true (ap begins is))
found (Invoke o c l a ∷ rows) op client names p d key action is =
    found_by o c l a rows op client (nat_eq o.0 op.0) refl names
    (found rows op client (λ q. names (suc q))) p d key action is
found (Note o t ∷ rows) op client names zero d key action is = absurd (false≢true (ap begins is))
found (Note o t ∷ rows) op client names (suc p) d key action is =
    found rows op client (λ q. names (suc q)) p d key action is
found (Respond o r ∷ rows) op client names zero d key action is = absurd (false≢true (ap begins is))
found (Respond o r ∷ rows) op client names (suc p) d key action is =
    found rows op client (λ q. names (suc q)) p d key action is

pub caller_found : (R : List Row) → RowsSound R → (op : OpId) (key : List ℕ) (i : Invoked R op key)
    → caller_of R op ≡ Some i.client
caller_found R rows op key i =
    found R op i.client (λ p d k a is. same_client R rows p i.place op d i.client k key a i.action
    is i.is) i.place i.client key i.action i.is
