-- Calls by their places, after a change of one.
use Rattle.std.proofs.Common.{ℕ, ◌≡◌, ◌≢◌, inl, inr, List, Option, Some, None, IsSome, cond, is_some, eq-eqb, ap, sym, ◌∙◌, subst, refl}
use Rattle.std.proofs.lemmas.Bool.{cases_eq, ne_eqb}
use Rattle.std.specs.Option.{option_map}
use Rattle.std.proofs.lemmas.Option.{none-some, same_Some}
use Rattle.tag.specs.declared.numbers.OpId.{OpId}
use Rattle.tag.proofs.SameTags.{same_op}
use Rattle.recorder.specs.declared.row.Row.{Row}
use Rattle.monitored_key.specs.Maps.{Lacks, Sets}
use Rattle.record_monitor.specs.declared.placed.Placed.{Placed}
use Rattle.record_monitor.specs.declared.told.ToldCall.{ToldCall}
use Rattle.record_monitor.specs.declared.told.ToldNote.{ToldNote}
use Rattle.record_monitor.specs.KeyCalls.{AreToldAt}
use Rattle.record_monitor.specs.Placed.{NotesAt, call_in, noted_as}
use Rattle.record_monitor.specs.Told.{HasNoteAt, IsToldCall}

-- what holds of each entry holds after one is set of which it holds
pub all_set : {X : Type 0} (P : ℕ → X → Type 0) (old new : ℕ → Option X) (k : ℕ) (v : X) → Sets old k v new → P k v
    → ((q : ℕ) (x : X) → old q ≡ Some x → P q x) → (q : ℕ) (x : X) → new q ≡ Some x → P q x
all_set P old new k v s p h q x at = elim (cases_eq q k) [
  | inl same ↦
      let one : v ≡ x = same_Some v x (sym s.here ∙ (ap new (sym same) ∙ at)) in
      subst (λ n. P n x) (sym same) (subst (λ y. P k y) one p)
  | inr apart ↦ h q x (sym (s.others q apart) ∙ at)
]

-- and after one is taken out
pub all_lack : {X : Type 0} (P : ℕ → X → Type 0) (old new : ℕ → Option X) (k : ℕ) → Lacks old k new
    → ((q : ℕ) (x : X) → old q ≡ Some x → P q x) → (q : ℕ) (x : X) → new q ≡ Some x → P q x
all_lack P old new k l h q x at = elim (cases_eq q k) [
  | inl same ↦ absurd (none-some x (sym l.here ∙ (ap new (sym same) ∙ at)))
  | inr apart ↦ h q x (sym (l.others q apart) ∙ at)
]

-- where one was, one is after another is taken out
pub stays_lack : {X : Type 0} (old new : ℕ → Option X) (k : ℕ) → Lacks old k new → (q : ℕ) → q ≢ k → IsSome (old q) → IsSome (new q)
stays_lack old new k l q apart there = ap is_some (l.others q apart) ∙ there

-- where one was, one is after one is set
pub stays_set : {X : Type 0} (old new : ℕ → Option X) (k : ℕ) (v : X) → Sets old k v new → (q : ℕ) → IsSome (old q) → IsSome (new q)
stays_set old new k v s q there = elim (cases_eq q k) [
  | inl same ↦ ap is_some (ap new same ∙ s.here)
  | inr apart ↦ ap is_some (s.others q apart) ∙ there
]

pub there : {X : Type 0} (o : Option X) (v : X) → o ≡ Some v → IsSome o
there o v e = ap is_some e

module _ (rows : List Row) (key : List ℕ) where
  -- the told call with a note is told
  pub noted : (call : ToldCall) (op : OpId) (note : ToldNote) → call.op.0 ≡ op.0 → HasNoteAt rows op note → IsToldCall rows key call
      → IsToldCall rows key (record call { noted = Some note })
  noted call op note same n t = record {
    action = t.action;
    begins = t.begins;
    kind = t.kind;
    noted = subst (λ (o : OpId). HasNoteAt rows o note) (sym (same_op call.op op same)) n;
    answered = t.answered;
  }

  -- one more is told
  pub told_set : (old new : Placed) (call : ToldCall) → Sets (call_in old) call.begun call (call_in new)
      → IsToldCall rows key call → AreToldAt rows key old → AreToldAt rows key new
  told_set old new call s t h = all_set (λ q x. IsToldCall rows key x × (x.begun ≡ q)) (call_in old) (call_in new) call.begun call s
      (t, refl) h

  -- one goes
  pub told_lack : (old new : Placed) (k : ℕ) → Lacks (call_in old) k (call_in new) → AreToldAt rows key old
      → AreToldAt rows key new
  told_lack old new k l h = all_lack (λ q x. IsToldCall rows key x × (x.begun ≡ q)) (call_in old) (call_in new) k l h

  -- the call is told with the note, or as it was
  noted_told : (call : ToldCall) (op : OpId) (note : ToldNote) (place : ℕ) → HasNoteAt rows op note → IsToldCall rows key call × (call.begun ≡ place)
      → IsToldCall rows key (noted_as op note call) × ((noted_as op note call).begun ≡ place)
  noted_told call op note place n t = elim (cases_eq call.op.0 op.0) [
    | inl same ↦ subst (λ b. IsToldCall rows key (cond b (record call { noted = Some note }) call) × ((cond b (record call { noted = Some note }) call).begun ≡ place)) (sym (eq-eqb call.op.0 op.0 same)) (noted call op note same n t.0, t.1)
    | inr apart ↦ subst (λ b. IsToldCall rows key (cond b (record call { noted = Some note }) call) × ((cond b (record call { noted = Some note }) call).begun ≡ place)) (sym (ne_eqb call.op.0 op.0 apart)) t
  ]

  one_noted : (o : Option ToldCall) (op : OpId) (note : ToldNote) (place : ℕ) (x : ToldCall) → HasNoteAt rows op note → ((call : ToldCall) → o ≡ Some call → IsToldCall rows key call × (call.begun ≡ place))
      → option_map (noted_as op note) o ≡ Some x → IsToldCall rows key x × (x.begun ≡ place)
  one_noted None op note place x n told e = absurd (none-some x e)
  one_noted (Some call) op note place x n told e =
      subst (λ (c : ToldCall). IsToldCall rows key c × (c.begun ≡ place)) (same_Some (noted_as op note call) x e) (noted_told call op note place n (told call refl))

  -- one is noted
  pub told_noted : (old new : Placed) (place : ℕ) (op : OpId) (note : ToldNote) → NotesAt (call_in old) place op note (call_in new) → HasNoteAt rows op note
      → AreToldAt rows key old → AreToldAt rows key new
  told_noted old new place op note notes n told q x at = elim (cases_eq q place) [
    | inl same ↦
        subst (λ (p : ℕ). IsToldCall rows key x × (x.begun ≡ p)) (sym same)
        (one_noted (call_in old place) op note place x n (told place) (sym notes.here ∙ (ap (call_in new) (sym same) ∙ at)))
    | inr apart ↦ told q x (sym (notes.others q apart) ∙ at)
  ]
