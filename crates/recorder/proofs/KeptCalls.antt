-- The keys and the values of calls, with one row more.
use Rattle.std.proofs.Common.{ℕ, ◌≡◌, ◌⊎◌, inl, inr, List, [], ◌∷◌, ◌++◌, Option, Some, None, Bool, true, false, cond, length, set, sym, ◌∙◌, ap, subst, refl, arith}
use Rattle.std.specs.List.{slice_get, Contains}
use Rattle.std.specs.Option.{ForSome}
use Rattle.tag.specs.declared.actions.Action.{Action}
use Rattle.tag.specs.declared.actions.Action.TheVariants.{Read, Write}
use Rattle.tag.specs.declared.actions.Returned.{Returned}
use Rattle.tag.specs.declared.actions.Returned.TheVariants.{Value, Written}
use Rattle.tag.specs.declared.numbers.OpId.{OpId}
use Rattle.tag.specs.Tags.{Tag}
use Rattle.recorder.specs.declared.row.Row.{Row}
use Rattle.recorder.specs.declared.row.Row.TheVariants.{Invoke, Note, Respond}
use Rattle.recorder.specs.declared.row_table.Span.{Span}
use Rattle.recorder.specs.declared.record.CallState.{CallState}
use Rattle.recorder.specs.Histories.{call_count, FitsAction, IsWellFormed}
use Rattle.recorder.specs.KeptCalls.{IsKeptCall, AreKept}
use Rattle.recorder.specs.Shown.{written_of, answer_of}
use Rattle.recorder.specs.States.{AreStates, Describes, is_write, action_by, returned_by}
use Rattle.recorder.specs.Tables.{Table, Extends}
use Rattle.recorder.specs.Texts.{IsValueAt, KeepsValue, value_in, text_at}
use Rattle.tag.proofs.Lists.{Contains-slice_get, push_cases, set_cases, slice_get-append_left, slice_get-push_left, slice_get-push_last}
use Rattle.tag.proofs.SameTags.{same_op}
use Rattle.recorder.proofs.Numbers.{no_response}
use Rattle.recorder.proofs.OneMore.{AnswersAnother}
use Rattle.recorder.proofs.States.{not_answered, begun}
use Rattle.recorder.proofs.Tables.{text-more, value-more}

-- texts that come later change no value
value_more : (old new more : List ℕ) → new ≡ old ++ more → (span : Option Span) → ForSome span (IsValueAt old) → value_in new span ≡ value_in old span
value_more old new more is None there = refl
value_more old new more is (Some span) there =
    ap Some (ap (λ (l : List ℕ). text_at l span) is ∙ text-more old more span (there span refl).within)

-- a write's value makes its action, and any answer that fits its action is made of its kind and its value
written_by : (action : Action) → action_by (is_write action) (written_of action) ≡ action
written_by Read = refl
written_by (Write value) = refl

fitting : (action : Action) (returned : Returned) → FitsAction action returned → (b : Bool) → b ≡ is_write action → (v : Option (List ℕ)) → (b ≡ false → v ≡ answer_of returned) → returned ≡ returned_by b v
fitting Read (Value answer) fits true kind v is = absurd (cc)
fitting Read (Value answer) fits false kind v is = ap Value (sym (is refl))
fitting Read Written fits b kind v is = absurd fits
fitting (Write value) (Value answer) fits b kind v is = absurd fits
fitting (Write value) Written fits true kind v is = refl
fitting (Write value) Written fits false kind v is = absurd (cc)

module _ (old new : Table) (row : Row) (rows : new.rows ≡ old.rows ++ row ∷ []) (grows : Extends old new) where
  -- a row that stands there stood there before, or is the last one
  stood : (place : ℕ) (what : Row) → slice_get new.rows place ≡ Some what → (slice_get old.rows place ≡ Some what) ⊎ ((place ≡ length old.rows) × (row ≡ what))
  stood place what at = push_cases old.rows row place what (ap (λ (l : List Row). slice_get l place) (sym rows) ∙ at)

  stays : (place : ℕ) (what : Row) → slice_get old.rows place ≡ Some what → slice_get new.rows place ≡ Some what
  stays place what at = ap (λ (l : List Row). slice_get l place) rows ∙ slice_get-push_left old.rows row place what at

  -- what a state says stays so, unless the row answers its call
  kept_push : (op : OpId) (state : CallState) → Describes old.rows op state → AnswersAnother row op → IsKeptCall old op state → IsKeptCall new op state
  kept_push op state d another k =
      let value = value_more old.texts new.texts grows.texts.0 grows.texts.1 state.value k.there in
      record {
        key = record {
          key = k.key.key;
          known = ap (λ (l : List (List ℕ)). slice_get l state.key) grows.keys.1 ∙ slice_get-append_left old.keys grows.keys.0 state.key k.key.key k.key.known;
          begun = (k.key.begun.0, k.key.begun.1, k.key.begun.2, stays state.invoked (Invoke k.key.begun.0 k.key.begun.1 k.key.key k.key.begun.2) k.key.begun.3);
        };
        there = λ span is. subst (λ (l : List ℕ). IsValueAt l span) (sym grows.texts.1) (value-more old.texts grows.texts.0 span (k.there span is));
        asks = λ client key action at.
            let same : Some (Invoke op client key action) ≡ Some (Invoke op state.client d.key d.action) = sym at ∙ stays state.invoked (Invoke op state.client d.key d.action) d.invoked in
            k.asks client key action (d.invoked ∙ sym same) ∙ ap (action_by state.is_write) (sym value);
        answers = λ place returned at. elim (stood place (Respond op returned) at) [
          | inl w ↦ k.answers place returned w ∙ ap (returned_by state.is_write) (sym value)
          | inr w ↦ absurd (another returned w.1)
        ];
      }

  -- a call's state is written anew with a row that is about it alone
  AreKept-set : (op : OpId) (states : List CallState) (state : CallState) → AreStates old.rows states → AreKept old states → ((o : OpId) → (o.0 ≡ op.0 → ⊥) → AnswersAnother row o) → IsKeptCall new op state → AreKept new (set states op.0 state)
  AreKept-set op states state are kept others mine o s there = elim (set_cases states op.0 state o.0 s there) [
    | inl w ↦ subst (λ (x : OpId). IsKeptCall new x s) (sym (same_op o op w.0)) (subst (IsKeptCall new op) w.1 mine)
    | inr w ↦ kept_push o s (are.each o s w.1) (others o w.0) (kept o s w.1)
  ]

-- one note more
pub kept_note : (old new : Table) (op : OpId) (tag : Tag) → new.rows ≡ old.rows ++ Note op tag ∷ [] → Extends old new → (states : List CallState) (state noted : CallState) → AreStates old.rows states → AreKept old states → slice_get states op.0 ≡ Some state → noted ≡ record state { note = Some tag } → AreKept new (set states op.0 noted)
kept_note old new op tag rows grows states state noted are kept at is =
    let k = kept_push old new (Note op tag) rows grows op state (are.each op state at) (λ r e. cc) (kept op state at) in
    let mine : IsKeptCall new op (record state { note = Some tag }) = record { key = k.key; there = k.there; asks = k.asks; answers = k.answers } in
    AreKept-set old new (Note op tag) rows grows op states noted are kept (λ o other r e. cc) (subst (IsKeptCall new op) (sym is) mine)

-- one response more
module _ (old new : Table) (op : OpId) (returned : Returned) (rows : new.rows ≡ old.rows ++ Respond op returned ∷ []) (grows : Extends old new) (state : CallState) (waits : state.response ≡ None) (d : Describes old.rows op state) (value : Option Span) (keeps : KeepsValue new.texts value (answer_of returned)) where
  there_answered : (b : Bool) → ForSome state.value (IsValueAt old.texts) → ForSome (cond b state.value value) (IsValueAt new.texts)
  there_answered true there = λ span is. subst (λ (l : List ℕ). IsValueAt l span) (sym grows.texts.1) (value-more old.texts grows.texts.0 span (there span is))
  there_answered false there = keeps.there

  asks_answered : (b : Bool) (action : Action) → ForSome state.value (IsValueAt old.texts) → action ≡ action_by b (value_in old.texts state.value) → action ≡ action_by b (value_in new.texts (cond b state.value value))
  asks_answered true action there is = is ∙ ap (action_by true) (sym (value_more old.texts new.texts grows.texts.0 grows.texts.1 state.value there))
  asks_answered false action there is = is

  kept_answered : FitsAction d.action returned → IsKeptCall old op state → IsKeptCall new op (record state { response = Some (length old.rows); value = cond state.is_write state.value value })
  kept_answered fits k = record {
    key = record {
      key = k.key.key;
      known = ap (λ (l : List (List ℕ)). slice_get l state.key) grows.keys.1 ∙ slice_get-append_left old.keys grows.keys.0 state.key k.key.key k.key.known;
      begun = (k.key.begun.0, k.key.begun.1, k.key.begun.2, stays old new (Respond op returned) rows grows state.invoked (Invoke k.key.begun.0 k.key.begun.1 k.key.key k.key.begun.2) k.key.begun.3);
    };
    there = there_answered state.is_write k.there;
    asks = λ client key action at.
        let same : Some (Invoke op client key action) ≡ Some (Invoke op state.client d.key d.action) = sym at ∙ stays old new (Respond op returned) rows grows state.invoked (Invoke op state.client d.key d.action) d.invoked in
        asks_answered state.is_write action k.there (k.asks client key action (d.invoked ∙ sym same));
    answers = λ place other at. elim (stood old new (Respond op returned) rows grows place (Respond op other) at) [
      | inl w ↦ absurd (not_answered old.rows op state d waits (other, Contains-slice_get old.rows place (Respond op other) w))
      | inr w ↦
          let same : returned ≡ other = let e = w.1 in cc in
          sym same ∙ fitting d.action returned fits state.is_write d.kind (value_in new.texts (cond state.is_write state.value value)) (λ read. rw read keeps.shown)
    ];
  }

  pub kept_respond : FitsAction d.action returned → (states : List CallState) (new_state : CallState) → AreStates old.rows states → AreKept old states → slice_get states op.0 ≡ Some state → new_state ≡ record state { response = Some (length old.rows); value = cond state.is_write state.value value } → AreKept new (set states op.0 new_state)
  kept_respond fits states new_state are kept at is =
      AreKept-set old new (Respond op returned) rows grows op states new_state are kept
      (λ o other r e. other (let same : op ≡ o = cc in ap (λ (x : OpId). x.0) (sym same)))
      (subst (IsKeptCall new op) (sym is) (kept_answered fits (kept op state at)))

-- one invocation more
module _ (old new : Table) (formed : IsWellFormed old.rows) (op : OpId) (client : ℕ) (key : List ℕ) (action : Action) (fresh : op.0 ≡ call_count old.rows) (rows : new.rows ≡ old.rows ++ Invoke op client key action ∷ []) (grows : Extends old new) (number : ℕ) (known : slice_get new.keys number ≡ Some key) (value : Option Span) (keeps : KeepsValue new.texts value (written_of action)) where
  here : slice_get new.rows (length old.rows) ≡ Some (Invoke op client key action)
  here = ap (λ (l : List Row). slice_get l (length old.rows)) rows ∙ slice_get-push_last old.rows (Invoke op client key action)

  kept_begun : IsKeptCall new op (begun client number action (length old.rows) value)
  kept_begun = record {
    key = record { key = key; known = known; begun = (op, client, action, here) };
    there = keeps.there;
    asks = λ c k a at.
        let same : Some (Invoke op client key action) ≡ Some (Invoke op c k a) = sym here ∙ at in
        let own : action ≡ a = cc in
        sym own ∙ sym (written_by action) ∙ ap (action_by (is_write action)) (sym keeps.shown);
    answers = λ place r at. elim (stood old new (Invoke op client key action) rows grows place (Respond op r) at) [
      | inl w ↦ absurd (no_response old.rows formed op fresh (r, Contains-slice_get old.rows place (Respond op r) w))
      | inr w ↦ absurd (let e = w.1 in cc)
    ];
  }

  pub kept_invoke : (states : List CallState) (state : CallState) → AreStates old.rows states → AreKept old states → state ≡ begun client number action (length old.rows) value → AreKept new (states ++ state ∷ [])
  kept_invoke states state are kept is o s there = elim (push_cases states state o.0 s there) [
    | inl w ↦ kept_push old new (Invoke op client key action) rows grows o s (are.each o s w) (λ r e. cc) (kept o s w)
    | inr w ↦
        let same : o ≡ op = same_op o op (omega (arith, w.0, are.all, fresh)) in
        subst (λ (x : OpId). IsKeptCall new x s) (sym same) (subst (IsKeptCall new op) (sym is ∙ w.1) kept_begun)
  ]
