-- Calls as the rows record them.
use Rattle.std.proofs.Common.{ℕ, ◌≡◌, ◌<◌, inl, inr, List, [], ◌∷◌, Option, Some, None, sym, ◌∙◌, ap, ap₂, subst, refl, arith}
use Rattle.std.proofs.lemmas.Option.{slice_get_within, get_or_from_slice_get, same_Some}
use Rattle.std.proofs.lemmas.List.Elements.{Contains-push_cases}
use Rattle.std.specs.List.{slice_get, Contains}
use Rattle.tag.specs.declared.actions.Returned.{Returned}
use Rattle.recorder.specs.declared.row.Row.{Row}
use Rattle.recorder.specs.declared.row.Row.TheVariants.{Invoke, Respond}
use Rattle.recorder.specs.declared.record.CallState.{CallState}
use Rattle.recorder.specs.declared.part.Call.{Call}
use Rattle.recorder.specs.declared.part.Response.{Response}
use Rattle.recorder.specs.Histories.{IsWellFormed}
use Rattle.recorder.specs.KeptCalls.{AreKept}
use Rattle.recorder.specs.States.{AreStates, Describes, call_of, call_with, no_state, response_at, returned_by}
use Rattle.recorder.specs.Texts.{value_in}
use Rattle.recorder.specs.Tables.{Table}
use Rattle.tag.specs.declared.actions.Action.{Action}
use Rattle.tag.specs.declared.numbers.OpId.{OpId}
use Rattle.recorder.specs.Parts.{IsSequence}
use Rattle.recorder.specs.Records.{IsRecorded}
use Rattle.tag.proofs.Lists.{Contains-slice_get}
use Rattle.recorder.proofs.Numbers.{numbers_rise, begun_before}

-- recorded calls in the order of their places are a sequence
pub IsSequence-recorded : (rows : List Row) → IsWellFormed rows → (key : List ℕ) (part : List Call) → ((call : Call) → Contains part call → IsRecorded rows key call) → ((i j : ℕ) (a b : Call) → i < j → slice_get part i ≡ Some a → slice_get part j ≡ Some b → a.invoked < b.invoked) → IsSequence part
IsSequence-recorded rows formed key part each ordered = record {
  numbers = λ i j a b less at_i at_j.
      let x = each a (Contains-slice_get part i a at_i) in
      let y = each b (Contains-slice_get part j b at_j) in
      numbers_rise rows formed a.invoked b.invoked a.op b.op a.client b.client key key a.action b.action (ordered i j a b less at_i at_j) x.begun y.begun;
  places = ordered;
  responses = λ call response h e.
      let x = each call h in
      begun_before rows formed response.place call.op response.returned ((x.answered response.place response.returned).0 e) call.invoked call.client key call.action x.begun;
}

-- the response, if any, is what the row at its place says
record IsResponseAt (rows : List Row) (op : OpId) (place : Option ℕ) (response : Option Response) : Type 0 where
  none : place ≡ None → response ≡ None
  some : (k : ℕ) (returned : Returned) → place ≡ Some k → slice_get rows k ≡ Some (Respond op returned) → response ≡ Some (record { place = k; returned = returned })

is_response : (rows : List Row) (op : OpId) (place : Option ℕ) (answer : Returned) → ((k : ℕ) (returned : Returned) → slice_get rows k ≡ Some (Respond op returned) → returned ≡ answer) → IsResponseAt rows op place (response_at place answer)
is_response rows op None answer fits = record { none = λ e. refl; some = λ k returned e at. absurd (cc) }
is_response rows op (Some k) answer fits = record {
  none = λ e. absurd (cc);
  some = λ j returned e at.
      let same : k ≡ j = cc in
      ap₂ (λ (n : ℕ) (r : Returned). Some (record { place = n; returned = r })) same (sym (fits j returned at));
}

-- a call made of its row and its state is recorded
module _ (rows : List Row) (key : List ℕ) (state : CallState) (call : Call) (d : Describes rows call.op state) (response : IsResponseAt rows call.op state.response call.response) where
  responds : (place : ℕ) (returned : Returned) (at : Option ℕ) → state.response ≡ at → call.response ≡ Some (record { place = place; returned = returned }) → slice_get rows place ≡ Some (Respond call.op returned)
  responds place returned None e h = let none : call.response ≡ None = response.none e in absurd (cc)
  responds place returned (Some k) e h =
      let r = (d.answered k).0 e in
      let made : call.response ≡ Some (record { place = k; returned = r.0 }) = response.some k r.0 e r.1 in
      let x : Response = record { place = k; returned = r.0 } in
      let y : Response = record { place = place; returned = returned } in
      let same : x ≡ y = cc in
      let places : k ≡ place = ap (λ (z : Response). z.place) same in
      let answers : r.0 ≡ returned = ap (λ (z : Response). z.returned) same in
      cc (r.1, places, answers)

  IsRecorded-made : slice_get rows call.invoked ≡ Some (Invoke call.op call.client key call.action) → call.note ≡ state.note → IsRecorded rows key call
  IsRecorded-made begun note = record {
    begun = begun;
    noted = λ tag. (λ e. (d.noted tag).0 (sym note ∙ e), λ h. note ∙ (d.noted tag).1 h);
    answered = λ place returned. (λ e. responds place returned state.response refl e, λ at. response.some place returned ((d.answered place).1 (returned, at)) at);
  }

-- and so is the call of a number
pub recorded_of : (table : Table) (states : List CallState) → AreStates table.rows states → AreKept table states → (op : OpId) (state : CallState) → slice_get states op.0 ≡ Some state
    → (key : List ℕ) (client : ℕ) (action : Action) → slice_get table.rows state.invoked ≡ Some (Invoke op client key action) → IsRecorded table.rows key (call_of table.texts states op.0)
recorded_of table states are kept op state at key client action begun =
    let d = are.each op state at in
    let k = kept op state at in
    let row : ◌≡◌ {A = Row} (Invoke op state.client d.key d.action) (Invoke op client key action) = same_Some _ _ (sym d.invoked ∙ begun) in
    let keys : d.key ≡ key = cc in
    let here = d.invoked ∙ ap₂ (λ (l : List ℕ) (a : Action). Some (Invoke op state.client l a)) keys (k.asks state.client d.key d.action d.invoked) in
    subst (IsRecorded table.rows key) (ap (call_with table.texts op.0) (sym (get_or_from_slice_get states op.0 state no_state at)))
    (IsRecorded-made table.rows key state (call_with table.texts op.0 state) d (is_response table.rows op state.response (returned_by state.is_write (value_in table.texts state.value)) k.answers) here refl)

-- a sequence of one call
pub IsSequence-one : (rows : List Row) → IsWellFormed rows → (key : List ℕ) (call : Call) → IsRecorded rows key call → IsSequence (call ∷ [])
IsSequence-one rows formed key call recorded = IsSequence-recorded rows formed key (call ∷ [])
    (λ c h. elim (Contains-push_cases [] call c h) [ inl w ↦ absurd (omega (arith, w.1)) | inr w ↦ subst (λ (x : Call). IsRecorded rows key x) w recorded ])
    (λ i j a b less at_i at_j. absurd (omega (arith, slice_get_within (call ∷ []) j b at_j)))
