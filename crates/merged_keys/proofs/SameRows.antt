-- What rows say once all calls are on one key: all that they said, but for the keys.
use Rattle.std.proofs.Common.{ℕ, ◌≡◌, ◌+◌, List, [], ◌∷◌, Some, map, length, refl, ap, ◌∙◌}
use Rattle.std.proofs.Common.{subst, arith}
use Rattle.std.specs.List.{slice_get, Contains}
use Rattle.tag.specs.declared.actions.Action.{Action}
use Rattle.tag.specs.declared.actions.Returned.{Returned}
use Rattle.tag.specs.declared.numbers.OpId.{OpId}
use Rattle.tag.specs.Tags.{Tag}
use Rattle.std.proofs.lemmas.Option.{slice_get_within}
use Rattle.tag.proofs.Options.{none_some}
use Rattle.tag.proofs.Lists.{place_of, Contains-slice_get, slice_get-map_back, slice_get-map_at}
use Rattle.recorder.specs.declared.row.Row.{Row}
use Rattle.recorder.specs.declared.row.Row.TheVariants.{Invoke, Note, Respond}
use Rattle.recorder.specs.declared.part.Call.{Call}
use Rattle.recorder.specs.Histories.{call_count, is_invoke}
use Rattle.recorder.specs.Records.{AreParts, BeginsAt, IsPart, IsRecorded}
use Rattle.store_orders.specs.Turns.{AreCallsOf}
use Rattle.merged_keys.specs.MergedKeys.{on_key}

-- a row that begins, notes or answers a call was one that does
invoke_only : (key : List ℕ) (row : Row) (op : OpId) (client : ℕ) (k : List ℕ) (action : Action)
    → on_key key row ≡ Invoke op client k action
    → (own : List ℕ) × (row ≡ Invoke op client own action)
invoke_only key (Invoke o c own a) op client k action e =
    let same_op : o ≡ op = cc in
    let same_client : c ≡ client = cc in
    let same_action : a ≡ action = cc in
    let same : Invoke o c own a ≡ Invoke op client own action = cc in
    (own, same)
invoke_only key (Note o tag) op client k action e = absurd (cc)
invoke_only key (Respond o returned) op client k action e = absurd (cc)

key_only : (key : List ℕ) (row : Row) (op : OpId) (client : ℕ) (k : List ℕ) (action : Action) → on_key key row ≡ Invoke op client k action
    → k ≡ key
key_only key (Invoke o c own a) op client k action e = cc
key_only key (Note o tag) op client k action e = absurd (cc)
key_only key (Respond o returned) op client k action e = absurd (cc)

note_only : (key : List ℕ) (row : Row) (op : OpId) (tag : Tag) → on_key key row ≡ Note op tag → row ≡ Note op tag
note_only key (Invoke o c own a) op tag e = absurd (cc)
note_only key (Note o t) op tag e = e
note_only key (Respond o returned) op tag e = absurd (cc)

respond_only : (key : List ℕ) (row : Row) (op : OpId) (returned : Returned) → on_key key row ≡ Respond op returned
    → row ≡ Respond op returned
respond_only key (Invoke o c own a) op returned e = absurd (cc)
respond_only key (Note o t) op returned e = absurd (cc)
respond_only key (Respond o r) op returned e = e

module _ (key : List ℕ) where
  -- as many calls are begun
  pub count_same : (rows : List Row) → call_count (map (on_key key) rows) ≡ call_count rows
  count_same [] = refl
  count_same (Invoke op client own action ∷ rows) = ap (λ n. 1 + n) (count_same rows)
  count_same (Note op tag ∷ rows) = ap (λ n. 0 + n) (count_same rows)
  count_same (Respond op returned ∷ rows) = ap (λ n. 0 + n) (count_same rows)

  pub invoke_same : (row : Row) → is_invoke (on_key key row) ≡ is_invoke row
  invoke_same (Invoke op client own action) = refl
  invoke_same (Note op tag) = refl
  invoke_same (Respond op returned) = refl

  module _ (rows : List Row) where
    -- the same is begun at each place, on some key
    pub begun_to : (place : ℕ) (op : OpId) (client : ℕ) (own : List ℕ) (action : Action)
        → slice_get rows place ≡ Some (Invoke op client own action)
        → slice_get (map (on_key key) rows) place ≡ Some (Invoke op client key action)
    begun_to place op client own action at = slice_get-map_at (on_key key) rows place (Invoke op client own action) at

    pub begun_back : (place : ℕ) (op : OpId) (client : ℕ) (k : List ℕ) (action : Action)
        → slice_get (map (on_key key) rows) place ≡ Some (Invoke op client k action)
        → (own : List ℕ) × (slice_get rows place ≡ Some (Invoke op client own action))
    begun_back place op client k action at =
        let row = slice_get-map_back (on_key key) rows place (Invoke op client k action) at in
        let own = invoke_only key row.0 op client k action row.2 in
        (own.0, row.1 ∙ ap Some own.1)

    -- the same notes and responses stand at each place
    pub noted_to : (op : OpId) (tag : Tag) → Contains rows (Note op tag) → Contains (map (on_key key) rows) (Note op tag)
    noted_to op tag there =
        let k = place_of rows (Note op tag) there in
        Contains-slice_get (map (on_key key) rows) k.0 (Note op tag) (slice_get-map_at (on_key key) rows k.0 (Note op tag) k.1)

    pub noted_back : (op : OpId) (tag : Tag) → Contains (map (on_key key) rows) (Note op tag) → Contains rows (Note op tag)
    noted_back op tag there =
        let k = place_of (map (on_key key) rows) (Note op tag) there in
        let row = slice_get-map_back (on_key key) rows k.0 (Note op tag) k.1 in
        Contains-slice_get rows k.0 (Note op tag) (row.1 ∙ ap Some (note_only key row.0 op tag row.2))

    pub answered_to : (place : ℕ) (op : OpId) (returned : Returned) → slice_get rows place ≡ Some (Respond op returned)
        → slice_get (map (on_key key) rows) place ≡ Some (Respond op returned)
    answered_to place op returned at = slice_get-map_at (on_key key) rows place (Respond op returned) at

    pub answered_back : (place : ℕ) (op : OpId) (returned : Returned) → slice_get (map (on_key key) rows) place ≡ Some (Respond op returned)
        → slice_get rows place ≡ Some (Respond op returned)
    answered_back place op returned at =
        let row = slice_get-map_back (on_key key) rows place (Respond op returned) at in
        row.1 ∙ ap Some (respond_only key row.0 op returned row.2)

    -- a call is recorded as it was
    recorded_back : (k : List ℕ) (call : Call) → IsRecorded (map (on_key key) rows) k call → (own : List ℕ) × IsRecorded rows own call
    recorded_back k call is =
        let own = begun_back call.invoked call.op call.client k call.action is.begun in (
          own.0,
          record {
            begun = own.1;
            noted = λ tag. (λ e. noted_back call.op tag ((is.noted tag).0 e), λ there. (is.noted tag).1 (noted_to call.op tag there));
            answered = λ place returned. (
              λ e. answered_back place call.op returned ((is.answered place returned).0 e),
              λ at. (is.answered place returned).1 (answered_to place call.op returned at),
            );
          },
        )

    -- a call is begun on that key alone
    pub begun_there : (k : List ℕ) (place : ℕ) → BeginsAt (map (on_key key) rows) k place → k ≡ key
    begun_there k place begun =
        let row = slice_get-map_back (on_key key) rows place (Invoke begun.0 begun.1 k begun.2) begun.3 in
        key_only key row.0 begun.0 begun.1 k begun.2 row.2

    -- so the part of the key has all calls
    pub all_calls : (part : List Call) → IsPart (map (on_key key) rows) key part → AreCallsOf rows part
    all_calls part is = record {
      each = λ call there. recorded_back key call (is.each call there);
      all = λ own place op client action at. is.all place op client action (begun_to place op client own action at);
      ordered = is.ordered;
    }

-- the only part is that of the key
pub only_part : (key : List ℕ) (rows : List Row) (parts : List (List ℕ × List Call)) → AreParts (map (on_key key) rows) parts
    → (k : List ℕ) (part : List Call) → slice_get parts 0 ≡ Some (k, part) → AreCallsOf rows part
only_part key rows parts are k part at =
    let there = Contains-slice_get parts 0 (k, part) at in
    let first = are.seen k part there in
    let same = begun_there key rows k first.0 first.1.begins in
    all_calls key rows part (subst (λ (name : List ℕ). IsPart (map (on_key key) rows) name part) same (are.each k part there))

contains_nothing : {X : Type 0} (x : X) → Contains [] x → ⊥
contains_nothing x there = none_some (place_of [] x there).1

-- without a part there is no call
pub no_part : (key : List ℕ) (rows : List Row) (parts : List (List ℕ × List Call)) → AreParts (map (on_key key) rows) parts
    → length parts ≡ 0
    → AreCallsOf rows []
no_part key rows parts are none = record {
  each = λ call there. absurd (contains_nothing call there);
  all = λ own place op client action at.
      let part = are.all key place (op, client, action, begun_to key rows place op client own action at) in
      let k = place_of parts (key, part.0) part.1 in
      absurd (let within = slice_get_within parts k.0 (key, part.0) k.1 in omega (arith, within, none));
  ordered = λ i j a b less at_i at_j. none_some at_i;
}
