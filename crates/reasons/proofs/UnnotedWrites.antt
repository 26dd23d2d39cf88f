-- The first writer of a read that has neither a response nor a note.
use Rattle.std.proofs.Common.{ℕ, ◌≡◌, ◌<◌, ◌≤◌, ◌+◌, inl, inr, List, Some, None, length, sym, ◌∙◌, ap, subst, arith}
use Rattle.std.specs.List.{slice_get}
use Rattle.std.proofs.lemmas.Bool.{cases_lt}
use Rattle.std.proofs.lemmas.Option.{none-some, same_Some, slice_get_within}
use Rattle.tag.specs.declared.actions.Action.TheVariants.{Write}
use Rattle.tag.specs.declared.actions.Returned.TheVariants.{Value}
use Rattle.tag.proofs.Lists.{Contains-slice_get, place_of}
use Rattle.recorder.specs.declared.part.Call.{Call}
use Rattle.recorder.specs.declared.part.Response.{Response}
use Rattle.recorder.specs.Parts.{IsPending, IsSequence}
use Rattle.recorder.specs.Sound.{IsRead}
use Rattle.value_order.specs.Writers.{IsWriter}
use Rattle.reasons.specs.Unnoted.{IsUnnotedWriter, IsFirstUnnoted}

-- a write of the value that has neither a response nor a note
abbrev pub IsUnnotedWrite : List ℕ → Call → Type 0
IsUnnotedWrite value call = (call.action ≡ Write value) × IsPending call × (call.note ≡ None)

-- a read without a response, or with another answer than a value, has no writer
pub unanswered : (part : List Call) (read : Call) → read.response ≡ None → IsFirstUnnoted part read None
unanswered part read none write is = none-some is.0.answered.response (sym none ∙ is.0.answered.responds)

pub no_value : (part : List Call) (read : Call) (response : Response) → read.response ≡ Some response
    → ((value : List ℕ) → response.returned ≡ Value (Some value) → ⊥) → IsFirstUnnoted part read None
no_value part read response responds other write is =
    let same : is.0.answered.response ≡ response = same_Some is.0.answered.response response (sym is.0.answered.responds ∙ responds) in
    other is.0.value (sym (ap (λ (r : Response). r.returned) same) ∙ is.0.answered.answers)

module _ (part : List Call) (read : Call) where
  -- none of the calls below index k is such a writer
  abbrev pub NoneBelow : ℕ → Type 0
  NoneBelow k = (m : ℕ) (write : Call) → m < k → slice_get part m ≡ Some write → IsUnnotedWriter part write read → ⊥

  -- none is at all
  pub none_at_all : (k : ℕ) → length part ≤ k → NoneBelow k → IsFirstUnnoted part read None
  none_at_all k past none write is =
      let there = place_of part write is.0.recorded in
      let within : there.0 < length part = slice_get_within part there.0 write there.1 in
      none there.0 write (omega arith) there.1 is

  -- one index more
  pub none_here : (k next : ℕ) (call : Call) → next ≡ k + 1 → slice_get part k ≡ Some call
      → (IsUnnotedWriter part call read → ⊥) → NoneBelow k → NoneBelow next
  none_here k next call is_next at other none m write below there is =
      elim (cases_lt m k) [
        | inl h ↦ none m write h there is
        | inr h ↦
            let here : m ≡ k = omega arith in
            let same : write ≡ call = same_Some write call (sym there ∙ (ap (slice_get part) here ∙ at)) in
            other (subst (λ (w : Call). IsUnnotedWriter part w read) same is)
      ]

  module _ (response : Response) (responds : read.response ≡ Some response) where
    -- a writer began no later than the response
    began : (write : Call) → IsWriter part write read → write.invoked ≤ response.place
    began write is =
        let same : is.answered.response ≡ response = same_Some is.answered.response response (sym is.answered.responds ∙ responds) in
        let place : is.answered.response.place ≡ response.place = ap (λ (r : Response). r.place) same in
        omega (arith, is.began)

    -- none is where a call began later, nor behind it
    pub none_later : IsSequence part → (k : ℕ) (call : Call) → slice_get part k ≡ Some call → response.place < call.invoked
        → NoneBelow k → IsFirstUnnoted part read None
    none_later sequence k call at late none write is =
        let there = place_of part write is.0.recorded in
        let early : write.invoked ≤ response.place = began write is.0 in
        elim (cases_lt there.0 k) [
          | inl h ↦ none there.0 write h there.1 is
          | inr h ↦ elim (cases_lt k there.0) [
            | inl lt ↦ let after : call.invoked < write.invoked = sequence.places k there.0 call write lt at there.1 in omega arith
            | inr le ↦
                let here : there.0 ≡ k = omega arith in
                let same : write ≡ call = same_Some write call (sym there.1 ∙ (ap (slice_get part) here ∙ at)) in
                let one : write.invoked ≡ call.invoked = ap (λ (w : Call). w.invoked) same in
                omega arith
          ]
        ]

    module _ (reads : IsRead read) (value : List ℕ) (answers : response.returned ≡ Value (Some value)) where
      -- what such a writer is, by the value
      pub wrote : (write : Call) → IsUnnotedWriter part write read → IsUnnotedWrite value write
      wrote write is =
          let mine = is.0.answered in
          let same : mine.response ≡ response = same_Some mine.response response (sym mine.responds ∙ responds) in
          let returned : mine.response.returned ≡ response.returned = ap (λ (r : Response). r.returned) same in
          let values : Value (Some is.0.value) ≡ Value (Some value) = sym mine.answers ∙ (returned ∙ answers) in
          let one : is.0.value ≡ value = cc in
          (is.0.writes ∙ ap Write one, is.1, is.2)

      -- the first that was found
      pub first_found : IsSequence part → (k : ℕ) (call : Call) → slice_get part k ≡ Some call → call.invoked ≤ response.place
          → IsUnnotedWrite value call → NoneBelow k → IsFirstUnnoted part read (Some call)
      first_found sequence k call at early is none =
          let writer : IsWriter part call read = record {
            recorded = Contains-slice_get part k call at;
            value = value;
            writes = is.0;
            answered = record { response = response; reads = reads; responds = responds; answers = answers };
            began = early;
          } in
          ((writer, is.1, is.2), λ other is_other. no_earlier other is_other)
        where
          no_earlier : (other : Call) → IsUnnotedWriter part other read → call.invoked ≤ other.invoked
          no_earlier other is_other =
              let there = place_of part other is_other.0.recorded in
              elim (cases_lt there.0 k) [
                | inl h ↦ absurd (none there.0 other h there.1 is_other)
                | inr h ↦ elim (cases_lt k there.0) [
                  | inl lt ↦ let after : call.invoked < other.invoked = sequence.places k there.0 call other lt at there.1 in omega arith
                  | inr le ↦
                      let here : there.0 ≡ k = omega arith in
                      let same : other ≡ call = same_Some other call (sym there.1 ∙ (ap (slice_get part) here ∙ at)) in
                      let one : other.invoked ≡ call.invoked = ap (λ (w : Call). w.invoked) same in
                      omega arith
                ]
              ]
