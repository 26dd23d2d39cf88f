-- What stands at the places of a list.
use Rattle.std.proofs.Common.{ℕ, ◌≡◌, ◌+◌, inl, inr, List, Option, Some, None, sym, ◌∙◌, ap, subst, arith}
use Rattle.std.specs.List.{slice_get}
use Rattle.std.proofs.lemmas.Bool.{cases_lt}
use Rattle.std.proofs.lemmas.Option.{same_Some, slice_get_within}
use Rattle.tag.specs.declared.actions.Action.TheVariants.{Read}
use Rattle.tag.specs.declared.numbers.OpId.{OpId}
use Rattle.tag.proofs.Lists.{Contains-slice_get}
use Rattle.recorder.specs.declared.part.Call.{Call}
use Rattle.recorder.specs.Parts.{IsSequence}
use Rattle.recorder.specs.Orders.{StandsAt, WritesAt, NoWriteFrom, IsLastWritten}
use Rattle.recorder.proofs.Sequences.{same_at}
use Rattle.certificate_check.specs.Places.{HasOpAt}
use Rattle.certificate_check.specs.Verdicts.{IsUnknown}
use Rattle.reasons.specs.Calls.{IsCallOf, written_by}
use Rattle.reasons.specs.OrderReasons.{IsLastWriteBefore, last_value}
use Rattle.reasons.specs.declared.order_reasons.PlacedCall.{PlacedCall}

-- what a search found is the part's call of that number
pub found_at : (part : List Call) (k : ℕ) (op : OpId) (call : Call) → slice_get part k ≡ Some call → HasOpAt part k op → IsCallOf part op call
found_at part k op call at found =
    let same : call ≡ found.0 = cc (at, found.1) in
    (Contains-slice_get part k call at, ap (λ (x : Call). x.op) same ∙ found.2)

module _ (part : List Call) (order : List OpId) where
  -- the call of the number at a place stands there
  pub stands : (i : ℕ) (op : OpId) (call : Call) → slice_get order i ≡ Some op → IsCallOf part op call → StandsAt part order i call
  stands i op call at found = record { listed = at ∙ ap Some (sym found.1); recorded = found.0 }

  -- where no call has the number at a place, none stands there
  pub unknown_here : (i : ℕ) (op : OpId) → slice_get order i ≡ Some op → ((call : Call) → IsCallOf part op call → ⊥) → IsUnknown part order i
  unknown_here i op at none = (
    slice_get_within order i op at,
    λ call there. none call (there.recorded, same_Some call.op op (sym there.listed ∙ at)),
  )

  -- where a read stands, no write does
  pub no_write_read : IsSequence part → (i : ℕ) (call : Call) → StandsAt part order i call → call.action ≡ Read → (value : List ℕ) → WritesAt part order i value → ⊥
  no_write_read sequence i call there reads value write =
      let same : write.0 ≡ call = same_at part order sequence i write.0 call write.1 there in
      cc (write.2, same, reads)

  -- no write from a place on, at which there is none
  pub no_write_from : (i next high : ℕ) → next ≡ i + 1 → ((value : List ℕ) → WritesAt part order i value → ⊥) → NoWriteFrom part order next high → NoWriteFrom part order i high
  no_write_from i next high is none after k value low less write =
      elim (cases_lt i k) [
        | inl h ↦ after k value (omega arith) less write
        | inr h ↦ let here : k ≡ i = omega arith in none value (subst (λ (n : ℕ). WritesAt part order n value) here write)
      ]

  -- the last write before a place wrote the last value
  pub last_written : (i : ℕ) (last : Option PlacedCall) → IsLastWriteBefore part order i last → IsLastWritten part order i (last_value last)
  last_written i None none = none
  last_written i (Some last) before =
      let write = before.2 in
      let value : written_by last.call.action ≡ Some write.0 = ap written_by write.1 in
      let written : IsLastWritten part order i (Some write.0) = (last.place, before.0, (last.call, before.1, write.1), before.3) in
      subst (λ (v : Option (List ℕ)). IsLastWritten part order i v) (sym value) written
