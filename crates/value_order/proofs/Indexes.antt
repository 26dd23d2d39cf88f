-- A part has no more calls than they have numbers.
use Rattle.std.proofs.Common.{ℕ, zero, suc, ◌≡◌, ◌<◌, ◌≤◌, List, Some, length, arith}
use Rattle.std.specs.List.{slice_get}
use Rattle.std.proofs.lemmas.Option.{slice_get_within}
use Rattle.tag.proofs.Lists.{get_at}
use Rattle.recorder.specs.declared.part.Call.{Call}
use Rattle.recorder.specs.Parts.{IsSequence}

-- the index of a call is no greater than its number, since numbers rise
pub index_at_most : (part : List Call) → IsSequence part → (i : ℕ) (call : Call) → slice_get part i ≡ Some call → i ≤ call.op.0
index_at_most part sequence zero call at = omega arith
index_at_most part sequence (suc i) call at =
    let small : suc i < length part = slice_get_within part (suc i) call at in
    let before = get_at part i (omega (arith, small)) in
    let low : i ≤ before.0.op.0 = index_at_most part sequence i before.0 before.1 in
    let up : before.0.op.0 < call.op.0 = sequence.numbers i (suc i) before.0 call (omega arith) before.1 at in
    omega arith
