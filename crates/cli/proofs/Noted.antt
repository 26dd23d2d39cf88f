-- A part that has a tag order has a note for each completed call.
use Rattle.std.proofs.Common.{List, inl}
use Rattle.tag.specs.declared.numbers.OpId.{OpId}
use Rattle.recorder.specs.declared.part.Call.{Call}
use Rattle.recorder.specs.Sound.{IsByTag}
use Rattle.witness_order.specs.Notes.{AllNoted}

pub all_noted : (part : List Call) (order : List OpId) → IsByTag part order → AllNoted part
all_noted part order by_tag = λ call recorded completed.
    let at = by_tag.all call recorded (inl completed) in
    by_tag.noted at.0 call at.1
