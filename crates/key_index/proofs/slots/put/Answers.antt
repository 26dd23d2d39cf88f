use Rattle.std.proofs.Common.{arith}
use Rattle.key_index.specs.declared.slots.Slot.{Slot}
use Rattle.key_index.proofs.Standing.{new_stands, still_stands}
use Rattle.key_index.proofs.slots.put.Goals as goal

pub returns-in-Some-clause-put : goal.returns-in-Some-clause-put
returns-in-Some-clause-put c =
    let slot : Slot = record { mark = c.args.mark; number = c.args.number } in
    λ _. new_stands c.args.slots.now c.in-Some.place slot c.in-Some.ensures (λ is. absurd (omega (arith, is, c.if-number.false)))

pub returns-in-Some-clause-kept : goal.returns-in-Some-clause-kept
returns-in-Some-clause-kept c =
    let slot : Slot = record { mark = c.args.mark; number = c.args.number } in
    still_stands c.args.slots.now c.args.mark c.in-Some.place slot c.in-Some.ensures
