use Rattle.std.proofs.Common.{◌≤◌, ◌<◌, ap, refl, length, arith}
use Rattle.std.proofs.lemmas.Option.{slice_get_past}
use Rattle.open_calls.specs.Numbered.{flat, held_in, home_of}
use Rattle.open_calls.proofs.InSlots.{noted_or_elsewhere}
use Rattle.open_calls.proofs.slots.note_standing.Goals as goal

pub returns-then-home-len : goal.returns-then-home-len
returns-then-home-len g c =
    let below : c.home_of-home.result < length c.args.slots.now.items = omega (arith, c.if-home-len.true) in
    noted_or_elsewhere c.args.slots.now.items c.args.number c.home_of-home.result c.index_mut.result.now c.note_at.new.slot c.note_at.result c.home_of-home.ensures.is below c.index_mut.ensures.value c.note_at.ensures

pub returns-else-home-len : goal.returns-else-home-len
returns-else-home-len g c =
    let slots = c.args.slots.now.items in
    let past : length slots ≤ c.home_of-home.result = omega (arith, c.if-home-len.false) in
    record {
      none = ap (λ s. held_in (flat s) c.args.number) (slice_get_past slots (home_of c.args.number) (rw c.home_of-home.ensures.is at past));
      same = λ place. refl;
    }
