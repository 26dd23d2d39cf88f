use Rattle.std.proofs.Common.{◌≡◌, ◌<◌, ◌≤◌, ◌+◌, ◌∙◌, length, refl, sym, ap, subst, arith}
use Rattle.std.proofs.lemmas.Option.{slice_get_read}
use Rattle.seats.specs.SeatFields.{seat_of}
use Rattle.seats.specs.Seats.{greater}
use Rattle.seats.proofs.SeatChanges.{greater_high, has_met, met_seat}
use Rattle.seats.proofs.seat.Seat.meet.Goals as goal

pub invariant_of-self : goal.invariant_of-self
invariant_of-self c =
    let lt : c.from-hall.result < length c.self.inside.seen.items = (let no = c.if-hall-len.false in let len = c.len.ensures in omega arith) in
    let there = slice_get_read c.self.inside.seen.items _ c.from-hall.result c.index.result.now refl lt c.index.ensures in
    met_seat (seat_of c.self.inside)
    c.from-hall.result c.index.result.now c.greater.result c.self.invariant there (subst (λ n. c.index.result.now ≤ n) (sym c.greater.ensures) (greater_high c.index.result.now _))

pub returns-clause-met : goal.returns-clause-met
returns-clause-met c =
    let lt : c.from-hall.result < length c.self.inside.seen.items = (let no = c.if-hall-len.false in let len = c.len.ensures in omega arith) in
    let there = slice_get_read c.self.inside.seen.items _ c.from-hall.result c.index.result.now refl lt c.index.ensures in
    let store : c.args.receipt.now.store ≡ c.self.inside.store = (let told = c.store.ensures in let same = c.if-store-self.false in omega arith) in
    rw (← c.self.view_is)
    (has_met (seat_of c.self.inside)
    c.args.receipt.now c.from-hall.result c.index.result.now c.greater.result store (c.from-hall.ensures ∙ c.hall.ensures) lt there (c.greater.ensures ∙ ap (λ n. greater c.index.result.now (n + 1)) c.place.ensures.place))
