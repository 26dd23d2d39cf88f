use Rattle.std.proofs.Common.{Some, None, sym, ◌∙◌, ◌≡◌, ◌==◌}
use Rattle.std.specs.HashMap.{get}
use Rattle.network.proofs.Writing.{get-flights_in, written}
use Rattle.network.proofs.in_flight.InFlight.set_copies.Goals as goal
use Rattle.network.proofs.in_flight.InFlight.set_copies.Goals.{in-Some, in_default}

pub returns : goal.returns
returns c = λ flight found.
    elim c.match-get_mut.branch [
      | in-Some w ↦
          let held = w.in-Some.flight.now in
          rw (w.self-inside-is, ← c.self.view_is)
          (written c.self.inside.by_number (c.get_mut.follows.lender (record held { copies = c.args.copies })) c.args.number c.args.copies held flight
          w.in-Some.ensures.value (rw (← c.self.view_is) at found) (c.get_mut.follows.holds (record held { copies = c.args.copies })))
      | in_default w ↦
          let missed : None ≡ get ◌==◌ c.self.inside.by_number c.args.number = w.in_default.ensures.value in
          let there : get ◌==◌ c.self.inside.by_number c.args.number ≡ Some flight = sym (get-flights_in c.self.inside.by_number c.args.number) ∙ (rw (← c.self.view_is) at found) in
          let both : None ≡ Some flight = missed ∙ there in
          cc
    ]
