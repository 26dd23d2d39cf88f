use Rattle.std.proofs.Common.{refl}
use Rattle.traces.specs.declared.telling.Telling.{Telling}
use Rattle.traces.proofs.Lines.{line_ended}
use Rattle.traces.proofs.telling.TellingObserver.after.Goals as goal

pub returns-in_ok-append_after-in-Some : goal.returns-in_ok-append_after-in-Some
returns-in_ok-append_after-in-Some c =
    let old = c.args.self.now in
    let new : Telling = record { text = c.append_after.new.text; quota = old.quota } in
    rw c.in-Some.is (λ first origin s step begun steps. line_ended first old new origin s c.args._world.now step c.in-Some.told c.args.effect.now
    begun refl c.in_ok-append_after-in-Some.ensures steps)
