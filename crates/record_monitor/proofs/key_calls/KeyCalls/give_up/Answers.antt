use Rattle.monitored_key.specs.Maps.{entry_at}
use Rattle.record_monitor.specs.Told.{HasNoteAt}
use Rattle.record_monitor.proofs.Entries.{lacks_entry}
use Rattle.record_monitor.proofs.PlacedCalls.{all_lack}
use Rattle.record_monitor.proofs.key_calls.KeyCalls.give_up.Goals as goal

pub returns-clause-knows : goal.returns-clause-knows
returns-clause-knows c = λ rows key k.
    let old = c.args.self.now.notes in
    let new = c.remove.new.self in
    record {
      writes = k.writes;
      notes = all_lack (λ place noted. HasNoteAt rows noted.op noted.note) (entry_at old.entries) (entry_at new.entries) c.args.begin
          (lacks_entry old new c.args.begin c.remove.ensures.updates) k.notes;
      answered = k.answered;
      first = k.first;
    }
