use Rattle.record_monitor.proofs.Entries.{sets_entry}
use Rattle.record_monitor.specs.Told.{HasNoteAt}
use Rattle.monitored_key.specs.Maps.{entry_at}
use Rattle.record_monitor.proofs.PlacedCalls.{all_set, told_noted}
use Rattle.record_monitor.proofs.key_calls.KeyCalls.note.Goals as goal

pub returns-then-is_write-clause-knows : goal.returns-then-is_write-clause-knows
returns-then-is_write-clause-knows c = λ rows key k note. record {
  writes = told_noted rows key c.args.self.now.writes c.note.new.self c.args.begin c.args.op c.args.note.now c.note.ensures.at note k.writes;
  notes = k.notes;
  answered = k.answered;
  first = k.first;
}

pub returns-clause-knows : goal.returns-clause-knows
returns-clause-knows c = λ rows key k note.
    let old = c.args.self.now.notes in
    let new = c.insert.new.self in
    record {
      writes = k.writes;
      notes = all_set (λ place noted. HasNoteAt rows noted.op noted.note) (entry_at old.entries) (entry_at new.entries) c.args.begin _
          (sets_entry old new c.args.begin _ c.in_ok-insert.ensures.updates) note k.notes;
      answered = k.answered;
      first = k.first;
    }
