use Rattle.record_monitor.proofs.key_calls.KeyCalls.take_pending.Goals as goal

pub returns-then-call-clause-knows : goal.returns-then-call-clause-knows
returns-then-call-clause-knows c = λ rows key k. record {
  writes = c.take_write.ensures.told rows key k.writes;
  notes = k.notes;
  answered = k.answered;
  first = k.first;
}

pub returns-then-call-clause-note : goal.returns-then-call-clause-note
returns-then-call-clause-note c = λ rows key k. c.take_write.ensures.note rows key k.writes
