use Rattle.record_monitor.proofs.key_calls.KeyCalls.answered.Goals as goal

pub returns-clause-told : goal.returns-clause-told
returns-clause-told c = λ rows key k t end. record {
  action = t.action;
  begins = t.begins;
  kind = t.kind;
  noted = c.take_pending-noted.ensures.note rows key k;
  answered = end;
}
