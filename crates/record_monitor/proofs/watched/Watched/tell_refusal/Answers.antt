use Rattle.std.proofs.Common.{Option, IfSome, sym, subst}
use Rattle.record_monitor.specs.declared.told.Told.{Told}
use Rattle.record_monitor.specs.Told.{IsTold}
use Rattle.record_monitor.proofs.watched.Watched.tell_refusal.Goals as goal

pub returns-clause-told : goal.returns-clause-told
returns-clause-told c = λ rows key told own answer. record {
  calls = c.clear.ensures rows key;
  told = subst (λ (o : Option Told). IfSome o (IsTold rows key)) (sym c.in_ok-self.ensures)
      (c.in_ok-told.ensures rows key told.calls own answer);
}
