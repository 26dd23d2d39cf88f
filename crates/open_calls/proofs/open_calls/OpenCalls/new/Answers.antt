use Rattle.std.proofs.Common.{[], subst, sym}
use Rattle.open_calls.specs.Rows.{KeepsOpen}
use Rattle.open_calls.proofs.Keeping.{keeps_nothing}
use Rattle.open_calls.proofs.KeptCalls.{kept_none}
use Rattle.open_calls.proofs.Views.{view_none}
use Rattle.open_calls.proofs.open_calls.OpenCalls.new.Goals as goal

pub invariant_of-result : goal.invariant_of-result
invariant_of-result g c = kept_none c.new.result c.new-2.result c.new.ensures.fit c.new-2.ensures.fit c.new.ensures.none c.new-2.ensures.none

pub returns-clause-open : goal.returns-clause-open
returns-clause-open g c = view_none c.new.result c.new.ensures.fit c.new.ensures.none

pub returns-clause-rows : goal.returns-clause-rows
returns-clause-rows g c = subst (KeepsOpen []) (sym (view_none c.new.result c.new.ensures.fit c.new.ensures.none)) keeps_nothing
