use Rattle.std.proofs.Common.{[], refl, arith}
use Rattle.record_monitor.proofs.Finishing.{nothing_begun, nothing_recent, nothing_waits, nothing_watched}
use Rattle.record_monitor.proofs.taken.Taken.new.Goals as goal

pub returns-clause-rows : goal.returns-clause-rows
returns-clause-rows c = record {
  gone = [];
  keys = record {
    knows = record {
      given_up = λ op h. absurd (omega (arith, h.1));
      keys = nothing_watched c.args.give_up c.new-2.result c.new-2.ensures.numbers c.new-2.ensures.watched c.new-2.ensures.reports;
      waiting = nothing_waits c.new-2.result.numbers c.new-3.result.entries c.new-3.ensures.empty;
    };
    recent = nothing_recent c.args.give_up c.new-3.result.entries c.new-3.ensures.empty;
    at = refl;
  };
  opens = c.new.ensures.rows;
  begun = nothing_begun c.new-2.result.numbers c.new.result c.new.ensures.rows;
  few = omega arith;
}
