use Rattle.std.proofs.Common.{All, sym, ◌∙◌, subst, refl}
use Rattle.record_monitor.specs.KeyCalls.{has_place}
use Rattle.record_monitor.specs.Told.{IsToldCall}
use Rattle.record_monitor.proofs.AnsweredCalls.{all_filter, kept_over}
use Rattle.record_monitor.proofs.key_calls.KeyCalls.keep_only.Goals as goal

pub returns-clause-knows : goal.returns-clause-knows
returns-clause-knows c = λ rows key k.
    let old = c.args.self.now.answered.items in
    let test = has_place c.in_ok-places.places in
    record {
      writes = k.writes;
      notes = k.notes;
      answered = subst (All (IsToldCall rows key)) (sym (c.shrink_to.ensures.items ∙ c.keep_at.ensures))
          (all_filter test (IsToldCall rows key) old k.answered);
      first = k.first;
    }

pub returns-clause-keeps : goal.returns-clause-keeps
returns-clause-keeps c = λ zone there.
    kept_over c.in_ok-places.places c.args.self.now _ (c.shrink_to.ensures.items ∙ c.keep_at.ensures) refl zone
    (c.in_ok-places.ensures zone there)
