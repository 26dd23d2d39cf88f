use Rattle.std.proofs.Common.{◌≡◌, ◌<◌, ◌∙◌, true, length, length-set, subst, inl, inr, arith}
use Rattle.hall_lock.specs.Turns.{ClientView}
use Rattle.std.proofs.lemmas.Option.{slice_get-get_or, slice_get_within}
use Rattle.tag.proofs.Lists.{set_cases}
use Rattle.node_threads.proofs.join.stop_all.Goals as goal

pub loop-pass-preserved : goal.loop-pass-preserved
loop-pass-preserved g c =
    record {
      own = λ k pass at. elim (set_cases c.loop-pass.passes c.loop-pass.pass-index c.stop.new.self k pass at) [
        | inl h ↦ subst (λ (s : ClientView). s.client ≡ c.args.client) h.1
            (c.stop.ensures.no_row.client ∙ c.loop-pass.invariant.own c.loop-pass.pass-index _
            (slice_get-get_or c.loop-pass.passes c.loop-pass.pass-index c.pass-item.result (omega arith)))
        | inr h ↦ c.loop-pass.invariant.own k pass h.1
      ];
      count = length-set c.loop-pass.passes c.loop-pass.pass-index c.stop.new.self ∙ c.loop-pass.invariant.count;
      stopped = λ k pass lt at. elim (set_cases c.loop-pass.passes c.loop-pass.pass-index c.stop.new.self k pass at) [
        | inl h ↦ subst (λ (s : ClientView). s.is_stopped ≡ true) h.1 c.stop.ensures.stopped
        | inr h ↦ c.loop-pass.invariant.stopped k pass (let other = h.0 in omega (arith, lt, other)) h.1
      ];
    }

pub returns : goal.returns
returns g c =
    record {
      stopped = record {
        count = c.loop-pass.invariant.count;
        own = c.loop-pass.invariant.own;
        stopped = λ k pass at.
            let lt : k < length c.loop-pass.passes = slice_get_within c.loop-pass.passes k pass at in
            let done = c.loop-pass-test.false in
            c.loop-pass.invariant.stopped k pass (omega (arith, lt, done)) at;
      };
    }
