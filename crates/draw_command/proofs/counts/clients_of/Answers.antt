use Rattle.std.proofs.Common.{ℕ, List, [], ◌∷◌, ◌++◌, map, ap, ap₂, sym, arith, ◌∙◌}
use Rattle.std.proofs.lemmas.List.{take_all}
use Rattle.recorder.specs.declared.part.Call.{Call}
use Rattle.parallel_keys.proofs.Fronts.{mapped_at}
use Rattle.draw_command.proofs.counts.clients_of.Goals as goal

pub loop-place-preserved : goal.loop-place-preserved
loop-place-preserved c =
    let of = c.state-state.ensures in
    c.in_ok-push.ensures.items ∙ ap₂ (λ (l : List ℕ) (client : ℕ). l ++ client ∷ []) c.loop-place.invariant of.2.client
    ∙ sym (mapped_at (λ (one : Call). one.client) c.args.part.now c.loop-place.place of.0 of.1)

pub returns : goal.returns
returns c =
    c.loop-place.invariant
    ∙ ap (map (λ (one : Call). one.client)) (take_all c.loop-place.place c.args.part.now (omega (arith, c.len-place-end.ensures.count, c.loop-place-test.false, c.loop-place.auto.place-end)))
