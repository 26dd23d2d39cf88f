use Rattle.std.proofs.Common.{rules}
use Rattle.std.proofs.lemmas.List.Sorted.{answers_always}
use Rattle.scenes.specs.declared.scene.Bar.{Bar}
use Rattle.scenes.proofs.OrderDots.{bar_found}
use Rattle.scenes.proofs.Rising.{rises_from}
use Rattle.scenes.proofs.dots.bar_of.Goals as goal

pub returns : goal.returns
returns c =
    let bars = c.args.bars.now in
    let facts = c.binary_search_by_key.ensures in
    let by_number = facts.position (λ bar. bar.call.0) (answers_always _ _ _ (λ f a r g called. search rules)) in
    let up = rises_from (λ (bar : Bar). bar.call.0) bars c.requires in
    let s = bar_found bars up c.args.op c.binary_search_by_key.result facts.bound by_number in
    rw c.ok.ensures.value (record { found = s.0; none = s.1 })
