use Rattle.std.proofs.Common.{List, ◌++◌, [], ◌∷◌, take, ℕ, subst, arith}
use Rattle.std.proofs.lemmas.List.{take_all}
use Rattle.cli.specs.Justifications.{KeyPart}
use Rattle.cli.specs.TagOrders.{AreMade}
use Rattle.cli.proofs.Tagging.{hall_front_more}
use Rattle.cli.proofs.tag_orders.TagOrders.add_hall.Goals as goal

pub loop-place-preserved : goal.loop-place-preserved
loop-place-preserved c = λ before so_far.
    let parts = c.args.parts.now.entries in
    let place = c.loop-place.place in
    let front = before ++ take place parts in
    hall_front_more before parts place c.entry-key.result c.add.new.self c.entry-key.ensures
    (subst (λ (k : List ℕ). AreMade (front ++ (k, c.entry-key.result.1) ∷ []) c.add.new.self) c.key.ensures
    (c.in_ok-add.ensures front (c.loop-place.invariant before so_far)))

pub returns : goal.returns
returns c = λ before so_far.
    subst (λ (l : List KeyPart). AreMade (before ++ l) c.loop-place.self) (take_all c.loop-place.place c.args.parts.now.entries (omega (arith, c.len-place-end.ensures, c.loop-place-test.false, c.loop-place.auto.place-end)))
    (c.loop-place.invariant before so_far)
