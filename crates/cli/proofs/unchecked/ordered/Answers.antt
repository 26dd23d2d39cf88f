use Rattle.std.proofs.Common.{refl, arith, ap, ◌∙◌}
use Rattle.cli.specs.Outcomes.{found_of}
use Rattle.cli.proofs.Justified.{ordered_keys}
use Rattle.cli.proofs.unchecked.ordered.Goals as goal

pub returns : goal.returns
returns c =
    let made = c.in_ok-orders.field-0 in
    ordered_keys _ made c.in_ok-orders.ensures _ _ _ (rw c.as_slice.ensures.value at c.in_ok-text.ensures) refl made.left_out.len (omega (arith, made.left_out.ok.0)) (c.of-found.ensures ∙ ap found_of c.is_empty.ensures)
