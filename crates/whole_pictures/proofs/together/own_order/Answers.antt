use Rattle.draw_command.specs.Drawings.{order_in}
use Rattle.judged_keys.specs.Judgements.{judgement_of}
use Rattle.whole_pictures.proofs.Judging.{none_so, own_so}
use Rattle.whole_pictures.proofs.together.own_order.Goals as goal

pub returns-clause-some : goal.returns-clause-some
returns-clause-some c =
    own_so c.args.judged (judgement_of c.args.key.now) (order_in c.in_ok-drawn.drawn) c.in-Some.calls.now c.in_ok-named_order-in-Some.field-0 c.requires
    c.in_ok-drawn.ensures.chosen c.in_ok-drawn.ensures.order (rw c.in-Some.is at c.given.ensures) c.in_ok-named_order-in-Some.ensures.key
    c.in_ok-named_order-in-Some.ensures.order

pub returns-in-None-clause-none : goal.returns-in-None-clause-none
returns-in-None-clause-none c =
    none_so (judgement_of c.args.key.now) (order_in c.in_ok-drawn.drawn) c.in_ok-drawn.ensures.chosen (rw c.in-None.is at c.given.ensures)
