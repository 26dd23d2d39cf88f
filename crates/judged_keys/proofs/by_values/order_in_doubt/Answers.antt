-- The tags make no order, or the one that they make is refused.
use Rattle.std.proofs.Common.{◌≡◌, ◌∙◌, Err, List, ap, subst}
use Rattle.tag.specs.declared.numbers.OpId.{OpId}
use Rattle.recorder.specs.Sound.{IsByTag}
use Rattle.certificate_check.specs.Verdicts.{IsVerdict}
use Rattle.judged_keys.proofs.TagOrders.{refuted, undecided, unnoted}
use Rattle.judged_keys.proofs.by_values.order_in_doubt.Goals as goal

pub returns-in-Err-NoNote : goal.returns-in-Err-NoNote
returns-in-Err-NoNote c =
    let part = c.args.part.now in
    let op = c.in-Err-NoNote.field-0-0 in
    let least = (c.order_of.ensures.no_note op).0 (c.in-Err-NoNote.is ∙ ap Err c.in-Err-NoNote.field-0-is) in
    undecided part c.args.doubt c.order_of.ensures.sequence c.requires.doubt c.requires.faultless c.noted_calls_have_a_tag_order.ensures c.sound_tags_make_an_order.ensures (unnoted part op least)

pub returns-in-Yes : goal.returns-in-Yes
returns-in-Yes c =
    let part = c.args.part.now in
    let order = c.in-Ok.order in
    record {
      doubt = c.args.doubt;
      least = c.requires.doubt;
      faultless = c.requires.faultless;
      by_tag = c.in-Ok.ensures.order;
      ordered = subst (IsVerdict part order) c.in-Yes.is (rw c.as_slice.ensures at c.in_ok-check_part.ensures);
    }

pub returns-in-No : goal.returns-in-No
returns-in-No c =
    let part = c.args.part.now in
    let order = c.in-Ok.order in
    let is = subst (IsVerdict part order) c.in-No.is (rw c.as_slice.ensures at c.in_ok-check_part.ensures) in
    let one : (other : List OpId) → IsByTag part order → IsByTag part other → order ≡ other =
    λ other. c.the_tag_order_is_one_list.ensures part order other c.order_of.ensures.sequence in
    undecided part c.args.doubt c.order_of.ensures.sequence c.requires.doubt c.requires.faultless c.noted_calls_have_a_tag_order.ensures c.sound_tags_make_an_order.ensures
    (refuted part order c.in-Ok.ensures.order one (c.no_is_no_order.ensures part order c.in-No.field-0 is))
