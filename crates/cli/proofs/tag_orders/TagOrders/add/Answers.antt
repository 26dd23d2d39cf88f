use Rattle.std.proofs.Common.{List, ℕ, ◌++◌, Err, ap, refl, ◌∙◌}
use Rattle.std.proofs.lemmas.Result.{on_ok_weaker}
use Rattle.cli.proofs.LineSpelling.{left_out_said}
use Rattle.cli.proofs.Tagging.{left_out_more, ordered_more}
use Rattle.cli.proofs.tag_orders.TagOrders.add.Goals as goal

pub returns-in_ok-push-in-Ok : goal.returns-in_ok-push-in-Ok
returns-in_ok-push-in-Ok c = λ before so_far.
    ordered_more before (c.args.key.now, c.args.part.now) (record { key = c.in_ok-key-in-Ok.key; order = c.in-Ok.order })
    c.args.self.now (record { orders = c.push.new.self; left_out = c.args.self.now.left_out }) so_far
    c.in_ok-key-in-Ok.ensures.copy c.in-Ok.ensures.order c.in_ok-push-in-Ok.ensures.items refl

pub returns-in-Err-NoNote : goal.returns-in-Err-NoNote
returns-in-Err-NoNote c =
    let op = c.in-Err-NoNote.op in
    let old = c.args.self.now.left_out.items in
    let unnoted = (c.in-Err-NoNote.ensures.no_note op).0 (ap Err c.in-Err-NoNote.field-0-is) in
    on_ok_weaker c.append_to.result (λ said before so_far.
    left_out_more before (c.args.key.now, c.args.part.now) op c.args.self.now
    (record { orders = c.args.self.now.orders; left_out = c.append_to.new.text }) so_far (refl, unnoted) refl
    (said ∙ ap (λ (l : List ℕ). old ++ l) (left_out_said c.args.key op))) c.append_to.ensures
