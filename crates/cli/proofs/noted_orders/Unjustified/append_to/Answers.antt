use Rattle.std.proofs.Common.{List, ℕ, ◌++◌, ap, ◌∙◌}
use Rattle.std.proofs.lemmas.Result.{on_ok_weaker}
use Rattle.cli.proofs.LineSpelling.{memory_said, no_note_said, no_order_said}
use Rattle.cli.proofs.noted_orders.Unjustified.append_to.Goals as goal

pub returns-in_ok-append_number-in-NoNote : goal.returns-in_ok-append_number-in-NoNote
returns-in_ok-append_number-in-NoNote c =
    let begun = c.append.new.text.items in
    rw c.in-NoNote.is (on_ok_weaker c.append-in-NoNote-2.result
    (no_note_said c.args.text.now.items begun c.append-in-NoNote.new.text.items c.in-NoNote.key c.in_ok-append-in-NoNote.ensures (c.in_ok-append-in-NoNote-2.ensures ∙ ap (λ (x : List ℕ). begun ++ x) c.as_str.ensures.text)
    c.append_number.new.text.items c.append-in-NoNote-2.new.text.items c.in-NoNote.op c.from.result c.from.ensures c.in_ok-append_number-in-NoNote.ensures) c.append-in-NoNote-2.ensures)

pub returns-in_ok-append_fault-in-NoOrder : goal.returns-in_ok-append_fault-in-NoOrder
returns-in_ok-append_fault-in-NoOrder c =
    let begun = c.append-in-NoOrder.new.text.items in
    rw c.in-NoOrder.is (on_ok_weaker c.append-in-NoOrder-4.result
    (no_order_said c.args.text.now.items begun c.append-in-NoOrder-2.new.text.items c.in-NoOrder.key c.in_ok-append-in-NoOrder.ensures (c.in_ok-append-in-NoOrder-2.ensures ∙ ap (λ (x : List ℕ). begun ++ x) c.as_str-in-NoOrder.ensures.text)
    c.append-in-NoOrder-3.new.text.items c.append_fault.new.text.items c.append-in-NoOrder-4.new.text.items c.in-NoOrder.fault c.in_ok-append-in-NoOrder-3.ensures c.in_ok-append_fault-in-NoOrder.ensures) c.append-in-NoOrder-4.ensures)

pub returns-in-Memory : goal.returns-in-Memory
returns-in-Memory c =
    rw c.in-Memory.is (on_ok_weaker c.append-in-Memory.result (memory_said c.args.text.now.items c.append-in-Memory.new.text.items) c.append-in-Memory.ensures)
