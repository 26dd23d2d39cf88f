use Rattle.std.proofs.Common.{ℕ, List, ◌++◌, ap, ◌∙◌, subst}
use Rattle.recorder.specs.declared.order.KeyOrder.{KeyOrder}
use Rattle.file_format.specs.Ranges.{IsOrderInRange}
use Rattle.file_format.specs.Texts.{piece_text}
use Rattle.file_format.proofs.EachElement.{on_ok}
use Rattle.file_format.proofs.WritingOn.{breaks_at_once, breaks_off, writes_but}
use Rattle.file_format.proofs.writing.write_piece.Goals as goal

pub returns-in_err-append_piece-clause-broken : goal.returns-in_err-append_piece-clause-broken
returns-in_err-append_piece-clause-broken g c =
    breaks_at_once g.W.Write.contents g.W.Counted.failures c.from_residual.result c.args.writer.now _ c.from_residual.ensures.1

pub returns : goal.returns
returns g c =
    let contents = g.W.Write.contents in
    let failures = g.W.Counted.failures in
    let named : List ℕ → KeyOrder = λ key. record { key = key; order = c.args.calls.now } in
    let text = c.in_ok-append_piece.ensures.text
    ∙ ap (λ (key : List ℕ). c.args.batch.now.items ++ piece_text (named key)) c.as_str.ensures.text in
    let R : List ℕ → Type 0 = λ key. IsOrderInRange (named key) in
    record {
      sent = rw (← text) (writes_but contents failures c.relieve.result c.args.writer.now c.relieve.new.writer
          c.append_piece.new.out.items c.relieve.new.batch.items c.relieve.ensures.sent c.relieve.ensures.counted);
      broken = rw (← text) (breaks_off contents failures c.relieve.result c.args.writer.now c.relieve.new.writer
          c.append_piece.new.out.items c.relieve.ensures.begun c.relieve.ensures.device);
      range = on_ok c.relieve.result (subst R c.as_str.ensures.text c.in_ok-append_piece.ensures.range);
    }
