use Rattle.std.proofs.Common.{arith}
use Rattle.tag.proofs.Lists.{item_at}
use Rattle.recorder.specs.declared.row.Row.TheVariants.{Invoke}
use Rattle.file_format.specs.Texts.{numbered_text}
use Rattle.split_command.proofs.Filling.{added, ok_then}
use Rattle.split_command.proofs.piece_files.PieceFiles.invoke.Goals as goal

pub returns-clause-row : goal.returns-clause-row
returns-clause-row g c =
    let old = c.args.self.now in
    let p = c.args.moved.piece in
    let one = old.one in
    let at = item_at old.waiting.items p c.index_mut-waiting.result.now (omega (arith, c.in_ok-find.ensures, one)) c.index_mut-waiting.ensures.value in
    ok_then c.relieve.result (λ kept. record {
      range = c.in_ok-append_numbered_invoke.ensures.range;
      text = λ texts later longer held. kept later (added g.W.Write.contents texts later old.writers.items old.waiting.items p
          c.index_mut-waiting.result.now c.append_numbered_invoke.new.out
          (numbered_text (record { line = c.args.line; row = Invoke c.args.moved.op c.args.client c.args.key.now c.args.action.now })) at c.in_ok-append_numbered_invoke.ensures.text longer held);
    }) c.relieve.ensures.texts
