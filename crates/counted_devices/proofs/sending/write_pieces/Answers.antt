use Rattle.std.proofs.Common.{[], ◌+◌, List, ℕ, subst, ◌∙◌, get_or, drop}
use Rattle.std.proofs.lemmas.Result.{err_from_is_err_and}
use Rattle.std.specs.Borrow.{Bor}
use Rattle.counted_devices.proofs.Leaving.{AppendsPrefix-more, Leaves-more, Leaves-none, Leaves-piece, on_err}
use Rattle.counted_devices.specs.Sendings.{AppendsPrefix, Leaves, pieces_text}
use Rattle.counted_devices.proofs.sending.write_pieces.Goals as goal

abbrev none : Bor (List ℕ)
none = record { ref_ptr = (0, 0); now = [] }

pub returns-in_err-write_all-clause-begun : goal.returns-in_err-write_all-clause-begun
returns-in_err-write_all-clause-begun g c =
    let at = c.loop-piece in
    let old = g.W.Write.contents c.args.writer.now in
    let before = g.W.Write.contents at.writer in
    let after = g.W.Write.contents c.write_all.new.writer in
    let pieces = c.args.pieces.now in
    on_err c.from_residual.result
    (AppendsPrefix-more old before after (pieces_text pieces) (get_or pieces at.piece-index none).now (pieces_text (drop (at.piece-index + 1) pieces))
    (Leaves-piece old before pieces at.piece-index none c.loop-piece-test.true at.invariant.left)
    (subst (λ (text : List ℕ). AppendsPrefix before after text) c.as_bytes.ensures.value c.in_err-write_all.ensures.begun))

pub returns-in_err-write_all-clause-device : goal.returns-in_err-write_all-clause-device
returns-in_err-write_all-clause-device g c =
    let p = err_from_is_err_and c.from_residual.result c.from_residual.ensures.1 in
    rw (p.1, p.2, ← c.loop-piece.invariant.same) c.in_err-write_all.ensures.device

pub loop-piece-preserved : goal.loop-piece-preserved
loop-piece-preserved g c =
    let at = c.loop-piece in
    let old = g.W.Write.contents c.args.writer.now in
    let before = g.W.Write.contents at.writer in
    let after = g.W.Write.contents c.write_all.new.writer in
    let pieces = c.args.pieces.now in
    record {
      left = Leaves-more old before after (pieces_text pieces) (get_or pieces at.piece-index none).now (pieces_text (drop (at.piece-index + 1) pieces)) []
          (Leaves-piece old before pieces at.piece-index none c.loop-piece-test.true at.invariant.left)
          (subst (λ (text : List ℕ). Leaves before after text []) c.as_bytes.ensures.value (Leaves-none before after c.as_bytes.result.now c.in_ok-write_all.ensures.sent));
      same = c.in_ok-write_all.ensures.counted ∙ at.invariant.same;
    }
