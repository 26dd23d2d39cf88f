use Rattle.std.proofs.Common.{◌∙◌, ap}
use Rattle.std.specs.List.{fold}
use Rattle.std.proofs.lemmas.List.{take_all}
use Rattle.monitor_sentences.specs.Pieces.{with_piece}
use Rattle.monitor_sentences.proofs.Sayings.{said}
use Rattle.monitor_sentences.proofs.pieces.say.Goals as goal

pub returns : goal.returns
returns c =
    let old = c.args.text.now.items in
    let whole = take_all c.loop-piece.piece-index c.args.pieces.now c.loop-piece-test.false in
    c.loop-piece.invariant ∙ ap (fold with_piece old) whole ∙ said old c.args.pieces.now
