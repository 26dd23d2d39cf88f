use Rattle.std.proofs.Common.{◌∙◌, ap}
use Rattle.std.specs.List.{fold}
use Rattle.std.proofs.lemmas.List.{take_all}
use Rattle.explanations.specs.Pieces.{with_piece}
use Rattle.explanations.proofs.Sayings.{said}
use Rattle.explanations.proofs.pieces.Subject.say.Goals as goal

pub returns : goal.returns
returns c =
    let s = c.args.self.now in
    let old = c.args.text.now.items in
    let whole = take_all c.loop-piece.piece-index c.args.pieces.now c.loop-piece-test.false in
    c.loop-piece.invariant ∙ ap (fold (with_piece s.key.now s.hall) old) whole
    ∙ said s.key.now s.hall old c.args.pieces.now
