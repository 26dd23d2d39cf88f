use Rattle.file_format.specs.Documents.{data_in}
use Rattle.file_format.specs.OrderLines.{piece_in}
use Rattle.file_format.proofs.Showing.{shown, piece_in-well}
use Rattle.file_format.proofs.TakenLines.{piece_taken}
use Rattle.file_format.proofs.line_item.OrderPieceLineItem.read.Goals as goal

pub returns : goal.returns
returns c =
    let d = data_in c.in_ok-document.document in
    shown piece_in c.args.line.now d c.piece_in.result c.requires c.in_ok-document.ensures (piece_in-well d) c.piece_in.ensures

pub returns-in-Some : goal.returns-in-Some
returns-in-Some c = piece_taken c.args.line.now c.in-Some.piece (rw c.in-Some.is at c.in_ok-piece.ensures)
