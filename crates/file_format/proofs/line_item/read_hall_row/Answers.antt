use Rattle.std.proofs.Common.{ℕ, List, sym, subst}
use Rattle.row_members.specs.Values.{IsJson, value_of}
use Rattle.file_format.specs.Documents.{data_in}
use Rattle.file_format.specs.HallRows.{hall_row_in}
use Rattle.file_format.proofs.Showing.{shown, hall_row_in-well}
use Rattle.file_format.proofs.line_item.read_hall_row.Goals as goal

pub returns-in-Some : goal.returns-in-Some
returns-in-Some c =
    let header = c.args.header in
    let line = c.args.line.now in
    let found = rw c.in-Some.is at c.read.ensures in
    let d = value_of c.in-Some.members in
    let json : IsJson line d = subst (λ (l : List ℕ). IsJson line (value_of l)) (sym found.0) found.1 in
    shown (hall_row_in header) line d c.hall_row_in.result c.requires json (hall_row_in-well header d) c.hall_row_in.ensures

pub returns : goal.returns
returns c =
    let header = c.args.header in
    let d = data_in c.in_ok-document.document in
    shown (hall_row_in header) c.args.line.now d c.hall_row_in-2.result c.requires c.in_ok-document.ensures (hall_row_in-well header d)
    c.hall_row_in-2.ensures
