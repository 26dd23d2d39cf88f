use Rattle.std.proofs.Common.{ℕ, List, sym, subst}
use Rattle.row_members.specs.Values.{IsJson, value_of}
use Rattle.file_format.specs.Documents.{data_in}
use Rattle.file_format.specs.Rows.{row_in}
use Rattle.file_format.proofs.Showing.{shown, row_in-well}
use Rattle.file_format.proofs.line_item.read_row.Goals as goal

pub returns-in-Some : goal.returns-in-Some
returns-in-Some c =
    let line = c.args.line.now in
    let found = rw c.in-Some.is at c.read.ensures in
    let d = value_of c.in-Some.members in
    let json : IsJson line d = subst (λ (l : List ℕ). IsJson line (value_of l)) (sym found.0) found.1 in
    shown row_in line d c.row_in.result c.requires json (row_in-well d) c.row_in.ensures

pub returns : goal.returns
returns c =
    let d = data_in c.in_ok-document.document in
    shown row_in c.args.line.now d c.row_in-2.result c.requires c.in_ok-document.ensures (row_in-well d) c.row_in-2.ensures
