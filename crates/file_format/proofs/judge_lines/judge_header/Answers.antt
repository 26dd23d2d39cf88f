use Rattle.file_format.specs.Documents.{data_in}
use Rattle.file_format.specs.Headers.{header_in}
use Rattle.file_format.proofs.Showing.{shown, header_in-well}
use Rattle.file_format.proofs.judge_lines.judge_header.Goals as goal

pub returns : goal.returns
returns c = shown (header_in c.args.name.now) c.args.line.now (data_in c.in_ok-document.document) c.header_in.result
    c.if-line-gt-LONGEST.false c.in_ok-document.ensures (header_in-well c.args.name.now (data_in c.in_ok-document.document))
    c.header_in.ensures
