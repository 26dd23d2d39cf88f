use Rattle.file_format.specs.Documents.{data_in}
use Rattle.file_format.specs.FileHeaders.{file_header_in}
use Rattle.file_format.proofs.Showing.{shown, file_header_in-well}
use Rattle.file_format.proofs.judge_lines.judge_file_header.Goals as goal

pub returns : goal.returns
returns c = shown file_header_in c.args.line.now (data_in c.in_ok-document.document) c.file_header_in.result c.if-line-gt-LONGEST.false
    c.in_ok-document.ensures (file_header_in-well (data_in c.in_ok-document.document)) c.file_header_in.ensures
