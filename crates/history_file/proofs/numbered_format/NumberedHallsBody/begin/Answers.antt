use Rattle.std.proofs.Common.{◌≡◌, [], length, ap, ◌∙◌}
use Rattle.file_format.specs.FileHeaders.{halls_in}
use Rattle.history_file.specs.Openings.{halls_tell}
use Rattle.history_file.proofs.NumberedLines.{AreLinesByHall-none}
use Rattle.history_file.proofs.numbered_format.NumberedHallsBody.begin.Goals as goal

pub returns : goal.returns
returns c =
    let begun = c.in_ok-histories.ensures in
    let told : c.header.result ≡ begun.header = c.header.ensures ∙ halls_tell begun.header [] c.in_ok-histories.histories begun.made in
    let count : length c.in_ok-lines.lines.items ≡ halls_in begun.header = c.in_ok-lines.ensures.count ∙ c.halls.ensures.count ∙ ap halls_in told in
    record {
      header = begun.header;
      read = begun.read;
      fits = begun.fits;
      made = record {
        made = begun.made;
        lines = AreLinesByHall-none begun.header c.in_ok-lines.lines.items count c.in_ok-lines.ensures.empty;
      };
    }
