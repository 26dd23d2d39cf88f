use Rattle.split_rows.specs.Pieces.{IsKeyOf}
use Rattle.split_rows.proofs.Parts.{is_moved_part, moved, moved_part}
use Rattle.split_rows.proofs.laws.the_part_of_a_key_is_moved_to_its_piece.Goals as goal

pub returns : goal.returns
returns c parts rows keys number pieces p key part formed are own is =
    let mine = IsKeyOf parts keys p in
    let piece = are.each p in (
      moved rows formed mine number (pieces p) piece key own part is,
      moved_part rows formed mine number (pieces p) piece key own part is,
      is_moved_part rows formed mine number (pieces p) piece key own part is,
    )
