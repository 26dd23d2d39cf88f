use Rattle.std.proofs.Common.{subst, ◌↔◌, List}
use Rattle.recorder.specs.declared.part.Call.{Call}
use Rattle.recorder.specs.Orders.{IsLinearizable}
use Rattle.split_rows.specs.Pieces.{IsKeyOf}
use Rattle.split_rows.proofs.Orders.{linearizable_alike}
use Rattle.split_rows.proofs.Parts.{is_moved_part, moved, moved_part}
use Rattle.split_rows.proofs.laws.a_key_is_linearizable_exactly_if_it_is_in_its_piece.Goals as goal

pub returns : goal.returns
returns c parts rows keys number pieces p key part other formed are own is there =
    let mine = IsKeyOf parts keys p in
    let piece = are.each p in
    let calls = moved rows formed mine number (pieces p) piece key own part is in
    let same = c.a_part_is_one_list.ensures (pieces p) key calls other (moved_part rows formed mine number (pieces p) piece key own part is)
    there in
    subst (λ (m : List Call). IsLinearizable part ↔ IsLinearizable m) same
    (linearizable_alike number part calls (is_moved_part rows formed mine number (pieces p) piece key own part is))
