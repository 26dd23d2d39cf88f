use Rattle.std.proofs.Common.{sym, subst}
use Rattle.recorder.specs.Histories.{IsWellFormed}
use Rattle.file_format.specs.ReadAgain.{IsTextOfRows}
use Rattle.file_format.specs.Texts.{numbered_history_text}
use Rattle.split_command.proofs.laws.pieces_are_read_and_judged_as_the_history.Goals as goal

pub returns-clause-read : goal.returns-clause-read
returns-clause-read g c = λ parts rows split p formed has.
    let on = has.on_lines p in
    let whole = c.a_piece_of_a_history_is_a_history.ensures parts rows has.keys has.number has.pieces p formed has.are in
    subst (IsTextOfRows (numbered_history_text (has.numbered p))) on.alone
    (c.numbered_rows_are_read_from_their_text.ensures (has.numbered p) (subst IsWellFormed (sym on.alone) whole) on.ranges)

pub returns-clause-judged : goal.returns-clause-judged
returns-clause-judged g c = λ parts rows split p key part moved formed has own is there.
    c.a_key_is_linearizable_exactly_if_it_is_in_its_piece.ensures parts rows has.keys has.number has.pieces p key part moved formed has.are own
    is there
