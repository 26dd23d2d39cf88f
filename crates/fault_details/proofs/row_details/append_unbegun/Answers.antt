use Rattle.std.proofs.lemmas.Result.{on_ok_weaker}
use Rattle.fault_details.specs.RowDetails.{unbegun_text}
use Rattle.fault_details.proofs.Pieces.{more}
use Rattle.fault_details.proofs.row_details.append_unbegun.Goals as goal

pub returns : goal.returns
unfolding unbegun_text
returns c = on_ok_weaker c.append.result (more c.args.text.now.items _ _ _ _ c.in_ok-append_number.ensures) c.append.ensures
