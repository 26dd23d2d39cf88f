use Rattle.value_order.specs.Tables.{ReadsBy}
use Rattle.kept_families.proofs.Pieces.{unreadable_refutes}
use Rattle.key_monitor.proofs.Judging.{sound_same, unreadable}
use Rattle.key_monitor.proofs.row_laws.a_read_without_a_candidate_refutes.Goals as goal

pub returns : goal.returns
returns c before after source row place value read known j a answered are none = unreadable_refutes after (ReadsBy after source) read
    a.goes.sequence (sound_same before after source row place j a.goes) (unreadable before after source row place read value j a answered
    known are none)
