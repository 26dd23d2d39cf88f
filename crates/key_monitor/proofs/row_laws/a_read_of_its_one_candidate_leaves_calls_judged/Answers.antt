use Rattle.key_monitor.proofs.Judging.{read_judged}
use Rattle.key_monitor.proofs.row_laws.a_read_of_its_one_candidate_leaves_calls_judged.Goals as goal

pub returns : goal.returns
returns c before after source later row place value read write known j a answered are none one entry = read_judged before after source
    row place read value j a answered known are write none one later entry
