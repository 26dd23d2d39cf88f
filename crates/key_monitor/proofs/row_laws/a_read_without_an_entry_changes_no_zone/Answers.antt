use Rattle.key_monitor.proofs.Judging.{read_zones}
use Rattle.key_monitor.proofs.row_laws.a_read_without_an_entry_changes_no_zone.Goals as goal

pub returns : goal.returns
returns c before after source row place read known j a reads are = read_zones before after source row place read j a reads known are
