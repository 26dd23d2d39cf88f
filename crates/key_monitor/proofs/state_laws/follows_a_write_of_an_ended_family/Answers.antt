use Rattle.key_monitor.proofs.Following.{ended_write_ends}
use Rattle.key_monitor.proofs.state_laws.follows_a_write_of_an_ended_family.Goals as goal

pub returns : goal.returns
returns c before after source row place end call w state kept f a left is there number is_w at ended = ended_write_ends before after
    source row place call w state f a left is there number is_w kept end at ended
