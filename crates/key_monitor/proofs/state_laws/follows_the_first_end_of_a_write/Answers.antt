use Rattle.key_monitor.proofs.Following.{write_ends}
use Rattle.key_monitor.proofs.state_laws.follows_the_first_end_of_a_write.Goals as goal

pub returns : goal.returns
returns c before after source row place call w state kept known writes f a left is there number is_w at unended has floor keeps =
    write_ends before after source row place call w state f a left is there number is_w kept at unended known has floor writes keeps
