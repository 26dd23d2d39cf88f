use Rattle.key_monitor.proofs.Following.{first_read}
use Rattle.key_monitor.proofs.state_laws.follows_the_first_read_of_its_write.Goals as goal

pub returns : goal.returns
returns c before after source row place op read state opens kept known writes k a left closes answered one unended has floor keeps =
    first_read before after source row place read state k a left opens closes op kept answered one unended known has floor writes keeps
