use Rattle.key_monitor.proofs.Following.{later_read}
use Rattle.key_monitor.proofs.state_laws.follows_a_later_read_of_its_write.Goals as goal

pub returns : goal.returns
returns c before after source row place op end last read state opens kept known k a left closes answered one ended at has floor =
    later_read before after source row place read state k a left opens closes op kept answered one end last ended at known has floor
