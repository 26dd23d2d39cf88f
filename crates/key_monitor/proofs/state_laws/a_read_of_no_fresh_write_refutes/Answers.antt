use Rattle.key_monitor.proofs.Following.{refused_read}
use Rattle.key_monitor.proofs.state_laws.a_read_of_no_fresh_write_refutes.Goals as goal

pub returns : goal.returns
returns c before after source row place read value state k a answered none = refused_read before after source row place read value state
    k a answered none
