use Rattle.monitored_key.specs.Indexed.{owner_in, values_in, write_in}
use Rattle.monitored_key.proofs.Fresh.{no_write, one_stale}
use Rattle.monitored_key.proofs.indexed.Indexed.stale.Goals as goal

pub returns-in_default : goal.returns-in_default
returns-in_default c = λ known begin none.
    let s = c.args.self.now in
    no_write (write_in s) (values_in s) (owner_in s) c.requires.fit known begin c.args.text.now none c.in_default.ensures

pub returns-in-None : goal.returns-in-None
returns-in-None c = λ known begin none.
    let s = c.args.self.now in
    one_stale (write_in s) (values_in s) (owner_in s) c.requires.fit known begin c.args.text.now none c.in-Some.number c.in-Some.end
    c.in-Some.ensures c.in-None.ensures
