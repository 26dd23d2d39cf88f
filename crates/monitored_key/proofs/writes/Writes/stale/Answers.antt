use Rattle.monitored_key.specs.Indexed.{owner_in}
use Rattle.monitored_key.specs.WritesOf.{rest_of, rest_owner}
use Rattle.monitored_key.proofs.Beside.{none_rest}
use Rattle.monitored_key.proofs.Front.{free_in}
use Rattle.monitored_key.proofs.writes.Writes.stale.Goals as goal

pub returns : goal.returns
returns c = λ known begin none.
    let s = c.args.self.now in
    let text = c.args.text.now in
    let es = s.more.by_number.entries in
    let first = free_in s.first (rest_of s) (rest_owner s) c.requires.fit.first in
    let second = free_in s.second es (owner_in s.more) c.requires.fit.second in
    let rest = none_rest known begin text s.first (rest_of s) first none in
    c.stale_beside.ensures (rest_of s) known begin first none
    (c.stale_beside-rest.ensures es known begin second rest
    (c.stale-more.ensures known begin (none_rest known begin text s.second es second rest)))
