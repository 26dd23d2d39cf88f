use Rattle.monitored_key.specs.Indexed.{owner_in}
use Rattle.monitored_key.specs.WritesOf.{rest_of, rest_owner}
use Rattle.monitored_key.proofs.Front.{free_in, high_others, high_slot}
use Rattle.monitored_key.proofs.writes.Writes.candidates.Goals as goal

pub candidates-more-requires-clause-high : goal.candidates-more-requires-clause-high
candidates-more-requires-clause-high c =
    let s = c.args.self.now in
    let floor = c.args.zones.now.floor in
    high_others s.second s.more.by_number.entries (owner_in s.more) floor c.requires.fit.second
    (high_others s.first (rest_of s) (rest_owner s) floor c.requires.fit.first c.requires.high)

pub candidates_beside-rest-requires : goal.candidates_beside-rest-requires
candidates_beside-rest-requires c =
    let s = c.args.self.now in
    let floor = c.args.zones.now.floor in
    high_slot s.second (owner_in s.more) floor (high_others s.first (rest_of s) (rest_owner s) floor c.requires.fit.first c.requires.high)

pub candidates_beside-requires : goal.candidates_beside-requires
candidates_beside-requires c =
    let s = c.args.self.now in
    high_slot s.first (rest_owner s) c.args.zones.now.floor c.requires.high

pub returns : goal.returns
returns c =
    let s = c.args.self.now in
    let es = s.more.by_number.entries in
    c.candidates_beside.ensures (rest_of s) (free_in s.first (rest_of s) (rest_owner s) c.requires.fit.first)
    (c.candidates_beside-rest.ensures es (free_in s.second es (owner_in s.more) c.requires.fit.second) c.candidates-more.ensures)
