use Rattle.monitored_key.specs.WritesOf.{kept_of, owner_of}
use Rattle.monitored_key.proofs.Beside.{one_high, one_over, was_over}
use Rattle.monitored_key.proofs.Owned.{owned_of}
use Rattle.monitored_key.proofs.writes.Writes.refusal.Goals as goal

pub overwriter-requires-clause-high : goal.overwriter-requires-clause-high
overwriter-requires-clause-high c =
    let s = c.args.self.now in
    let zones = c.args.zones.now in
    let one = c.in-One.ensures zones c.args.begin c.requires.none in
    one_high zones (kept_of s) (owner_of s) (owned_of s c.requires.fit) c.args.begin c.args.text.now c.in-One.number c.in-One.end one.1
    c.requires.high

pub overwriter-requires-clause-there : goal.overwriter-requires-clause-there
overwriter-requires-clause-there c =
    let s = c.args.self.now in
    let zones = c.args.zones.now in
    let one = c.in-One.ensures zones c.args.begin c.requires.none in
    one_over zones (kept_of s) (owner_of s) (owned_of s c.requires.fit) c.args.begin c.args.text.now c.in-One.number c.in-One.end one.1
    c.requires.none

pub returns-in-One : goal.returns-in-One
returns-in-One c =
    let s = c.args.self.now in
    let zones = c.args.zones.now in
    let one = c.in-One.ensures zones c.args.begin c.requires.none in
    let o = c.overwriter.ensures in (
      one.0,
      was_over zones (kept_of s) (owner_of s) (owned_of s c.requires.fit) c.args.begin c.args.text.now c.in-One.number c.in-One.end
          one.1 o.0 c.overwriter.result o.1 o.2,
    )

pub returns-in-None : goal.returns-in-None
returns-in-None c = c.in-None.ensures c.args.zones.now c.args.begin c.requires.none

pub returns-in-Several : goal.returns-in-Several
returns-in-Several c =
    let two = c.in-Several.ensures c.args.zones.now c.args.begin c.requires.none in
    (c.requires.none, two.0, two.1, two.2)
