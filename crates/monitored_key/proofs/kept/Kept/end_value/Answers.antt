use Rattle.monitored_key.specs.WritesOf.{kept_of, owner_of}
use Rattle.monitored_key.proofs.Owned.{owned_of}
use Rattle.monitored_key.specs.Kept.{key_of}
use Rattle.monitored_key.specs.Maps.{entry_at}
use Rattle.monitored_key.proofs.Following.{judges_none}
use Rattle.monitored_key.proofs.Rows.{high_ends}
use Rattle.monitored_key.proofs.kept.Kept.end_value.Goals as goal

pub candidates-requires-clause-high : goal.candidates-requires-clause-high
candidates-requires-clause-high c =
    let s = c.args.self.now in
    high_ends s.zones (kept_of s.writes) (owner_of s.writes) (entry_at s.opens.entries) s.next s.number
    (owned_of s.writes c.requires.sound.fit) c.requires.sound.together c.requires.sound.high

pub refusal-refusal-requires-clause-high : goal.refusal-refusal-requires-clause-high
refusal-refusal-requires-clause-high c =
    let s = c.args.self.now in
    high_ends s.zones (kept_of s.writes) (owner_of s.writes) (entry_at s.opens.entries) s.next s.number
    (owned_of s.writes c.requires.sound.fit) c.requires.sound.together c.requires.sound.high

pub read-requires-clause-one : goal.read-requires-clause-one
read-requires-clause-one c = let k = c.in-One.ensures in (k.0, k.2)

pub returns-in-None-clause-follows : goal.returns-in-None-clause-follows
returns-in-None-clause-follows c =
    let s = c.args.self.now in
    judges_none s.zones (kept_of s.writes) (entry_at s.opens.entries) s.first c.args.begin c.args.place c.args.text.now
    c.refusal-refusal.result (key_of s) c.in-None.ensures

pub returns-in-Several-clause-held : goal.returns-in-Several-clause-held
returns-in-Several-clause-held c = c.leave_undecided.ensures.held c.args.text.now

pub returns-in-Several-clause-follows : goal.returns-in-Several-clause-follows
returns-in-Several-clause-follows c = c.leave_undecided.ensures.follows c.args.text.now c.in-Several.one c.in-Several.two
