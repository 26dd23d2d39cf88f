use Rattle.std.proofs.Common.{◌≤◌, ◌+◌, arith}
use Rattle.monitored_key.specs.WritesOf.{kept_of, owner_of}
use Rattle.monitored_key.specs.Kept.{key_of}
use Rattle.monitored_key.specs.Maps.{entry_at}
use Rattle.monitored_key.proofs.Following.{judges_undecided}
use Rattle.monitored_key.proofs.Rows.{lacks_place}
use Rattle.monitored_key.proofs.Rows.{closes, still_same}
use Rattle.monitored_key.proofs.Standing.{stand_closed, stand_later}
use Rattle.monitored_key.proofs.kept.Kept.leave_undecided.Goals as goal

pub end_row-requires-clause-together : goal.end_row-requires-clause-together
end_row-requires-clause-together c =
    let s = c.args.self.now in
    let le : s.next ≤ c.args.place + 1 = omega (arith, c.requires.next) in
    let opens = entry_at c.remove.new.self.entries in
    stand_later s.zones (kept_of s.writes) (owner_of s.writes) opens s.next s.number
    (stand_closed s.zones (kept_of s.writes) (owner_of s.writes) (entry_at s.opens.entries) s.next s.number c.requires.sound.together
    c.args.begin opens (lacks_place s.opens.entries c.args.begin c.remove.new.self.entries c.remove.ensures.gone)) (c.args.place + 1) le

pub returns-clause-held : goal.returns-clause-held
returns-clause-held c = λ value.
    let s = c.args.self.now in
    let new = c.end_row.new.self in
    let row = c.end_row.ensures.row in
    record {
      writes = still_same (kept_of s.writes) (kept_of new.writes) row.fewer;
      opens = closes s.opens c.remove.new.self new.opens c.args.begin c.remove.ensures.gone row.opens;
      first = row.first;
      next = row.next;
      number_is = row.number;
    }

pub returns-clause-follows : goal.returns-clause-follows
returns-clause-follows c = λ value one two.
    let s = c.args.self.now in
    let row = c.end_row.ensures.row in
    judges_undecided s.zones (kept_of s.writes) (entry_at s.opens.entries) s.first c.args.begin c.args.place
    (entry_at c.remove.new.self.entries) (lacks_place s.opens.entries c.args.begin c.remove.new.self.entries c.remove.ensures.gone)
    (key_of c.end_row.new.self) (λ part source f. row.follows part source f) value one two
