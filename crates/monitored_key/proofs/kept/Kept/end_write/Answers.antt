use Rattle.std.proofs.Common.{◌≤◌, ◌+◌, ap, arith}
use Rattle.kept_zones.specs.Places.{PlaceMap}
use Rattle.monitored_key.specs.WritesOf.{kept_of, owner_of}
use Rattle.monitored_key.specs.Maps.{entry_at}
use Rattle.monitored_key.proofs.Following.{follows_other_end}
use Rattle.monitored_key.proofs.Rows.{still_same}
use Rattle.monitored_key.proofs.Standing.{stand_later}
use Rattle.monitored_key.proofs.kept.Kept.end_write.Goals as goal

pub end_row-requires-clause-together : goal.end_row-requires-clause-together
end_row-requires-clause-together c =
    let s = c.args.self.now in
    let le : s.next ≤ c.args.place + 1 = omega (arith, c.requires.next) in
    stand_later s.zones (kept_of s.writes) (owner_of s.writes) (entry_at s.opens.entries) s.next s.number c.requires.sound.together
    (c.args.place + 1) le

pub returns-in-None-clause-held : goal.returns-in-None-clause-held
returns-in-None-clause-held c =
    let row = c.end_row.ensures.row in
    record {
      writes = still_same (kept_of c.args.self.now.writes) (kept_of c.end_row.new.self.writes) row.fewer;
      opens = ap (λ (m : PlaceMap). m.entries) row.opens;
      first = row.first;
      next = row.next;
      number_is = row.number;
    }

pub returns-in-None-clause-follows : goal.returns-in-None-clause-follows
returns-in-None-clause-follows c =
    let s = c.args.self.now in
    λ before after source row call f a left is number.
    c.end_row.ensures.row.follows after source
    (follows_other_end s.zones (kept_of s.writes) (entry_at s.opens.entries) s.first before after source row c.args.place c.args.number
    call f a left is number c.in-None.ensures)
