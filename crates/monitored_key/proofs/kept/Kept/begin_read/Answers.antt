use Rattle.std.proofs.Common.{ℕ, subst}
use Rattle.kept_zones.specs.Overwriting.{HasZone}
use Rattle.monitored_key.specs.WritesOf.{kept_of, owner_of}
use Rattle.monitored_key.specs.Maps.{entry_at}
use Rattle.monitored_key.proofs.Following.{follows_read_begun}
use Rattle.monitored_key.proofs.Rows.{sets_place}
use Rattle.monitored_key.proofs.Standing.{stand_opened}
use Rattle.monitored_key.proofs.kept.Kept.begin_read.Goals as goal

pub returns-clause-sound : goal.returns-clause-sound
returns-clause-sound c =
    let s = c.args.self.now in
    let new = c.insert.new.self in
    record {
      fit = c.requires.sound.fit;
      together = stand_opened s.zones (kept_of s.writes) (owner_of s.writes) (entry_at s.opens.entries) s.next s.number
          c.requires.sound.together c.args.place c.requires.next c.args.number (entry_at new.entries)
          (sets_place s.opens.entries c.args.place c.args.number new.entries
          (subst (λ (n : ℕ). HasZone s.opens.entries c.args.place n new.entries) c.from.ensures c.in_ok-insert.ensures.ok));
      high = c.requires.sound.high;
    }

pub returns-clause-follows : goal.returns-clause-follows
returns-clause-follows c =
    let s = c.args.self.now in
    let new = c.insert.new.self in
    follows_read_begun s.zones (kept_of s.writes) (entry_at s.opens.entries) s.first c.args.number c.args.place (entry_at new.entries)
    (sets_place s.opens.entries c.args.place c.args.number new.entries
    (subst (λ (n : ℕ). HasZone s.opens.entries c.args.place n new.entries) c.from.ensures c.in_ok-insert.ensures.ok))
