use Rattle.monitored_key.specs.WritesOf.{kept_of, owner_of}
use Rattle.monitored_key.specs.Kept.{key_of}
use Rattle.monitored_key.specs.Maps.{entry_at}
use Rattle.monitored_key.proofs.Following.{follows_without}
use Rattle.monitored_key.proofs.Rows.{lacks_place}
use Rattle.monitored_key.proofs.Rows.{closes, still_same}
use Rattle.monitored_key.proofs.Standing.{stand_closed}
use Rattle.monitored_key.proofs.kept.Kept.give_up.Goals as goal

pub forget-requires-clause-together : goal.forget-requires-clause-together
forget-requires-clause-together c =
    let s = c.args.self.now in
    stand_closed s.zones (kept_of s.writes) (owner_of s.writes) (entry_at s.opens.entries) s.next s.number c.requires.sound.together
    c.args.begin (entry_at c.remove.new.self.entries) (lacks_place s.opens.entries c.args.begin c.remove.new.self.entries c.remove.ensures.gone)

pub returns-clause-held : goal.returns-clause-held
returns-clause-held c =
    let s = c.args.self.now in
    let new = c.forget.new.self in
    let stays = c.forget.ensures.stays in
    record {
      writes = still_same (kept_of s.writes) (kept_of new.writes) c.forget.ensures.fewer;
      opens = closes s.opens c.remove.new.self new.opens c.args.begin c.remove.ensures.gone stays.opens;
      first = stays.first;
      next = stays.next;
      number_is = stays.number;
    }

pub returns-clause-follows : goal.returns-clause-follows
returns-clause-follows c =
    let s = c.args.self.now in
    follows_without s.zones (kept_of s.writes) (entry_at s.opens.entries) s.first c.args.begin s.next (entry_at c.remove.new.self.entries)
    (lacks_place s.opens.entries c.args.begin c.remove.new.self.entries c.remove.ensures.gone) (key_of c.forget.new.self)
    (λ part source row is f. c.forget.ensures.follows part source row is f)
