use Rattle.std.proofs.Common.{◌≤◌, ◌+◌, refl, arith}
use Rattle.monitored_key.specs.declared.judged.Refusal.TheVariants.{LateNothing}
use Rattle.monitored_key.specs.WritesOf.{kept_of, owner_of}
use Rattle.monitored_key.specs.Kept.{key_of}
use Rattle.monitored_key.specs.Maps.{entry_at}
use Rattle.monitored_key.proofs.Following.{judges_late, judges_nothing}
use Rattle.monitored_key.proofs.Rows.{lacks_place}
use Rattle.monitored_key.proofs.Rows.{closes, still_same}
use Rattle.monitored_key.proofs.Standing.{stand_closed, stand_later}
use Rattle.monitored_key.proofs.kept.Kept.end_nothing.Goals as goal

pub forget-requires-clause-together : goal.forget-requires-clause-together
forget-requires-clause-together c =
    let s = c.args.self.now in
    let le : s.next ≤ c.args.place + 1 = omega (arith, c.requires.next) in
    let opens = entry_at c.remove.new.self.entries in
    stand_later s.zones (kept_of s.writes) (owner_of s.writes) opens s.next s.number
    (stand_closed s.zones (kept_of s.writes) (owner_of s.writes) (entry_at s.opens.entries) s.next s.number c.requires.sound.together
    c.args.begin opens (lacks_place s.opens.entries c.args.begin c.remove.new.self.entries c.remove.ensures.gone)) (c.args.place + 1) le

pub returns-in-Some-clause-follows : goal.returns-in-Some-clause-follows
returns-in-Some-clause-follows c =
    let s = c.args.self.now in
    judges_late s.zones (kept_of s.writes) (entry_at s.opens.entries) s.first c.args.begin c.args.place c.in-Some.first
    (LateNothing c.in-Some.first) (key_of s) c.in-Some.ensures.0 c.in-Some.ensures.1

pub returns-in-None-clause-held : goal.returns-in-None-clause-held
returns-in-None-clause-held c =
    let s = c.args.self.now in
    let new = c.forget.new.self in
    let stays = c.forget.ensures.stays in
    record {
      writes = still_same (kept_of s.writes) (kept_of new.writes) c.forget.ensures.fewer;
      opens = closes s.opens c.remove.new.self new.opens c.args.begin c.remove.ensures.gone stays.opens;
      first = stays.first;
      next = stays.next;
      number_is = stays.number;
    }

pub returns-in-None-clause-follows : goal.returns-in-None-clause-follows
returns-in-None-clause-follows c =
    let s = c.args.self.now in
    judges_nothing s.zones (kept_of s.writes) (entry_at s.opens.entries) s.first c.args.begin c.args.place
    (entry_at c.remove.new.self.entries) (lacks_place s.opens.entries c.args.begin c.remove.new.self.entries c.remove.ensures.gone)
    (key_of c.forget.new.self) (λ part source f. c.forget.ensures.follows part source c.args.place refl f) c.in-None.ensures
