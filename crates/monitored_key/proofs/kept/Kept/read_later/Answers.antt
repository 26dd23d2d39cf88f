use Rattle.std.proofs.Common.{◌≡◌, ◌≤◌, sym, subst, ◌∙◌, arith}
use Rattle.std.proofs.lemmas.Option.{none-some, same_Some}
use Rattle.kept_zones.specs.Overwriting.{last_of}
use Rattle.key_monitor.specs.KeptWrites.{IsFreshBy, KeptWrite}
use Rattle.monitored_key.specs.WritesOf.{kept_of, owner_of}
use Rattle.monitored_key.specs.Kept.{key_of}
use Rattle.monitored_key.specs.Maps.{entry_at}
use Rattle.monitored_key.specs.Passes.{HasRead}
use Rattle.monitored_key.proofs.Following.{judges_later}
use Rattle.monitored_key.proofs.Maps.{found}
use Rattle.monitored_key.proofs.Rows.{lacks_place}
use Rattle.monitored_key.proofs.Rows.{closes, still_same}
use Rattle.monitored_key.proofs.Standing.{stand_closed, stand_raised}
use Rattle.monitored_key.proofs.kept.Kept.read_later.Goals as goal

pub raise-requires-clause-there : goal.raise-requires-clause-there
raise-requires-clause-there c = sym c.in-Some.ensures

pub raise-requires-clause-free : goal.raise-requires-clause-free
raise-requires-clause-free c =
    let o = c.requires.one in
    subst (IsFreshBy c.args.self.now.zones c.args.begin) o.2 o.1.fresh

pub end_row-requires-clause-together : goal.end_row-requires-clause-together
end_row-requires-clause-together c =
    let s = c.args.self.now in
    let opens = entry_at c.remove.new.self.entries in
    let early : c.args.begin ≤ c.args.place = omega (arith, c.requires.began) in
    stand_raised s.zones (kept_of s.writes) (owner_of s.writes) opens s.next s.number
    (stand_closed s.zones (kept_of s.writes) (owner_of s.writes) (entry_at s.opens.entries) s.next s.number c.requires.sound.together
    c.args.begin opens (lacks_place s.opens.entries c.args.begin c.remove.new.self.entries c.remove.ensures.gone)) c.args.place c.requires.next
    c.args.end
    c.args.begin c.in-Some.last (sym c.in-Some.ensures) early c.raise.new.zones c.in_ok-raise.ensures.zones c.in_ok-raise.ensures.floor

pub returns-clause-read : goal.returns-clause-read
returns-clause-read c = λ kept at.
    let s = c.args.self.now in
    let o = c.requires.one in
    let row = c.end_row.ensures.row in
    let new = c.end_row.new.self in
    let same : o.0 ≡ kept = same_Some o.0 kept (sym o.1.is ∙ at) in
    subst (λ (k : KeptWrite). HasRead s c.args.begin k.value c.args.place new) same (record {
      held = record {
        writes = still_same (kept_of s.writes) (kept_of new.writes) row.fewer;
        opens = closes s.opens c.remove.new.self new.opens c.args.begin c.remove.ensures.gone row.opens;
        first = row.first;
        next = row.next;
        number_is = row.number;
      };
      follows = judges_later s.zones (kept_of s.writes) (entry_at s.opens.entries) s.first c.args.begin c.args.place c.args.number o.0 o.1
          (entry_at c.remove.new.self.entries) (lacks_place s.opens.entries c.args.begin c.remove.new.self.entries c.remove.ensures.gone) (key_of new)
          c.args.end c.in-Some.last o.2 (sym c.in-Some.ensures) c.raise.new.zones c.in_ok-raise.ensures.zones c.in_ok-raise.ensures.floor
          (λ part source f. row.follows part source f);
    })

pub unreachable-requires : goal.unreachable-requires
unreachable-requires c =
    let s = c.args.self.now in
    let o = c.requires.one in
    let z = found (last_of s.zones.zones c.args.end) (c.requires.sound.together.zoned c.args.number c.args.end o.0 o.1.is o.2) in
    none-some z.0 (c.in_default.ensures ∙ z.1)
