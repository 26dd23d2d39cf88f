use Rattle.std.proofs.Common.{ℕ, ◌≡◌, ◌≤◌, max, ap, sym, subst, ◌∙◌, arith}
use Rattle.monitored_key.proofs.Owned.{owned_of}
use Rattle.std.proofs.lemmas.Option.{same_Some}
use Rattle.kept_zones.specs.Overwriting.{HasZone}
use Rattle.key_monitor.specs.KeptWrites.{KeptWrite}
use Rattle.monitored_key.specs.WritesOf.{kept_of, owner_of}
use Rattle.monitored_key.specs.Kept.{key_of}
use Rattle.monitored_key.specs.Maps.{entry_at}
use Rattle.monitored_key.specs.Passes.{HasRead}
use Rattle.monitored_key.proofs.Following.{judges_first}
use Rattle.monitored_key.proofs.Rows.{lacks_place}
use Rattle.monitored_key.proofs.Rows.{closes, free_place, still_ended}
use Rattle.monitored_key.proofs.Standing.{before_later, stand_closed, stand_ended}
use Rattle.monitored_key.proofs.kept.Kept.read_first.Goals as goal

pub add-requires-clause-before : goal.add-requires-clause-before
add-requires-clause-before c =
    let s = c.args.self.now in
    before_later s.zones s.next c.args.place c.requires.sound.together.before c.requires.next

pub add-requires-clause-begun : goal.add-requires-clause-begun
add-requires-clause-begun c =
    let o = c.requires.one in
    omega (arith, c.requires.sound.together.begun c.args.number o.0 o.1.is, o.3, c.requires.next, c.requires.began, c.max-last.ensures)

pub end-requires-clause-there : goal.end-requires-clause-there
end-requires-clause-there c = let o = c.requires.one in (o.0, o.1.is, o.2)

pub end-requires-clause-free : goal.end-requires-clause-free
end-requires-clause-free c =
    let s = c.args.self.now in
    free_place s.zones (kept_of s.writes) (owner_of s.writes) (entry_at s.opens.entries) s.next s.number
    (owned_of s.writes c.requires.sound.fit) c.requires.sound.together c.args.place c.requires.next

pub end_row-requires-clause-together : goal.end_row-requires-clause-together
end_row-requires-clause-together c =
    let s = c.args.self.now in
    let o = c.requires.one in
    let opens = entry_at c.remove.new.self.entries in
    let closed = stand_closed s.zones (kept_of s.writes) (owner_of s.writes) (entry_at s.opens.entries) s.next s.number
    c.requires.sound.together c.args.begin opens (lacks_place s.opens.entries c.args.begin c.remove.new.self.entries c.remove.ensures.gone) in
    let begun : c.max-last.result ≤ c.args.place = omega (
      arith,
      c.requires.sound.together.begun c.args.number o.0 o.1.is,
      o.3,
      c.requires.next,
      c.requires.began,
      c.max-last.ensures,
    ) in
    stand_ended s.zones (kept_of s.writes) (owner_of s.writes) opens s.next s.number closed
    c.args.place c.requires.next c.args.number c.max-last.result o.0 o.1.is begun c.add.new.self c.in_ok-add.ensures.zones
    c.in_ok-add.ensures.floor (kept_of c.end.new.self) (c.in_ok-end.ensures.kept o.0 o.1.is) (owner_of c.end.new.self)
    c.in_ok-end.ensures.ends

pub returns-clause-read : goal.returns-clause-read
returns-clause-read c = λ kept at.
    let s = c.args.self.now in
    let o = c.requires.one in
    let row = c.end_row.ensures.row in
    let new = c.end_row.new.self in
    let same : o.0 ≡ kept = same_Some o.0 kept (sym o.1.is ∙ at) in
    let last : c.max-last.result ≡ max o.0.begin c.args.begin = c.max-last.ensures ∙ ap (λ (b : ℕ). max b c.args.begin) (sym o.3) in
    let zone = subst (λ (b : ℕ). HasZone s.zones.zones c.args.place b c.add.new.self.zones) last c.in_ok-add.ensures.zones in
    subst (λ (k : KeptWrite). HasRead s c.args.begin k.value c.args.place new) same (record {
      held = record {
        writes = still_ended (kept_of s.writes) (kept_of c.end.new.self) (kept_of new.writes) c.args.number c.args.place o.0 o.1.is
            (c.in_ok-end.ensures.kept o.0 o.1.is) row.fewer;
        opens = closes s.opens c.remove.new.self new.opens c.args.begin c.remove.ensures.gone row.opens;
        first = row.first;
        next = row.next;
        number_is = row.number;
      };
      follows = judges_first s.zones (kept_of s.writes) (entry_at s.opens.entries) s.first c.args.begin c.args.place c.args.number o.0 o.1
          (entry_at c.remove.new.self.entries) (lacks_place s.opens.entries c.args.begin c.remove.new.self.entries c.remove.ensures.gone) (key_of
          new) o.2
          c.add.new.self zone c.in_ok-add.ensures.floor (kept_of c.end.new.self) (c.in_ok-end.ensures.kept o.0 o.1.is)
          (λ part source f. row.follows part source f);
    })
