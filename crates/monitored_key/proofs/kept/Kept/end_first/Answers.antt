use Rattle.std.proofs.Common.{ℕ, ◌≤◌, ap, sym, subst, arith}
use Rattle.monitored_key.proofs.Owned.{owned_of}
use Rattle.kept_zones.specs.Places.{PlaceMap}
use Rattle.kept_zones.specs.Overwriting.{HasZone}
use Rattle.monitored_key.specs.WritesOf.{kept_of, owner_of}
use Rattle.monitored_key.specs.Maps.{entry_at}
use Rattle.monitored_key.proofs.Following.{follows_first_end}
use Rattle.monitored_key.proofs.Rows.{free_place, still_ended}
use Rattle.monitored_key.proofs.Standing.{before_later, stand_ended}
use Rattle.monitored_key.proofs.kept.Kept.end_first.Goals as goal

pub add-requires-clause-before : goal.add-requires-clause-before
add-requires-clause-before c =
    let s = c.args.self.now in
    before_later s.zones s.next c.args.place c.requires.sound.together.before c.requires.next

pub add-requires-clause-begun : goal.add-requires-clause-begun
add-requires-clause-begun c =
    let o = c.requires.there in
    omega (arith, c.requires.sound.together.begun c.args.number o.0 o.1, o.3, c.requires.next)

pub end-requires-clause-free : goal.end-requires-clause-free
end-requires-clause-free c =
    let s = c.args.self.now in
    free_place s.zones (kept_of s.writes) (owner_of s.writes) (entry_at s.opens.entries) s.next s.number
    (owned_of s.writes c.requires.sound.fit) c.requires.sound.together c.args.place c.requires.next

pub end_row-requires-clause-together : goal.end_row-requires-clause-together
end_row-requires-clause-together c =
    let s = c.args.self.now in
    let o = c.requires.there in
    let begun : c.args.begin ≤ c.args.place = omega (arith, c.requires.sound.together.begun c.args.number o.0 o.1, o.3, c.requires.next) in
    stand_ended s.zones (kept_of s.writes) (owner_of s.writes) (entry_at s.opens.entries) s.next s.number c.requires.sound.together
    c.args.place c.requires.next c.args.number c.args.begin o.0 o.1 begun c.add.new.self c.in_ok-add.ensures.zones c.in_ok-add.ensures.floor
    (kept_of c.end.new.self) (c.in_ok-end.ensures.kept o.0 o.1) (owner_of c.end.new.self) c.in_ok-end.ensures.ends

pub returns-clause-held : goal.returns-clause-held
returns-clause-held c =
    let s = c.args.self.now in
    let o = c.requires.there in
    let row = c.end_row.ensures.row in
    record {
      writes = still_ended (kept_of s.writes) (kept_of c.end.new.self) (kept_of c.end_row.new.self.writes) c.args.number c.args.place
          o.0 o.1
          (c.in_ok-end.ensures.kept o.0 o.1) row.fewer;
      opens = ap (λ (m : PlaceMap). m.entries) row.opens;
      first = row.first;
      next = row.next;
      number_is = row.number;
    }

pub returns-clause-follows : goal.returns-clause-follows
returns-clause-follows c =
    let s = c.args.self.now in
    let o = c.requires.there in
    let zone = subst (λ (b : ℕ). HasZone s.zones.zones c.args.place b c.add.new.self.zones) (sym o.3) c.in_ok-add.ensures.zones in
    λ before after source row call f a left is number.
    c.end_row.ensures.row.follows after source
    (follows_first_end s.zones (kept_of s.writes) (entry_at s.opens.entries) s.first before after source row c.args.place c.args.number
    call f a left is number o.0 o.1 o.2 c.add.new.self zone c.in_ok-add.ensures.floor (kept_of c.end.new.self)
    (c.in_ok-end.ensures.kept o.0 o.1))
