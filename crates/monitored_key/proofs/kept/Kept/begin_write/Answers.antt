use Rattle.monitored_key.specs.WritesOf.{kept_of}
use Rattle.monitored_key.specs.Maps.{entry_at}
use Rattle.monitored_key.proofs.Following.{follows_write_begun}
use Rattle.monitored_key.proofs.Rows.{new_number}
use Rattle.monitored_key.proofs.kept.Kept.begin_write.Goals as goal

pub add-requires-clause-new : goal.add-requires-clause-new
add-requires-clause-new c =
    let s = c.args.self.now in
    new_number (kept_of s.writes) s.number c.args.number c.requires.sound.together.numbered c.requires.rises

pub returns-clause-follows : goal.returns-clause-follows
returns-clause-follows c =
    let s = c.args.self.now in
    follows_write_begun s.zones (kept_of s.writes) (entry_at s.opens.entries) s.first c.args.number c.args.place c.args.text.now
    (kept_of c.add.new.self) c.in_ok-add.ensures.kept
