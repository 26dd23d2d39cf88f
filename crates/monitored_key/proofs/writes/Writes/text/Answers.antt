use Rattle.std.proofs.Common.{sym, ◌∙◌}
use Rattle.monitored_key.specs.WritesOf.{rest_of}
use Rattle.monitored_key.proofs.writes.Writes.text.Goals as goal

pub returns-in-Some : goal.returns-in-Some
returns-in-Some c = (c.in-Some.write.now, c.in-Some.ensures (rest_of c.args.self.now), sym c.text.ensures)

pub returns-in-Some-write_at : goal.returns-in-Some-write_at
returns-in-Some-write_at c =
    let s = c.args.self.now in (
      c.in-Some-write_at.write.now,
      c.in_default.ensures (rest_of s) ∙ c.in-Some-write_at.ensures s.more.by_number.entries,
      sym c.text-in-Some-write_at.ensures,
    )
