use Rattle.std.proofs.Common.{refl}
use Rattle.kept_zones.specs.Overwriting.{last_of}
use Rattle.key_monitor.proofs.Opens.{some_of}
use Rattle.key_monitor.proofs.Passing.{all_kept, one_gone}
use Rattle.key_monitor.proofs.forgetting.forget_one.Goals as goal

pub returns-in-Some : goal.returns-in-Some
returns-in-Some c =
    let s = some_of (last_of c.args.zones.now.zones c.in-Some.end) c.in-Some.ensures.0 in (
      record { last = s.0; is = s.1; lacks = c.remove.ensures.zones; floor = c.remove.ensures.floor s.0 s.1 },
      λ part source row k. one_gone part source row c.args.place c.args.zones.now k c.in-Some.end s.0
          c.remove.new.self s.1 c.in-Some.ensures.1 c.remove.ensures.zones (c.remove.ensures.floor s.0 s.1),
    )

pub returns-in-None : goal.returns-in-None
returns-in-None c = (
  refl,
  c.in-None.ensures,
  λ part source row k. all_kept part source row c.args.place c.args.zones.now k
      c.in-None.ensures,
)
