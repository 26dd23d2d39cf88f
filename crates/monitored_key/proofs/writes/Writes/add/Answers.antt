use Rattle.std.proofs.Common.{None, ap, refl}
use Rattle.key_monitor.specs.KeptWrites.{KeptWrite}
use Rattle.monitored_key.proofs.Keeping.{in_more, in_second, none_of, on_ok_three}
use Rattle.monitored_key.proofs.writes.Writes.add.Goals as goal

pub returns-then-is_none-2-clause-fit : goal.returns-then-is_none-2-clause-fit
returns-then-is_none-2-clause-fit c =
    let s = c.args.self.now in
    let w : KeptWrite = c.in_ok-begun-2.field-0 in
    (in_second s c.requires.fit c.args.number c.requires.new w (ap (λ (x : KeptWrite). x.end) c.in_ok-begun-2.ensures)
    (none_of s.second c.is_none-2.result c.is_none-2.ensures c.if-is_none-2.true)).fit

pub returns-clause-fit : goal.returns-clause-fit
returns-clause-fit c =
    let s = c.args.self.now in
    let k : KeptWrite = record { value = c.args.text.now; begin = c.args.place; end = None } in
    on_ok_three c.add.result
    (λ mapped sets same. (in_more s c.requires.fit c.args.number c.requires.new k refl c.add.new.self mapped sets same).fit)
    c.add.ensures.fit c.add.ensures.kept c.add.ensures.ends
