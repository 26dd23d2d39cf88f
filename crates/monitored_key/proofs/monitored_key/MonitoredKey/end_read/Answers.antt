use Rattle.std.proofs.Common.{◌≡◌, ap, sym, refl, arith}
use Rattle.monitored_key.specs.Held.{Held, state_of}
use Rattle.monitored_key.specs.Kept.{seen}
use Rattle.std.specs.Option.{option_copied}
use Rattle.monitored_key.specs.Changes.{ChangesBy}
use Rattle.monitored_key.specs.Followed.{JudgesRead}
use Rattle.monitored_key.specs.Verdicts.{IsVerdict}
use Rattle.monitored_key.proofs.Seen.{carried, not_lost, taken}
use Rattle.monitored_key.proofs.monitored_key.MonitoredKey.end_read.Goals as goal

pub end_read-requires-clause-sound : goal.end_read-requires-clause-sound
end_read-requires-clause-sound c =
    (taken c.self.inside.kept c.in-Some.kept c.args.self.now (sym c.in-Some.is) c.self.view_is c.self.invariant).0

pub end_read-requires-clause-next : goal.end_read-requires-clause-next
end_read-requires-clause-next c =
    let t = taken c.self.inside.kept c.in-Some.kept c.args.self.now (sym c.in-Some.is) c.self.view_is c.self.invariant in
    let e : c.in-Some.kept.next ≡ c.args.self.now.next = ap (λ (h : Held). h.next) t.1 in
    omega (arith, e, c.requires.next)

pub returns-in-Ok-clause-judged : goal.returns-in-Ok-clause-judged
returns-in-Ok-clause-judged c =
    let t = taken c.self.inside.kept c.in-Some.kept c.args.self.now (sym c.in-Some.is) c.self.view_is c.self.invariant in
    carried (λ (a b : Held). JudgesRead (state_of a) (state_of b) c.args.begin (option_copied c.args.value) c.args.place c.in-Ok.judged)
    (seen c.in-Some.kept) (seen c.end_read.new.self) c.args.self.now (seen c.end_read.new.self) t.1 refl c.in-Ok.ensures.follows

pub returns-in-Ok-clause-verdict : goal.returns-in-Ok-clause-verdict
returns-in-Ok-clause-verdict c =
    let t = taken c.self.inside.kept c.in-Some.kept c.args.self.now (sym c.in-Some.is) c.self.view_is c.self.invariant in
    carried (λ (a b : Held). IsVerdict (state_of a) c.args.begin (option_copied c.args.value) c.in-Ok.judged)
    (seen c.in-Some.kept) (seen c.end_read.new.self) c.args.self.now (seen c.end_read.new.self) t.1 refl c.in-Ok.ensures.verdict

pub returns-in-Ok-clause-held : goal.returns-in-Ok-clause-held
returns-in-Ok-clause-held c =
    let t = taken c.self.inside.kept c.in-Some.kept c.args.self.now (sym c.in-Some.is) c.self.view_is c.self.invariant in
    carried (λ (a b : Held). ChangesBy a c.args.begin (option_copied c.args.value) c.args.place c.in-Ok.judged b)
    (seen c.in-Some.kept) (seen c.end_read.new.self) c.args.self.now (seen c.end_read.new.self) t.1 refl c.in-Ok.ensures.held

pub returns-in-Ok-clause-lost : goal.returns-in-Ok-clause-lost
returns-in-Ok-clause-lost c =
    let t = taken c.self.inside.kept c.in-Some.kept c.args.self.now (sym c.in-Some.is) c.self.view_is c.self.invariant in
    not_lost c.in-Some.kept c.args.self.now t.1
