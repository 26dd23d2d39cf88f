use Rattle.std.proofs.Common.{◌≡◌, ap, sym, refl, arith}
use Rattle.monitored_key.specs.Held.{Held, state_of}
use Rattle.monitored_key.specs.Kept.{seen}
use Rattle.monitored_key.specs.Changes.{HasReadBegun}
use Rattle.monitored_key.specs.Followed.{FollowsReadBegun}
use Rattle.monitored_key.proofs.Seen.{carried, not_lost, taken}
use Rattle.monitored_key.proofs.monitored_key.MonitoredKey.begin_read.Goals as goal

pub begin_read-requires-clause-sound : goal.begin_read-requires-clause-sound
begin_read-requires-clause-sound c =
    (taken c.self.inside.kept c.in-Some.kept c.args.self.now (sym c.in-Some.is) c.self.view_is c.self.invariant).0

pub begin_read-requires-clause-next : goal.begin_read-requires-clause-next
begin_read-requires-clause-next c =
    let t = taken c.self.inside.kept c.in-Some.kept c.args.self.now (sym c.in-Some.is) c.self.view_is c.self.invariant in
    let e : c.in-Some.kept.next ≡ c.args.self.now.next = ap (λ (h : Held). h.next) t.1 in
    omega (arith, e, c.requires.next)

pub returns-in-Ok-clause-follows : goal.returns-in-Ok-clause-follows
returns-in-Ok-clause-follows c =
    let t = taken c.self.inside.kept c.in-Some.kept c.args.self.now (sym c.in-Some.is) c.self.view_is c.self.invariant in
    carried (λ (a b : Held). FollowsReadBegun (state_of a) (state_of b) c.args.place)
    (seen c.in-Some.kept) (seen c.begin_read.new.self) c.args.self.now (seen c.begin_read.new.self) t.1 refl c.in-Ok.ensures.follows

pub returns-in-Ok-clause-held : goal.returns-in-Ok-clause-held
returns-in-Ok-clause-held c =
    let t = taken c.self.inside.kept c.in-Some.kept c.args.self.now (sym c.in-Some.is) c.self.view_is c.self.invariant in
    carried (λ (a b : Held). HasReadBegun a c.args.number c.args.place b)
    (seen c.in-Some.kept) (seen c.begin_read.new.self) c.args.self.now (seen c.begin_read.new.self) t.1 refl c.in-Ok.ensures.held

pub returns-in-Ok-clause-lost : goal.returns-in-Ok-clause-lost
returns-in-Ok-clause-lost c =
    let t = taken c.self.inside.kept c.in-Some.kept c.args.self.now (sym c.in-Some.is) c.self.view_is c.self.invariant in
    not_lost c.in-Some.kept c.args.self.now t.1
