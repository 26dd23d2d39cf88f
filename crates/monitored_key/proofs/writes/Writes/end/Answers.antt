use Rattle.monitored_key.proofs.Keeping.{on_ok_three}
use Rattle.monitored_key.proofs.Paths.{ended_kept, ended_more, ended_second, more_at}
use Rattle.monitored_key.proofs.writes.Writes.end.Goals as goal

pub returns-then-end_at-2-clause-fit : goal.returns-then-end_at-2-clause-fit
returns-then-end_at-2-clause-fit c =
    let s = c.args.self.now in
    let e = ended_second s c.requires.fit c.args.number c.args.place c.requires.there c.requires.free c.end_at.new.slot c.end_at.result
    c.if-end_at.false c.end_at.ensures c.end_at-2.new.slot c.end_at-2.result c.if-end_at-2.true c.end_at-2.ensures in
    e.fit

pub returns-clause-fit : goal.returns-clause-fit
returns-clause-fit c =
    let s = c.args.self.now in
    let at = more_at s c.requires.fit c.args.number c.args.place c.requires.there c.requires.free c.end_at.new.slot c.end_at.result
    c.if-end_at.false c.end_at.ensures c.end_at-2.new.slot c.end_at-2.result c.if-end_at-2.false c.end_at-2.ensures in
    on_ok_three c.end.result
    (λ mapped sets owns. (ended_more s c.requires.fit c.args.number c.args.place c.requires.there c.requires.free c.end_at.new.slot c.end_at.result
    c.if-end_at.false c.end_at.ensures c.end_at-2.new.slot c.end_at-2.result c.if-end_at-2.false c.end_at-2.ensures
    c.end.new.self mapped sets owns).fit)
    c.end.ensures.fit (c.end.ensures.kept c.requires.there.0 at) c.end.ensures.ends

pub returns-clause-kept : goal.returns-clause-kept
returns-clause-kept c = λ k is.
    let s = c.args.self.now in
    let there = c.requires.there in
    let at = more_at s c.requires.fit c.args.number c.args.place c.requires.there c.requires.free c.end_at.new.slot c.end_at.result
    c.if-end_at.false c.end_at.ensures c.end_at-2.new.slot c.end_at-2.result c.if-end_at-2.false c.end_at-2.ensures in
    on_ok_three c.end.result
    (λ mapped sets owns. ended_kept s c.args.number c.args.place there.0 _ there.1 (ended_more s c.requires.fit c.args.number c.args.place c.requires.there c.requires.free c.end_at.new.slot c.end_at.result
    c.if-end_at.false c.end_at.ensures c.end_at-2.new.slot c.end_at-2.result c.if-end_at-2.false c.end_at-2.ensures
    c.end.new.self mapped sets owns) k is)
    c.end.ensures.fit (c.end.ensures.kept there.0 at) c.end.ensures.ends
