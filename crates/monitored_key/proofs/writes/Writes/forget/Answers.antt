use Rattle.monitored_key.proofs.Paths.{gone_first, gone_kept, gone_more, gone_second, more_owner}
use Rattle.monitored_key.proofs.writes.Writes.forget.Goals as goal

pub returns-then-forget_at-clause-fit : goal.returns-then-forget_at-clause-fit
returns-then-forget_at-clause-fit c =
    let s = c.args.self.now in
    let g = gone_first s c.requires.fit c.args.end c.forget_at.new.slot c.forget_at.result c.if-forget_at.true c.forget_at.ensures in
    g.2.fit

pub returns-then-forget_at-2-clause-fit : goal.returns-then-forget_at-2-clause-fit
returns-then-forget_at-2-clause-fit c =
    let s = c.args.self.now in
    let g = gone_second s c.requires.fit c.args.end c.forget_at.new.slot c.forget_at.result c.if-forget_at.false c.forget_at.ensures
    c.forget_at-2.new.slot c.forget_at-2.result c.if-forget_at-2.true c.forget_at-2.ensures in
    g.2.fit

pub returns-then-forget_at-clause-kept : goal.returns-then-forget_at-clause-kept
returns-then-forget_at-clause-kept c =
    let s = c.args.self.now in
    let g = gone_first s c.requires.fit c.args.end c.forget_at.new.slot c.forget_at.result c.if-forget_at.true c.forget_at.ensures in
    gone_kept s c.args.end g.0 g.1 _ g.2

pub returns-then-forget_at-2-clause-kept : goal.returns-then-forget_at-2-clause-kept
returns-then-forget_at-2-clause-kept c =
    let s = c.args.self.now in
    let g = gone_second s c.requires.fit c.args.end c.forget_at.new.slot c.forget_at.result c.if-forget_at.false c.forget_at.ensures
    c.forget_at-2.new.slot c.forget_at-2.result c.if-forget_at-2.true c.forget_at-2.ensures in
    gone_kept s c.args.end g.0 g.1 _ g.2

pub returns-clause-fit : goal.returns-clause-fit
returns-clause-fit c =
    let s = c.args.self.now in
    let o = more_owner s c.requires.fit c.args.end c.forget_at.new.slot c.forget_at.result c.if-forget_at.false c.forget_at.ensures
    c.forget_at-2.new.slot c.forget_at-2.result c.if-forget_at-2.false c.forget_at-2.ensures
    c.requires.there in
    let g = gone_more s c.requires.fit c.args.end c.forget_at.new.slot c.forget_at.result c.if-forget_at.false c.forget_at.ensures
    c.forget_at-2.new.slot c.forget_at-2.result c.if-forget_at-2.false c.forget_at-2.ensures o.0 o.1 o.2 o.3 o.4
    c.forget.new.self c.forget.ensures.fit (c.forget.ensures.kept o.0 o.1 o.2 o.3).1 c.forget.ensures.ends c.forget.ensures.fewer in
    g.fit

pub returns-clause-kept : goal.returns-clause-kept
returns-clause-kept c =
    let s = c.args.self.now in
    let o = more_owner s c.requires.fit c.args.end c.forget_at.new.slot c.forget_at.result c.if-forget_at.false c.forget_at.ensures
    c.forget_at-2.new.slot c.forget_at-2.result c.if-forget_at-2.false c.forget_at-2.ensures
    c.requires.there in
    let g = gone_more s c.requires.fit c.args.end c.forget_at.new.slot c.forget_at.result c.if-forget_at.false c.forget_at.ensures
    c.forget_at-2.new.slot c.forget_at-2.result c.if-forget_at-2.false c.forget_at-2.ensures o.0 o.1 o.2 o.3 o.4
    c.forget.new.self c.forget.ensures.fit (c.forget.ensures.kept o.0 o.1 o.2 o.3).1 c.forget.ensures.ends c.forget.ensures.fewer in
    gone_kept s c.args.end o.0 o.1 _ g
