use Rattle.std.proofs.Common.{◌≡◌, ◌-◌, ◌≤◌, Some, sym, ap, ◌∙◌, length, ltb-true, arith}
use Rattle.std.specs.List.{slice_get}
use Rattle.std.proofs.lemmas.Option.{slice_get-get_or, slice_get_past}
use Rattle.row_lines.proofs.Counting.{counted_at, kept_at}
use Rattle.row_lines.proofs.lines.RowLines.get.Goals as goal

pub returns-then-place-self : goal.returns-then-place-self
returns-then-place-self c =
    rw (← c.self.view_is) (counted_at c.self.inside.counted c.self.inside.kept.items c.args.place c.if-place-self.true)

pub returns-in-Some : goal.returns-in-Some
returns-in-Some c =
    let l = c.self.inside in
    let kept = l.kept.items in
    let k = c.args.place - l.counted in
    let line = c.in-Some.line.now in
    let found = rw c.deref.ensures.value at c.in-Some.ensures.lookup in
    let at : slice_get kept k ≡ Some line = slice_get-get_or kept k line (ltb-true k (length kept) (sym found.0)) ∙ ap Some (sym found.1) in
    rw (← c.self.view_is) (sym at ∙ kept_at l.counted kept c.args.place c.if-place-self.false)

pub returns-in-None : goal.returns-in-None
returns-in-None c =
    let l = c.self.inside in
    let kept = l.kept.items in
    let k = c.args.place - l.counted in
    let missed = rw c.deref.ensures.value at c.in-None.ensures.lookup in
    let past : length kept ≤ k = omega (arith, missed) in
    rw (← c.self.view_is) (sym (slice_get_past kept k past) ∙ kept_at l.counted kept c.args.place c.if-place-self.false)
