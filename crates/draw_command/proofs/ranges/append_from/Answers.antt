use Rattle.std.proofs.Common.{◌≡◌, ◌++◌, ◌∷◌, ◌+◌, ◌∙◌, List, None, ap, drop, get_or, subst, sym}
use Rattle.std.proofs.lemmas.List.{drop_more}
use Rattle.std.proofs.lemmas.Result.{on_ok_weaker}
use Rattle.markup.specs.Markup.{Markup, rendered}
use Rattle.scenes.specs.declared.scene.Bar.{Bar}
use Rattle.draw_command.specs.Ranges.{ranges_markup, ranges_of}
use Rattle.draw_command.proofs.RangeSteps.{begins_anew, ends, goes_on, still, still_first}
use Rattle.draw_command.proofs.ranges.append_from.Goals as goal
use Rattle.draw_command.proofs.ranges.append_from.Goals.{then-is_cut+in_ok-append_range+in_ok-append_text, else-is_cut}

pub loop-bar-init : goal.loop-bar-init
loop-bar-init c = ap (λ (m : Markup). c.args.page.now.items ++ rendered m) (still_first c.args.gaps.now c.args.first c.args.rest.now)

pub loop-bar-preserved : goal.loop-bar-preserved
loop-bar-preserved c =
    let gaps = c.args.gaps.now in
    let rest = c.args.rest.now in
    let i = c.loop-bar.bar-index in
    let none : Bar = record { call = record { 0 = 0 }; lane = 0; begins = 0; ends = None; answered = None; note = None } in
    let bar = get_or rest i none in
    let later = drop (i + 1) rest in
    let from = c.loop-bar.from in
    let to = c.loop-bar.to in
    let page = c.loop-bar.page.items in
    let whole = c.args.page.now.items ++ rendered (ranges_markup (ranges_of gaps (c.args.first ∷ rest))) in
    let so_far : page ++ rendered (still gaps from to (bar ∷ later)) ≡ whole =
    subst (λ (bars : List Bar). page ++ rendered (still gaps from to bars) ≡ whole) (drop_more rest i none c.loop-bar-test.true) c.loop-bar.invariant in
    elim c.if-is_cut.branch [
      | then-is_cut+in_ok-append_range+in_ok-append_text w ↦ rw (w.page-is, w.from-is)
          (begins_anew gaps from to bar later page w.append_range.new.page.items w.append_text.new.page.items whole (sym c.is_cut.ensures ∙ w.if-is_cut.true) w.in_ok-append_range.ensures
          w.in_ok-append_text.ensures so_far)
      | else-is_cut w ↦ rw (w.page-is, w.from-is) (goes_on gaps from to bar later page whole (sym c.is_cut.ensures ∙ w.if-is_cut.false) so_far)
    ]

pub returns : goal.returns
returns c =
    on_ok_weaker c.append_range-2.result
    (ends c.args.gaps.now c.loop-bar.from c.loop-bar.to c.args.rest.now c.loop-bar.bar-index c.loop-bar.page.items c.append_range-2.new.page.items _ c.loop-bar-test.false c.loop-bar.invariant)
    c.append_range-2.ensures
