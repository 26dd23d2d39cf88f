use Rattle.std.proofs.Common.{List, ℕ, ap, ◌∙◌, subst}
use Rattle.fault_script.specs.Words.{without_return}
use Rattle.fault_script.specs.LineItems.{TextShows, says_after}
use Rattle.fault_script.specs.Lines.{is_long, is_no_text, says}
use Rattle.fault_script.proofs.lines.judge.Goals as goal

pub returns-then-line-gt-LONGEST : goal.returns-then-line-gt-LONGEST
returns-then-line-gt-LONGEST c = λ before count. is_long c.if-line-gt-LONGEST.true

pub returns-in_default : goal.returns-in_default
returns-in_default c = λ before count. is_no_text c.if-line-gt-LONGEST.false c.in_default.ensures.cases.0

pub returns : goal.returns
returns c = λ before count.
    let read = c.in-Ok.ensures.cases in
    let P : List ℕ → Type 0 = λ text. TextShows text c.in_ok-shown.shown in
    let shows = subst P (c.without_return.ensures ∙ ap without_return read.0) c.in_ok-shown.ensures in
    says (says_after before count c.in_ok-shown.shown) c.if-line-gt-LONGEST.false read.1 (shows before count)
