use Rattle.std.proofs.Common.{ℕ, ◌≡◌, ◌++◌, true, false, List, codes, decimal, sym, ap, ◌∙◌, append-nil}
use Rattle.traces.specs.StepLines.{members_text}
use Rattle.std.specs.FinSet as finite
use Rattle.traces.proofs.Members.{members_on}
use Rattle.sentences.proofs.Appending.{more, number}
use Rattle.traces.proofs.effects.append_members.Goals.{then-contains+in_ok-append_number+in_ok-append, else-contains}
use Rattle.traces.proofs.effects.append_members.Goals as goal

pub loop-number-init : goal.loop-number-init
unfolding members_text
loop-number-init c = sym (append-nil c.args.text.now.items)

pub loop-number-preserved : goal.loop-number-preserved
loop-number-preserved c =
    let old = c.args.text.now.items in
    let n = c.loop-number.number in
    let set = c.args.set in
    let same = rw c.unwrap.ensures at c.new.ensures.value in
    let asked : c.contains.result ≡ finite.contains set n = c.contains.ensures ∙ ap (finite.contains set) same in
    elim c.if-contains.branch [
      | then-contains+in_ok-append_number+in_ok-append w ↦
          let two = more c.loop-number.text.items w.append_number.new.text.items w.append.new.text.items (decimal n) (codes ", ")
          (number c.loop-number.text.items w.append_number.new.text.items (codes "") _ n w.from.ensures w.in_ok-append_number.ensures)
          w.in_ok-append.ensures in
          ap (λ v. v.items) w.text-is
          ∙ more old c.loop-number.text.items w.append.new.text.items (members_text set n) (decimal n ++ codes ", ") c.loop-number.invariant two
          ∙ ap (λ (t : List ℕ). old ++ t) (sym (members_on set n true (sym asked ∙ w.if-contains.true)))
      | else-contains w ↦
          ap (λ v. v.items) w.text-is ∙ c.loop-number.invariant
          ∙ ap (λ (t : List ℕ). old ++ t) (sym (members_on set n false (sym asked ∙ w.if-contains.false) ∙ append-nil (members_text set n)))
    ]
