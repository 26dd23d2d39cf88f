use Rattle.std.proofs.Common.{◌∙◌, ◌+◌, ◌||◌, Bool, ℕ, ap, subst}
use Rattle.std.specs.Prelude.{nat_lt}
use Rattle.judged_keys.specs.Judgements.{judgement_of}
use Rattle.judged_keys.specs.declared.selection.Selection.{Selection}
use Rattle.judged_keys.proofs.Saying.{one_refused, one_undecided, report_more}
use Rattle.judged_keys.proofs.report.Report.say.Goals as goal

pub returns : goal.returns
returns g c =
    let words = g.W.Wording.words c.args.wording.now in
    let numbered = c.args.numbered.now in
    let selected = g.W.Wording.selected c.args.wording.now in
    let j = judgement_of c.args.key.now in
    let old = c.args.self.now in
    let said = c.in_ok-say.ensures.0 in λ js so_far.
    report_more words numbered selected.most js j old _ said
    (subst (λ (n : ℕ). words.Says numbered (nat_lt old.refused n) j said) (c.from.ensures ∙ ap (λ (s : Selection). s.most) c.selection.ensures) c.in_ok-say.ensures.1)
    c.in_ok-say.ensures.2 (ap (λ (n : ℕ). old.refused + n) (c.from-2.ensures ∙ one_refused j c.is_refused.result c.is_refused.ensures)) (ap (λ (b : Bool). old.undecided || b) (c.is_undecided.ensures ∙ one_undecided j)) so_far
