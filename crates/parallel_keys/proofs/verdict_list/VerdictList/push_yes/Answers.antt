use Rattle.std.proofs.Common.{List, [], ◌∷◌, ◌++◌, length, ap, ◌∙◌, arith}
use Rattle.certificate_check.specs.declared.verdict.Verdict.{Verdict}
use Rattle.certificate_check.specs.declared.verdict.Verdict.TheVariants.{Yes}
use Rattle.parallel_keys.proofs.Marks.{have_more, yes_more}
use Rattle.parallel_keys.proofs.verdict_list.VerdictList.push_yes.Goals as goal

pub invariant_of-self-2 : goal.invariant_of-self-2
invariant_of-self-2 c =
    let own = c.self.inside in
    let count = length own.faults.items in
    have_more own.marks.items c.push.new.self.items count count 0 c.self.invariant (omega arith) (omega arith) c.in_ok-push.ensures.items

pub returns : goal.returns
returns c =
    let own = c.self.inside in
    yes_more own.faults.items own.marks.items c.push.new.self.items c.in_ok-push.ensures.items
    ∙ ap (λ (vs : List Verdict). vs ++ Yes ∷ []) c.self.view_is
