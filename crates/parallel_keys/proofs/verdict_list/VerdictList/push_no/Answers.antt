use Rattle.std.proofs.Common.{List, [], ◌∷◌, ◌++◌, length, ap, ◌∙◌, arith, length-append}
use Rattle.certificate_check.specs.declared.verdict.Verdict.{Verdict}
use Rattle.certificate_check.specs.declared.verdict.Verdict.TheVariants.{No}
use Rattle.parallel_keys.proofs.Marks.{have_more, no_more}
use Rattle.parallel_keys.proofs.verdict_list.VerdictList.push_no.Goals as goal

pub invariant_of-self-2 : goal.invariant_of-self-2
invariant_of-self-2 c =
    let own = c.self.inside in
    let grown = c.push.new.self in
    have_more own.marks.items c.push-2.new.self.items (length own.faults.items) (length grown.items) c.len-mark.result c.self.invariant
    (omega (arith, ap length c.in_ok-push.ensures.items, length-append own.faults.items (c.args.fault ∷ [])))
    (omega (arith, c.len-mark.ensures, grown.ok.0)) c.in_ok-push-2.ensures.items

pub returns : goal.returns
returns c =
    let own = c.self.inside in
    no_more own.faults.items c.args.fault own.marks.items c.push-2.new.self.items c.push.new.self.items c.len-mark.result c.self.invariant
    c.in_ok-push.ensures.items (c.len-mark.ensures ∙ c.push.new.self.ok.0) c.in_ok-push-2.ensures.items
    ∙ ap (λ (vs : List Verdict). vs ++ No c.args.fault ∷ []) c.self.view_is
