use Rattle.std.proofs.Common.{◌+◌, ap, map, subst, take, arith, length-take}
use Rattle.std.proofs.lemmas.List.{length-map}
use Rattle.parallel_keys.proofs.Fronts.{mapped_more}
use Rattle.parallel_keys.specs.KeysToCheck.{what_of}
use Rattle.judged_keys.specs.Findings.{IsFinding}
use Rattle.judged_keys.specs.declared.judged.Judged.{Judged}
use Rattle.judged_keys.specs.declared.selection.Selection.{Selection}
use Rattle.judged_keys.proofs.Judgements.{judged_more}
use Rattle.judged_keys.proofs.Saying.{refused_most}
use Rattle.judged_keys.proofs.report.Report.of_keys.Goals as goal

pub say-requires-clause-found : goal.say-requires-clause-found
say-requires-clause-found g c =
    subst (λ (judged : Judged). IsFinding judged (what_of c.one-item.result) c.in_ok-finding.finding) (ap (λ (s : Selection). s.judged) c.selection-judged.ensures) c.in_ok-finding.ensures

pub say-requires-clause-room : goal.say-requires-clause-room
say-requires-clause-room g c =
    let keys = c.args.keys.now in
    let i = c.loop-one.one-index in
    let so_far = c.loop-one.invariant in
    let few = map what_of (take i keys) in
    let most = refused_most (g.W.Wording.selected c.args.wording.now).judged few so_far.0 so_far.1 in
    omega (arith, most, so_far.2.refused, length-map (take i keys) what_of, length-take i keys, c.loop-one-test.true)

pub loop-one-preserved : goal.loop-one-preserved
loop-one-preserved g c =
    let keys = c.args.keys.now in
    let i = c.loop-one.one-index in
    let one = c.one-item.result in
    let so_far = c.loop-one.invariant in
    let selected = g.W.Wording.selected c.args.wording.now in
    let found = subst (λ (judged : Judged). IsFinding judged (what_of one) c.in_ok-finding.finding) (ap (λ (s : Selection). s.judged) c.selection-judged.ensures) c.in_ok-finding.ensures in (
      _,
      judged_more selected.judged (map what_of (take i keys)) (map what_of (take (i + 1) keys)) so_far.0 _ (mapped_more what_of keys i one c.loop-one-test.true c.one-item.is) found so_far.1,
      c.in_ok-say.ensures so_far.0 so_far.2,
    )
