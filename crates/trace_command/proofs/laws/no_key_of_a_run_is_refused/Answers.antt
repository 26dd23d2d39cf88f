use Rattle.std.proofs.Common.{List, ap, subst}
use Rattle.recorder.specs.Halls.{RecordedHalls}
use Rattle.recorder.specs.Histories.{Recorded}
use Rattle.parallel_keys.specs.CheckedKeys.{CheckedKey}
use Rattle.parallel_keys.specs.Histories.{AreHallParts}
use Rattle.judged_keys.specs.Judgements.{AreJudged}
use Rattle.judged_keys.specs.Selected.{names_of, selected_keys}
use Rattle.judged_keys.specs.declared.judged.Judged.{Judged}
use Rattle.judged_keys.specs.declared.judged.Judged.TheVariants.{Tags}
use Rattle.trace_command.proofs.NoRefusal.{not_refused}
use Rattle.trace_command.proofs.laws.no_key_of_a_run_is_refused.Goals as goal

pub returns : goal.returns
returns c = λ script most scene history numbered drawn pictures by_tags run numbered_is content.
    let have = content.keys_are in
    let names = names_of drawn.selection in
    let by = subst (λ (judged : Judged). AreJudged judged (selected_keys names content.keys) content.shown.keys) by_tags content.shown.keys_are in
    not_refused history run.sound have.parts names content.shown.keys
    (subst (λ (hs : List Recorded). AreHallParts hs have.parts) (ap (λ (h : RecordedHalls). h.halls) numbered_is.histories) have.recorded)
    (subst (λ (keys : List CheckedKey). AreJudged Tags (selected_keys names keys) content.shown.keys) have.are by)
