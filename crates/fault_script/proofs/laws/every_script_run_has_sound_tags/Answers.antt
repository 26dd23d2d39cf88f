use Rattle.std.proofs.Common.{List, sym, ap, ◌∙◌, subst}
use Rattle.recorder.specs.Records.{IsPart}
use Rattle.recorder.specs.declared.row.Row.{Row}
use Rattle.world_steps.specs.declared.system.System.{System}
use Rattle.fault_script.proofs.laws.every_script_run_has_sound_tags.Goals as goal

pub returns : goal.returns
returns c = λ script rows messages key part lawful calls run is.
    let (steps, led) = c.every_run_is_one_of_steps.ensures script run.last run.runs.events run.runs.happen in
    c.every_run_has_sound_tags.ensures script.config steps key part lawful calls
    (subst (λ (r : List Row). IsPart r key part) (sym run.recorded ∙ ap (λ (s : System). s.history.rows) led) is)
