use Rattle.std.proofs.Common.{List, inr, refl, sym, ap, ◌∙◌, subst}
use Rattle.std.specs.Prelude.{option_map}
use Rattle.counted_devices.specs.FirstFaults.{FaultInAll}
use Rattle.fault_script.specs.Faults.{ErrorKind}
use Rattle.fault_script.specs.declared.parse_line.ConfigSoFar.{ConfigSoFar}
use Rattle.fault_script.specs.Scripts.{SaidLine, ScriptLinesSay, script_faults}
use Rattle.counted_devices.specs.Cuts.{last_lines}
use Rattle.fault_script.proofs.DraftLemmas.{no_command}
use Rattle.fault_script.proofs.draft.DraftContents.whole.Goals as goal

pub returns-in-Some : goal.returns-in-Some
returns-in-Some c = λ bytes lines rest splits d. record {
  lines = lines;
  rest = rest;
  splits = splits;
  saids = d.saids;
  read = d.read;
  made = record {
    config = ap (option_map (λ (opened : ConfigSoFar). opened.config)) (sym d.drafted.opened ∙ c.in-Some.is);
    commands = d.drafted.commands;
  };
}

pub returns-in-None : goal.returns-in-None
returns-in-None c = λ bytes lines rest splits d.
    let all = last_lines lines rest in
    let P : List SaidLine → Type 0 = λ saids. ScriptLinesSay all saids in
    let none = subst P (no_command all d.saids d.read (sym d.drafted.opened ∙ c.in-None.is)) d.read in
    let Q : ErrorKind → Type 0 = λ kind. FaultInAll script_faults bytes c.at.result.line kind in
    subst Q (sym c.at.ensures.kind)
    (record { lines = lines; rest = rest; splits = splits; first = inr ((none, refl), c.at.ensures.line) })
