use Rattle.std.proofs.Common.{[], refl}
use Rattle.fault_script.specs.Scripts.{no_line}
use Rattle.fault_script.proofs.draft.DraftOpens.opening.Goals as goal

pub returns : goal.returns
returns c = record {
  saids = [];
  read = no_line;
  drafted = record { opened = refl; commands = c.new.ensures.items; counted = refl };
}
