use Rattle.std.proofs.Common.{◌+◌, Some, refl, sym, append-nil}
use Rattle.fault_script.specs.declared.parse_line.Said.TheVariants.{Opens}
use Rattle.fault_script.proofs.DraftLemmas.{drafted_more}
use Rattle.fault_script.proofs.draft.Draft.open.Goals as goal

pub returns : goal.returns
returns c = λ saids line d.
    let old = c.args.self.now in
    drafted_more saids (record { line = line; said = Opens c.args.opened }) old
    (record { opened = Some c.args.opened; commands = old.commands; count = old.count + 1 }) d refl
    (sym (append-nil old.commands.items)) refl
