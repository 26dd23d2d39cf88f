use Rattle.std.proofs.Common.{◌+◌, refl}
use Rattle.fault_script.specs.declared.parse_line.Said.TheVariants.{Runs}
use Rattle.fault_script.proofs.DraftLemmas.{drafted_more}
use Rattle.fault_script.proofs.draft.Draft.run.Goals as goal

pub returns : goal.returns
returns c = λ saids d.
    let old = c.args.self.now in
    drafted_more saids (record { line = c.args.line; said = Runs c.args.command }) old
    (record { opened = c.after_command-self.result; commands = c.push.new.self; count = old.count + 1 }) d
    (c.after_command-self.ensures c.args.command) c.in_ok-push.ensures.items refl
