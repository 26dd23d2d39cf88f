-- A text that is all that is said.
use Rattle.std.proofs.Common.{ℕ, ◌≡◌, List, subst}
use Rattle.cli.specs.Devices.{ReceivesOrFails, WriterStates}
use Rattle.cli.specs.Usages.{EndsSaying}
use Rattle.cli.specs.declared.status.Status.{Status}

pub saying : {W E : Type 0} (out : WriterStates W) (errors : WriterStates E) (its s : Status) (text said : List ℕ) → s ≡ its → out.new ≡ out.old → said ≡ text → ReceivesOrFails errors.device said
    → EndsSaying out errors its text s
saying out errors its s text said is quiet same told = record { status_is = is; quiet = quiet; told = subst (λ (l : List ℕ). ReceivesOrFails errors.device l) same told }
