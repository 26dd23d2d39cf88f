use Rattle.std.proofs.Common.{ℕ, List, subst}
use Rattle.std.proofs.lemmas.Result.{on_ok_weaker}
use Rattle.fault_details.specs.FileFaults.{Tells}
use Rattle.fault_details.proofs.file_faults.append_history.Goals as goal

pub returns : goal.returns
returns g c = on_ok_weaker c.append_history_in.result
    (λ h. (
      c.in_ok-halls.halls,
      subst (λ (xs : List ℕ). Tells xs c.in_ok-halls.halls) c.as_slice.ensures.value c.in_ok-halls.ensures,
      h,
    ))
    c.append_history_in.ensures
