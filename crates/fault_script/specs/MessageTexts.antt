-- What a script's run says: a line for each command that was refused, and one for each command of
-- random steps.
use Rattle.std.specs.Prelude.{ℕ, List, ◌++◌, codes, decimal}
use Rattle.world_settle.specs.Numbers.{settle_error_name, settle_error_number}
use Rattle.world_settle.specs.declared.errors.SettleError.{SettleError}
use Rattle.world_steps.specs.Numbers.{refusal_name, refusal_number}
use Rattle.world_steps.specs.declared.refusal.Refusal.{Refusal}

-- the command of that line was refused, in those words, with the reason's number and name
unfoldable pub reason_message : ℕ → List ℕ → ℕ → List ℕ → List ℕ
reason_message line refused number name = codes "line " ++ decimal line ++ refused
    ++ decimal number ++ codes " " ++ name ++ codes "\n"

-- the step of that line was refused
unfoldable pub refused_message : ℕ → Refusal → List ℕ
refused_message line why =
    reason_message line (codes ": refused ") (refusal_number why) (refusal_name why)

-- the call that was to be finished at that line wasn't
unfoldable pub unfinished_message : ℕ → SettleError → List ℕ
unfinished_message line why =
    reason_message line (codes ": finish refused ") (settle_error_number why)
    (settle_error_name why)

-- of so many random steps so many were taken
unfoldable pub random_message : ℕ → ℕ → ℕ → List ℕ
random_message line taken count = codes "line " ++ decimal line ++ codes ": random took "
    ++ decimal taken ++ codes " of " ++ decimal count ++ codes "\n"
