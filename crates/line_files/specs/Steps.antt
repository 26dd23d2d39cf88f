-- What one line more makes of the contents of a file.
use Rattle.std.specs.Prelude.{ℕ, ◌≡◌, List, [], ◌∷◌, ◌++◌, Option, Some, Result, Ok, Err}
use Rattle.counted_devices.specs.declared.read_fault.Stop.{Stop}
use Rattle.counted_devices.specs.declared.read_fault.Stop.TheVariants as stop
use Rattle.counted_devices.specs.FirstFaults.{LineRules}
use Rattle.counted_devices.specs.ReadFaults.{IsFaultBy, kind_of}

-- where a line has a fault, what the lines before it made is still so
abbrev pub StaysAtFault : {L Contents : Type 0} → (Contents → Type 0)
    → Result (Unit {0}) (Stop L) → Contents → Type 0
StaysAtFault IsMade (Err (stop.Fault fault)) new = IsMade new
StaysAtFault IsMade result new = Unit {0}

module _ {L Contents : Type 0} (rules : LineRules L) (Reads : List (List ℕ) → Contents → Type 0)
  where
    -- after those lines the next one was read, or it has that fault
    abbrev pub ReadsBy : List (List ℕ) → List ℕ → Result (Unit {0}) (Stop L) → Contents → Type 0
    ReadsBy before line (Ok done) new = Reads (before ++ line ∷ []) new
    ReadsBy before line (Err stop) new = IsFaultBy (rules.HasFault before line) ⊥ (kind_of stop)

    -- the same of a line that is read under a context, which stays
    abbrev pub ReadsUnder : {Context : Type 0} → (Contents → Option Context) → Context
        → List (List ℕ) → List ℕ → Result (Unit {0}) (Stop L) → Contents → Type 0
    ReadsUnder context under before line (Ok done) new =
        Reads (before ++ line ∷ []) new × (context new ≡ Some under)
    ReadsUnder context under before line (Err stop) new =
        IsFaultBy (rules.HasFault before line) ⊥ (kind_of stop)
