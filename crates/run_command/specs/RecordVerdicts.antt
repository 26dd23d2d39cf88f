-- The verdicts on the record and the orders that a closed store leaves.
use Rattle.std.specs.Prelude.{ℕ, ◌≡◌, Bool, true, false, List, Option, Some, None, slice_get}
use Rattle.certificate_check.specs.declared.verdict.Verdict.{Verdict}
use Rattle.certificate_check.specs.declared.verdict.Verdict.TheVariants.{Yes, No}
use Rattle.cli.specs.VerdictStatuses.{AreYes}
use Rattle.node_threads.specs.declared.closing.ClosedHall.{ClosedHall}
use Rattle.parallel_keys.specs.Histories.{AreVerdictsOnHistories, KeyVerdicts}
use Rattle.recorder.specs.Histories.{Recorded}
use Rattle.recorder.specs.declared.order.KeyOrder.{KeyOrder}
use Rattle.run_command.specs.Records.{histories_in, orders_in}
use Rattle.run_command.specs.declared.check_record.RefusedKey.{RefusedKey}

-- the verdict is yes
abbrev pub is_yes : Verdict → Bool
is_yes Yes = true
is_yes (No fault) = false

-- the key is the first on which the verdict is no, for that fault
pub record IsFirstRefused (verdicts : KeyVerdicts) (refused : RefusedKey) : Type 0 where
  pub place : ℕ
  pub told : slice_get verdicts place ≡ Some (refused.key, No refused.fault)
  pub before : AreYes verdicts place

-- the first key on which the verdict is no; none where it is yes on each
abbrev pub IsFirstNo : KeyVerdicts → Option RefusedKey → Type 0
IsFirstNo verdicts None =
    (i : ℕ) (told : List ℕ × Verdict) → slice_get verdicts i ≡ Some told → told.1 ≡ Yes
IsFirstNo verdicts (Some refused) = IsFirstRefused verdicts refused

-- the first key of the histories, hall by hall, whose order has the verdict no; none where the
-- verdict on each key is yes
pub record IsFirstNoOfRecord (histories : List Recorded) (orders : List KeyOrder)
    (first : Option RefusedKey) : Type 0 where
  pub verdicts : KeyVerdicts
  pub on : AreVerdictsOnHistories histories orders verdicts
  pub is : IsFirstNo verdicts first

-- the first key, hall by hall, whose order has the verdict no; none where the verdict on each key
-- of every hall is yes
abbrev pub IsFirstNoOfHalls : List ClosedHall → Option RefusedKey → Type 0
IsFirstNoOfHalls halls first = IsFirstNoOfRecord (histories_in halls) (orders_in halls) first
