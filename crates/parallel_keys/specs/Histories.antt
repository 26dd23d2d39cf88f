-- The verdicts on the keys of recorded histories.
use Rattle.std.specs.Prelude.{ℕ, ◌≡◌, List, Some, length, slice_get}
use Rattle.recorder.specs.declared.row.Row.{Row}
use Rattle.recorder.specs.declared.order.KeyOrder.{KeyOrder}
use Rattle.recorder.specs.Histories.{Recorded}
use Rattle.recorder.specs.Records.{AreParts}
use Rattle.certificate_check.specs.Verdicts.{IsVerdict}
use Rattle.certificate_check.specs.declared.verdict.Verdict.{Verdict}
use Rattle.parallel_keys.specs.CheckedKeys.{CheckedKey, all_parts, KeyParts, checked_keys}

-- keys with their verdicts
abbrev pub KeyVerdicts : Type 0
KeyVerdicts = List (List ℕ × Verdict)

-- a verdict for each key that is checked, in the same order
pub record AreOn (checked : List CheckedKey) (verdicts : KeyVerdicts) : Type 0 where
  pub all : length verdicts ≡ length checked
  pub each : (i : ℕ) (one : CheckedKey) (told : List ℕ × Verdict) → slice_get checked i ≡ Some one
      → slice_get verdicts i ≡ Some told → (told.0 ≡ one.key) × IsVerdict one.part one.order told.1

-- the verdicts on a history and orders: first the keys of the history, first seen first, then those
-- that only the orders have
pub record AreVerdictsOnHistory (rows : List Row) (orders : List KeyOrder)
    (verdicts : KeyVerdicts) : Type 0 where
  pub parts : KeyParts
  pub recorded : AreParts rows parts
  pub checked : AreOn (checked_keys parts orders) verdicts

-- the parts of each of several histories
pub record AreHallParts (histories : List Recorded) (parts : List KeyParts) : Type 0 where
  pub all : length parts ≡ length histories
  pub each : (hall : ℕ) (history : Recorded) (own : KeyParts) → slice_get histories hall
      ≡ Some history → slice_get parts hall ≡ Some own → AreParts history.rows own

-- the verdicts on several histories and orders: the keys of the histories hall by hall, then those
-- that only the orders have
pub record AreVerdictsOnHistories (histories : List Recorded) (orders : List KeyOrder)
    (verdicts : KeyVerdicts) : Type 0 where
  pub parts : List KeyParts
  pub recorded : AreHallParts histories parts
  pub checked : AreOn (checked_keys (all_parts parts) orders) verdicts
