-- The words in which it is told what was found of keys.
use Rattle.std.specs.Prelude.{ℕ, Bool, List}
use Rattle.history_file.specs.declared.numbered_format.NumberedHistories.{NumberedHistories}
use Rattle.judged_keys.specs.Judgements.{Judgement}

-- what is said of a key that was judged, with why it is refused or without; that no key has a name;
-- and how many refused keys have no reason said, if any has none
pub record Words : Type 1 where
  pub Says : NumberedHistories → Bool → Judgement → List ℕ → Type 0
  pub missing : List ℕ → List ℕ
  pub left_out : ℕ → List ℕ
