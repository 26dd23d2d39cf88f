-- Verdicts, one after another.
use Rattle.std.proofs.Common.{◌≡◌, ◌<◌, ℕ, List, Some, None, length, get_or, sym, ap, ap₂, ◌∙◌}
use Rattle.std.proofs.lemmas.Option.{slice_get_within}
use Rattle.certificate_check.specs.declared.verdict.Verdict.{Verdict}
use Rattle.certificate_check.specs.declared.verdict.Verdict.TheVariants.{No}
use Rattle.parallel_keys.specs.Histories.{KeyVerdicts}
use Rattle.cli.specs.VerdictStatuses.{AreYes}
use Rattle.run_command.specs.RecordVerdicts.{IsFirstNo, IsFirstRefused}
use Rattle.run_command.specs.declared.check_record.RefusedKey.{RefusedKey}
use Rattle.tag.proofs.Lists.{item_at}

-- the first no
pub first_here : (verdicts : KeyVerdicts) (i : ℕ) (told : List ℕ × Verdict) (refused : RefusedKey) → AreYes verdicts i → i < length verdicts → told ≡ get_or verdicts i told → told.1 ≡ No refused.fault → refused.key ≡ told.0
    → IsFirstRefused verdicts refused
first_here verdicts i told refused so_far below is said key = record {
  place = i;
  told = item_at verdicts i told below is ∙ ap Some (ap₂ (λ (k : List ℕ) (v : Verdict). (k, v)) (sym key) said);
  before = so_far;
}

pub all_yes : (verdicts : KeyVerdicts) → AreYes verdicts (length verdicts) → IsFirstNo verdicts None
all_yes verdicts said i told at = said i told (slice_get_within verdicts i told at) at
