-- What the verdicts on the keys say together.
use Rattle.std.specs.Prelude.{ℕ, ◌≡◌, ◌<◌, List, Some, slice_get}
use Rattle.certificate_check.specs.declared.verdict.Fault.{Fault}
use Rattle.certificate_check.specs.declared.verdict.Verdict.{Verdict}
use Rattle.certificate_check.specs.declared.verdict.Verdict.TheVariants.{Yes, No}
use Rattle.parallel_keys.specs.Histories.{KeyVerdicts}
use Rattle.cli.specs.declared.status.Status.{Status}
use Rattle.cli.specs.declared.status.Status.TheVariants as status

-- the verdict on each of so many first keys is yes
abbrev pub AreYes : KeyVerdicts → ℕ → Type 0
AreYes verdicts count =
    (i : ℕ) (told : List ℕ × Verdict) → i < count → slice_get verdicts i ≡ Some told → told.1 ≡ Yes

-- the verdict on the key at that index is no, for that fault
pub record IsRefusedAt (verdicts : KeyVerdicts) (i : ℕ) (fault : Fault) : Type 0 where
  pub key : List ℕ
  pub told : slice_get verdicts i ≡ Some (key, No fault)

-- good if the verdict on each key is yes, refused if it is no on some key
abbrev pub SaysAll : KeyVerdicts → Status → Type 0
SaysAll verdicts status.Good =
    (i : ℕ) (told : List ℕ × Verdict) → slice_get verdicts i ≡ Some told → told.1 ≡ Yes
SaysAll verdicts status.Refused = (i : ℕ) × (fault : Fault) × IsRefusedAt verdicts i fault
SaysAll verdicts s = ⊥
