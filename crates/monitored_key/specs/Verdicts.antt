-- What the judgement of a read's answer says of what was known.
use Rattle.std.specs.Prelude.{ℕ, ◌≡◌, ◌≢◌, ◌<◌, List, Option, Some, None}
use Rattle.key_monitor.specs.Follows.{KeyState}
use Rattle.key_monitor.specs.KeptWrites.{IsOneFresh, KeptWrite}
use Rattle.key_monitor.specs.Shown.{IsInTime}
use Rattle.monitored_key.specs.declared.judged.Judged.{Judged}
use Rattle.monitored_key.specs.declared.judged.Judged.TheVariants.{Passes, Undecided, Refused}
use Rattle.monitored_key.specs.declared.judged.Refusal.{Refusal}
use Rattle.monitored_key.specs.declared.judged.Refusal.TheVariants.{LateNothing}
use Rattle.monitored_key.specs.Readable.{IsFreshWrite, IsWhyNone}

module _ (state : KeyState) (begin : ℕ) where
  -- a read that began there and answers nothing is refused for that
  abbrev pub IsLateBy : Refusal → Type 0
  IsLateBy (LateNothing place) = (state.first ≡ Some place) × (place < begin)
  IsLateBy refusal = ⊥

  -- one kept write of the value may have been read, several may, or none may and that is why
  abbrev pub IsVerdictOn : List ℕ → Judged → Type 0
  IsVerdictOn value Passes = (number : ℕ) × (kept : KeptWrite) × (kept.value ≡ value)
      × IsOneFresh state.known state.writes begin number kept
  IsVerdictOn value (Undecided one two) = IsFreshWrite state.known state.writes begin value one
      × IsFreshWrite state.known state.writes begin value two × (one ≢ two)
  IsVerdictOn value (Refused refusal) = IsWhyNone state.known state.writes begin value refusal

  -- the same, or of a read that answers nothing whether it is late
  abbrev pub IsVerdict : Option (List ℕ) → Judged → Type 0
  IsVerdict (Some value) judged = IsVerdictOn value judged
  IsVerdict None Passes = IsInTime state.first begin
  IsVerdict None (Undecided one two) = ⊥
  IsVerdict None (Refused refusal) = IsLateBy refusal
