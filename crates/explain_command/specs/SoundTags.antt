-- What a yes on a key's tags says.
use Rattle.std.specs.Prelude.{ℕ, List}
use Rattle.recorder.specs.declared.part.Call.{Call}
use Rattle.recorder.specs.Histories.{Recorded}
use Rattle.recorder.specs.Sound.{TagSound}
use Rattle.cli.specs.Checks.{IsHallPart}

-- the key's part in histories by hall has sound tags
pub record HasSoundTags (halls : List Recorded) (key : List ℕ) : Type 0 where
  pub part : List Call
  pub recorded : IsHallPart halls key part
  pub sound : TagSound part
