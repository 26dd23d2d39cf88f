-- After any list of steps the tags of the record justify each part of it.
use Rattle.std.proofs.Common.{ℕ, ◌≤◌, List}
use Rattle.quorum.specs.Quorums.{IsLawful}
use Rattle.recorder.specs.Records.{IsPart}
use Rattle.recorder.specs.Sound.{TagSound}
use Rattle.recorder.specs.declared.part.Call.{Call}
use Rattle.world_steps.specs.Configs.{Config}
use Rattle.world_steps.specs.Runs.{after}
use Rattle.world_steps.specs.SoundSystems.{IsSound}
use Rattle.world_steps.specs.declared.step.Step.{Step}
use Rattle.world_steps.proofs.Justified.{tags_justify}
use Rattle.world_steps.proofs.StepsSound.{after_sound}

pub headline : (config : Config) (steps : List Step) (key : List ℕ) (part : List Call) → IsLawful config.quorums → config.calls ≤ 1000000
    → IsPart (after config steps).history.rows key part → TagSound part
headline config steps key part lawful calls is =
    let end : IsSound (after config steps) = after_sound config steps lawful calls in
    tags_justify (after config steps).history.rows end.sound.recorded key part is
