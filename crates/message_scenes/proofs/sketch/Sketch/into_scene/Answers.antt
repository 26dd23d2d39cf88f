use Rattle.std.proofs.Common.{refl}
use Rattle.message_scenes.proofs.Scenes.{scene_from}
use Rattle.message_scenes.proofs.sketch.Sketch.into_scene.Goals as goal

pub returns : goal.returns
returns c = scene_from c.args.self _ refl c.raise.ensures
