use Rattle.std.proofs.lemmas.Result.{on_ok_weaker}
use Rattle.pictures.proofs.Rendering.{three_added}
use Rattle.pictures.proofs.texts.BarTexts.append_in.Goals as goal

pub returns : goal.returns
returns c = on_ok_weaker c.append_text-3.result (three_added _ _ _ _ _ _ _ c.in_ok-append_text.ensures c.in_ok-append_text-2.ensures) c.append_text-3.ensures
