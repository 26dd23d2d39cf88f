use Rattle.witness_order.proofs.SoundOrder.{IsOrder-by_tag}
use Rattle.witness_order.proofs.laws.sound_tags_make_an_order.Goals as goal

pub returns : goal.returns
returns c = IsOrder-by_tag
