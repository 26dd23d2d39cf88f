use Rattle.witness_order.proofs.Insertion.{tag_order_exists}
use Rattle.witness_order.proofs.SoundOrder.{IsOrder-by_tag}
use Rattle.witness_order.proofs.laws.sound_tags_are_linearizable.Goals as goal

pub returns : goal.returns
returns c part sequence sound =
    let o = tag_order_exists part sequence sound.noted in
    (o.0, IsOrder-by_tag part o.0 sequence sound o.1)
