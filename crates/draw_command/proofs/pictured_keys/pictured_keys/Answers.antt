-- Each key comes after those before it.
use Rattle.std.proofs.Common.{refl}
use Rattle.judged_keys.specs.Judgements.{judgement_of}
use Rattle.draw_command.specs.Drawings.{IsDrawable}
use Rattle.draw_command.proofs.Explained.{explained_more}
use Rattle.draw_command.proofs.Looking.{read_mapped}
use Rattle.draw_command.proofs.pictured_keys.pictured_keys.Goals as goal

pub why_of-requires : goal.why_of-requires
why_of-requires c =
    (read_mapped judgement_of IsDrawable c.args.keys.now c.loop-key.key-index c.key-item.result c.requires.drawable c.loop-key-test.true c.key-item.is).found

pub loop-key-preserved : goal.loop-key-preserved
loop-key-preserved c =
    explained_more c.args.numbered.now c.loop-key.pictured.items _ _ c.args.keys.now c.loop-key.key-index c.key-item.result c.in_ok-push.ensures.items c.loop-key.invariant
    c.loop-key-test.true c.key-item.is refl (record { hall = c.hall_of-hall.ensures; why = c.in_ok-why.ensures })
