use Rattle.std.proofs.Common.{ℕ, List, Option, ◌++◌, ap, ◌∙◌, subst, option_to_list, take_all, arith}
use Rattle.recorder.specs.declared.part.Call.{Call}
use Rattle.scenes.specs.Overlaps.{AreEnds}
use Rattle.scenes.proofs.Overlaps.{ends_more}
use Rattle.scenes.proofs.overlap.ends_of.Goals as goal

pub loop-k-preserved : goal.loop-k-preserved
loop-k-preserved c =
    let old = c.loop-k.ends.items in
    let more = c.in_ok-add_some.ensures ∙ ap (λ (end : Option ℕ). old ++ option_to_list end) c.end_of.ensures in
    ends_more c.args.part.now c.loop-k.k c.call.result old _ c.call.ensures more c.loop-k.invariant

pub returns : goal.returns
returns c = subst (λ (calls : List Call). AreEnds calls c.loop-k.ends.items)
    (take_all c.loop-k.k c.args.part.now (omega (arith, c.loop-k-test.false, c.len-k-end.ensures.count))) c.loop-k.invariant
