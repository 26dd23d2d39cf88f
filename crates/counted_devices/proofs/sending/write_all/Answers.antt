use Rattle.std.proofs.Common.{inl, ◌∙◌}
use Rattle.std.proofs.lemmas.List.{take_rest}
use Rattle.counted_devices.proofs.Leaving.{Leaves-fewer}
use Rattle.counted_devices.proofs.sending.write_all.Goals as goal

pub loop-rest-preserved : goal.loop-rest-preserved
loop-rest-preserved g c =
    let at = c.loop-rest in
    let contents = g.W.Write.contents in
    let count = c.in-Ok.count in
    record {
      left = rw (take_rest at.rest.now count) (Leaves-fewer (contents c.args.writer.now) (contents at.writer) (contents c.write_counted.new.self) c.args.bytes.now at.rest.now count at.invariant.left c.in-Ok.ensures.bytes);
      same = c.in-Ok.ensures.counted.1 (inl c.if-count-gt0.true) ∙ at.invariant.same;
    }
