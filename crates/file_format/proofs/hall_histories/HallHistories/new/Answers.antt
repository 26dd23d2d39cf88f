use Rattle.std.proofs.Common.{◌≡◌, [], ◌∷◌, length, length-append, ap, sym, subst, arith}
use Rattle.recorder.specs.Histories.{Recorded}
use Rattle.file_format.specs.FileHeaders.{halls_in}
use Rattle.file_format.proofs.OneRowMore.{AreBlank, more_blank, lawful_blank, counted_blank, made_blank}
use Rattle.file_format.proofs.hall_histories.HallHistories.new.Goals as goal

pub loop-preserved : goal.loop-preserved
loop-preserved c = record {
  long = omega (arith, ap length c.in_ok-push.ensures.items, length-append c.loop.halls.items (c.new.result ∷ []), c.loop.invariant.long);
  blank = subst AreBlank (sym c.in_ok-push.ensures.items) (more_blank c.loop.halls.items c.new.result c.loop.invariant.blank c.new.ensures);
}

pub invariant_of-result : goal.invariant_of-result
invariant_of-result c =
    let halls = c.loop.halls.items in
    let header = c.args.header in
    let long : length halls ≡ halls_in header =
    omega (arith, c.loop.invariant.long, c.loop-test.false, c.loop.auto.counter-end, c.halls-end.ensures.count) in
    record {
      lawful = lawful_blank header halls c.loop.invariant.blank long
          (omega (arith, long, c.halls-end.ensures.count, c.halls-end.ensures.least))
          (omega (arith, long, c.halls-end.ensures.count, c.halls-end.ensures.most));
      count = long;
      counted = counted_blank halls c.loop.invariant.blank;
      room = λ hall history e. ap (λ (r : Recorded). r.limit) (c.loop.invariant.blank hall history e);
    }

pub returns-clause-made : goal.returns-clause-made
returns-clause-made c =
    let halls = c.loop.halls.items in
    let header = c.args.header in
    let long : length halls ≡ halls_in header =
    omega (arith, c.loop.invariant.long, c.loop-test.false, c.loop.auto.counter-end, c.halls-end.ensures.count) in
    made_blank header halls c.loop.invariant.blank long
