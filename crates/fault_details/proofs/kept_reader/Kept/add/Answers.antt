use Rattle.std.proofs.Common.{arith, ◌≤◌, length, ◌++◌, length-append}
use Rattle.fault_details.proofs.kept_reader.Kept.add.Goals as goal

pub returns-in-Ok : goal.returns-in-Ok
returns-in-Ok c =
    let few : length (c.in-All.all.items ++ c.args.bytes.now) ≤ 16777216 =
    omega (arith, length-append c.in-All.all.items c.args.bytes.now, c.len.ensures, c.saturating_add.ensures, c.if-saturating_add-gt-MOST.false) in
    rw c.in-All.is (c.in-Ok.ensures.items, few)
