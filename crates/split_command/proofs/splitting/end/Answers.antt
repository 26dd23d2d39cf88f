use Rattle.std.proofs.Common.{◌≤◌, ◌^◌, Ok, arith, length}
use Rattle.split_command.proofs.Loop.{ended}
use Rattle.split_command.proofs.splitting.end.Goals as goal

pub returns-in-Ok : goal.returns-in-Ok
returns-in-Ok g c = λ bytes s.
    let few : length bytes ≤ 2 ^ 62 = omega (arith, s.fed, c.fed-bytes.ensures.fed, c.fed-bytes.ensures.most) in
    ended g.W.Write.contents c.args.parts bytes c.in-Ok.pieces c.finish-in-Ok.result few
    (c.a_feed_has_taken_the_rows_of_its_lines.ensures.file bytes (Ok c.in-Ok.pieces) (c.in-Ok.ensures.ends bytes s))
    c.finish-in-Ok.ensures.split c.finish-in-Ok.ensures.failed
