use Rattle.std.proofs.Common.{rules}
use Rattle.file_format.proofs.following.follow_invoke.Goals as goal

pub returns-then-is_busy : goal.returns-then-is_busy
returns-then-is_busy c = search rules

pub returns-in-Ok : goal.returns-in-Ok
returns-in-Ok c = search rules

pub returns-in-Err : goal.returns-in-Err
returns-in-Err c = search rules
