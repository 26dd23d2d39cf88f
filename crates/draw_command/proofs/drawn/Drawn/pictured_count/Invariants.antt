use Rattle.std.proofs.Common.{◌≡◌, ◌≤◌, map, take}
use Rattle.std.specs.Prelude.{sum_by}
use Rattle.judged_keys.specs.Judgements.{judgement_of}
use Rattle.draw_command.specs.Pictured.{page_calls, window_size}
use Rattle.draw_command.proofs.drawn.Drawn.pictured_count.Given as goal

abbrev pub invariant-loop-n : goal.invariant-loop-n
invariant-loop-n l = (l.calls ≡ sum_by (window_size l.self) (take l.n (map judgement_of l.first))) × (l.calls ≤ page_calls)
