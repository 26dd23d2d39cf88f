use Rattle.std.proofs.Common.{◌≡◌}
use Rattle.world_steps.specs.Nodes.{nodes_below}
use Rattle.world_steps.proofs.nodes.Nodes.new.Given as goal

abbrev pub invariant-loop-number : goal.invariant-loop-number
invariant-loop-number l = l.list.items ≡ nodes_below l.number
