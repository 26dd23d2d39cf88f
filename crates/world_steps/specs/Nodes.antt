-- The replicas as they begin.
use Rattle.std.specs.Prelude.{ℕ, zero, suc, true, List, [], ◌∷◌, ◌++◌}
use Rattle.std.specs.FinMap as finite
use Rattle.world_steps.specs.declared.nodes.Node.{Node}

-- the first n replicas: up, without a pair
abbrev pub nodes_below : ℕ → List Node
nodes_below zero = []
nodes_below (suc n) = nodes_below n ++ record {
  replica = record {
    number = n;
    pairs =
        finite.empty;
  };
  is_up = true;
} ∷ []
