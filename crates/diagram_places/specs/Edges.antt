-- What stands at a lifeline is near it.
use Rattle.std.specs.Prelude.{ℕ, ◌+◌, ◌≤◌}
use Rattle.message_scenes.specs.declared.scene.MessageScene.{MessageScene}
use Rattle.diagram_places.specs.declared.sizes.TheConstants.{BAR_LEFT, BAR_RIGHT, CLIENT}
use Rattle.diagram_places.specs.declared.sizes.TheConstants.{CLIENT_EDGE, DOWN_LEFT, DOWN_RIGHT}
use Rattle.diagram_places.specs.declared.sizes.TheConstants.{REPLICA, REPLICA_EDGE}
use Rattle.diagram_places.specs.Layout.{client_x, replica_x}

-- two places are at most ten pixels apart
pub record IsBeside (x y : ℕ) : Type 0 where
  pub right : x ≤ y + 10
  pub left : y ≤ x + 10

-- where arrows touch the lifeline of a client, and both sides of a bar on it
pub record HasClientEdges (scene : MessageScene) (name : ℕ) : Type 0 where
  pub arrow : IsBeside (client_x scene CLIENT_EDGE name) (client_x scene CLIENT name)
  pub left : IsBeside (client_x scene BAR_LEFT name) (client_x scene CLIENT name)
  pub right : IsBeside (client_x scene BAR_RIGHT name) (client_x scene CLIENT name)

-- where arrows touch the lifeline of a replica, and both sides of a down time on it
pub record HasReplicaEdges (scene : MessageScene) (number : ℕ) : Type 0 where
  pub arrow : IsBeside (replica_x scene REPLICA_EDGE number) (replica_x scene REPLICA number)
  pub left : IsBeside (replica_x scene DOWN_LEFT number) (replica_x scene REPLICA number)
  pub right : IsBeside (replica_x scene DOWN_RIGHT number) (replica_x scene REPLICA number)
