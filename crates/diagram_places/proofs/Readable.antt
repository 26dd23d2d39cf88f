-- Rows go down, columns go right, and what stands at a lifeline is near it.
use Rattle.std.proofs.Common.{ℕ, ◌<◌, ◌≤◌, ◌+◌, ◌*◌, length, nat_lt, arith}
use Rattle.std.proofs.Math.Nat.{mul-le-mul_right}
use Rattle.std.proofs.lemmas.List.Sums.{count_by-le-length}
use Rattle.labels.specs.Places.{farthest}
use Rattle.labels.proofs.Standing.{one_step, stays_before, stays_beside}
use Rattle.message_scenes.specs.declared.scene.MessageScene.{MessageScene}
use Rattle.diagram_places.specs.declared.sizes.TheConstants.{BAR_LEFT, BAR_RIGHT, CLIENT, CLIENT_EDGE, COLUMN, DOWN_LEFT, DOWN_RIGHT, REPLICA}
use Rattle.diagram_places.specs.declared.sizes.TheConstants.{REPLICA_EDGE, ROW}
use Rattle.diagram_places.specs.Layout.{across, client_x, down, names_below, replica_x}
use Rattle.diagram_places.specs.Edges.{HasClientEdges, HasReplicaEdges, IsBeside}

pub rows_down : (start i j : ℕ) → i < j → down start j < farthest → down start i < down start j
rows_down start i j less near =
    let step = one_step i j ROW less in
    stays_before (start + i * ROW) (start + j * ROW) farthest (omega (arith, step)) near

pub columns_right : (start i j : ℕ) → i < j → across start j < farthest → across start i < across start j
columns_right start i j less near =
    let step = one_step i j COLUMN less in
    stays_before (start + i * COLUMN) (start + j * COLUMN) farthest (omega (arith, step)) near

pub replicas_after : (scene : MessageScene) (name number : ℕ) → replica_x scene REPLICA number < farthest
    → client_x scene CLIENT name < replica_x scene REPLICA number
replicas_after scene name number near =
    let clients = scene.clients.items in
    let before = count_by-le-length (λ (other : ℕ). nat_lt other name) clients in
    let left = names_below clients name in
    let right = length clients + number in
    let columns : left * COLUMN ≤ right * COLUMN = mul-le-mul_right COLUMN (omega (arith, before)) in
    stays_before (CLIENT + left * COLUMN) (REPLICA + right * COLUMN) farthest (omega (arith, columns)) near

-- two starts that are at most ten pixels apart, in one column
beside : (a b column : ℕ) → a ≤ b + 10 → b ≤ a + 10 → IsBeside (across a column) (across b column)
beside a b column right left = record {
  right = stays_beside (a + column * COLUMN) (b + column * COLUMN) 10 farthest (omega (arith, right));
  left = stays_beside (b + column * COLUMN) (a + column * COLUMN) 10 farthest (omega (arith, left));
}

pub client_edges : (scene : MessageScene) (name : ℕ) → HasClientEdges scene name
client_edges scene name =
    let column = names_below scene.clients.items name in
    record {
      arrow = beside CLIENT_EDGE CLIENT column (omega arith) (omega arith);
      left = beside BAR_LEFT CLIENT column (omega arith) (omega arith);
      right = beside BAR_RIGHT CLIENT column (omega arith) (omega arith);
    }

pub replica_edges : (scene : MessageScene) (number : ℕ) → HasReplicaEdges scene number
replica_edges scene number =
    let column = length scene.clients.items + number in
    record {
      arrow = beside REPLICA_EDGE REPLICA column (omega arith) (omega arith);
      left = beside DOWN_LEFT REPLICA column (omega arith) (omega arith);
      right = beside DOWN_RIGHT REPLICA column (omega arith) (omega arith);
    }
