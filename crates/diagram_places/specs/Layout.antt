-- Where a diagram shows what, in pixels. Time goes down: each row of the scene has a row of its
-- own. Each client has a column, in rising order, and after them each replica.
use Rattle.std.specs.Prelude.{ℕ, ◌≡◌, ◌+◌, nat_lt, List, length, count_by}
use Rattle.std.specs.Prelude.{Some, slice_get}
use Rattle.std.specs.List.Sorted.{IsStrictlyIncreasing}
use Rattle.labels.specs.Places.{pixels}
use Rattle.message_scenes.specs.declared.scene.MessageScene.{MessageScene}
use Rattle.diagram_places.specs.declared.sizes.TheConstants.{COLUMN, ROW}

-- so far down in that row: the start is that of the first row
abbrev pub down : ℕ → ℕ → ℕ
down start row = pixels start row ROW

-- so far right in that column: the start is that of the first column
abbrev pub across : ℕ → ℕ → ℕ
across start column = pixels start column COLUMN

-- how many of the names are smaller than that one
abbrev pub names_below : List ℕ → ℕ → ℕ
names_below names name = count_by (λ other. nat_lt other name) names

module _ (scene : MessageScene) where
  -- the clients of the scene stand in rising order, each once
  abbrev pub HasClientsInOrder : Type 0
  HasClientsInOrder = IsStrictlyIncreasing scene.clients.items

  -- so far right in the client's column: the start is that of the first client
  abbrev pub client_x : ℕ → ℕ → ℕ
  client_x start name = across start (names_below scene.clients.items name)

  -- so far right in the column of the replica of that number, after those of the clients
  abbrev pub replica_x : ℕ → ℕ → ℕ
  replica_x start number = across start (length scene.clients.items + number)

  -- how many replicas there are
  abbrev pub replicas_of : ℕ
  replicas_of = length scene.quorums.votes

  -- how many rows there are
  abbrev pub rows_of : ℕ
  rows_of = length scene.rows.items

-- each client has the column of its index among the clients
pub record HasColumns (scene : MessageScene) : Type 0 where
  pub client : (i name start : ℕ) → slice_get scene.clients.items i ≡ Some name
      → client_x scene start name ≡ across start i
