-- Where the tags of a key come from: from the noted writes on it, in every system that steps reach.
use Rattle.std.specs.Prelude.{ℕ, ◌≤◌, List, Option}
use Rattle.tag.specs.Tags.{Tag}
use Rattle.tag.specs.declared.actions.Action.{Action}
use Rattle.tag.specs.declared.numbers.OpId.{OpId}
use Rattle.recorder.specs.declared.row.Row.{Row}
use Rattle.recorder.specs.declared.row.Row.TheVariants.{Invoke, Note}
use Rattle.replica.specs.declared.replies.Reply.TheVariants.{Held}
use Rattle.replica.specs.declared.requests.Request.TheVariants.{Put}
use Rattle.network.specs.declared.messages.Message.TheVariants.{ToReplica, ToClient}
use Rattle.world_steps.specs.Sound.{At, IsFromWrite, write_count}
use Rattle.world_steps.specs.SoundSystems.{Flies, held_in}
use Rattle.world_steps.specs.declared.system.System.{System}

-- the tag is the least one or that of a noted write on the key, and its number at most how many of
-- these there are
pub record ComesFromWrites (rows : List Row) (key : List ℕ) (tag : Tag) : Type 0 where
  pub from : IsFromWrite rows key tag
  pub few : tag.number ≤ write_count rows key

module _ (s : System) where
  -- the tag that a call on the key was noted with does, of a read as of a write
  abbrev pub NotesComeFromWrites : Type 0
  NotesComeFromWrites =
      (place note client : ℕ) (op : OpId) (key : List ℕ) (action : Action) (tag : Tag)
      → At s.history.rows place (Invoke op client key action) → At s.history.rows note (Note op tag)
      → ComesFromWrites s.history.rows key tag

  -- so does the tag that a replica holds for the key
  abbrev pub HeldComeFromWrites : Type 0
  HeldComeFromWrites = (number : ℕ) (key : List ℕ)
      → ComesFromWrites s.history.rows key (held_in s.nodes number key).tag

  -- so does the tag of a put on the key that is in flight
  abbrev pub PutsComeFromWrites : Type 0
  PutsComeFromWrites =
      (number : ℕ) (op : OpId) (key : List ℕ) (tag : Tag) (value : Option (List ℕ))
      → Flies s.pool.flights (ToReplica number (Put op key tag value))
      → ComesFromWrites s.history.rows key tag

  -- and the tag that is told, in flight, to a call on the key
  abbrev pub RepliesComeFromWrites : Type 0
  RepliesComeFromWrites =
      (place name client number : ℕ) (op : OpId) (key : List ℕ) (action : Action) (tag : Tag)
      (value : Option (List ℕ))
      → At s.history.rows place (Invoke op client key action)
      → Flies s.pool.flights (ToClient name (Held op number tag value))
      → ComesFromWrites s.history.rows key tag
