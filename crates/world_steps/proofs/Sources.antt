-- The tags of a key come from its noted writes.
use Rattle.std.proofs.Common.{◌≡◌, ℕ, List, Option, subst}
use Rattle.tag.specs.Tags.{Tag}
use Rattle.tag.specs.declared.actions.Action.{Action}
use Rattle.tag.specs.declared.numbers.OpId.{OpId}
use Rattle.recorder.specs.declared.row.Row.{Row}
use Rattle.recorder.specs.declared.row.Row.TheVariants.{Invoke}
use Rattle.replica.specs.declared.pairs.Pair.{Pair}
use Rattle.replica.specs.declared.replies.Reply.TheVariants.{Held}
use Rattle.replica.specs.declared.requests.Request.TheVariants.{Put}
use Rattle.network.specs.declared.messages.Message.TheVariants.{ToReplica, ToClient}
use Rattle.world_steps.proofs.RowLaws.{same_key}
use Rattle.world_steps.specs.Sound.{At, IsFromWrite, IsGood, MessageSound, RowsSound, Tags, tags_of}
use Rattle.world_steps.specs.Sound.MessageSound.{SoundHeld, SoundPut}
use Rattle.world_steps.specs.Sources.{ComesFromWrites, HeldComeFromWrites, NotesComeFromWrites, PutsComeFromWrites, RepliesComeFromWrites}
use Rattle.world_steps.specs.SoundSystems.{IsSound, held_in}
use Rattle.world_steps.specs.declared.system.System.{System}
use Rattle.world_steps.proofs.WriteCounts.{from_counted, good_from}

module _ (R : List Row) (rows : RowsSound R) where
  comes : (key : List ℕ) (tag : Tag) → IsFromWrite R key tag → ComesFromWrites R key tag
  comes key tag from = record { from = from; few = from_counted R rows key tag from }

  good_comes : (key : List ℕ) (pair : Pair) → IsGood R key pair → ComesFromWrites R key pair.tag
  good_comes key pair good = comes key pair.tag (good_from R key pair good)

  put_comes : (tags : Tags) (number : ℕ) (op : OpId) (key : List ℕ) (tag : Tag) (value : Option (List ℕ)) → MessageSound R tags (ToReplica number (Put op key tag value)) → ComesFromWrites R key tag
  put_comes tags number op key tag value (SoundPut i n g) = good_comes key (record { tag = tag; value = value }) g

  told_comes : (tags : Tags) (place name client number : ℕ) (op : OpId) (key : List ℕ) (action : Action) (tag : Tag) (value : Option (List ℕ))
      → At R place (Invoke op client key action) → MessageSound R tags (ToClient name (Held op number tag value)) → ComesFromWrites R key tag
  told_comes tags place name client number op key action tag value at (SoundHeld of i g h) =
      let same : of ≡ key = same_key R rows i.place place op i.client client of key i.action action i.is at in
      subst (λ k. ComesFromWrites R k tag) same (good_comes of (record { tag = tag; value = value }) g)

module _ (s : System) (sound : IsSound s) where
  pub notes_come : NotesComeFromWrites s
  notes_come place note client op key action tag i j =
      comes s.history.rows sound.sound.recorded key tag (sound.sound.recorded.written place note op client key action tag i j)

  pub held_come : HeldComeFromWrites s
  held_come number key = good_comes s.history.rows sound.sound.recorded key (held_in s.nodes number key) (sound.sound.pairs number key)

  pub puts_come : PutsComeFromWrites s
  puts_come number op key tag value f =
      put_comes s.history.rows sound.sound.recorded (tags_of (held_in s.nodes)) number op key tag value (sound.sound.messages (ToReplica number (Put op key tag value)) f)

  pub replies_come : RepliesComeFromWrites s
  replies_come place name client number op key action tag value at f =
      told_comes s.history.rows sound.sound.recorded (tags_of (held_in s.nodes)) place name client number op key action tag value at (sound.sound.messages (ToClient name (Held op number tag value)) f)
