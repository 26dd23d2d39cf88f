-- Pairs and reasons, as a trace says them.
use Rattle.std.specs.Prelude.{ℕ, List, ◌++◌, Option, codes, decimal}
use Rattle.tag.specs.Tags.{Tag}
use Rattle.sentences.specs.Words.{tag_text, value_text}
use Rattle.world_settle.specs.Numbers.{settle_error_name, settle_error_number}
use Rattle.world_settle.specs.declared.errors.SettleError.{SettleError}
use Rattle.world_settle.specs.declared.errors.SettleError.TheVariants as settle
use Rattle.world_steps.specs.Numbers.{refusal_name, refusal_number}
use Rattle.world_steps.specs.declared.refusal.Refusal.{Refusal}
use Rattle.world_steps.specs.declared.refusal.Refusal.TheVariants.{NoSuchReplica, NoSuchClient}
use Rattle.world_steps.specs.declared.refusal.Refusal.TheVariants.{ClientTaken, ClientStopped}
use Rattle.world_steps.specs.declared.refusal.Refusal.TheVariants.{ClientBusy, NothingToSend}
use Rattle.world_steps.specs.declared.refusal.Refusal.TheVariants.{NotInFlight, NotReady}
use Rattle.world_steps.specs.declared.refusal.Refusal.TheVariants.{ReplicaDown, ReplicaUp}
use Rattle.world_steps.specs.declared.refusal.Refusal.TheVariants.{CopiesFull, OpsFull, FlightsFull}
use Rattle.world_steps.specs.declared.refusal.Refusal.TheVariants.{Memory}

-- a pair: its tag and its value
unfoldable pub pair_text : Tag → Option (List ℕ) → List ℕ
pair_text tag value = tag_text tag ++ codes " " ++ value_text value

-- why a step is refused, in a sentence
abbrev pub refusal_sentence : Refusal → List ℕ
refusal_sentence NoSuchReplica = codes "no replica has that number"
refusal_sentence NoSuchClient = codes "no client of that name joined"
refusal_sentence ClientTaken = codes "a client of that name joined before"
refusal_sentence ClientStopped = codes "the client is stopped"
refusal_sentence ClientBusy = codes "the client has a pending call"
refusal_sentence NothingToSend = codes "the client neither asks nor puts"
refusal_sentence NotInFlight = codes "no copy of that message is in flight"
refusal_sentence NotReady = codes "the client has no answer yet"
refusal_sentence ReplicaDown = codes "the replica is down"
refusal_sentence ReplicaUp = codes "the replica is up"
refusal_sentence CopiesFull = codes "the message has 1000 copies"
refusal_sentence OpsFull = codes "the record has all its calls"
refusal_sentence FlightsFull = codes "as many messages were sent as may be"
refusal_sentence Memory = codes "out of memory"

-- why a call can't be finished, in a sentence
abbrev pub unsettled_sentence : SettleError → List ℕ
unsettled_sentence settle.NoMajority = codes "the replicas that are up have too few votes"
unsettled_sentence settle.NotPending = codes "no call of that client is pending"
unsettled_sentence settle.Room = codes "too few messages are left"
unsettled_sentence (settle.Memory steps) = codes "out of memory"

-- a reason: its number, its name and its sentence
unfoldable pub reason_text : ℕ → List ℕ → List ℕ → List ℕ
reason_text number name sentence =
    codes " is refused: " ++ decimal number ++ codes " " ++ name ++ codes ", " ++ sentence

-- why a step is refused
abbrev pub refusal_text : Refusal → List ℕ
refusal_text why = reason_text (refusal_number why) (refusal_name why) (refusal_sentence why)

-- why a call can't be finished
abbrev pub unsettled_text : SettleError → List ℕ
unsettled_text why =
    reason_text (settle_error_number why) (settle_error_name why) (unsettled_sentence why)
