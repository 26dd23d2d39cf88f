-- The commands after the configuration, by the words of their lines.
use Rattle.std.specs.Prelude.{ℕ, List, Result, Ok, Err, codes, bytes_eq, if◌then◌else◌}
use Rattle.tag.specs.declared.actions.Action.{Action}
use Rattle.tag.specs.declared.actions.Action.TheVariants.{Read, Write}
use Rattle.world_steps.specs.declared.step.Step.{Step}
use Rattle.world_steps.specs.declared.step.Step.TheVariants as step
use Rattle.script_runs.specs.declared.command.Command.{Command}
use Rattle.script_runs.specs.declared.command.Command.TheVariants as command
use Rattle.fault_script.specs.declared.fault.LineFault.{LineFault}
use Rattle.fault_script.specs.declared.fault.LineFault.TheVariants.{UnknownCommand}
use Rattle.fault_script.specs.Words.{words, behind_word}
use Rattle.counted_devices.specs.Answers.{◌>>=◌}
use Rattle.fault_script.specs.Says.{needed_word, needed_text, needed_number, one_number}
use Rattle.fault_script.specs.Says.{nothing_more, within, client_of, replica_of, flight_of, key_of}
use Rattle.fault_script.specs.Says.{value_of}

-- one name of a client
unfoldable pub client_in : List (List ℕ) → Result ℕ LineFault
client_in words = do
  number ← one_number words
  client_of number

-- one number of a replica
unfoldable pub replica_in : List (List ℕ) → Result ℕ LineFault
replica_in words = do
  number ← one_number words
  replica_of number

-- one number of a message
unfoldable pub flight_in : List (List ℕ) → Result ℕ LineFault
flight_in words = do
  number ← one_number words
  flight_of number

-- what a call asks: `read` and nothing more, or `write` and then the value, spaces included
unfoldable pub action_in : List ℕ → List ℕ → Result Action LineFault
action_in action behind_key =
    if bytes_eq action (codes "read") then (do
      nothing ← nothing_more (words behind_key)
      Ok Read)
    else if bytes_eq action (codes "write") then (do
      value ← value_of behind_key
      Ok (Write value))
    else Err UnknownCommand

-- `CLIENT read KEY` or `CLIENT write KEY VALUE`
unfoldable pub invoke_in : List ℕ → Result Step LineFault
invoke_in args = do
  client ← needed_number (words args)
  action ← needed_word client.1
  key ← needed_word action.1
  asked ← action_in action.0 (behind_word (behind_word (behind_word args)))
  name ← client_of client.0
  text ← key_of key.0
  Ok (step.Invoke name text asked)

-- `CLIENT REPLICA`
unfoldable pub send_in : List (List ℕ) → Result Step LineFault
send_in words = do
  client ← needed_number words
  replica ← one_number client.1
  name ← client_of client.0
  number ← replica_of replica
  Ok (step.Send name number)

-- the step that one number says, of a client, a replica or a message
abbrev pub step_by : (List (List ℕ) → Result ℕ LineFault) → (ℕ → Step) → List (List ℕ)
    → Result Step LineFault
step_by number_in make words = do
  number ← number_in words
  Ok (make number)

-- `client CLIENT` or `replica REPLICA`
unfoldable pub stopped_in : List ℕ → List (List ℕ) → Result Step LineFault
stopped_in kind words =
    if bytes_eq kind (codes "client") then step_by client_in step.StopClient words
    else if bytes_eq kind (codes "replica") then step_by replica_in step.StopReplica words
    else Err UnknownCommand

-- what is stopped: a client or a replica
unfoldable pub stop_in : List (List ℕ) → Result Step LineFault
stop_in words = do
  kind ← needed_word words
  stopped_in kind.0 kind.1

-- `replica REPLICA`
unfoldable pub start_in : List (List ℕ) → Result Step LineFault
start_in words = do
  others ← needed_text (codes "replica") words
  replica ← replica_in others
  Ok (step.StartReplica replica)

-- the greatest seed of random steps
abbrev pub last_seed : ℕ
last_seed = 18446744073709551615

-- the most random steps of one command
abbrev pub random_step_limit : ℕ
random_step_limit = 1000000

-- `SEED COUNT`
unfoldable pub random_in : List (List ℕ) → Result Command LineFault
random_in words = do
  seed ← needed_number words
  count ← one_number seed.1
  first ← within 0 last_seed seed.0
  steps ← within 0 random_step_limit count
  Ok (command.Random first steps)

-- a step of a client
unfoldable pub client_step_in : List ℕ → List (List ℕ) → Result Step LineFault
client_step_in verb words =
    if bytes_eq verb (codes "join") then step_by client_in step.Join words
    else if bytes_eq verb (codes "send") then send_in words
    else if bytes_eq verb (codes "respond") then step_by client_in step.Respond words
    else Err UnknownCommand

-- a step on a message, or one that stops or starts, or one of a client
unfoldable pub step_in : List ℕ → List (List ℕ) → Result Step LineFault
step_in verb words =
    if bytes_eq verb (codes "deliver") then step_by flight_in step.Deliver words
    else if bytes_eq verb (codes "lose") then step_by flight_in step.Lose words
    else if bytes_eq verb (codes "repeat") then step_by flight_in step.Repeat words
    else if bytes_eq verb (codes "stop") then stop_in words
    else if bytes_eq verb (codes "start") then start_in words
    else client_step_in verb words

-- the command of that first word, and of what stands after it
unfoldable pub command_in : List ℕ → List ℕ → Result Command LineFault
command_in verb args =
    if bytes_eq verb (codes "invoke") then (do
      step ← invoke_in args
      Ok (command.Step step))
    else if bytes_eq verb (codes "finish") then (do
      client ← client_in (words args)
      Ok (command.Finish client))
    else if bytes_eq verb (codes "random") then random_in (words args)
    else (do
      step ← step_in verb (words args)
      Ok (command.Step step))
