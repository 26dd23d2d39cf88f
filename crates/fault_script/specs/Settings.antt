-- The lines of the configuration: `replicas`, `reads` and `votes`.
use Rattle.std.specs.Prelude.{ℕ, zero, suc, ◌+◌, ◌&&◌, List, [], ◌∷◌, Bool, Option, Some, None}
use Rattle.std.specs.Prelude.{Result, Ok, Err, codes, bytes_eq, length, min, nat_le, nat_lt, sum}
use Rattle.std.specs.Prelude.{if◌then◌else◌}
use Rattle.std.specs.List.{list_all}
use Rattle.tag.specs.Limits.{call_limit, replica_limit}
use Rattle.quorum.specs.Quorums.{Quorums}
use Rattle.client_phases.specs.declared.rules.ReadMode.{ReadMode}
use Rattle.client_phases.specs.declared.rules.ReadMode.TheVariants.{Full, Short}
use Rattle.world_steps.specs.Configs.{Config, config_of, message_limit}
use Rattle.fault_script.specs.declared.parse_line.Last.TheVariants as last
use Rattle.fault_script.specs.declared.parse_line.ConfigSoFar.{ConfigSoFar}
use Rattle.fault_script.specs.declared.fault.LineFault.{LineFault}
use Rattle.fault_script.specs.declared.fault.LineFault.TheVariants.{UnknownCommand}
use Rattle.counted_devices.specs.Answers.{◌>>=◌}
use Rattle.fault_script.specs.Says.{needed_word, needed_text, needed_number, number_or}
use Rattle.fault_script.specs.Says.{nothing_more, in_range, within}

-- the configuration so far after `replicas`
abbrev pub after_replicas : Config → ConfigSoFar
after_replicas config = record { config = config; last = last.Replicas }

-- the configuration so far after `reads`
abbrev pub after_reads : Config → ReadMode → ConfigSoFar
after_reads config mode = record { config = record config { reads = mode }; last = last.Reads }

-- the configuration so far after `votes`
abbrev pub after_votes : Config → Quorums → ConfigSoFar
after_votes config quorums =
    record { config = record config { quorums = quorums }; last = last.Other }

-- so many replicas, and at most so many calls and messages
unfoldable pub config_in : Option ℕ → Option ℕ → Option ℕ → Result Config LineFault
config_in replicas calls flights = do
  n ← within 1 replica_limit replicas
  c ← within 1 call_limit calls
  m ← within 1 message_limit flights
  Ok (config_of n c m)

-- how many messages there are where a script says none
abbrev pub default_flights : ℕ
default_flights = 4000000

-- `N [CALLS [FLIGHTS]]`
unfoldable pub replicas_in : List (List ℕ) → Result Config LineFault
replicas_in words = do
  replicas ← needed_number words
  calls ← number_or call_limit replicas.1
  flights ← number_or default_flights calls.1
  nothing ← nothing_more flights.1
  config_in replicas.0 calls.0 flights.0

-- the way of reading of that name
unfoldable pub mode_of : List ℕ → Result ReadMode LineFault
mode_of word = if bytes_eq word (codes "full") then Ok Full else if bytes_eq word (codes "short")
    then Ok Short else Err UnknownCommand

-- `full` or `short`, and nothing more
unfoldable pub reads_in : List (List ℕ) → Result ReadMode LineFault
reads_in words = do
  mode ← needed_word words
  nothing ← nothing_more mode.1
  mode_of mode.0

-- a number of votes; above 255 all are alike, since the rules allow none of them
abbrev pub vote_count : Option ℕ → ℕ
vote_count None = 255
vote_count (Some n) = min n 255

-- so many numbers of votes, and the words after them
unfoldable pub numbers_in : ℕ → List (List ℕ) → Result (List ℕ × List (List ℕ)) LineFault
numbers_in zero words = Ok ([], words)
numbers_in (suc n) words = do
  first ← needed_number words
  others ← numbers_in n first.1
  Ok (vote_count first.0 ∷ others.0, others.1)

-- the test of the rules for votes
abbrev pub is_lawful : Quorums → Bool
is_lawful quorums =
    nat_le 1 (length quorums.votes)
    && nat_le (length quorums.votes) replica_limit
    && list_all (λ v. nat_le 1 v && nat_le v 9) quorums.votes
    && nat_le 1 quorums.ask
    && nat_le quorums.ask (sum quorums.votes)
    && nat_le 1 quorums.put
    && nat_le quorums.put (sum quorums.votes)
    && nat_lt (sum quorums.votes) (quorums.ask + quorums.put)

-- the quorums, if the rules hold of them
abbrev pub quorums_of : List ℕ → ℕ → ℕ → Result Quorums LineFault
quorums_of votes ask put = in_range (is_lawful (record { votes = votes; ask = ask; put = put }))
    (record { votes = votes; ask = ask; put = put })

-- `V0 .. ask R put W`, a vote for each of n replicas
unfoldable pub votes_in : ℕ → List (List ℕ) → Result Quorums LineFault
votes_in n words = do
  votes ← numbers_in n words
  asking ← needed_text (codes "ask") votes.1
  ask ← needed_number asking
  putting ← needed_text (codes "put") ask.1
  put ← needed_number putting
  nothing ← nothing_more put.1
  quorums_of votes.0 (vote_count ask.0) (vote_count put.0)
