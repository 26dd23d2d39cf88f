-- The forms of the configuration's lines, and what a line's words say after the lines before it.
use Rattle.std.specs.Prelude.{ℕ, ◌≡◌, List, [], ◌∷◌, ◌++◌, length, Option, Some, None, codes}
use Rattle.std.specs.List.{AllZip}
use Rattle.tag.specs.Limits.{call_limit, replica_limit}
use Rattle.client_phases.specs.declared.rules.ReadMode.{ReadMode}
use Rattle.client_phases.specs.declared.rules.ReadMode.TheVariants.{Full, Short}
use Rattle.quorum.specs.Quorums.{Quorums, IsLawful}
use Rattle.world_steps.specs.Configs.{Config, config_of, message_limit}
use Rattle.script_runs.specs.declared.command.Command.{Command}
use Rattle.fault_script.specs.declared.parse_line.Last.{Last}
use Rattle.fault_script.specs.declared.parse_line.Last.TheVariants as last
use Rattle.fault_script.specs.declared.parse_line.ConfigSoFar.{ConfigSoFar}
use Rattle.fault_script.specs.declared.parse_line.Said.{Said}
use Rattle.fault_script.specs.declared.parse_line.Said.TheVariants.{Opens, Runs}
use Rattle.fault_script.specs.Forms.{IsNumber, IsNumeralOf, SaysCommand}
use Rattle.fault_script.specs.Settings.{after_replicas, after_reads, after_votes}
use Rattle.fault_script.specs.Settings.{default_flights}

-- the word is a number of replicas
abbrev pub IsSize : List ℕ → ℕ → Type 0
IsSize = IsNumber 1 replica_limit

-- the word is a greatest number of calls
abbrev pub IsCallLimit : List ℕ → ℕ → Type 0
IsCallLimit = IsNumber 1 call_limit

-- the word is a greatest number of messages
abbrev pub IsFlightLimit : List ℕ → ℕ → Type 0
IsFlightLimit = IsNumber 1 message_limit

-- `N [CALLS [FLIGHTS]]`: so many replicas, and the most calls and messages where they are said
pub data SaysReplicas : List (List ℕ) → Config → Type 0 where
  alone : (size : List ℕ) (n : ℕ) → IsSize size n
      → SaysReplicas (size ∷ []) (config_of n call_limit default_flights)
  with_calls : (size calls : List ℕ) (n c : ℕ) → IsSize size n → IsCallLimit calls c
      → SaysReplicas (size ∷ calls ∷ []) (config_of n c default_flights)
  with_flights : (size calls flights : List ℕ) (n c f : ℕ) → IsSize size n → IsCallLimit calls c
      → IsFlightLimit flights f → SaysReplicas (size ∷ calls ∷ flights ∷ []) (config_of n c f)

-- `full` or `short`
abbrev pub SaysReads : List (List ℕ) → ReadMode → Type 0
SaysReads args Full = args ≡ codes "full" ∷ []
SaysReads args Short = args ≡ codes "short" ∷ []

-- `V0 .. ask R put W`, a vote for each of so many replicas, and the rules hold
pub record SaysVotes (count : ℕ) (args : List (List ℕ)) (quorums : Quorums) : Type 0 where
  pub votes : List (List ℕ)
  pub ask : List ℕ
  pub put : List ℕ
  pub all : args ≡ votes ++ codes "ask" ∷ ask ∷ codes "put" ∷ put ∷ []
  pub each : AllZip IsNumeralOf votes quorums.votes
  pub count_is : length quorums.votes ≡ count
  pub asks : IsNumeralOf ask quorums.ask
  pub puts : IsNumeralOf put quorums.put
  pub lawful : IsLawful quorums

-- `votes` may stand after these lines
abbrev pub MayVote : Last → Type 0
MayVote last.Replicas = Unit {0}
MayVote last.Reads = Unit {0}
MayVote last.Other = ⊥

-- what a line says after the lines before it: first `replicas`, next `reads` and `votes` if they
-- are there, then commands
pub data SaysAfter (verb : List ℕ) (args : List (List ℕ)) (behind_key : List ℕ) : Option
    ConfigSoFar → Said → Type 0 where
  replicas : (config : Config) → verb ≡ codes "replicas" → SaysReplicas args config
      → SaysAfter verb args behind_key None (Opens (after_replicas config))
  reads : (old : ConfigSoFar) (mode : ReadMode) → verb ≡ codes "reads" → old.last ≡ last.Replicas
      → SaysReads args mode
      → SaysAfter verb args behind_key (Some old) (Opens (after_reads old.config mode))
  votes : (old : ConfigSoFar) (quorums : Quorums) → verb ≡ codes "votes" → MayVote old.last
      → SaysVotes (length old.config.quorums.votes) args quorums
      → SaysAfter verb args behind_key (Some old) (Opens (after_votes old.config quorums))
  runs : (old : ConfigSoFar) (command : Command) → SaysCommand verb args behind_key command
      → SaysAfter verb args behind_key (Some old) (Runs command)
