-- What the words after `abd run` ask for, by clap's reading of them.
use Rattle.std.specs.Prelude.{ℕ, ◌≡◌, ◌<◌, ◌≤◌, ◌+◌, ◌⊎◌, List, Some, None, All, length, map, codes}
use Rattle.clap.specs.Words.{Row, Text, first_of}
use Rattle.client_phases.specs.declared.rules.ReadMode.{ReadMode}
use Rattle.client_phases.specs.declared.rules.ReadMode.TheVariants.{Full, Short}
use Rattle.load.specs.Ranges.{callers_range, calls_range, faults_range, keys_range, rounds_range}
use Rattle.quorum.specs.Quorums.{IsLawful, Quorums, majority_of}
use Rattle.command_line.specs.Forms.{halls_range, replicas_range, shown_hall, votes_range}
use Rattle.command_line.specs.Reading.{AsksNumber}
use Rattle.command_line.specs.declared.asked.RunAsked.{RunAsked}
use Rattle.command_line.specs.declared.asked.Shown.{Shown}
use Rattle.command_line.specs.declared.asked.Shown.TheVariants as shown

-- the text after --reads that asks for that read mode
abbrev pub mode_text : ReadMode → Text
mode_text Full = codes "full"
mode_text Short = codes "short"

-- the text has a digit from 1 to 9 for each of the votes
pub record AreDigits (text : Text) (votes : List ℕ) : Type 0 where
  pub spelled : text ≡ map (λ v. 48 + v) votes
  pub each : All (λ v. (1 ≤ v) × (v ≤ 9)) votes

module _ (rows : List Row) where
  -- what stands after --reads is the text of that read mode
  abbrev pub AsksReads : ReadMode → Type 0
  AsksReads mode = first_of (codes "reads") rows ≡ Some (mode_text mode)

  -- quorums by votes: --votes has their digits, --ask and --put their numbers, and they keep the
  -- rules
  pub record AsksVotes (quorums : Quorums) : Type 0 where
    pub text : Text
    pub given : first_of (codes "votes") rows ≡ Some text
    pub digits : AreDigits text quorums.votes
    pub ask : AsksNumber rows (codes "ask") votes_range quorums.ask
    pub put : AsksNumber rows (codes "put") votes_range quorums.put
    pub lawful : IsLawful quorums

  -- none of the three stands there, and the quorums are the majorities
  pub record AsksMajorities (quorums : Quorums) : Type 0 where
    pub no_votes : first_of (codes "votes") rows ≡ None
    pub no_ask : first_of (codes "ask") rows ≡ None
    pub no_put : first_of (codes "put") rows ≡ None
    pub is : quorums ≡ majority_of (length quorums.votes)

  -- the quorums that are asked for
  abbrev pub AsksQuorums : Quorums → Type 0
  AsksQuorums quorums = AsksMajorities quorums ⊎ AsksVotes quorums

  -- quorums by votes, of so many replicas
  abbrev pub AsksVotesOf : ℕ → Quorums → Type 0
  AsksVotesOf replicas quorums = AsksVotes quorums × (length quorums.votes ≡ replicas)

  -- the quorums of so many replicas that are asked for
  abbrev pub AsksQuorumsOf : ℕ → Quorums → Type 0
  AsksQuorumsOf replicas quorums = AsksQuorums quorums × (length quorums.votes ≡ replicas)

  -- --show has the number of a hall
  pub record AsksHall (halls hall : ℕ) : Type 0 where
    pub number : AsksNumber rows (codes "show") shown_hall hall
    pub below : hall < halls

  -- neither --show nor --votes stands there, and there is one hall
  pub record AsksOneHall (halls hall : ℕ) : Type 0 where
    pub no_show : first_of (codes "show") rows ≡ None
    pub no_votes : first_of (codes "votes") rows ≡ None
    pub one : halls ≡ 1
    pub is : hall ≡ 0

  -- --show doesn't stand there, and there are several halls, or --votes does
  pub record AsksAll (halls : ℕ) : Type 0 where
    pub no_show : first_of (codes "show") rows ≡ None
    pub several : (halls ≡ 1) → first_of (codes "votes") rows ≡ None → ⊥

  -- which histories are written of so many halls
  abbrev pub AsksShown : ℕ → Shown → Type 0
  AsksShown halls (shown.Hall hall) = AsksHall halls hall ⊎ AsksOneHall halls hall
  AsksShown halls shown.All = AsksAll halls

  -- what is asked for: how large the load is, its halls and replicas, how its clients read, and
  -- which histories are written
  pub record AsksRun (asked : RunAsked) : Type 0 where
    pub replicas : AsksNumber rows (codes "replicas") replicas_range
        (length asked.load.quorums.votes)
    pub callers : AsksNumber rows (codes "callers") callers_range asked.load.callers
    pub calls : AsksNumber rows (codes "calls") calls_range asked.load.calls
    pub keys : AsksNumber rows (codes "keys") keys_range asked.load.keys
    pub rounds : AsksNumber rows (codes "rounds") rounds_range asked.load.rounds
    pub drop : AsksNumber rows (codes "drop") faults_range asked.load.drop
    pub double : AsksNumber rows (codes "double") faults_range asked.load.double
    pub halls : AsksNumber rows (codes "halls") halls_range asked.load.halls
    pub reads : AsksReads asked.load.reads
    pub shown : AsksShown asked.load.halls asked.shown
    pub quorums : AsksQuorums asked.load.quorums
