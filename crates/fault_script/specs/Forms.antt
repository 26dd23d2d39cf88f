-- The forms of commands, as a reader of scripts sees them: which command the words of a line say.
use Rattle.std.specs.Prelude.{ℕ, ◌≡◌, ◌≤◌, List, [], ◌∷◌, codes, true}
use Rattle.tag.specs.declared.actions.Action.{Action}
use Rattle.tag.specs.declared.actions.Action.TheVariants.{Read, Write}
use Rattle.tag.specs.Limits.{client_limit}
use Rattle.tag.specs.Names.{is_key, is_value}
use Rattle.world_steps.specs.declared.step.Step.{Step}
use Rattle.world_steps.specs.declared.step.Step.TheVariants as step
use Rattle.script_runs.specs.declared.command.Command.{Command}
use Rattle.script_runs.specs.declared.command.Command.TheVariants as command
use Rattle.fault_script.specs.Commands.{last_seed, random_step_limit}
use Rattle.fault_script.specs.Says.{last_flight, last_replica}
use Rattle.fault_script.specs.Words.{is_numeral, decimal_value}

-- the word is that number, one or more digits and nothing else, and it is in its range
pub record IsNumber (least most : ℕ) (word : List ℕ) (n : ℕ) : Type 0 where
  pub digits : is_numeral word ≡ true
  pub value : decimal_value word ≡ n
  pub low : least ≤ n
  pub high : n ≤ most

-- the word is that number, in its range or not
pub record IsNumeralOf (word : List ℕ) (n : ℕ) : Type 0 where
  pub digits : is_numeral word ≡ true
  pub value : decimal_value word ≡ n

-- what words and texts have to be: numbers between two, keys and values
pub record Demands : Type 1 where
  pub Number : ℕ → ℕ → List ℕ → ℕ → Type 0
  pub Key : List ℕ → Type 0
  pub Value : List ℕ → Type 0

-- everything is in its range
abbrev pub in_ranges : Demands
in_ranges = record {
  Number = IsNumber;
  Key = λ key. is_key key ≡ true;
  Value = λ value. is_value value ≡ true;
}

-- numbers are numbers, and nothing else is asked
abbrev pub of_any_size : Demands
of_any_size =
    record { Number = λ least most. IsNumeralOf; Key = λ key. Unit {0}; Value = λ value. Unit {0} }

-- the word is a client's name
abbrev pub IsClientWord : Demands → List ℕ → ℕ → Type 0
IsClientWord demands = demands.Number 1 client_limit

-- the word is a replica's number
abbrev pub IsReplicaWord : Demands → List ℕ → ℕ → Type 0
IsReplicaWord demands = demands.Number 0 last_replica

-- the word is a message's number
abbrev pub IsFlightWord : Demands → List ℕ → ℕ → Type 0
IsFlightWord demands = demands.Number 0 last_flight

-- one word after the first, and what it is
pub record One (Is : List ℕ → ℕ → Type 0) (args : List (List ℕ)) (n : ℕ) : Type 0 where
  pub word : List ℕ
  pub all : args ≡ word ∷ []
  pub is : Is word n

-- a name and one word
pub record NameAndOne (name : List ℕ) (Is : List ℕ → ℕ → Type 0) (args : List (List ℕ)) (n : ℕ) :
    Type 0 where
  pub word : List ℕ
  pub all : args ≡ name ∷ word ∷ []
  pub is : Is word n

-- two words
pub record Two (Is Are : List ℕ → ℕ → Type 0) (args : List (List ℕ)) (m n : ℕ) : Type 0 where
  pub first : List ℕ
  pub second : List ℕ
  pub all : args ≡ first ∷ second ∷ []
  pub is : Is first m
  pub are : Are second n

-- `CLIENT read KEY`
pub record SaysRead (demands : Demands) (args : List (List ℕ)) (client : ℕ) (key : List ℕ) : Type 0
  where
    pub caller : List ℕ
    pub all : args ≡ caller ∷ codes "read" ∷ key ∷ []
    pub is : IsClientWord demands caller client
    pub named : demands.Key key

-- `CLIENT write KEY VALUE`: the value is all that stands after the one space or tab after the key
pub record SaysWrite (demands : Demands) (args : List (List ℕ)) (behind_key : List ℕ) (client : ℕ)
    (key value : List ℕ) : Type 0 where
  pub caller : List ℕ
  pub others : List (List ℕ)
  pub all : args ≡ caller ∷ codes "write" ∷ key ∷ others
  pub is : IsClientWord demands caller client
  pub named : demands.Key key
  pub written : behind_key ≡ value
  pub short : demands.Value value

-- what a call asks: the words after `invoke` are of a read, or of a write with its value
abbrev pub SaysCall : Demands → List (List ℕ) → List ℕ → ℕ → List ℕ → Action → Type 0
SaysCall demands args behind_key client key Read = SaysRead demands args client key
SaysCall demands args behind_key client key (Write value) =
    SaysWrite demands args behind_key client key value

-- the table: the first word, the words after it and what stands after the fourth word spell that
-- step
abbrev pub SpellsStep : Demands → List ℕ → List (List ℕ) → List ℕ → Step → Type 0
SpellsStep demands verb args behind_key (step.Join client) =
    (verb ≡ codes "join") × One (IsClientWord demands) args client
SpellsStep demands verb args behind_key (step.Invoke client key action) =
    (verb ≡ codes "invoke") × SaysCall demands args behind_key client key action
SpellsStep demands verb args behind_key (step.Send client replica) =
    (verb ≡ codes "send") × Two (IsClientWord demands) (IsReplicaWord demands) args client replica
SpellsStep demands verb args behind_key (step.Deliver flight) =
    (verb ≡ codes "deliver") × One (IsFlightWord demands) args flight
SpellsStep demands verb args behind_key (step.Lose flight) =
    (verb ≡ codes "lose") × One (IsFlightWord demands) args flight
SpellsStep demands verb args behind_key (step.Repeat flight) =
    (verb ≡ codes "repeat") × One (IsFlightWord demands) args flight
SpellsStep demands verb args behind_key (step.Respond client) =
    (verb ≡ codes "respond") × One (IsClientWord demands) args client
SpellsStep demands verb args behind_key (step.StopClient client) =
    (verb ≡ codes "stop") × NameAndOne (codes "client") (IsClientWord demands) args client
SpellsStep demands verb args behind_key (step.StopReplica replica) =
    (verb ≡ codes "stop") × NameAndOne (codes "replica") (IsReplicaWord demands) args replica
SpellsStep demands verb args behind_key (step.StartReplica replica) =
    (verb ≡ codes "start") × NameAndOne (codes "replica") (IsReplicaWord demands) args replica

-- the same of a command
abbrev pub Spells : Demands → List ℕ → List (List ℕ) → List ℕ → Command → Type 0
Spells demands verb args behind_key (command.Step s) = SpellsStep demands verb args behind_key s
Spells demands verb args behind_key (command.Finish client) =
    (verb ≡ codes "finish") × One (IsClientWord demands) args client
Spells demands verb args behind_key (command.Random seed count) = (verb ≡ codes "random")
    × Two (demands.Number 0 last_seed) (demands.Number 0 random_step_limit) args seed count

-- the words say that step: they spell it, and everything is in its range
abbrev pub SaysStep : List ℕ → List (List ℕ) → List ℕ → Step → Type 0
SaysStep = SpellsStep in_ranges

-- the words say that command
abbrev pub SaysCommand : List ℕ → List (List ℕ) → List ℕ → Command → Type 0
SaysCommand = Spells in_ranges

-- the words have a form of the table, in range or not
pub record HasForm (verb : List ℕ) (args : List (List ℕ)) (behind_key : List ℕ) : Type 0 where
  pub command : Command
  pub spelled : Spells of_any_size verb args behind_key command
