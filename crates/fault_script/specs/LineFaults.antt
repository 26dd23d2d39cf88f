-- The faults of a line's words, as a reader of scripts sees them: no `replicas`, no form of a line
-- that may stand there, a number, key or value outside its range.
use Rattle.std.specs.Prelude.{ℕ, ◌≡◌, ◌≢◌, ◌≤◌, List, [], ◌∷◌, ◌++◌, length, Option, Some, None}
use Rattle.std.specs.Prelude.{codes, true}
use Rattle.client_phases.specs.declared.rules.ReadMode.{ReadMode}
use Rattle.fault_script.specs.declared.fault.LineFault.{LineFault}
use Rattle.fault_script.specs.declared.fault.LineFault.TheVariants.{NoReplicas, UnknownCommand}
use Rattle.fault_script.specs.declared.fault.LineFault.TheVariants.{Range}
use Rattle.fault_script.specs.declared.parse_line.Last.TheVariants as last
use Rattle.fault_script.specs.declared.parse_line.ConfigSoFar.{ConfigSoFar}
use Rattle.fault_script.specs.declared.parse_line.Said.{Said}
use Rattle.fault_script.specs.Words.{words, behind_three, is_numeral}
use Rattle.fault_script.specs.Forms.{HasForm}
use Rattle.fault_script.specs.SettingForms.{SaysReads, MayVote, SaysAfter}

-- the words are numbers, of any size
abbrev pub AreNumerals : List (List ℕ) → Type 0
AreNumerals [] = Unit {0}
AreNumerals (word ∷ words) = (is_numeral word ≡ true) × AreNumerals words

-- one to three numbers
pub record HasReplicasForm (args : List (List ℕ)) : Type 0 where
  pub numbers : AreNumerals args
  pub least : 1 ≤ length args
  pub most : length args ≤ 3

-- `V0 .. ask R put W`, a number for each of so many replicas
pub record HasVotesForm (count : ℕ) (args : List (List ℕ)) : Type 0 where
  pub votes : List (List ℕ)
  pub ask : List ℕ
  pub put : List ℕ
  pub all : args ≡ votes ++ codes "ask" ∷ ask ∷ codes "put" ∷ put ∷ []
  pub numbers : AreNumerals votes
  pub count_is : length votes ≡ count
  pub asks : is_numeral ask ≡ true
  pub puts : is_numeral put ≡ true

-- the words have a form of a line that may stand after the lines before it, in range or not
pub data HasFormAfter (verb : List ℕ) (args : List (List ℕ)) (behind_key : List ℕ) : Option
    ConfigSoFar → Type 0 where
  replicas_form : verb ≡ codes "replicas" → HasReplicasForm args
      → HasFormAfter verb args behind_key None
  reads_form : (opened : ConfigSoFar) (mode : ReadMode) → verb ≡ codes "reads" → opened.last
      ≡ last.Replicas → SaysReads args mode → HasFormAfter verb args behind_key (Some opened)
  votes_form : (opened : ConfigSoFar) → verb ≡ codes "votes" → MayVote opened.last
      → HasVotesForm (length opened.config.quorums.votes) args
      → HasFormAfter verb args behind_key (Some opened)
  command_form : (opened : ConfigSoFar) → HasForm verb args behind_key
      → HasFormAfter verb args behind_key (Some opened)

-- the first command isn't `replicas`
pub record LacksReplicas (verb : List ℕ) (before : Option ConfigSoFar) : Type 0 where
  pub first : before ≡ None
  pub other : verb ≢ codes "replicas"

-- a line of that first word, and of that text after it, may stand after the lines before it by its
-- form
abbrev pub HasFormAt : Option ConfigSoFar → List ℕ → List ℕ → Type 0
HasFormAt before verb args = HasFormAfter verb (words args) (behind_three args) before

-- it says nothing there
abbrev pub SaysNothing : Option ConfigSoFar → List ℕ → List ℕ → Type 0
SaysNothing before verb args =
    (said : Said) → SaysAfter verb (words args) (behind_three args) before said → ⊥

-- it has that fault there, and none before it in order of number
abbrev pub HasWordFault : Option ConfigSoFar → List ℕ → List ℕ → LineFault → Type 0
HasWordFault before verb args NoReplicas = LacksReplicas verb before
HasWordFault before verb args UnknownCommand =
    (LacksReplicas verb before → ⊥) × (HasFormAt before verb args → ⊥)
HasWordFault before verb args Range = HasFormAt before verb args × SaysNothing before verb args
HasWordFault before verb args fault = ⊥
