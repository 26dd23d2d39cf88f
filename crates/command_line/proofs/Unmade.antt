-- Words that clap takes and that make no command.
use Rattle.std.proofs.Common.{◌≡◌, List, Option, Result, Ok, Err, IfOk, IfErr, inr, subst}
use Rattle.std.specs.Result.{MatchResult}
use Rattle.clap.specs.Words.{Row, Text, subcommand_of}
use Rattle.clap.specs.declared.error.kind.ErrorKind.TheVariants.{MissingSubcommand}
use Rattle.command_line.specs.Forms.{abd_app}
use Rattle.command_line.specs.Reading.{IsNone}
use Rattle.command_line.specs.Words.{AreParsed, Asks, AsksNothing, MakesNothing, MakesOf, IsUsageOf}
use Rattle.command_line.specs.declared.asked.Command.{Command}
use Rattle.command_line.specs.declared.asked.Usage.{Usage}
use Rattle.command_line.specs.declared.asked.Usage.TheVariants as usage
use Rattle.command_line.specs.declared.fault.WordsFault.{WordsFault}
use Rattle.command_line.specs.declared.fault.WordsFault.TheVariants.{Memory}

-- what says that no command is made says it where none is
pub nothing : (none : Type 0) (fault : WordsFault) (answer : Usage) → IsUsageOf MissingSubcommand answer → (fault ≡ Memory → answer ≡ usage.Memory)
    → ((fault ≡ Memory → ⊥) → none) → MakesNothing none answer
nothing none fault (usage.Help text) says lacks h = absurd (cc)
nothing none fault (usage.Version text) says lacks h = absurd (cc)
nothing none fault (usage.Fault text) says lacks h = h (λ is. let other = lacks is in absurd (cc))
nothing none fault usage.Memory says lacks h = tt

abbrev pub IsUnmade : Option (Text × List Row) → Type 0
IsUnmade found = IsNone (MakesOf found)

-- the command that was made is asked for
pub asked : (words : List Text) (found : Option (Text × List Row)) (r : Result Command Usage) → AreParsed words → found ≡ subcommand_of abd_app words → MatchResult r (MakesOf found) (MakesNothing (IsUnmade found)) → IfOk r (Asks words)
asked words found (Ok command) taken met makes = (taken, subst (λ (f : Option (Text × List Row)). MakesOf f command) met makes)
asked words found (Err answer) taken met makes = tt

unmade : (words : List Text) (answer : Usage) → AreParsed words → MakesNothing (IsUnmade (subcommand_of abd_app words)) answer → AsksNothing words answer
unmade words (usage.Help text) taken none = absurd none
unmade words (usage.Version text) taken none = absurd none
unmade words (usage.Fault text) taken none = inr (taken, none)
unmade words usage.Memory taken none = tt

-- and where none is made, nothing
pub not_asked : (words : List Text) (found : Option (Text × List Row)) (r : Result Command Usage) → AreParsed words → found ≡ subcommand_of abd_app words → MatchResult r (MakesOf found) (MakesNothing (IsUnmade found)) → IfErr r (AsksNothing words)
not_asked words found (Ok command) taken met makes = tt
not_asked words found (Err answer) taken met makes = unmade words answer taken (subst (λ (f : Option (Text × List Row)). MakesNothing (IsUnmade f) answer) met makes)
