-- What clap answers to the words is what the definition says of them.
use Rattle.std.proofs.Common.{◌≡◌, ◌⊎◌, inl, inr, true, List, [], Option, Result, IfOk, IfErr, ap, refl, sym, subst, ◌∙◌, map, string_bytes}
use Rattle.clap.specs.Words.{App, IsAmong, Row, Text, app_of, fault_of, is_simple, is_simple_and_free, kind_of, subcommand_of}
use Rattle.clap.specs.declared.error.kind.ErrorKind.{ErrorKind}
use Rattle.clap.specs.declared.error.kind.ErrorKind.TheVariants.{OutOfMemory}
use Rattle.clap.proofs.OnLiterals.{clap_on_literals}
use Rattle.command_line.specs.Forms.{abd_app}
use Rattle.command_line.specs.Words.{AreParsed, Asks, AsksNothing, IsUsageOf, MakesNothing, MakesOf}
use Rattle.std.specs.Result.{MatchResult}
use Rattle.command_line.specs.declared.asked.Command.{Command}
use Rattle.command_line.specs.declared.asked.Usage.{Usage}
use Rattle.command_line.specs.declared.asked.Usage.TheVariants as usage
use Rattle.command_line.proofs.Unmade.{IsUnmade, asked, not_asked}
use Rattle.command_line.proofs.words.command.Goals as goal

-- `abd` is a command of which clap gives the kinds of its errors
is_free : is_simple_and_free abd_app ≡ true
unfolding clap_on_literals
is_free = refl

-- the words aren't taken, for the kind of the error
refused : (words : List Text) (answer : Usage) (kind : ErrorKind) → IsUsageOf kind answer → (kind ≡ OutOfMemory) ⊎ IsAmong kind (fault_of abd_app words) → AsksNothing words answer
refused words (usage.Help text) kind says (inl memory) = absurd (cc)
refused words (usage.Help text) kind says (inr among) = subst (λ (k : ErrorKind). IsAmong k (fault_of abd_app words)) says among
refused words (usage.Version text) kind says (inl memory) = absurd (cc)
refused words (usage.Version text) kind says (inr among) = subst (λ (k : ErrorKind). IsAmong k (fault_of abd_app words)) says among
refused words (usage.Fault text) kind says (inl memory) = absurd (says.2 memory)
refused words (usage.Fault text) kind says (inr among) = inl (kind, among, says)
refused words usage.Memory kind says h = tt

-- what clap took, said of `abd`: the command that was made is asked for, and if none was made, none is
met : (app : App) (is : app ≡ abd_app) (words : List Text) (found : Option (Text × List Row)) (r : Result Command Usage)
    → (is_simple_and_free app ≡ true → fault_of app words ≡ []) → (is_simple app ≡ true → found ≡ subcommand_of app words)
    → MatchResult r (MakesOf found) (MakesNothing (IsUnmade found)) → IfOk r (Asks words) × IfErr r (AsksNothing words)
met app is words found r none same makes =
    let parsed : AreParsed words = sym (ap (λ (a : App). fault_of a words) is) ∙ none (ap is_simple_and_free is ∙ is_free) in
    let rows : found ≡ subcommand_of abd_app words = same (ap is_simple is) ∙ ap (λ (a : App). subcommand_of a words) is in
    (asked words found r parsed rows makes, not_asked words found r parsed rows makes)

pub returns-in-Ok-try_get_matches_from-clause-asked : goal.returns-in-Ok-try_get_matches_from-clause-asked
returns-in-Ok-try_get_matches_from-clause-asked c =
    let clap = c.in-Ok-try_get_matches_from.ensures in
    (met (app_of c.in-Ok.abd) c.in-Ok.ensures (map string_bytes c.args.words.now) _ c.answer_to.result clap.kinds (λ simple. (clap.matches simple).1) c.answer_to.ensures.makes).0

pub returns-in-Ok-try_get_matches_from-clause-not_asked : goal.returns-in-Ok-try_get_matches_from-clause-not_asked
returns-in-Ok-try_get_matches_from-clause-not_asked c =
    let clap = c.in-Ok-try_get_matches_from.ensures in
    (met (app_of c.in-Ok.abd) c.in-Ok.ensures (map string_bytes c.args.words.now) _ c.answer_to.result clap.kinds (λ simple. (clap.matches simple).1) c.answer_to.ensures.makes).1

pub returns-in-Err-clause-not_asked : goal.returns-in-Err-clause-not_asked
returns-in-Err-clause-not_asked c =
    let words = map string_bytes c.args.words.now in
    let abd_is : app_of c.in-Ok.abd ≡ abd_app = c.in-Ok.ensures in
    let kind = kind_of c.in-Err.error in
    let has : (kind ≡ OutOfMemory) ⊎ IsAmong kind (fault_of (app_of c.in-Ok.abd) words) = c.in-Err.ensures.kinds (ap is_simple_and_free abd_is ∙ is_free) in
    refused words c.usage_of.result kind c.usage_of.ensures.kind (subst (λ (a : App). (kind ≡ OutOfMemory) ⊎ IsAmong kind (fault_of a words)) abd_is has)
