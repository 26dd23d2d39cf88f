-- A command that is added is one shape more.
use Rattle.std.proofs.Common.{◌≡◌, ap, subst, ◌∙◌}
use Rattle.std.proofs.lemmas.Result.{IfOk-weaker}
use Rattle.std.specs.Prelude.{Result, IfOk, Ok}
use Rattle.clap.specs.Words.{AddsSubcommand, App, app_of, with_subcommand}
use Rattle.clap.specs.declared.builder.command.Command.{Command}
use Rattle.command_line.specs.CommandWords.{IsForm}
use Rattle.command_line.proofs.forms.added.Goals as goal

one_more : (words made more : Command) (form : App) → IsForm form made → AddsSubcommand words made more → app_of more ≡ with_subcommand (app_of words) form.top
one_more words made more form of adds = adds.shape of.local ∙ ap (λ (a : App). with_subcommand (app_of words) a.top) of.is

made_of : {E : Type 0} (one : Result Command E) (made : Command) (form : App) → one ≡ Ok made → IfOk one (IsForm form) → IsForm form made
made_of one made form was is = subst (λ r. IfOk r (IsForm form)) was is

pub returns : goal.returns
returns c = IfOk-weaker c.subcommand.result _ _
    (λ more adds form is. one_more c.args.words c.in_ok-one.field-0 more form (made_of c.args.one c.in_ok-one.field-0 form c.in_ok-one.was is) adds)
    c.subcommand.ensures
