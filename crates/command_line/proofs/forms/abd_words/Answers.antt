-- Each command that is added is one shape more.
use Rattle.std.proofs.Common.{◌≡◌, ap, ◌∙◌}
use Rattle.std.proofs.lemmas.Result.{IfOk-weaker}
use Rattle.clap.specs.Words.{App, app_of, with_subcommand}
use Rattle.std.specs.Prelude.{Result, IfOk}
use Rattle.clap.specs.declared.builder.command.Command.{Command}
use Rattle.command_line.specs.CommandWords.{IsAdded, IsForm}
use Rattle.command_line.specs.Forms.{check_app, decide_app, draw_app, explain_app, justify_app, monitor_app, run_app, simulate_app, split_app, trace_app}
use Rattle.command_line.proofs.forms.abd_words.Goals as goal

next : {E : Type 0} (words more : Command) (one : Result Command E) (app form : App) → app_of words ≡ app → IfOk one (IsForm form)
    → IsAdded (app_of words) one more → app_of more ≡ with_subcommand app form.top
next words more one app form is made adds = adds form made ∙ ap (λ (a : App). with_subcommand a form.top) is

pub returns : goal.returns
returns c =
    let with_check = next _ _ _ _ check_app c.in_ok-bare_words.ensures c.check_words.ensures c.in_ok-words.ensures in
    let with_decide = next _ _ _ _ decide_app with_check c.decide_words.ensures c.in_ok-words-2.ensures in
    let with_draw = next _ _ _ _ draw_app with_decide c.draw_words.ensures c.in_ok-words-3.ensures in
    let with_explain = next _ _ _ _ explain_app with_draw c.explain_words.ensures c.in_ok-words-4.ensures in
    let with_justify = next _ _ _ _ justify_app with_explain c.justify_words.ensures c.in_ok-words-5.ensures in
    let with_monitor = next _ _ _ _ monitor_app with_justify c.monitor_words.ensures c.in_ok-words-6.ensures in
    let with_simulate = next _ _ _ _ simulate_app with_monitor c.simulate_words.ensures c.in_ok-words-7.ensures in
    let with_split = next _ _ _ _ split_app with_simulate c.split_words.ensures c.in_ok-words-8.ensures in
    let with_trace = next _ _ _ _ trace_app with_split c.trace_words.ensures c.in_ok-words-9.ensures in
    IfOk-weaker c.added-10.result _ _ (λ r adds. next _ r _ _ run_app with_trace c.run_words.ensures adds) c.added-10.ensures
