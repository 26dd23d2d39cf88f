-- How many steps there are, the diagram, the script, the trace and the heading, one after another.
use Rattle.std.proofs.lemmas.Result.{on_ok_weaker}
use Rattle.markup.specs.Markup.{both}
use Rattle.markup.specs.Texts.{plain}
use Rattle.markup.specs.declared.names.Element.TheVariants as tag
use Rattle.draw_command.proofs.Adding.{both_added}
use Rattle.trace_command.specs.TracePages.{messages_markup, script_markup, steps_line, trace_markup}
use Rattle.trace_command.specs.declared.words.TheConstants.{HISTORY}
use Rattle.trace_command.proofs.page.append_run.Goals as goal

pub returns : goal.returns
returns c =
    let steps = steps_line c.args.scene.now in
    let messages = messages_markup c.args.scene.now in
    let told = trace_markup c.args.trace.now in
    let script = script_markup c.args.script.now in
    let heading = plain tag.H2 HISTORY.now in
    let counted = c.append_steps.new.page.items in
    let drawn = c.append_messages.new.page.items in
    let scripted = c.append_script_box.new.page.items in
    let traced = c.append_trace.new.page.items in
    let new = c.append_plain.new.page.items in
    on_ok_weaker c.append_plain.result (λ last.
    both_added steps (both messages (both script (both told heading))) c.args.page.now.items counted new c.in_ok-append_steps.ensures
    (both_added messages (both script (both told heading)) counted drawn new c.in_ok-append_messages.ensures
    (both_added script (both told heading) drawn scripted new c.in_ok-append_script_box.ensures
    (both_added told heading scripted traced new c.in_ok-append_trace.ensures last)))) c.append_plain.ensures
