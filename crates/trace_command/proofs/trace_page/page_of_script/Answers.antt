use Rattle.std.proofs.Common.{List, ℕ, subst}
use Rattle.std.proofs.lemmas.Result.{IfOk-weaker}
use Rattle.trace_command.specs.TracePages.{IsPageOf}
use Rattle.trace_command.proofs.Numbering.{lines_of_each}
use Rattle.trace_command.proofs.trace_page.page_of_script.Goals as goal

pub page_of-requires-clause-clients : goal.page_of-requires-clause-clients
page_of-requires-clause-clients c = c.in_ok-scene.ensures.scene.scene_is.shows.clients.rises

pub page_of-requires-clause-lines : goal.page_of-requires-clause-lines
page_of-requires-clause-lines c = lines_of_each _ c.in_ok-numbered.numbered c.in_ok-numbered.ensures

pub returns : goal.returns
returns c =
    let made_of = c.in_ok-scene.field-0 in
    let scene = made_of.scene in
    let numbered = c.in_ok-numbered.numbered in
    IfOk-weaker c.page_of.result _ _ (λ page made. (
      made.0,
      record {
        scene = scene;
        history = made_of.history;
        run = c.in_ok-scene.ensures.scene;
        trace = made_of.trace.items;
        told = c.in_ok-scene.ensures.trace;
        numbered = numbered;
        numbered_is = c.in_ok-numbered.ensures;
        is = subst (λ (trace : List ℕ). IsPageOf scene c.args.words.now trace numbered c.args.drawn made.0) c.as_slice.ensures.value made.1;
      },
      made.2,
    )) c.page_of.ensures
