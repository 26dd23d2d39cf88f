use Rattle.std.proofs.Common.{ℕ, List, ◌++◌, ap, map, sym, ◌∙◌}
use Rattle.std.specs.Borrow.{Bor}
use Rattle.std.proofs.lemmas.List.{length-map}
use Rattle.std.proofs.lemmas.Result.{on_ok_weaker}
use Rattle.markup.specs.Markup.{rendered}
use Rattle.judged_keys.specs.Judgements.{Judgement, judgement_of}
use Rattle.draw_command.specs.Pages.{has_call, nowhere_line}
use Rattle.draw_command.proofs.Framing.{any_map}
use Rattle.draw_command.proofs.Searched.{drawn_already, searched}
use Rattle.draw_command.proofs.around.append_search.Goals as goal

pub returns-then-have_call : goal.returns-then-have_call
returns-then-have_call c =
    let number = c.in-Some.number in
    let drawn = c.args.drawn.now in
    drawn_already c.args.around number (map judgement_of drawn) (map (λ (key : Bor (List ℕ)). key.now) c.args.keys.now) c.args.page.now.items c.in-Some.is
    (sym (any_map judgement_of (λ (key : Judgement). has_call key.one.part number) drawn) ∙ sym c.have_call.ensures ∙ c.if-have_call.true)

pub returns : goal.returns
returns c =
    let number = c.in-Some.number in
    let drawn = c.args.drawn.now in
    let keys = c.args.keys.now in
    let now = λ (key : Bor (List ℕ)). key.now in
    let named = c.append_names.new.page.items in
    on_ok_weaker c.append_nowhere.result (λ added.
    searched c.args.around number (map judgement_of drawn) (map now keys) c.args.page.now.items named c.append_nowhere.new.page.items c.in-Some.is
    (sym (any_map judgement_of (λ (key : Judgement). has_call key.one.part number) drawn) ∙ sym c.have_call.ensures ∙ c.if-have_call.false)
    c.in_ok-append_names.ensures (added ∙ ap (λ (n : ℕ). named ++ rendered (nowhere_line number n)) (sym (length-map keys now)))) c.append_nowhere.ensures
