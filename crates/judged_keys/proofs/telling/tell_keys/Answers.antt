use Rattle.std.proofs.Common.{◌∙◌, ◌++◌, List, ℕ, ap, map}
use Rattle.std.specs.Borrow.{Bor}
use Rattle.std.specs.List.{flat_map}
use Rattle.judged_keys.specs.Tellings.{found_in}
use Rattle.judged_keys.proofs.Saying.{whole}
use Rattle.judged_keys.proofs.telling.tell_keys.Goals as goal

pub returns : goal.returns
returns g c =
    let words = g.W.Wording.words c.args.wording.now in
    let report = c.in_ok-text.field-0 in
    let names = λ (listed : List (Bor (List ℕ))). map (λ name. name.now) listed in
    let missing = names c.in_ok-missing.missing.items in
    whole words c.args.numbered.now (g.W.Wording.selected c.args.wording.now) c.selection-selection.result c.selection-selection.ensures c.args.keys.items c.select.new.keys.items c.select.ensures
    c.as_slice.result.now c.as_slice.ensures.value missing c.in_ok-missing.ensures c.as_slice-2.result.now c.as_slice-2.ensures.value report
    c.in_ok-text.ensures c.say_missing.new.text.items
    (c.in_ok-say_missing.ensures ∙ ap (λ (ns : List (Bor (List ℕ))). report.text.items ++ flat_map words.missing (names ns)) c.as_slice-3.ensures.value) c.saturating_sub.result c.from.result c.from.ensures c.saturating_sub.ensures
    c.of_text.result (ap (λ t. t.items) c.of_text.ensures.text ∙ c.in_ok-say_left_out.ensures)
    (c.of_text.ensures.found ∙ c.found_in-found.ensures ∙ ap (λ (ns : List (Bor (List ℕ))). found_in report.refused report.undecided (names ns)) c.as_slice-4.ensures.value) c.of_text.ensures.notes
