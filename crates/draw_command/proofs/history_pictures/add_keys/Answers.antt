-- The selected keys are judged, and that is what is said and shown of them.
use Rattle.std.proofs.Common.{◌≡◌, ◌∙◌, ap, ap₂, sym, Bool, List, ℕ, length, map, subst}
use Rattle.std.proofs.lemmas.List.{length-map}
use Rattle.std.specs.Borrow.{Bor}
use Rattle.std.proofs.lemmas.List.Elements.{All-filter}
use Rattle.parallel_keys.specs.CheckedKeys.{CheckedKey}
use Rattle.parallel_keys.specs.KeysToCheck.{what_of}
use Rattle.linearization_points.specs.Points.{AreApart}
use Rattle.judged_keys.specs.Judgements.{AreFindingsOf, Judgement, judgement_of, refused_count, refused_first}
use Rattle.judged_keys.specs.Selected.{is_selected, names_of, selected_keys}
use Rattle.judged_keys.specs.Tellings.{found_in}
use Rattle.judged_keys.proofs.Selecting.{selected_what}
use Rattle.draw_command.specs.Pages.{IsContentOf, keys_around}
use Rattle.draw_command.proofs.Apart.{drawable, keys_apart}
use Rattle.draw_command.proofs.history_pictures.add_keys.Goals as goal
use Rattle.draw_command.proofs.history_pictures.add_keys.Goals.{In_ok-findings}

which : (c : In_ok-findings) → map what_of c.select.new.keys.items ≡ selected_keys (names_of c.args.task.now.drawn.selection) (map what_of c.args.keys.items)
which c = ap (map what_of) c.select.ensures ∙ selected_what (names_of c.args.task.now.drawn.selection) c.args.keys.items

found : (c : In_ok-findings) → AreFindingsOf c.args.task.now.drawn.selection.judged (selected_keys (names_of c.args.task.now.drawn.selection) (map what_of c.args.keys.items)) c.in_ok-findings.findings
found c =
    let drawn = c.args.task.now.drawn in
    subst (λ (ks : List CheckedKey). AreFindingsOf drawn.selection.judged ks c.in_ok-findings.findings) (which c) (rw c.as_slice-3.ensures.value at c.in_ok-findings.ensures)

pub add_content-requires-clause-drawable : goal.add_content-requires-clause-drawable
add_content-requires-clause-drawable c =
    let p = (goal.at.add_content-requires-clause-drawable c).In_ok-findings in
    let selection = c.args.task.now.drawn.selection in
    let names = names_of selection in
    let keys = map what_of c.args.keys.items in
    let are = found p in
    let P = λ (one : CheckedKey). AreApart one.part in
    drawable selection.judged (selected_keys names keys) are.all c.in_ok-findings.findings.keys.items are.judged_are
    (All-filter (λ (one : CheckedKey). is_selected names one.key) P keys (keys_apart c.args.task.now.numbered.now.histories c.requires.keys.0 keys c.requires.keys.1)) are.in_order

pub returns : goal.returns
returns c =
    let are = found (goal.at.returns c).In_ok-findings in
    let task = c.args.task.now in
    let added = c.in_ok-add_content.ensures in
    let keys = map what_of c.args.keys.items in
    let around = keys_around task.drawn.around keys in
    let missed = map (λ (name : Bor (List ℕ)). name.now) c.in_ok-missing.missing.items in
    let content = rw (c.as_slice-4.ensures.value, c.as_slice-5.ensures.value) at added.1 in
    let named = rw c.as_slice.ensures.value at c.in_ok-missing.ensures in
    let having = rw c.as_slice-2.ensures.value at c.in_ok-having.ensures in (
      added.0,
      record {
        shown = record {
          keys = are.all;
          keys_are = are.judged_are;
          content_is = subst (λ (names : List (List ℕ)). IsContentOf task.numbered.now task.drawn (refused_first are.all) (refused_count are.all) names around added.0) named
              (subst (λ (n : ℕ). IsContentOf task.numbered.now task.drawn (refused_first are.all) n missed around added.0) are.refused
              (subst (λ (js : List Judgement). IsContentOf task.numbered.now task.drawn js c.in_ok-findings.findings.refused missed around added.0) are.in_order
              (subst (λ (names : List (List ℕ)). IsContentOf task.numbered.now task.drawn (map judgement_of c.in_ok-findings.findings.keys.items) c.in_ok-findings.findings.refused missed names added.0) having content)));
        };
        found = c.found_in.ensures ∙ ap (λ (ns : List (Bor (List ℕ))). found_in c.in_ok-findings.findings.refused c.in_ok-findings.findings.undecided (map (λ (name : Bor (List ℕ)). name.now) ns)) c.as_slice-6.ensures.value ∙ ap₂ (λ (n : ℕ) (b : Bool). found_in n b missed) are.refused are.undecided ∙ ap (found_in _ _) named;
        refused = are.refused;
        count = ap length c.as_slice-7.ensures.value ∙ sym (length-map c.in_ok-findings.findings.keys.items judgement_of) ∙ ap length are.in_order;
      },
      added.2,
    )
