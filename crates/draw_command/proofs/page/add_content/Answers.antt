-- What stands above the table, the table, what stands below it, and the sections.
use Rattle.std.proofs.Common.{ℕ, Bool, nat_lt, ◌≡◌, ◌++◌, List, All, length, map, take, ap, subst, sym, ◌∙◌}
use Rattle.std.specs.Borrow.{Bor}
use Rattle.std.proofs.lemmas.List.{length-map, take-map}
use Rattle.std.proofs.lemmas.Simd.{map-map}
use Rattle.std.proofs.lemmas.List.Elements.{All-same, All-take}
use Rattle.std.proofs.lemmas.Result.{on_ok_weaker}
use Rattle.markup.specs.Markup.{both, rendered}
use Rattle.tag.specs.declared.numbers.OpId.{OpId}
use Rattle.judged_keys.specs.Judgements.{Judgement, judgement_of}
use Rattle.judged_keys.specs.declared.finding.JudgedKey.{JudgedKey}
use Rattle.draw_command.specs.Drawings.{IsDrawable}
use Rattle.draw_command.specs.Making.{Adds}
use Rattle.draw_command.specs.Pages.{IsEach, IsSectionOf, IsTableOf, below_table, front_markup, have_notes, search_markup}
use Rattle.draw_command.specs.PicturedKeys.{IsExplained, faulty_in, judged_in, with_faulty}
use Rattle.draw_command.specs.declared.pictured_keys.PicturedKey.{PicturedKey}
use Rattle.draw_command.specs.Pictured.{ArePictured}
use Rattle.cli.specs.Hints.{has_note}
use Rattle.draw_command.proofs.Adding.{both_added}
use Rattle.draw_command.proofs.Framing.{any_map, content_added, first_ones}
use Rattle.draw_command.proofs.page.add_content.Goals as goal

pub pictured_keys-requires-clause-drawable : goal.pictured_keys-requires-clause-drawable
pictured_keys-requires-clause-drawable c =
    let n = c.min.result in
    let slice = c.as_slice-keys.result.now in
    let keys = map judgement_of c.args.findings.now.keys.items in
    All-same IsDrawable (map judgement_of (take n slice)) (take n keys)
    (sym (take-map judgement_of n slice) ∙ ap (λ (items : List JudgedKey). take n (map judgement_of items)) c.as_slice-keys.ensures.value) (All-take IsDrawable n keys c.requires.drawable)

pub add_sections-requires-clause-explained : goal.add_sections-requires-clause-explained
add_sections-requires-clause-explained c =
    subst (All (IsExplained c.args.task.now.numbered.now)) (sym c.as_slice-first.ensures.value) c.in_ok-own.ensures.explained

pub add_sections-requires-clause-drawable : goal.add_sections-requires-clause-drawable
add_sections-requires-clause-drawable c =
    let n = c.min.result in
    let slice = c.as_slice-keys.result.now in
    let keys = map judgement_of c.args.findings.now.keys.items in
    All-same IsDrawable (map judged_in c.as_slice-first.result.now) (take n keys)
    (ap (map judged_in) c.as_slice-first.ensures.value ∙ c.in_ok-own.ensures.keys ∙ sym (take-map judgement_of n slice)
    ∙ ap (λ (items : List JudgedKey). take n (map judgement_of items)) c.as_slice-keys.ensures.value) (All-take IsDrawable n keys c.requires.drawable)

pub returns : goal.returns
returns c =
    let task = c.args.task.now in
    let n = c.pictured_count-pictured.result in
    let refused = c.args.findings.now.refused in
    let missing = map (λ (name : Bor (List ℕ)). name.now) c.args.missing.now in
    let having = map (λ (key : Bor (List ℕ)). key.now) c.args.having.now in
    let items = c.args.findings.now.keys.items in
    let keys = map judgement_of items in
    let slice = c.as_slice-keys.result.now in
    let own = c.in_ok-own.own.items in
    let first = map with_faulty own in
    let old = c.args.page.now.items in
    let headed = c.append_search.new.page.items in
    let tabled = c.add_table.new.page.items in
    let under = c.append_below.new.page.items in
    let tagged = have_notes keys in
    let front = front_markup (length keys) refused missing in
    let search = search_markup task.drawn.around (take n keys) having in
    let Sections = IsSectionOf task.numbered.now task.drawn (nat_lt 0 refused) in
    let same : map judgement_of slice ≡ keys = ap (map judgement_of) c.as_slice-keys.ensures.value in
    let count : length slice ≡ length keys = ap length c.as_slice-keys.ensures.value ∙ sym (length-map items judgement_of) in
    let cut = first_ones judgement_of slice _ n (ap (λ (k : ℕ). take k slice) c.min.ensures) ∙ ap (λ (js : List Judgement). take n js) same in
    let faulty : map faulty_in c.as_slice-first.result.now ≡ map (λ (o : Judgement × List OpId). o.1) first =
    ap (map faulty_in) c.as_slice-first.ensures.value ∙ sym (map-map (λ (o : Judgement × List OpId). o.1) with_faulty own) in
    on_ok_weaker c.add_sections.result (λ drawn.
    let w = content_added (both front search) (below_table n (length keys) refused tagged) (IsTableOf (map (λ (o : Judgement × List OpId). o.1) first) keys) (IsEach Sections 0 first)
    old headed tabled under c.add_sections.new.page.items
    (both_added front search old c.append_front.new.page.items headed
    (c.in_ok-append_front.ensures ∙ ap (λ (m : ℕ). old ++ rendered (front_markup m refused missing)) (sym (length-map items judgement_of)))
    (c.in_ok-append_search.ensures ∙ ap (λ (js : List Judgement). c.append_front.new.page.items ++ rendered (search_markup task.drawn.around js having)) cut))
    (subst (λ (calls : List (List OpId)). Adds (IsTableOf calls keys) headed tabled) faulty
    (subst (λ (js : List Judgement). Adds (IsTableOf (map faulty_in c.as_slice-first.result.now) js) headed tabled) same c.in_ok-add_table.ensures))
    (c.in_ok-append_below.ensures ∙ ap (λ (m : ℕ). tabled ++ rendered (below_table n m refused c.have_notes-tagged.result)) count
    ∙ ap (λ (b : Bool). tabled ++ rendered (below_table n (length keys) refused b)) (c.have_notes-tagged.ensures ∙ any_map judgement_of (λ (key : Judgement). has_note key.one.part) slice ∙ ap have_notes same))
    (subst (λ (os : List PicturedKey). Adds (IsEach Sections 0 (map with_faulty os)) under c.add_sections.new.page.items) c.as_slice-first.ensures.value drawn) in (
      w.0,
      record {
        pictured = n;
        fitting = subst (λ (js : List Judgement). ArePictured task.drawn js n) same c.pictured_count-pictured.ensures;
        first = first;
        first_are = map-map (λ (o : Judgement × List OpId). o.0) with_faulty own ∙ c.in_ok-own.ensures.keys ∙ cut;
        table = w.1.0;
        tabled = w.1.2;
        sections = w.1.1;
        drawn_are = w.1.3;
        is = w.1.4;
      },
      w.2,
    )) c.add_sections.ensures
