use Rattle.std.proofs.Common.{List, map, refl, subst}
use Rattle.parallel_keys.specs.KeysToCheck.{what_of}
use Rattle.parallel_keys.specs.declared.collect_keys.KeyToCheck.{KeyToCheck}
use Rattle.draw_command.specs.Making.{Adds}
use Rattle.whole_pictures.specs.WholePages.{IsWholeContent}
use Rattle.whole_pictures.proofs.Paging.{whole_page}
use Rattle.whole_pictures.proofs.whole.WholePresentation.present.Goals as goal

pub returns-clause-made : goal.returns-clause-made
returns-clause-made c =
    let numbered = c.args.numbered.now in
    let whole = c.args.self.now in
    let hint = rw (c.judges_no_notes.ensures, c.as_slice.ensures.value) at c.in_ok-append_hint.ensures in
    let content = subst (λ (keys : List KeyToCheck). Adds (IsWholeContent numbered whole.drawn (map what_of keys) c.in_ok-found.found)
    c.append_hint.new.page.items c.add_halls.new.page.items) c.as_slice-2.ensures.value c.in_ok-found.ensures in
    whole_page whole numbered (map what_of c.args.keys.items) c.in_ok-found.found c.of_text.result _ c.begin_page.new.page.items
    c.append_styles.new.page.items c.begin_content.new.page.items c.append_hint.new.page.items c.add_halls.new.page.items c.end_page.new.page.items
    c.new-page.ensures.items (rw c.title_of-title.ensures at c.in_ok-begin_page.ensures) c.in_ok-append_styles.ensures
    (rw c.title_of-title.ensures at c.in_ok-begin_content.ensures) hint content
    c.in_ok-end_page.ensures c.of_text.ensures.found (rw c.of_text.ensures.text refl) c.of_text.ensures.notes
