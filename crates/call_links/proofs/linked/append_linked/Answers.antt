use Rattle.std.proofs.Common.{◌≡◌, List, [], ◌∷◌, ℕ, ◌++◌, ◌∙◌, ap, refl, sym, map, lit<}
use Rattle.std.specs.Borrow.{Bor}
use Rattle.std.proofs.lemmas.List.{map-append}
use Rattle.std.proofs.lemmas.Iterator.Splits.{YieldsList-from_str_split}
use Rattle.std.proofs.lemmas.Iterator.Consumers.{YieldsList-end}
use Rattle.markup.specs.Markup.{rendered}
use Rattle.call_links.specs.Linked.{words_markup}
use Rattle.call_links.specs.declared.linked.Before.TheVariants as before
use Rattle.call_links.proofs.Words.{last_more, last_of, no_words, word_added}
use Rattle.call_links.proofs.linked.append_linked.Goals as goal

pub loop-word-init : goal.loop-word-init
loop-word-init c = (no_words c.args.links.now.targets.now c.args.links.now.calls.now before.Nothing c.args.page.now.items, refl)

pub loop-word-preserved : goal.loop-word-preserved
loop-word-preserved c =
    let targets = c.args.links.now.targets.now in
    let calls = c.args.links.now.calls.now in
    let from = c.args.page.now.items in
    let words = map (λ (t : Bor (List ℕ)). t.now) c.loop-word.yielded in
    let word = c.in-Some.word.now in
    let more : map (λ (t : Bor (List ℕ)). t.now) (c.loop-word.yielded ++ c.in-Some.word ∷ []) ≡ words ++ word ∷ [] =
    map-append (λ (t : Bor (List ℕ)). t.now) c.loop-word.yielded (c.in-Some.word ∷ []) in
    let so_far = c.loop-word.invariant in
    let added = word_added targets calls before.Nothing c.loop-word.before words word from c.loop-word.page.items c.append_word.new.page.items so_far.1 so_far.0
    c.in_ok-append_word.ensures in (
      added ∙ ap (λ (ws : List (List ℕ)). from ++ rendered (words_markup targets calls before.Nothing ws)) (sym more),
      c.kind_of-before.ensures ∙ sym (last_more before.Nothing words word) ∙ ap (λ (ws : List (List ℕ)). last_of before.Nothing ws) (sym more),
    )

pub returns : goal.returns
returns c =
    let given = YieldsList-from_str_split {s = c.into_iter-word-iterator.result} 32 c.args.sentence.now (lit< tt) (cc) (cc) (cc) in
    let end = YieldsList-end given c.loop-word.yielded _ c.loop-word.yielded_by _ _ c.in-None.is c.next.ensures.steps in
    let so_far = c.loop-word.invariant in
    so_far.0 ∙ ap (λ (ws : List (List ℕ)). c.args.page.now.items ++ rendered (words_markup c.args.links.now.targets.now c.args.links.now.calls.now before.Nothing ws)) end.0
