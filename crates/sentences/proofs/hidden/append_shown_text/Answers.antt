-- The characters that were yielded are all of the text's.
use Rattle.std.proofs.Common.{ℕ, List, ◌++◌, flat_map, sym, ap, ◌∙◌, map-id}
use Rattle.std.proofs.lemmas.Iterator.{YieldsList-from_chars}
use Rattle.std.proofs.lemmas.Iterator.Consumers.{YieldsList-end}
use Rattle.sentences.specs.Hidden.{shown_char, shown_text}
use Rattle.sentences.proofs.hidden.append_shown_text.Goals as goal

pub returns : goal.returns
unfolding shown_text
returns c =
    let given = YieldsList-from_chars c.args.words.now c.utf8.words cc in
    let end = YieldsList-end given c.loop-c.yielded _ c.loop-c.yielded_by _ _ c.in-None.is c.next.ensures.steps in
    c.loop-c.invariant ∙ ap (λ (cs : List ℕ). c.args.text.now.items ++ flat_map shown_char cs) (sym (map-id c.loop-c.yielded) ∙ end.0)
