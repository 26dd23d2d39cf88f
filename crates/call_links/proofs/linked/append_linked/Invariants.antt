use Rattle.std.proofs.Common.{◌≡◌, ◌++◌, List, ℕ, map}
use Rattle.std.specs.Borrow.{Bor}
use Rattle.markup.specs.Markup.{rendered}
use Rattle.call_links.specs.Linked.{words_markup}
use Rattle.call_links.specs.declared.linked.Before.TheVariants as before
use Rattle.call_links.proofs.Words.{last_of}
use Rattle.call_links.proofs.linked.append_linked.Given as goal

abbrev pub invariant-loop-word : goal.invariant-loop-word
invariant-loop-word l = (l.page.items ≡ l.fn.page.items ++ rendered (words_markup l.links.targets.now l.links.calls.now before.Nothing (map (λ (t : Bor (List ℕ)). t.now) l.yielded)))
    × (l.before ≡ last_of before.Nothing (map (λ (t : Bor (List ℕ)). t.now) l.yielded))
