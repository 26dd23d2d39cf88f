use Rattle.std.proofs.Common.{◌≡◌, drop}
use Rattle.call_links.specs.Linked.{named_word}
use Rattle.call_links.proofs.named.Links.append_word.Given as goal

-- none of the calls so far is named
abbrev pub invariant-loop-call : goal.invariant-loop-call
invariant-loop-call l = (l.page ≡ l.initial.page)
    × (named_word l.self.targets.now (drop l.call-index l.self.calls.now) l.word ≡ named_word l.self.targets.now l.self.calls.now l.word)
