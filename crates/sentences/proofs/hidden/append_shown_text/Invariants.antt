use Rattle.std.proofs.Common.{◌≡◌, ◌++◌, flat_map}
use Rattle.sentences.specs.Hidden.{shown_char}
use Rattle.sentences.proofs.hidden.append_shown_text.Given as goal

abbrev pub invariant-loop-c : goal.invariant-loop-c
invariant-loop-c l = l.text.items ≡ l.fn.text.items ++ flat_map shown_char l.yielded
