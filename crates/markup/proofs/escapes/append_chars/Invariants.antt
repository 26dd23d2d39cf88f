use Rattle.std.proofs.Common.{◌≡◌, ◌++◌, flat_map}
use Rattle.markup.specs.Escapes.{escaped_char}
use Rattle.markup.proofs.escapes.append_chars.Given as goal

abbrev pub invariant-loop-c : goal.invariant-loop-c
invariant-loop-c l = l.page.items ≡ l.fn.page.items ++ flat_map escaped_char l.yielded
