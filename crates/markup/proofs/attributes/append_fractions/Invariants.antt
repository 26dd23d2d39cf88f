use Rattle.std.proofs.Common.{◌≡◌, ◌++◌, drop}
use Rattle.markup.specs.Markup.{all_tenths_text}
use Rattle.markup.proofs.attributes.append_fractions.Given as goal

abbrev pub invariant-loop-tenths : goal.invariant-loop-tenths
invariant-loop-tenths l = l.page.items ++ all_tenths_text (drop l.tenths-index l.all) ≡ l.fn.page.items ++ all_tenths_text l.all
