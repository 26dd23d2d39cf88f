-- Keys whose tags are judged, and that have none.
use Rattle.std.specs.Prelude.{Bool, false, List, [], not}
use Rattle.std.specs.List.{list_any}
use Rattle.parallel_keys.specs.CheckedKeys.{CheckedKey}
use Rattle.cli.specs.Hints.{has_note}
use Rattle.judged_keys.specs.declared.judged.Judged.{Judged}
use Rattle.judged_keys.specs.declared.judged.Judged.TheVariants as judged

-- there are keys, and no call on any has a note
abbrev pub lack_notes : List CheckedKey → Bool
lack_notes [] = false
lack_notes keys = not (list_any (λ one. has_note one.part) keys)

-- the same, if keys are judged by their tags
abbrev pub judges_no_notes : Judged → List CheckedKey → Bool
judges_no_notes judged.Tags keys = lack_notes keys
judges_no_notes by keys = false
