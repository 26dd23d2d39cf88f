use Rattle.std.proofs.Common.{◌<◌, ◌≡◌}
use Rattle.row_members.specs.declared.name.Name.{Name}
use Rattle.row_members.specs.Names.{text_of, place_of}
use Rattle.row_members.proofs.keys.name_of.Given as goal

-- the text is none of the names before that place
abbrev pub invariant-loop-place : goal.invariant-loop-place
invariant-loop-place l = (name : Name) → place_of name < l.place → l.text ≡ text_of name → ⊥
