use Rattle.std.proofs.Common.{◌≡◌, ◌==◌, true, false, List, [], ◌∷◌, length, map, not, refl, sym, ap, ◌∙◌}
use Rattle.std.proofs.Math.Dec.{eqb-suc-zero}
use Rattle.std.specs.List.{list_any}
use Rattle.parallel_keys.specs.CheckedKeys.{CheckedKey}
use Rattle.parallel_keys.specs.KeysToCheck.{what_of}
use Rattle.parallel_keys.specs.declared.collect_keys.KeyToCheck.{KeyToCheck}
use Rattle.cli.specs.Hints.{has_note}
use Rattle.judged_keys.specs.Notes.{lack_notes}
use Rattle.judged_keys.proofs.Selecting.{any_map}
use Rattle.judged_keys.proofs.notes.lack_notes.Goals as goal

none_lack : (keys : List KeyToCheck) → (length keys == 0) ≡ true → false ≡ lack_notes (map what_of keys)
none_lack [] none = refl
none_lack (one ∷ keys) none = let some = eqb-suc-zero (length keys) in absurd (cc)

some_lack : (keys : List KeyToCheck) → (length keys == 0) ≡ false → not (list_any (λ one. has_note one.part) keys) ≡ lack_notes (map what_of keys)
some_lack [] some = absurd (cc)
some_lack (one ∷ keys) some = ap not (sym (any_map what_of (λ (k : CheckedKey). has_note k.part) (one ∷ keys)))

pub returns-then-is_empty : goal.returns-then-is_empty
returns-then-is_empty c = none_lack c.args.keys.now (sym c.is_empty.ensures ∙ c.if-is_empty.true)

pub returns : goal.returns
returns c = ap not c.have_notes.ensures ∙ some_lack c.args.keys.now (sym c.is_empty.ensures ∙ c.if-is_empty.false)
