-- Verdicts, said in lines.
use Rattle.std.proofs.Common.{ℕ, suc, ◌≡◌, ◌<◌, ◌+◌, List, [], ◌∷◌, ◌++◌, append-nil, Some, length, take, get_or, refl, sym, ap, subst, ◌∙◌, arith}
use Rattle.std.specs.List.{slice_get, flat_map}
use Rattle.std.proofs.lemmas.Grind.{flat_map-append}
use Rattle.tag.proofs.Lists.{each_next, item_at}
use Rattle.recorder.specs.Histories.{Recorded}
use Rattle.recorder.specs.declared.order.KeyOrder.{KeyOrder}
use Rattle.certificate_check.specs.declared.verdict.Fault.{Fault}
use Rattle.certificate_check.specs.declared.verdict.Verdict.{Verdict}
use Rattle.certificate_check.specs.declared.verdict.Verdict.TheVariants.{Yes, No}
use Rattle.file_format.specs.OrderFormat.{AreJoined}
use Rattle.parallel_keys.specs.CheckedKeys.{CheckedKey}
use Rattle.parallel_keys.specs.Histories.{AreOn, AreVerdictsOnHistories, KeyVerdicts}
use Rattle.parallel_keys.proofs.Fronts.{front_more}
use Rattle.cli.specs.VerdictStatuses.{AreYes, SaysAll}
use Rattle.cli.specs.VerdictLines.{AreVerdictLines, AreCheckLines, line_in, lines_text}
use Rattle.command_line.specs.declared.lines.Lines.{Lines}
use Rattle.cli.specs.declared.status.Status.TheVariants.{Refused}

-- the verdicts after the first
behind : (one : CheckedKey) (checked : List CheckedKey) (told : List ℕ × Verdict) (verdicts : KeyVerdicts) → AreOn (one ∷ checked) (told ∷ verdicts) → AreOn checked verdicts
behind one checked told verdicts on = record {
  all = omega (arith, on.all);
  each = λ i other said at_other at. on.each (suc i) other said at_other at;
}

-- the lines of verdicts on what is checked
pub told_lines : (form : Lines) (checked : List CheckedKey) (verdicts : KeyVerdicts) → AreOn checked verdicts
    → AreVerdictLines form checked (lines_text form verdicts)
told_lines form [] [] on = refl
told_lines form [] (told ∷ verdicts) on = absurd (omega (arith, on.all))
told_lines form (one ∷ checked) [] on = absurd (omega (arith, on.all))
told_lines form (one ∷ checked) (told ∷ verdicts) on =
    let first = on.each 0 one told refl refl in
    (told.1, lines_text form verdicts, first.1, told_lines form checked verdicts (behind one checked told verdicts on), rw (sym first.0) refl)

-- they are what a check of the history prints
pub lines_said : (form : Lines) (halls : List Recorded) (pieces orders : List KeyOrder) (verdicts : KeyVerdicts) (text : List ℕ)
    → AreJoined pieces orders → AreVerdictsOnHistories halls orders verdicts → text ≡ lines_text form verdicts → AreCheckLines form halls pieces text
lines_said form halls pieces orders verdicts text joined are said = record {
  parts = are.parts;
  orders = orders;
  recorded = are.recorded;
  joined = joined;
  lines = rw said (told_lines form _ verdicts are.checked);
}

-- a line more
pub lines_more : (form : Lines) (verdicts : KeyVerdicts) (i : ℕ) (told : List ℕ × Verdict) (old new : List ℕ)
    → i < length verdicts → told ≡ get_or verdicts i told → old ≡ lines_text form (take i verdicts)
    → new ≡ old ++ line_in form told.0 told.1 → new ≡ lines_text form (take (i + 1) verdicts)
lines_more form verdicts i told old new below is so_far grown =
    let line : List ℕ × Verdict → List ℕ = λ t. line_in form t.0 t.1 in
    let before = take i verdicts in
    grown ∙ ap (λ (l : List ℕ). l ++ line told) so_far
    ∙ sym (ap (lines_text form) (front_more verdicts i told below is) ∙ flat_map-append line before (told ∷ []) ∙ ap (λ (l : List ℕ). flat_map line before ++ l) (append-nil (line told)))

-- one more verdict is yes
pub yes_more : (verdicts : KeyVerdicts) (index : ℕ) (told : List ℕ × Verdict) → index < length verdicts → told ≡ get_or verdicts index told → told.1 ≡ Yes → AreYes verdicts index → AreYes verdicts (index + 1)
yes_more verdicts index told below is passes so_far = each_next (λ _ (t : List ℕ × Verdict). t.1 ≡ Yes) verdicts index told so_far (item_at verdicts index told below is) passes

-- a verdict that is no
pub refused_here : (verdicts : KeyVerdicts) (index : ℕ) (told : List ℕ × Verdict) (fault : Fault) → index < length verdicts → told ≡ get_or verdicts index told → told.1 ≡ No fault → SaysAll verdicts Refused
refused_here verdicts index told fault below is fails =
    let at = item_at verdicts index told below is in
    (index, fault, record { key = told.0; told = subst (λ (v : Verdict). slice_get verdicts index ≡ Some (told.0, v)) fails at })
