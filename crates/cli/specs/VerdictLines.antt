-- The lines that a check prints: one for each key, with the verdict on its order.
use Rattle.std.specs.Prelude.{ℕ, ◌≡◌, List, [], ◌∷◌, ◌++◌, codes}
use Rattle.std.specs.List.{flat_map}
use Rattle.recorder.specs.declared.order.KeyOrder.{KeyOrder}
use Rattle.recorder.specs.Histories.{Recorded}
use Rattle.certificate_check.specs.Texts.{verdict_text}
use Rattle.certificate_check.specs.Verdicts.{IsVerdict}
use Rattle.certificate_check.specs.declared.verdict.Verdict.{Verdict}
use Rattle.file_format.specs.OrderFormat.{AreJoined}
use Rattle.parallel_keys.specs.Histories.{AreHallParts, KeyVerdicts}
use Rattle.parallel_keys.specs.CheckedKeys.{CheckedKey, KeyParts, all_parts, checked_keys}
use Rattle.cli.specs.JsonLines.{json_line}
use Rattle.command_line.specs.declared.lines.Lines.{Lines}
use Rattle.command_line.specs.declared.lines.Lines.TheVariants as form

-- the line of a key with its verdict
unfoldable pub line_text : List ℕ → Verdict → List ℕ
line_text key verdict = key ++ codes ": " ++ verdict_text verdict ++ codes "\n"

-- the same in each form, for people or for programs
abbrev pub line_in : Lines → List ℕ → Verdict → List ℕ
line_in form.Plain key verdict = line_text key verdict
line_in form.Json key verdict = json_line key verdict

module _ (form : Lines) where
  -- a line for each key, with its verdict
  abbrev pub lines_text : KeyVerdicts → List ℕ
  lines_text verdicts = flat_map (λ told. line_in form told.0 told.1) verdicts

  -- the text is a line for each key that is checked, with the verdict on its order
  abbrev pub AreVerdictLines : List CheckedKey → List ℕ → Type 0
  AreVerdictLines [] text = text ≡ []
  AreVerdictLines (checked ∷ rest) text =
      (verdict : Verdict) × (lines : List ℕ) × IsVerdict checked.part checked.order verdict
      × AreVerdictLines rest lines × (text ≡ line_in form checked.key verdict ++ lines)

  module _ (halls : List Recorded) (pieces : List KeyOrder) where
    -- what a check of these histories and pieces of orders prints: first the keys of the histories,
    -- hall by hall, in each in the order in which its rows first see them, then those that only the
    -- pieces have, in the order in which they first stand there
    pub record AreCheckLines (text : List ℕ) : Type 0 where
      pub parts : List KeyParts
      pub orders : List KeyOrder
      pub recorded : AreHallParts halls parts
      pub joined : AreJoined pieces orders
      pub lines : AreVerdictLines (checked_keys (all_parts parts) orders) text
