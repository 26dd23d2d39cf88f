-- The explanation of keys: what was found of each, and of a refused one the calls that show it.
use Rattle.std.specs.Prelude.{ℕ, ◌≡◌, Bool, true, false, List, [], ◌++◌, Option, None, Some}
use Rattle.history_file.specs.declared.numbered_format.NumberedHistories.{NumberedHistories}
use Rattle.explanations.specs.declared.hall_rows.HallRows.{HallRows}
use Rattle.parallel_keys.specs.CheckedKeys.{CheckedKey}
use Rattle.cli.specs.declared.outcome.Outcome.{Outcome}
use Rattle.judged_keys.specs.Halls.{IsHallOfKey}
use Rattle.judged_keys.specs.Judgements.{Judgement}
use Rattle.judged_keys.specs.Notes.{judges_no_notes}
use Rattle.judged_keys.specs.Tellings.{TellsKeys}
use Rattle.judged_keys.specs.Words.{Words}
use Rattle.judged_keys.specs.declared.judged.Judged.{Judged}
use Rattle.judged_keys.specs.declared.selection.Selection.{Selection}
use Rattle.explain_command.specs.Lines.{finding_line, hint_line, left_out_line, missing_text}
use Rattle.explain_command.specs.Reasons.{IsReason, reason_text}
use Rattle.explain_command.specs.declared.explaining.Explaining.{Explaining}
use Rattle.explain_command.specs.declared.reason.Reason.{Reason}

module _ (numbered : NumberedHistories) where
  -- the text has the sentences of the reason, if there is one
  abbrev pub SaysReason : List ℕ → Option Reason → List ℕ → Type 0
  SaysReason key None text = text ≡ []
  SaysReason key (Some reason) text =
      (hall : HallRows) × IsHallOfKey numbered key hall × (text ≡ reason_text key hall reason)

  -- the text says why the key is refused, if it is
  abbrev pub GivesReason : Judgement → List ℕ → Type 0
  GivesReason j text =
      (reason : Option Reason) × IsReason j reason × SaysReason j.one.key reason text

  -- the same, if that is to be said
  abbrev pub IsWhy : Bool → Judgement → List ℕ → Type 0
  IsWhy true j text = GivesReason j text
  IsWhy false j text = text ≡ []

  -- what is said of a key: the line of what was found, and why it is refused, if that is to be said
  abbrev pub IsExplained : Bool → Judgement → List ℕ → Type 0
  IsExplained explained j text = (why : List ℕ) × IsWhy explained j why
      × (text ≡ finding_line j.one.key j.finding ++ why)

-- the words for people, of keys that are judged by that
abbrev pub plain_words : Judged → Words
plain_words judged = record {
  Says = IsExplained;
  missing = missing_text;
  left_out = left_out_line judged;
}

-- which keys are explained
abbrev pub selection_of : Explaining → Selection
selection_of explaining = explaining.selection

-- the words of an explanation
abbrev pub explained_words : Explaining → Words
explained_words explaining = plain_words explaining.selection.judged

-- the selected ones of the keys are explained; and if their tags are judged, and no key has any, it
-- is said what judges them
pub record ExplainsKeys (explaining : Explaining) (numbered : NumberedHistories)
    (keys : List CheckedKey) (outcome : Outcome) : Type 0 where
  pub told : Outcome
  pub tells : TellsKeys (explained_words explaining) explaining.selection numbered keys told
  pub is : outcome.found ≡ told.found
  pub text : outcome.text.items
      ≡ told.text.items ++ hint_line (judges_no_notes explaining.selection.judged keys)
  pub quiet : outcome.notes.items ≡ []
