-- What `abd decide` tells of keys, in lines of each form: for people, or as objects of JSON.
use Rattle.std.specs.Prelude.{ℕ, Bool, List, []}
use Rattle.history_file.specs.declared.numbered_format.NumberedHistories.{NumberedHistories}
use Rattle.parallel_keys.specs.CheckedKeys.{CheckedKey}
use Rattle.command_line.specs.declared.lines.Lines.{Lines}
use Rattle.command_line.specs.declared.lines.Lines.TheVariants as form
use Rattle.cli.specs.declared.outcome.Outcome.{Outcome}
use Rattle.judged_keys.specs.Tellings.{TellsKeys}
use Rattle.judged_keys.specs.Words.{Words}
use Rattle.judged_keys.specs.declared.judged.Judged.TheVariants.{Values}
use Rattle.judged_keys.specs.declared.selection.Selection.{Selection}
use Rattle.explain_command.specs.Explained.{plain_words}
use Rattle.decide_command.specs.JsonLines.{IsObject, missing_object}
use Rattle.decide_command.specs.declared.deciding.Deciding.{Deciding}

-- the words in each form; objects have no reasons, and don't say how many have none
abbrev pub words_in : Lines → Words
words_in form.Plain = plain_words Values
words_in form.Json = record {
  Says = λ numbered explained j text. IsObject j text;
  missing = missing_object;
  left_out = λ count. [];
}

-- which keys are decided, by their values
abbrev pub selection_of : Deciding → Selection
selection_of deciding =
    record { judged = Values; keys = deciding.keys; most = deciding.most }

-- the words in the form that is asked for
abbrev pub decided_words : Deciding → Words
decided_words deciding = words_in deciding.form

-- of the selected ones of the keys it is told whether they are atomic
abbrev pub DecidesKeys : Deciding → NumberedHistories → List CheckedKey → Outcome → Type 0
DecidesKeys deciding numbered keys outcome =
    TellsKeys (decided_words deciding) (selection_of deciding) numbered keys outcome
