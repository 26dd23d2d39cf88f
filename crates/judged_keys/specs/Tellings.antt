-- What is told of keys, in any words.
use Rattle.std.specs.Prelude.{ℕ, zero, ◌≡◌, ◌+◌, ◌-◌, Bool, true, false, List, [], ◌∷◌, ◌++◌}
use Rattle.std.specs.Prelude.{nat_lt}
use Rattle.std.specs.List.{flat_map}
use Rattle.history_file.specs.declared.numbered_format.NumberedHistories.{NumberedHistories}
use Rattle.parallel_keys.specs.CheckedKeys.{CheckedKey}
use Rattle.cli.specs.declared.outcome.Found.{Found}
use Rattle.cli.specs.declared.outcome.Found.TheVariants as found
use Rattle.cli.specs.declared.outcome.Outcome.{Outcome}
use Rattle.judged_keys.specs.Judgements.{AreJudged, Judgement, has_undecided, refused_count}
use Rattle.judged_keys.specs.Selected.{missing_names, names_of, selected_keys}
use Rattle.judged_keys.specs.Words.{Words}
use Rattle.judged_keys.specs.declared.report.Report.{Report}
use Rattle.judged_keys.specs.declared.selection.Selection.{Selection}

-- what was found of all, if so many are refused, and if one is undecided: a key is refused, or
-- a name that was given is no key's; or else one is undecided; or else all is as it should be
abbrev pub found_in : ℕ → Bool → List (List ℕ) → Found
found_in zero false [] = found.Good
found_in zero true [] = found.Undecided
found_in refused undecided missing = found.Refused

-- the selected ones of these keys were judged, each once, in their order
abbrev pub AreFound : Selection → List CheckedKey → List Judgement → Type 0
AreFound selection keys all =
    AreJudged selection.judged (selected_keys (names_of selection) keys) all

module _ (words : Words) (numbered : NumberedHistories) (most : ℕ) where
  -- what is said of each of these, after so many that are refused: why as well, as long as fewer
  -- than `most` keys before it are refused
  abbrev pub AreSaid : ℕ → List Judgement → List ℕ → Type 0
  AreSaid refused [] text = text ≡ []
  AreSaid refused (j ∷ js) text = (first : List ℕ) × (others : List ℕ)
      × words.Says numbered (nat_lt refused most) j first
      × AreSaid (refused + refused_count (j ∷ [])) js others × (text ≡ first ++ others)

  -- the report has what is said of these keys
  pub record IsReportOf (all : List Judgement) (report : Report) : Type 0 where
    pub said : AreSaid 0 all report.text.items
    pub refused : report.refused ≡ refused_count all
    pub undecided : report.undecided ≡ has_undecided all

-- what is told of the selected ones of the keys: what is said of each; the names that no key has;
-- and how many refused keys have no reason there
pub record TellsKeys (words : Words) (selection : Selection) (numbered : NumberedHistories)
    (keys : List CheckedKey) (outcome : Outcome) : Type 0 where
  pub all : List Judgement
  pub found : AreFound selection keys all
  pub said : List ℕ
  pub lines : AreSaid words numbered selection.most 0 all said
  pub is : outcome.found ≡ found_in (refused_count all) (has_undecided all)
      (missing_names keys (names_of selection))
  pub text : outcome.text.items ≡ said
      ++ flat_map words.missing (missing_names keys (names_of selection))
      ++ words.left_out (refused_count all - selection.most)
  pub quiet : outcome.notes.items ≡ []
