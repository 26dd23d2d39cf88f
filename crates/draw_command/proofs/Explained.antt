-- Keys that have pictures, and one more.
use Rattle.std.proofs.Common.{ℕ, ◌≡◌, ◌<◌, ◌+◌, ◌++◌, ◌∷◌, ◌∙◌, List, [], All, ap, ap₂, get_or, length, map, sym, subst, take}
use Rattle.std.proofs.lemmas.List.{map-append}
use Rattle.std.proofs.lemmas.List.Elements.{All-append, All-cons, All-nil}
use Rattle.history_file.specs.declared.numbered_format.NumberedHistories.{NumberedHistories}
use Rattle.parallel_keys.proofs.Fronts.{mapped_more}
use Rattle.judged_keys.specs.Judgements.{Judgement, judgement_of}
use Rattle.judged_keys.specs.declared.finding.JudgedKey.{JudgedKey}
use Rattle.draw_command.specs.PicturedKeys.{IsExplained, judged_in}
use Rattle.draw_command.specs.declared.pictured_keys.PicturedKey.{PicturedKey}

pub explained_more : (numbered : NumberedHistories) (before now : List PicturedKey) (own : PicturedKey) (keys : List JudgedKey) (i : ℕ) (key : JudgedKey) → now ≡ before ++ own ∷ []
    → (map judged_in before ≡ map judgement_of (take i keys)) × All (IsExplained numbered) before → i < length keys → key ≡ get_or keys i key → judged_in own ≡ judgement_of key
    → IsExplained numbered own → (map judged_in now ≡ map judgement_of (take (i + 1) keys)) × All (IsExplained numbered) now
explained_more numbered before now own keys i key more so_far within is same explained =
    let Explained = IsExplained numbered in (
      ap (map judged_in) more ∙ map-append judged_in before (own ∷ []) ∙ ap₂ (λ (js : List Judgement) (j : Judgement). js ++ j ∷ []) so_far.0 same
          ∙ sym (mapped_more judgement_of keys i key within is),
      subst (All Explained) (sym more) (All-append Explained before (own ∷ []) so_far.1 (All-cons Explained own [] explained (All-nil Explained))),
    )
