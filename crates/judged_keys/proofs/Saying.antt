-- What is said of keys, one more at the end.
use Rattle.std.proofs.Common.{ℕ, ◌≡◌, ◌≤◌, ◌+◌, ◌-◌, ◌||◌, Bool, true, false, cond, List, [], ◌∷◌, ◌++◌, append_assoc, append-nil, filter, length, map, sym, ap, ap₂, refl, subst, ◌∙◌, arith}
use Rattle.std.specs.Prelude.{nat_lt}
use Rattle.std.specs.List.{flat_map}
use mir.Val.{bool_byte}
use Rattle.std.proofs.lemmas.List.{length-map}
use Rattle.std.proofs.lemmas.List.Sums.{count_by-le-length, length-filter}
use Rattle.history_file.specs.declared.numbered_format.NumberedHistories.{NumberedHistories}
use Rattle.parallel_keys.specs.CheckedKeys.{CheckedKey}
use Rattle.parallel_keys.specs.KeysToCheck.{what_of}
use Rattle.parallel_keys.specs.declared.collect_keys.KeyToCheck.{KeyToCheck}
use Rattle.cli.specs.declared.outcome.Outcome.{Outcome}
use Rattle.judged_keys.specs.Findings.{is_refused, is_undecided}
use Rattle.judged_keys.specs.Judgements.{AreJudged, Judgement, has_undecided, refused_count}
use Rattle.judged_keys.specs.Selected.{is_selected, missing_names, names_of, selected_keys}
use Rattle.judged_keys.specs.Tellings.{AreSaid, IsReportOf, TellsKeys, found_in}
use Rattle.judged_keys.specs.Words.{Words}
use Rattle.judged_keys.specs.declared.judged.Judged.{Judged}
use Rattle.judged_keys.specs.declared.report.Report.{Report}
use Rattle.judged_keys.specs.declared.selection.Selection.{Selection}
use Rattle.judged_keys.proofs.Judgements.{has_undecided-append, refused_count-append}
use Rattle.judged_keys.proofs.Selecting.{selected_what}

-- what one key adds
pub one_refused : (j : Judgement) (b : Bool) → b ≡ is_refused j.finding → bool_byte b ≡ refused_count (j ∷ [])
one_refused j b is = ap bool_byte is ∙ by (is_refused j.finding)
  where
    by : (c : Bool) → bool_byte c ≡ length (cond c (j ∷ []) [])
    by true = refl
    by false = refl

pub one_undecided : (j : Judgement) → is_undecided j.finding ≡ has_undecided (j ∷ [])
one_undecided j = by (is_undecided j.finding)
  where
    by : (c : Bool) → c ≡ (c || false)
    by true = refl
    by false = refl

-- no more keys are refused than were judged
pub refused_most : (judged : Judged) (keys : List CheckedKey) (js : List Judgement) → AreJudged judged keys js → refused_count js ≤ length keys
refused_most judged keys js are =
    let refuses = λ (j : Judgement). is_refused j.finding in
    let all : length js ≡ length keys = sym (length-map js (λ (j : Judgement). j.one)) ∙ ap length are.each_key in
    omega (arith, length-filter refuses js, count_by-le-length refuses js, all)

module _ (words : Words) (numbered : NumberedHistories) (most : ℕ) where
  said_more : (before : ℕ) (js : List Judgement) (j : Judgement) (text said : List ℕ) → AreSaid words numbered most before js text → words.Says numbered (nat_lt (before + refused_count js) most) j said
      → AreSaid words numbered most before (js ++ j ∷ []) (text ++ said)
  said_more before [] j text said none says =
      let all_before : before + 0 ≡ before = omega arith in (
        said,
        [],
        subst (λ (n : ℕ). words.Says numbered (nat_lt n most) j said) all_before says,
        refl,
        ap (λ (l : List ℕ). l ++ said) none ∙ sym (append-nil said),
      )
  said_more before (k ∷ js) j text said (first, others, here, later, is) says =
      let one = refused_count (k ∷ []) in
      let count : before + refused_count (k ∷ js) ≡ (before + one) + refused_count js = omega (arith, refused_count-append (k ∷ []) js) in (
        first,
        others ++ said,
        here,
        said_more (before + one) js j others said later (subst (λ (n : ℕ). words.Says numbered (nat_lt n most) j said) count says),
        ap (λ (l : List ℕ). l ++ said) is ∙ append_assoc first others said,
      )

  -- a report, with one key more
  pub report_more : (js : List Judgement) (j : Judgement) (old new : Report) (said : List ℕ) → words.Says numbered (nat_lt old.refused most) j said → new.text.items ≡ old.text.items ++ said → new.refused ≡ old.refused + refused_count (j ∷ [])
      → new.undecided ≡ (old.undecided || has_undecided (j ∷ [])) → IsReportOf words numbered most js old → IsReportOf words numbered most (js ++ j ∷ []) new
  report_more js j old new said says added refused undecided so_far = record {
    said = subst (λ (l : List ℕ). AreSaid words numbered most 0 (js ++ j ∷ []) l) (sym added) (said_more 0 js j old.text.items said so_far.said (subst (λ (n : ℕ). words.Says numbered (nat_lt n most) j said) (so_far.refused ∙ omega arith) says));
    refused = refused ∙ ap (λ (n : ℕ). n + refused_count (j ∷ [])) so_far.refused ∙ sym (refused_count-append js (j ∷ []));
    undecided = undecided ∙ ap (λ (b : Bool). b || has_undecided (j ∷ [])) so_far.undecided ∙ sym (has_undecided-append js (j ∷ []));
  }

-- with the names that no key has, and how many refused keys have no reason, a report is what is told of the keys
module _ (words : Words) (numbered : NumberedHistories) (selected selection : Selection) (same : selection ≡ selected) (keys few : List KeyToCheck) (few_are : few ≡ filter (λ one. is_selected (names_of selection) one.key.now) keys)
    (all : List KeyToCheck) (all_are : all ≡ keys) (missing : List (List ℕ)) (missing_are : missing ≡ missing_names (map what_of all) (names_of selection)) where
  which : (listed : List KeyToCheck) → listed ≡ few → map what_of listed ≡ selected_keys (names_of selected) (map what_of keys)
  which listed listed_are = ap (map what_of) (listed_are ∙ few_are) ∙ selected_what (names_of selection) keys ∙ ap (λ (s : Selection). selected_keys (names_of s) (map what_of keys)) same

  named : missing ≡ missing_names (map what_of keys) (names_of selected)
  named = missing_are ∙ ap₂ (λ (ks : List KeyToCheck) (s : Selection). missing_names (map what_of ks) (names_of s)) all_are same

  pub whole : (listed : List KeyToCheck) → listed ≡ few → (report : Report) → ((js : List Judgement) × AreJudged selected.judged (map what_of listed) js × IsReportOf words numbered selected.most js report)
      → (said : List ℕ) → said ≡ report.text.items ++ flat_map words.missing missing → (left most : ℕ) → most ≡ selection.most → left ≡ report.refused - most
      → (outcome : Outcome) → outcome.text.items ≡ said ++ words.left_out left → outcome.found ≡ found_in report.refused report.undecided missing → outcome.notes.items ≡ [] → TellsKeys words selected numbered (map what_of keys) outcome
  whole listed listed_are report (js, judged_are, is) said said_is left most most_is left_is outcome text found quiet =
      let names = missing_names (map what_of keys) (names_of selected) in
      let count : left ≡ refused_count js - selected.most = left_is ∙ ap₂ (λ (n m : ℕ). n - m) is.refused (most_is ∙ ap (λ (s : Selection). s.most) same) in
      record {
        all = js;
        found = subst (λ (ks : List CheckedKey). AreJudged selected.judged ks js) (which listed listed_are) judged_are;
        said = report.text.items;
        lines = is.said;
        is = found ∙ ap₂ (λ (n : ℕ) (b : Bool). found_in n b missing) is.refused is.undecided ∙ ap (found_in (refused_count js) (has_undecided js)) named;
        text = text ∙ ap₂ (λ (l : List ℕ) (n : ℕ). l ++ words.left_out n) (said_is ∙ ap (λ (ns : List (List ℕ)). report.text.items ++ flat_map words.missing ns) named) count;
        quiet = quiet;
      }
