-- Keys with sound tags, judged by them, are not refused.
use Rattle.std.proofs.Common.{ℕ, ◌≡◌, cond, List, [], ◌∷◌, All, filter, length, map, refl, arith}
use Rattle.std.specs.List.{Contains}
use Rattle.std.proofs.lemmas.List.Elements.{All-append, All-contains_itself, All-filter, All-head, All-map, All-nil, All-same, All-tail, All-weaker}
use Rattle.recorder.specs.declared.part.Call.{Call}
use Rattle.recorder.specs.Histories.{Recorded}
use Rattle.recorder.specs.Records.{IsPart}
use Rattle.recorder.specs.Sound.{TagSound}
use Rattle.tag_check.proofs.Refutations.{refuted}
use Rattle.parallel_keys.specs.CheckedKeys.{CheckedKey, KeyParts, all_parts, checked_keys, recorded_key}
use Rattle.parallel_keys.specs.Histories.{AreHallParts}
use Rattle.judged_keys.specs.Findings.{IsFinding, is_refused}
use Rattle.judged_keys.specs.Judgements.{AreJudged, Judgement, refused_count}
use Rattle.judged_keys.specs.Selected.{is_selected, selected_keys}
use Rattle.judged_keys.specs.declared.finding.Finding.{Finding}
use Rattle.judged_keys.specs.declared.finding.Finding.TheVariants as finding
use Rattle.judged_keys.specs.declared.judged.Judged.TheVariants as judged

-- keys with sound tags, judged by them
none_refused : (js : List Judgement) → All (λ j. IsFinding judged.Tags j.one j.finding) js → All (λ (one : CheckedKey). TagSound one.part) (map (λ j. j.one) js) → refused_count js ≡ 0
none_refused [] found sound = refl
none_refused (j ∷ js) found sound =
    let F = λ (k : Judgement). IsFinding judged.Tags k.one k.finding in
    let S = λ (one : CheckedKey). TagSound one.part in
    let rest = map (λ (k : Judgement). k.one) js in
    by j.finding (All-head F j js found) (All-head S j.one rest sound) (none_refused js (All-tail F j js found) (All-tail S j.one rest sound))
  where
    by : (f : Finding) → IsFinding judged.Tags j.one f → TagSound j.one.part → length (filter (λ (k : Judgement). is_refused k.finding) js) ≡ 0
        → length (cond (is_refused f) (j ∷ filter (λ (k : Judgement). is_refused k.finding) js) (filter (λ (k : Judgement). is_refused k.finding) js)) ≡ 0
    by finding.Ordered h its later = later
    by (finding.OrderFault fault) h its later = let other = h.by in absurd (cc)
    by finding.Sound h its later = later
    by (finding.TagFault rule) h its later = absurd (refuted j.one.part rule h.so.1 its)
    by finding.Atomic h its later = later
    by (finding.ValueFault fault) h its later = let other = h.by in absurd (cc)
    by (finding.Undecided doubt) h its later = later

module _ (history : Recorded) (sound : (key : List ℕ) (part : List Call) → IsPart history.rows key part → TagSound part) where
  -- each key's part of the only history has sound tags
  entries_sound : (parts : List KeyParts) → AreHallParts (history ∷ []) parts → All (λ (entry : List ℕ × List Call). TagSound entry.1) (all_parts parts)
  entries_sound [] are = All-nil (λ (entry : List ℕ × List Call). TagSound entry.1)
  entries_sound (own ∷ []) are =
      let P = λ (entry : List ℕ × List Call). TagSound entry.1 in
      let its = are.each 0 history own refl refl in
      All-append P own [] (All-weaker (Contains own) P (λ entry h. sound entry.0 entry.1 (its.each entry.0 entry.1 h)) own (All-contains_itself own)) (All-nil P)
  entries_sound (own ∷ next ∷ parts) are = let count = are.all in absurd (omega (arith, count))

  -- so those of its keys that are judged aren't refused
  pub not_refused : (parts : List KeyParts) (names : List (List ℕ)) (keys : List Judgement) → AreHallParts (history ∷ []) parts
      → AreJudged judged.Tags (selected_keys names (checked_keys (all_parts parts) [])) keys → refused_count keys ≡ 0
  not_refused parts names keys are judged_are =
      let S = λ (one : CheckedKey). TagSound one.part in
      let all = checked_keys (all_parts parts) [] in
      let each = All-append S (map (recorded_key []) (all_parts parts)) [] (All-map S (recorded_key []) (all_parts parts) (entries_sound parts are)) (All-nil S) in
      none_refused keys judged_are.found
      (All-same S (map (λ (j : Judgement). j.one) keys) (selected_keys names all) judged_are.each_key (All-filter (λ (one : CheckedKey). is_selected names one.key) S all each))
