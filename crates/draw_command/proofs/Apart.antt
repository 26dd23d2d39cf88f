-- No call of a key begins where another one ends.
use Rattle.std.proofs.Common.{ℕ, suc, ◌≡◌, not, List, [], ◌∷◌, All, filter, map, refl, arith}
use Rattle.std.specs.List.{Contains}
use Rattle.std.proofs.lemmas.List.Elements.{All-append, All-cons, All-contains_itself, All-filter, All-head, All-map, All-nil, All-same, All-tail, All-weaker}
use Rattle.recorder.specs.declared.order.KeyOrder.{KeyOrder}
use Rattle.recorder.specs.declared.part.Call.{Call}
use Rattle.recorder.specs.Histories.{Recorded}
use Rattle.parallel_keys.specs.CheckedKeys.{CheckedKey, KeyParts, all_parts, checked_keys, is_other, other_key, recorded_key}
use Rattle.parallel_keys.specs.Histories.{AreHallParts}
use Rattle.cli.proofs.Entries.{contains_nothing}
use Rattle.linearization_points.specs.Points.{AreApart}
use Rattle.linearization_points.proofs.RunningPoints.{apart}
use Rattle.judged_keys.specs.Findings.{IsFinding, is_refused}
use Rattle.judged_keys.specs.Files.{HaveKeys}
use Rattle.recorder.specs.Halls.{RecordedHalls}
use Rattle.judged_keys.specs.Judgements.{AreJudged, Judgement, judgement_of, refused_first}
use Rattle.judged_keys.specs.declared.finding.JudgedKey.{JudgedKey}
use Rattle.judged_keys.specs.declared.judged.Judged.{Judged}
use Rattle.draw_command.specs.Drawings.{IsDrawable}

nothing_apart : AreApart []
nothing_apart = λ a b response first second is same. contains_nothing a first

-- the part of each entry of the halls
entries_apart : (halls : List Recorded) (parts : List KeyParts) → AreHallParts halls parts → All (λ (entry : List ℕ × List Call). AreApart entry.1) (all_parts parts)
entries_apart halls [] are = All-nil (λ (entry : List ℕ × List Call). AreApart entry.1)
entries_apart [] (own ∷ parts) are = let none = are.all in absurd (omega (arith, none))
entries_apart (history ∷ halls) (own ∷ parts) are =
    let P = λ (entry : List ℕ × List Call). AreApart entry.1 in
    let its = are.each 0 history own refl refl in
    All-append P own (all_parts parts)
    (All-weaker (Contains own) P (λ entry h. apart history.rows entry.0 entry.1 (its.each entry.0 entry.1 h)) own (All-contains_itself own))
    (entries_apart halls parts (record { all = let same = are.all in omega (arith, same); each = λ hall later mine at_history at_own. are.each (suc hall) later mine at_history at_own }))

-- each key that is checked
checked_apart : (halls : List Recorded) (parts : List KeyParts) (orders : List KeyOrder) → AreHallParts halls parts → All (λ (one : CheckedKey). AreApart one.part) (checked_keys (all_parts parts) orders)
checked_apart halls parts orders are =
    let P = λ (one : CheckedKey). AreApart one.part in
    let entries = all_parts parts in
    let others = filter (is_other entries) orders in
    All-append P (map (recorded_key orders) entries) (map other_key others)
    (All-map P (recorded_key orders) entries (entries_apart halls parts are))
    (All-map P other_key others (All-weaker (Contains others) (λ (one : KeyOrder). AreApart []) (λ one h. nothing_apart) others (All-contains_itself others)))

-- each of the keys of histories
pub keys_apart : (histories : RecordedHalls) (orders : List KeyOrder) (keys : List CheckedKey) → HaveKeys histories orders keys → All (λ (one : CheckedKey). AreApart one.part) keys
keys_apart histories orders keys have = All-same (λ (one : CheckedKey). AreApart one.part) keys (checked_keys (all_parts have.parts) orders) have.are (checked_apart histories.halls have.parts orders have.recorded)

-- keys that were judged can be drawn
drawable_each : (judged : Judged) (js : List Judgement) → All (λ (j : Judgement). IsFinding judged j.one j.finding) js → All (λ (one : CheckedKey). AreApart one.part) (map (λ (j : Judgement). j.one) js)
    → All IsDrawable js
drawable_each judged [] found apart_all = All-nil IsDrawable
drawable_each judged (j ∷ js) found apart_all =
    let F = λ (k : Judgement). IsFinding judged k.one k.finding in
    let A = λ (one : CheckedKey). AreApart one.part in
    let rest = map (λ (k : Judgement). k.one) js in
    All-cons IsDrawable j js (record { found = (All-head F j js found).so; apart = All-head A j.one rest apart_all })
    (drawable_each judged js (All-tail F j js found) (All-tail A j.one rest apart_all))

pub drawable : (judged : Judged) (keys : List CheckedKey) (all : List Judgement) (ordered : List JudgedKey) → AreJudged judged keys all → All (λ (one : CheckedKey). AreApart one.part) keys
    → map judgement_of ordered ≡ refused_first all → All IsDrawable (map judgement_of ordered)
drawable judged keys all ordered are apart_all in_order =
    let D = IsDrawable in
    let each = drawable_each judged all are.found (All-same (λ (one : CheckedKey). AreApart one.part) (map (λ (j : Judgement). j.one) all) keys are.each_key apart_all) in
    All-same D (map judgement_of ordered) (refused_first all) in_order
    (All-append D (filter (λ (j : Judgement). is_refused j.finding) all) (filter (λ (j : Judgement). not (is_refused j.finding)) all)
    (All-filter (λ (j : Judgement). is_refused j.finding) D all each) (All-filter (λ (j : Judgement). not (is_refused j.finding)) D all each))
