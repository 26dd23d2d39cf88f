-- Orders are explained as they are checked.
use Rattle.std.proofs.Common.{ℕ, zero, suc, ◌≡◌, ◌≤◌, false, true, List, [], ◌∷◌, Some, map, refl, sym, ap, subst, ◌∙◌}
use Rattle.std.specs.List.{All, slice_get}
use Rattle.std.proofs.lemmas.List.Elements.{All-contains, All-head, All-tail}
use Rattle.std.proofs.lemmas.Option.{same_Some}
use Rattle.tag.proofs.Lists.{item_at}
use Rattle.tag.proofs.Options.{none_some}
use Rattle.recorder.specs.Halls.{RecordedHalls}
use Rattle.recorder.specs.declared.order.KeyOrder.{KeyOrder}
use Rattle.certificate_check.specs.declared.verdict.Fault.{Fault}
use Rattle.certificate_check.specs.declared.verdict.Verdict.{Verdict}
use Rattle.certificate_check.specs.declared.verdict.Verdict.TheVariants as verdict
use Rattle.certificate_check.specs.Verdicts.{IsVerdict}
use Rattle.file_format.specs.OrderFormat.{AreJoined}
use Rattle.parallel_keys.specs.CheckedKeys.{CheckedKey, all_parts, checked_keys}
use Rattle.parallel_keys.specs.Histories.{AreOn, KeyVerdicts}
use Rattle.cli.proofs.EachKey.{status_is}
use Rattle.cli.proofs.HallParts.{have_parts}
use Rattle.cli.specs.Checks.{IsStatusOf}
use Rattle.cli.specs.VerdictStatuses.{SaysAll}
use Rattle.cli.specs.declared.status.Status.{Status}
use Rattle.cli.specs.declared.status.Status.TheVariants.{Good, Refused}
use Rattle.judged_keys.specs.Files.{HaveKeys}
use Rattle.judged_keys.specs.Findings.{IsFinding, is_refused}
use Rattle.judged_keys.specs.Judgements.{AreJudged, Judgement, refused_count}
use Rattle.judged_keys.specs.Selected.{names_of, selected_keys}
use Rattle.judged_keys.specs.Tellings.{AreFound}
use Rattle.judged_keys.specs.declared.finding.Finding.{Finding}
use Rattle.judged_keys.specs.declared.finding.Finding.TheVariants as finding
use Rattle.judged_keys.specs.declared.judged.Judged.{Judged}
use Rattle.judged_keys.specs.declared.judged.Judged.TheVariants.{Orders}
use Rattle.judged_keys.specs.declared.selection.Selection.{Selection}
use Rattle.judged_keys.proofs.Judgements.{none_refused, some_refused}

-- where no key is named, all are selected
all_selected : (keys : List CheckedKey) → selected_keys [] keys ≡ keys
all_selected [] = refl
all_selected (one ∷ keys) = ap (λ (ks : List CheckedKey). one ∷ ks) (all_selected keys)

-- a verdict more at the front
on_more : (one : CheckedKey) (keys : List CheckedKey) (verdict : Verdict) (verdicts : KeyVerdicts) → IsVerdict one.part one.order verdict → AreOn keys verdicts → AreOn (one ∷ keys) ((one.key, verdict) ∷ verdicts)
on_more one keys verdict verdicts is on = record { all = ap suc on.all; each = at }
  where
    at : (i : ℕ) (other : CheckedKey) (told : List ℕ × Verdict) → slice_get (one ∷ keys) i ≡ Some other → slice_get ((one.key, verdict) ∷ verdicts) i ≡ Some told → (told.0 ≡ other.key) × IsVerdict other.part other.order told.1
    at zero other told first said =
        let same : one ≡ other = same_Some one other first in
        let told_is : (one.key, verdict) ≡ told = same_Some (one.key, verdict) told said in
        subst (λ (k : CheckedKey). (told.0 ≡ k.key) × IsVerdict k.part k.order told.1) same (subst (λ (t : List ℕ × Verdict). (t.0 ≡ one.key) × IsVerdict one.part one.order t.1) told_is (refl, is))
    at (suc i) other told first said = on.each i other told first said

-- the verdict that was found by an order
verdict_in : Finding → Verdict
verdict_in (finding.OrderFault fault) = verdict.No fault
verdict_in f = verdict.Yes

told_of : Judgement → List ℕ × Verdict
told_of j = (j.one.key, verdict_in j.finding)

module _ (one : CheckedKey) where
  is_verdict : (f : Finding) → IsFinding Orders one f → IsVerdict one.part one.order (verdict_in f)
  unfolding verdict_in
  is_verdict finding.Ordered h = h.so
  is_verdict (finding.OrderFault fault) h = h.so
  is_verdict finding.Sound h = let other = h.by in absurd (cc)
  is_verdict (finding.TagFault rule) h = let other = h.by in absurd (cc)
  is_verdict finding.Atomic h = let other = h.by in absurd (cc)
  is_verdict (finding.ValueFault fault) h = let other = h.by in absurd (cc)
  is_verdict (finding.Undecided doubt) h = let other = h.by in absurd (cc)

  is_no : (f : Finding) → IsFinding Orders one f → is_refused f ≡ true → (fault : Fault) × (verdict_in f ≡ verdict.No fault)
  unfolding verdict_in
  is_no (finding.OrderFault fault) h refused = (fault, refl)
  is_no (finding.TagFault rule) h refused = let other = h.by in absurd (cc)
  is_no (finding.ValueFault fault) h refused = let other = h.by in absurd (cc)
  is_no finding.Ordered h refused = absurd (cc)
  is_no finding.Sound h refused = absurd (cc)
  is_no finding.Atomic h refused = absurd (cc)
  is_no (finding.Undecided doubt) h refused = absurd (cc)

is_yes : (f : Finding) → is_refused f ≡ false → verdict_in f ≡ verdict.Yes
unfolding verdict_in
is_yes (finding.OrderFault fault) good = absurd (cc)
is_yes (finding.TagFault rule) good = refl
is_yes (finding.ValueFault fault) good = refl
is_yes finding.Ordered good = refl
is_yes finding.Sound good = refl
is_yes finding.Atomic good = refl
is_yes (finding.Undecided doubt) good = refl

-- what was found of keys by their orders, as verdicts
are_on : (js : List Judgement) → All (λ j. IsFinding Orders j.one j.finding) js → AreOn (map (λ j. j.one) js) (map told_of js)
unfolding told_of
are_on [] found = record { all = refl; each = λ i one told first said. none_some first }
are_on (j ∷ js) found =
    let Found = λ (k : Judgement). IsFinding Orders k.one k.finding in
    on_more j.one (map (λ (k : Judgement). k.one) js) (verdict_in j.finding) (map told_of js) (is_verdict j.one j.finding (All-head Found j js found)) (are_on js (All-tail Found j js found))

all_yes : (js : List Judgement) → All (λ j. is_refused j.finding ≡ false) js → SaysAll (map told_of js) Good
unfolding told_of
all_yes [] good i told at = none_some at
all_yes (j ∷ js) good zero told at = sym (ap (λ (t : List ℕ × Verdict). t.1) (same_Some (j.one.key, verdict_in j.finding) told at)) ∙ is_yes j.finding (All-head (λ (k : Judgement). is_refused k.finding ≡ false) j js good)
all_yes (j ∷ js) good (suc i) told at = all_yes js (All-tail (λ (k : Judgement). is_refused k.finding ≡ false) j js good) i told at

-- the place of a refused key among the verdicts
told_at : (js : List Judgement) (i : ℕ) (j : Judgement) → slice_get js i ≡ Some j → slice_get (map told_of js) i ≡ Some (told_of j)
told_at [] i j at = absurd (none_some at)
told_at (k ∷ js) zero j at = ap (λ (m : Judgement). Some (told_of m)) (same_Some k j at)
told_at (k ∷ js) (suc i) j at = told_at js i j at

some_no : (js : List Judgement) → All (λ j. IsFinding Orders j.one j.finding) js → 1 ≤ refused_count js → SaysAll (map told_of js) Refused
unfolding told_of
some_no js found some =
    let refused = some_refused js some in
    let j = refused.0 in
    let no = is_no j.one j.finding (All-contains (λ (k : Judgement). IsFinding Orders k.one k.finding) js j found refused.1) refused.2 in
    let at = told_at js refused.1.0 j (item_at js refused.1.0 j refused.1.1 (sym refused.1.2)) in
    (refused.1.0, no.0, record { key = j.one.key; told = at ∙ ap (λ (v : Verdict). Some (j.one.key, v)) no.1 })

module _ (selection : Selection) (histories : RecordedHalls) (pieces joined : List KeyOrder) (keys : List CheckedKey) (js : List Judgement) (by_orders : selection.judged ≡ Orders) (unnamed : names_of selection ≡ [])
    (are_joined : AreJoined pieces joined) (has : HaveKeys histories joined keys) (are : AreFound selection keys js) where
  found : AreJudged Orders (checked_keys (all_parts has.parts) joined) js
  found =
      subst (λ (ks : List CheckedKey). AreJudged Orders ks js) (ap (λ (names : List (List ℕ)). selected_keys names keys) unnamed ∙ all_selected keys ∙ has.are)
      (subst (λ (judged : Judged). AreJudged judged (selected_keys (names_of selection) keys) js) by_orders are)

  says : (s : Status) → SaysAll (map told_of js) s → IsStatusOf histories.halls pieces s
  says s all =
      status_is histories.halls (all_parts has.parts) (have_parts histories.halls has.parts has.recorded has.lawful.count.least has.lawful.keys) pieces joined (map told_of js) are_joined
      (subst (λ (ks : List CheckedKey). AreOn ks (map told_of js)) found.each_key (are_on js found.found)) s all

  pub good : refused_count js ≡ 0 → IsStatusOf histories.halls pieces Good
  good none = says Good (all_yes js (none_refused js none))

  pub refused : 1 ≤ refused_count js → IsStatusOf histories.halls pieces Refused
  refused some = says Refused (some_no js found.found some)
