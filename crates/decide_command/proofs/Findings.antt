-- What was found is so of the selected keys.
use Rattle.std.proofs.Common.{ℕ, zero, suc, ◌≡◌, ◌≤◌, ◌⊎◌, ◌||◌, inl, inr, Bool, true, false, cond, List, [], ◌∷◌, Option, Some, None, filter, refl, sym, subst, ◌∙◌, arith}
use Rattle.std.specs.List.{All, Contains, list_any}
use Rattle.std.specs.Map.{lookup}
use Rattle.std.specs.Str.{bytes_eq}
use Rattle.std.proofs.lemmas.List.Elements.{All-cons, All-contains, All-contains_itself, All-nil, All-weaker}
use Rattle.recorder.specs.declared.part.Call.{Call}
use Rattle.recorder.specs.Orders.{IsLinearizable}
use Rattle.value_order.specs.declared.decision.Doubt.{Doubt}
use Rattle.parallel_keys.specs.CheckedKeys.{CheckedKey, KeyParts, all_parts, checked_keys}
use Rattle.history_file.specs.declared.numbered_format.NumberedHistories.{NumberedHistories}
use Rattle.cli.proofs.Entries.{contains_head, contains_nothing, contains_tail, found_entry}
use Rattle.cli.proofs.HallParts.{HaveParts, have_parts}
use Rattle.cli.specs.declared.outcome.Found.{Found}
use Rattle.cli.specs.declared.outcome.Outcome.{Outcome}
use Rattle.judged_keys.specs.Files.{HaveKeys}
use Rattle.judged_keys.specs.Findings.{IsFinding, IsUndecided, is_refused, is_undecided}
use Rattle.judged_keys.specs.Judgements.{AreJudged, Judgement, has_undecided, refused_count}
use Rattle.judged_keys.specs.Selected.{is_missing, is_selected, missing_names, names_of, selected_keys}
use Rattle.judged_keys.specs.Tellings.{found_in}
use Rattle.judged_keys.specs.declared.finding.Finding.{Finding}
use Rattle.judged_keys.specs.declared.finding.Finding.TheVariants as finding
use Rattle.judged_keys.specs.declared.judged.Judged.TheVariants.{Values}
use Rattle.judged_keys.proofs.Judgements.{none_refused, some_refused}
use Rattle.judged_keys.proofs.Selecting.{are_entries, each_entry, IsEntry}
use Rattle.decide_command.specs.Decided.{DecidesKeys, selection_of}
use Rattle.decide_command.specs.Findings.{Finds, HasNoOrder, HasOrder, HasSelected, IsLeftOpen}
use Rattle.decide_command.specs.declared.deciding.Deciding.{Deciding}

-- no call has an order
no_call : IsLinearizable []
no_call = (
  [],
  record {
    known = λ i within. absurd (omega (arith, within));
    once = λ i j less within same. absurd (omega (arith, within));
    complete = λ call h completed. absurd (contains_nothing call h);
    writes = λ i call at pending. absurd (contains_nothing call at.recorded);
    legal = λ i call response at. absurd (contains_nothing call at.recorded);
    precedence = λ i j a b less first second. absurd (contains_nothing a first.recorded);
  },
)

module _ {X : Type 0} (p : X → Bool) where
  -- where none passes, each fails
  none_passes : (xs : List X) → list_any p xs ≡ false → All (λ x. p x ≡ false) xs
  none_passes [] none = All-nil (λ (x : X). p x ≡ false)
  none_passes (x ∷ xs) none = by (p x) refl none (none_passes xs)
    where
      by : (b : Bool) → p x ≡ b → (b || list_any p xs) ≡ false → (list_any p xs ≡ false → All (λ y. p y ≡ false) xs) → All (λ y. p y ≡ false) (x ∷ xs)
      by true is some later = absurd (cc)
      by false is none later = All-cons (λ (y : X). p y ≡ false) x xs is (later none)

  -- where one passes, there is such a one
  one_passes : (xs : List X) → list_any p xs ≡ true → (x : X) × Contains xs x × (p x ≡ true)
  one_passes [] some = absurd (cc)
  one_passes (x ∷ xs) some = by (p x) refl some (one_passes xs)
    where
      by : (b : Bool) → p x ≡ b → (b || list_any p xs) ≡ true → (list_any p xs ≡ true → (y : X) × Contains xs y × (p y ≡ true)) → (y : X) × Contains (x ∷ xs) y × (p y ≡ true)
      by true is some later = (x, contains_head x xs, is)
      by false is some later = let found = later some in (found.0, contains_tail x xs found.0 found.1, found.2)

  -- where some are kept, one passes
  kept_passes : (xs : List X) (y : X) (ys : List X) → filter p xs ≡ y ∷ ys → list_any p xs ≡ true
  kept_passes [] y ys kept = absurd (cc)
  kept_passes (x ∷ xs) y ys kept = by (p x) kept (kept_passes xs y ys)
    where
      by : (b : Bool) → cond b (x ∷ filter p xs) (filter p xs) ≡ y ∷ ys → (filter p xs ≡ y ∷ ys → list_any p xs ≡ true) → (b || list_any p xs) ≡ true
      by true kept later = refl
      by false kept later = later kept

-- what was found by values
module _ (one : CheckedKey) where
  is_atomic : (f : Finding) → IsFinding Values one f → is_refused f ≡ false → is_undecided f ≡ false → IsLinearizable one.part
  is_atomic finding.Atomic h good decided = h.so.ordered
  is_atomic finding.Ordered h good decided = let other = h.by in absurd (cc)
  is_atomic finding.Sound h good decided = let other = h.by in absurd (cc)
  is_atomic (finding.OrderFault fault) h good decided = absurd (cc)
  is_atomic (finding.TagFault rule) h good decided = absurd (cc)
  is_atomic (finding.ValueFault fault) h good decided = absurd (cc)
  is_atomic (finding.Undecided doubt) h good decided = absurd (cc)

  is_unordered : (f : Finding) → IsFinding Values one f → is_refused f ≡ true → IsLinearizable one.part → ⊥
  is_unordered (finding.ValueFault fault) h refused = h.so.unordered
  is_unordered (finding.OrderFault fault) h refused = let other = h.by in absurd (cc)
  is_unordered (finding.TagFault rule) h refused = let other = h.by in absurd (cc)
  is_unordered finding.Ordered h refused = absurd (cc)
  is_unordered finding.Sound h refused = absurd (cc)
  is_unordered finding.Atomic h refused = absurd (cc)
  is_unordered (finding.Undecided doubt) h refused = absurd (cc)

  is_open : (f : Finding) → IsFinding Values one f → is_undecided f ≡ true → (doubt : Doubt) × IsUndecided one.part doubt
  is_open (finding.Undecided doubt) h undecided = (doubt, h.so)
  is_open finding.Ordered h undecided = absurd (cc)
  is_open finding.Sound h undecided = absurd (cc)
  is_open finding.Atomic h undecided = absurd (cc)
  is_open (finding.OrderFault fault) h undecided = absurd (cc)
  is_open (finding.TagFault rule) h undecided = absurd (cc)
  is_open (finding.ValueFault fault) h undecided = absurd (cc)

module _ (deciding : Deciding) (numbered : NumberedHistories) (keys : List CheckedKey) (outcome : Outcome) (has : HaveKeys numbered.histories [] keys) (decides : DecidesKeys deciding numbered keys outcome) where
  parts : KeyParts
  parts = all_parts has.parts

  names : List (List ℕ)
  names = names_of (selection_of deciding)

  js : List Judgement
  js = decides.all

  have : HaveParts numbered.histories.halls (all_parts has.parts)
  have = have_parts numbered.histories.halls has.parts has.recorded has.lawful.count.least has.lawful.keys

  found : AreJudged Values (selected_keys (names_of (selection_of deciding)) (checked_keys (all_parts has.parts) [])) decides.all
  found = subst (λ (ks : List CheckedKey). AreJudged Values (selected_keys (names_of (selection_of deciding)) ks) decides.all) has.are decides.found

  finding_of : (j : Judgement) → Contains decides.all j → IsFinding Values j.one j.finding
  finding_of j h = All-contains (λ (k : Judgement). IsFinding Values k.one k.finding) decides.all j found.found h

  entry_of : (j : Judgement) → Contains decides.all j → IsEntry (names_of (selection_of deciding)) (all_parts has.parts) j.one
  entry_of j h =
      let some = names_of (selection_of deciding) in
      let own = all_parts has.parts in
      All-contains (λ (k : Judgement). IsEntry some own k.one) decides.all j (are_entries Values some own decides.all found) h

  good : refused_count decides.all ≡ 0 → has_undecided decides.all ≡ false → (key : List ℕ) → is_selected (names_of (selection_of deciding)) key ≡ true → HasOrder numbered.histories.halls key
  good none decided key selected = by (lookup (bytes_eq key) (all_parts has.parts)) refl
    where
      atomic : All (λ (j : Judgement). IsLinearizable j.one.part) decides.all
      atomic =
          let all = decides.all in
          All-weaker (Contains all) (λ (j : Judgement). IsLinearizable j.one.part)
          (λ j h. is_atomic j.one j.finding (finding_of j h) (All-contains (λ (k : Judgement). is_refused k.finding ≡ false) all j (none_refused all none) h)
          (All-contains (λ (k : Judgement). is_undecided k.finding ≡ false) all j (none_passes (λ (k : Judgement). is_undecided k.finding) all decided) h)) all (All-contains_itself all)

      by : (o : Option (List Call)) → lookup (bytes_eq key) (all_parts has.parts) ≡ o → HasOrder numbered.histories.halls key
      by None is = record { part = []; recorded = have.none key is; ordered = no_call }
      by (Some part) is =
          let h = found_entry (all_parts has.parts) key part is in
          record {
            part = part;
            recorded = have.each key part h;
            ordered = each_entry Values (names_of (selection_of deciding)) (all_parts has.parts) decides.all found (λ (one : CheckedKey). IsLinearizable one.part) atomic key part h selected;
          }

  refused : 1 ≤ refused_count decides.all → HasSelected (names_of (selection_of deciding)) (HasNoOrder numbered.histories.halls)
  refused some =
      let j = some_refused decides.all some in
      let entry = entry_of j.0 j.1 in
      let one = j.0.one in
      (one.key, entry.selected, record { part = one.part; recorded = have.each one.key one.part entry.there; unordered = is_unordered one j.0.finding (finding_of j.0 j.1) j.2 })

  left_open : has_undecided decides.all ≡ true → HasSelected (names_of (selection_of deciding)) (IsLeftOpen numbered.histories.halls)
  left_open some =
      let j = one_passes (λ (k : Judgement). is_undecided k.finding) decides.all some in
      let entry = entry_of j.0 j.1 in
      let one = j.0.one in
      let undecided = is_open one j.0.finding (finding_of j.0 j.1) j.2 in
      (one.key, entry.selected, record { part = one.part; recorded = have.each one.key one.part entry.there; doubt = undecided.0; undecided = undecided.1 })

  pub found_is_so : Finds (names_of (selection_of deciding)) numbered.histories.halls keys outcome.found
  found_is_so =
      subst (λ (found : Found). Finds (names_of (selection_of deciding)) numbered.histories.halls keys found) (sym decides.is)
      (by (refused_count decides.all) refl (has_undecided decides.all) refl (missing_names keys (names_of (selection_of deciding))) refl)
    where
      missing : (name : List ℕ) (more : List (List ℕ)) → missing_names keys (names_of (selection_of deciding)) ≡ name ∷ more → list_any (is_missing keys) (names_of (selection_of deciding)) ≡ true
      missing name more is = kept_passes (is_missing keys) (names_of (selection_of deciding)) name more is

      by : (n : ℕ) → refused_count decides.all ≡ n → (u : Bool) → has_undecided decides.all ≡ u → (m : List (List ℕ)) → missing_names keys (names_of (selection_of deciding)) ≡ m
          → Finds (names_of (selection_of deciding)) numbered.histories.halls keys (found_in n u m)
      by zero none false decided [] present = good none decided
      by zero none true some [] present = left_open some
      by zero none false decided (name ∷ more) misses = inr (missing name more misses)
      by zero none true some (name ∷ more) misses = inr (missing name more misses)
      by (suc n) some false u m has_none = inl (refused (omega (arith, some)))
      by (suc n) some true u m has_none = inl (refused (omega (arith, some)))
