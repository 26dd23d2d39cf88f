-- Which calls are shown: those of a window, and those that are kept.
use Rattle.std.proofs.Common.{ℕ, ◌≡◌, ◌<◌, ◌≤◌, ◌+◌, ◌-◌, ◌/◌, min, inl, inr, List, [], ◌∷◌, ◌++◌, Option, Some, None}
use Rattle.std.proofs.Common.{length, take, sym, ap, ◌∙◌, subst, arith}
use Rattle.std.specs.List.{slice_get, Contains}
use Rattle.std.specs.Option.{IfSome, IfNone}
use Rattle.std.proofs.lemmas.Bool.{cases_lt}
use Rattle.std.proofs.lemmas.Option.{same_Some, slice_get_within}
use Rattle.tag.proofs.Lists.{get_at, Contains-slice_get}
use Rattle.tag.specs.declared.numbers.OpId.{OpId}
use Rattle.recorder.proofs.Sequences.{same_index}
use Rattle.recorder.specs.declared.part.Call.{Call}
use Rattle.recorder.specs.Parts.{IsSequence}
use Rattle.certificate_check.specs.Places.{HasOpAt}
use Rattle.scenes.proofs.Just.{HasJust, just_more, just_same, in_longer, last_in_longer, in_shorter}
use Rattle.scenes.specs.declared.windows.Window.{Window}
use Rattle.scenes.specs.Scenes.{IsRisingListOf, IsSelection}
use Rattle.scenes.specs.Windows.{IsInWindow, IsToShow, IsAround, IsWindowAround, from_middle}

-- ---- the indexes of a window

-- below the count, in the window, and before i
abbrev IsEarly : ℕ → Window → ℕ → ℕ → Type 0
IsEarly count window i n = ((n < count) × IsInWindow window n) × (n < i)

pub record IndexesSoFar (count : ℕ) (window : Window) (i : ℕ) (indexes : List ℕ) : Type 0 where
  pub past : window.first ≤ i
  pub exactly : HasJust (IsEarly count window i) indexes

pub no_indexes : (count : ℕ) (window : Window) → IndexesSoFar count window window.first []
no_indexes count window = record {
  past = omega arith;
  exactly = λ n. (
    λ there. absurd (let h = there.1 in omega arith),
    λ early. absurd (omega (arith, early.0.1.0, early.1)),
  );
}

pub indexes_more : (count : ℕ) (window : Window) (i : ℕ) (indexes now : List ℕ) → i < count → i < window.first + window.count
    → now ≡ indexes ++ i ∷ [] → IndexesSoFar count window i indexes → IndexesSoFar count window (i + 1) now
indexes_more count window i indexes now below inside more before =
    let past : window.first ≤ i = before.past in
    record {
      past = omega arith;
      exactly = just_more (IsEarly count window i) (IsEarly count window (i + 1)) indexes now i more
          (λ n early. (early.0, omega (arith, early.1)))
          ((below, (past, inside)), omega arith)
          (λ n early. elim (cases_lt n i) [
            | inl h ↦ inl (early.0, h)
            | inr h ↦ inr (omega (arith, early.1))
          ]) before.exactly;
    }

pub indexes_all : (count : ℕ) (window : Window) (i : ℕ) (indexes : List ℕ)
    → ((n : ℕ) → n < count → n < window.first + window.count → n < i)
    → IndexesSoFar count window i indexes → HasJust (λ n. (n < count) × IsInWindow window n) indexes
indexes_all count window i indexes all before = just_same (IsEarly count window i) (λ n. (n < count) × IsInWindow window n) indexes
    (λ n early. early.0) (λ n has. (has, all n has.0 has.1.1)) before.exactly

-- ---- those to be kept

module _ (part : List Call) (window : Window) where
  -- before any is kept
  pub none_kept : (indexes : List ℕ) → HasJust (λ n. (n < length part) × IsInWindow window n) indexes
      → HasJust (IsToShow part window []) indexes
  none_kept indexes before = just_same (λ n. (n < length part) × IsInWindow window n) (IsToShow part window []) indexes
      (λ n has. let call = get_at part n has.0 in (call.0, call.1, inl has.1))
      (λ n has. elim has.2 [
        | inl inside ↦ (slice_get_within part n has.0 has.1, inside)
        | inr kept ↦ absurd (let h = kept.1 in omega arith)
      ]) before

  still : (kept : List OpId) (k : ℕ) (op : OpId) → slice_get kept k ≡ Some op → (n : ℕ) → IsToShow part window (take k kept) n
      → IsToShow part window (take (k + 1) kept) n
  still kept k op at n has = (
    has.0,
    has.1,
    elim has.2 [
      | inl inside ↦ inl inside
      | inr there ↦ inr (in_longer kept k op has.0.op at there)
    ],
  )

  -- one more that the part has
  pub kept_more : IsSequence part → (kept : List OpId) (k i : ℕ) (op : OpId) (indexes now : List ℕ) → slice_get kept k ≡ Some op
      → HasOpAt part i op → now ≡ indexes ++ i ∷ []
      → HasJust (IsToShow part window (take k kept)) indexes → HasJust (IsToShow part window (take (k + 1) kept)) now
  kept_more sequence kept k i op indexes now at found more before =
      just_more (IsToShow part window (take k kept)) (IsToShow part window (take (k + 1) kept)) indexes now i more (still kept k op at)
      (found.0, found.1, inr (subst (Contains (take (k + 1) kept)) (sym found.2) (last_in_longer kept k op at)))
      (λ n has. elim has.2 [
        | inl inside ↦ inl (has.0, has.1, inl inside)
        | inr there ↦ elim (in_shorter kept k op has.0.op at there) [
          | inl old ↦ inl (has.0, has.1, inr old)
          | inr last ↦
              let number : found.0.op.0 ≡ has.0.op.0 = ap (λ (o : OpId). o.0) (found.2 ∙ last) in
              inr (same_index part sequence i n found.0 has.0 found.1 has.1 number)
        ]
      ]) before

  -- one more that it hasn't got
  pub kept_none : (kept : List OpId) (k : ℕ) (op : OpId) (indexes : List ℕ) → slice_get kept k ≡ Some op
      → ((call : Call) → Contains part call → call.op ≡ op → ⊥)
      → HasJust (IsToShow part window (take k kept)) indexes → HasJust (IsToShow part window (take (k + 1) kept)) indexes
  kept_none kept k op indexes at absent before =
      just_same (IsToShow part window (take k kept)) (IsToShow part window (take (k + 1) kept)) indexes (still kept k op at)
      (λ n has. (
        has.0,
        has.1,
        elim has.2 [
          | inl inside ↦ inl inside
          | inr there ↦ elim (in_shorter kept k op has.0.op at there) [
            | inl old ↦ inr old
            | inr last ↦ absurd (absent has.0 (Contains-slice_get part n has.0 has.1) (sym last))
          ]
        ],
      )) before

  -- what is shown is a selection of the part's calls
  pub IsSelection-shown : (kept : List OpId) (shown : List ℕ) → IsRisingListOf (IsToShow part window kept) shown → IsSelection part shown
  IsSelection-shown kept shown are = record {
    rising = are.rising;
    within = λ i there. let has = (are.exactly i).0 there in slice_get_within part i has.0 has.1;
  }

-- ---- the window about a call

-- no other window of the count has the index nearer to its middle, if this one begins there or at an end
nearer : (i long count half first other : ℕ) → first ≡ min (i - half) (long - count) → count ≤ long → i < long → other + count ≤ long
    → (first + half - i) + (i - (first + half)) ≤ (other + half - i) + (i - (other + half))
nearer i long count half first other is fits inside within = omega arith

holds : (i long count half first : ℕ) → first ≡ min (i - half) (long - count) → count ≤ long → i < long → half < count
    → (first ≤ i) × (i < first + count)
holds i long count half first is fits inside small = (omega arith, omega arith)

half_less : (count : ℕ) → 0 < count → count / 2 < count
half_less count positive = omega arith

abbrev from_at : ℕ → ℕ → ℕ → ℕ
from_at first half i = (first + half - i) + (i - (first + half))

module _ (part : List Call) (count size : ℕ) (is_size : size ≡ min count (length part)) where
  about : (window : Window) (i : ℕ) → i < length part → window.count ≡ size → window.first ≡ min (i - size / 2) (length part - size)
      → IsAround part count i window
  about window i inside same first =
      let fits : size ≤ length part = omega (arith, is_size) in
      let half : window.count / 2 ≡ size / 2 = ap (λ (n : ℕ). n / 2) same in
      record {
        nearest = λ other of.
            let long : other.count ≡ size = of.size ∙ sym is_size in
            let other_half : other.count / 2 ≡ size / 2 = ap (λ (n : ℕ). n / 2) long in
            let near = nearer i (length part) size (size / 2) window.first other.first first fits inside (omega (arith, of.within, long)) in
            subst (λ (h : ℕ). from_at window.first h i ≤ from_middle other i) (sym half)
            (subst (λ (h : ℕ). from_at window.first (size / 2) i ≤ from_at other.first h i) (sym other_half) near);
        has = λ positive.
            let some : 0 < size = omega (arith, is_size, positive, inside) in
            let within = holds i (length part) size (size / 2) window.first first fits inside (half_less size some) in
            (within.0, subst (λ (n : ℕ). i < window.first + n) (sym same) within.1);
      }

  -- the call is the part's, at index k
  pub around_found : IsSequence part → (around : Option OpId) (k : ℕ) (window : Window)
      → ((op : OpId) × (around ≡ Some op) × HasOpAt part k op) → window.count ≡ size
      → window.first ≡ min (k - size / 2) (length part - size) → IsWindowAround part count around window
  around_found sequence around k window found same first = record {
    size = record { size = same ∙ is_size; within = omega (arith, same, first, is_size) };
    near = λ op i asked has.
        let one : found.0 ≡ op = same_Some found.0 op (sym found.1 ∙ asked) in
        let here = found.2 in
        let number : has.0.op.0 ≡ here.0.op.0 = ap (λ (o : OpId). o.0) (has.2 ∙ (sym one ∙ sym here.2)) in
        let index : i ≡ k = same_index part sequence i k has.0 here.0 has.1 here.1 number in
        subst (λ (n : ℕ). IsAround part count n window) (sym index)
        (about window k (slice_get_within part k here.0 here.1) same first);
    first = λ none. absurd (none found.0 k found.1 found.2);
  }

  -- there is no such call
  pub around_none : (around : Option OpId) (window : Window) → ((op : OpId) (i : ℕ) → around ≡ Some op → HasOpAt part i op → ⊥)
      → window.count ≡ size → window.first ≡ 0 → IsWindowAround part count around window
  around_none around window none same first = record {
    size = record { size = same ∙ is_size; within = omega (arith, same, first, is_size) };
    near = λ op i asked has. absurd (none op i asked has);
    first = λ h. first;
  }

  -- either
  pub around_any : IsSequence part → (around : Option OpId) (at : Option ℕ) (window : Window)
      → IfSome at (λ k. (op : OpId) × (around ≡ Some op) × HasOpAt part k op)
      → IfNone at ((op : OpId) (i : ℕ) → around ≡ Some op → HasOpAt part i op → ⊥) → window.count ≡ size
      → IfSome at (λ k. window.first ≡ min (k - size / 2) (length part - size)) → IfNone at (window.first ≡ 0)
      → IsWindowAround part count around window
  around_any sequence around (Some k) window found absent same some none = around_found sequence around k window found same some
  around_any sequence around None window found absent same some none = around_none around window absent same none

-- what was asked for isn't there
pub none_asked : (calls : List Call) (asked : Option OpId) (op : OpId) (at : Option ℕ) → asked ≡ Some op
    → IfNone at ((call : Call) → Contains calls call → call.op ≡ op → ⊥)
    → IfNone at ((o : OpId) (k : ℕ) → asked ≡ Some o → HasOpAt calls k o → ⊥)
none_asked calls asked op None is absent = λ o k other has.
    absent has.0 (Contains-slice_get calls k has.0 has.1) (has.2 ∙ same_Some o op (sym other ∙ is))
none_asked calls asked op (Some k) is absent = tt
