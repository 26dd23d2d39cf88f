-- Classes of calls: those of writes, and then those of reads.
use Rattle.std.proofs.Common.{ℕ, ◌≡◌, ◌<◌, ◌≤◌, ◌+◌, inl, inr, List, ◌∷◌, [], ◌++◌, Some, length, length-set, set, sym, ◌∙◌, ap, subst, arith}
use Rattle.std.specs.List.{slice_get}
use Rattle.std.proofs.lemmas.Bool.{cases_lt}
use Rattle.std.proofs.lemmas.Option.{same_Some, slice_get_within}
use Rattle.tag.proofs.Lists.{push_cases, slice_get-set}
use Rattle.recorder.specs.declared.part.Call.{Call}
use Rattle.recorder.specs.Sound.{IsRead}
use Rattle.value_order.specs.declared.classes.Class.{Class}
use Rattle.value_order.specs.declared.classes.Class.TheVariants as class
use Rattle.value_order.specs.declared.placed.Places.{Places}
use Rattle.value_order.specs.Classes.{IsClass, IsWriteClass, AreWriteClasses, AreClasses}
use Rattle.value_order.specs.Placed.{ArePlacesOf}
use Rattle.value_order.proofs.CallKinds.{call_at, not_both}

-- ---- one call more

pub places_more : (part : List Call) (places : List Places) (i : ℕ) (own : Places) → length places ≡ i → (call : Call) × (slice_get part i ≡ Some call) × ArePlacesOf call own
    → ((k : ℕ) (call : Call) (own : Places) → slice_get part k ≡ Some call → slice_get places k ≡ Some own → ArePlacesOf call own)
    → (k : ℕ) (call : Call) (other : Places) → slice_get part k ≡ Some call → slice_get (places ++ own ∷ []) k ≡ Some other → ArePlacesOf call other
places_more part places i own count here was k call other at_k there = elim (push_cases places own k other there) [
  | inl h ↦ was k call other at_k h
  | inr h ↦ subst (ArePlacesOf call) h.1 (subst (λ (c : Call). ArePlacesOf c own) (call_at part i k here.0 call here.1 at_k (omega (arith, h.0))) here.2)
]

pub classes_more : (part : List Call) (classes : List Class) (i : ℕ) (own : Class) → length classes ≡ i → IsWriteClass part i own
    → ((k : ℕ) (own : Class) → slice_get classes k ≡ Some own → IsWriteClass part k own)
    → (k : ℕ) (other : Class) → slice_get (classes ++ own ∷ []) k ≡ Some other → IsWriteClass part k other
classes_more part classes i own count here was k other there = elim (push_cases classes own k other there) [
  | inl h ↦ was k other h
  | inr h ↦ subst (IsWriteClass part k) h.1 (subst (λ (x : ℕ). IsWriteClass part x own) (omega (arith, h.0)) here)
]

-- ---- those of reads are filled in

-- the classes below index i are done, those from there on are as the writes left them
pub record AreFilled (part : List Call) (i : ℕ) (classes : List Class) : Type 0 where
  pub all : length classes ≡ length part
  pub done : (k : ℕ) (call : Call) (own : Class) → k < i → slice_get part k ≡ Some call → slice_get classes k ≡ Some own → IsClass part call own
  pub left : (k : ℕ) (own : Class) → i ≤ k → slice_get classes k ≡ Some own → IsWriteClass part k own

pub filled_none : (part : List Call) (classes : List Class) → AreWriteClasses part classes → AreFilled part 0 classes
filled_none part classes are = record {
  all = are.all;
  done = λ k call own less. absurd (omega arith);
  left = λ k own le at. are.each k own at;
}

-- an open class is that of a read
pub open_reads : (part : List Call) (i : ℕ) → IsWriteClass part i class.Pending → (call : Call) → slice_get part i ≡ Some call → IsRead call
open_reads part i w call at =
    let same : w.0 ≡ call = same_Some w.0 call (sym w.1 ∙ at) in
    elim w.2 [
      | inl h ↦ absurd (not_both w.0 h.1.0 h.0)
      | inr h ↦ subst IsRead same h.0
    ]

module _ (part : List Call) (i : ℕ) (classes : List Class) (are : AreFilled part i classes) (was : Class) (at : slice_get classes i ≡ Some was) where
  -- a class that isn't open stays
  pub filled_same : (was ≡ class.Pending → ⊥) → AreFilled part (i + 1) classes
  filled_same shut = record {
    all = are.all;
    done = λ k call own less at_k here. elim (cases_lt k i) [
      | inl h ↦ are.done k call own h at_k here
      | inr h ↦
          let place : k ≡ i = omega arith in
          let w = are.left i was (omega arith) at in
          let same : was ≡ own = same_Some was own (sym at ∙ (ap (slice_get classes) (sym place) ∙ here)) in
          let one : w.0 ≡ call = call_at part i k w.0 call w.1 at_k (sym place) in
          elim w.2 [
            | inl h ↦ subst (IsClass part call) same (subst (λ (c : Call). IsClass part c was) one h.1)
            | inr h ↦ absurd (shut h.1)
          ]
    ];
    left = λ k own le here. are.left k own (omega arith) here;
  }

  -- an open one is set
  pub filled_more : (new : Class) → (call : Call) × (slice_get part i ≡ Some call) × IsClass part call new → i < length classes → AreFilled part (i + 1) (set classes i new)
  filled_more new own inside = record {
    all = length-set classes i new ∙ are.all;
    done = λ k call other less at_k here. elim (slice_get-set classes i k new inside) [
      | inl w ↦
          let same : new ≡ other = same_Some new other (sym w.1 ∙ here) in
          subst (IsClass part call) same (subst (λ (c : Call). IsClass part c new) (call_at part i k own.0 call own.1 at_k (sym w.0)) own.2)
      | inr w ↦ are.done k call other (elim (cases_lt k i) [ inl h ↦ h | inr h ↦ absurd (w.0 (omega arith)) ]) at_k (sym w.1 ∙ here)
    ];
    left = λ k other le here. elim (slice_get-set classes i k new inside) [
      | inl w ↦ absurd (omega (arith, w.0))
      | inr w ↦ are.left k other (omega arith) (sym w.1 ∙ here)
    ];
  }

pub all_filled : (part : List Call) (i : ℕ) (classes : List Class) → length part ≤ i → AreFilled part i classes → AreClasses part classes
all_filled part i classes past are = record {
  all = are.all;
  each = λ k call own at here. are.done k call own (omega (arith, slice_get_within part k call at)) at here;
}
