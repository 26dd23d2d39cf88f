-- The next write of a call's value, from the last call back.
use Rattle.std.proofs.Common.{ℕ, ◌≡◌, ◌<◌, ◌≤◌, ◌+◌, inl, inr, List, Option, Some, None, length, length-set, set, sym, ◌∙◌, ap, subst, arith}
use Rattle.std.specs.List.{slice_get}
use Rattle.std.proofs.lemmas.Bool.{cases_lt}
use Rattle.std.proofs.lemmas.Option.{same_Some, slice_get_within}
use Rattle.tag.proofs.Lists.{slice_get-set}
use Rattle.value_order.specs.declared.classes.Class.{Class}
use Rattle.value_order.specs.declared.classes.Class.TheVariants as class
use Rattle.value_order.specs.Classes.{HasClass, IsWriteFrom, AreNexts}

-- of the calls from index i on
pub record AreNextsFrom (classes : List Class) (i : ℕ) (nexts following : List (Option ℕ)) : Type 0 where
  pub count : length nexts ≡ length classes
  pub width : length following ≡ length classes
  pub here : (j k : ℕ) (next : Option ℕ) → i ≤ j → HasClass classes j k → slice_get nexts j ≡ Some next → IsWriteFrom classes (j + 1) k next
  pub ahead : (k : ℕ) (next : Option ℕ) → slice_get following k ≡ Some next → IsWriteFrom classes i k next

-- from one call earlier, which isn't such a write
earlier : (classes : List Class) (i k : ℕ) (next : Option ℕ) → (slice_get classes i ≡ Some (class.Writes k) → ⊥) → IsWriteFrom classes (i + 1) k next → IsWriteFrom classes i k next
earlier classes i k None not h = λ j le at. elim (cases_lt i j) [
  | inl less ↦ h j (omega arith) at
  | inr more ↦ (let same : j ≡ i = omega arith in not (ap (slice_get classes) (sym same) ∙ at))
]
earlier classes i k (Some j) not h = (
  omega (arith, h.0),
  h.1,
  λ m le at. elim (cases_lt i m) [
    | inl less ↦ h.2 m (omega arith) at
    | inr more ↦ (let same : m ≡ i = omega arith in absurd (not (ap (slice_get classes) (sym same) ∙ at)))
  ],
)

pub nexts_none : (classes : List Class) (nexts following : List (Option ℕ)) → length nexts ≡ length classes → length following ≡ length classes → ((k : ℕ) (next : Option ℕ) → slice_get following k ≡ Some next → next ≡ None) → AreNextsFrom classes (length classes) nexts following
nexts_none classes nexts following count width empty = record {
  count = count;
  width = width;
  here = λ j k next le has at. absurd (let small = slice_get_within nexts j next at in omega arith);
  ahead = λ k next at. subst (λ (o : Option ℕ). IsWriteFrom classes (length classes) k o) (sym (empty k next at)) (λ j le there. (let small = slice_get_within classes j (class.Writes k) there in omega arith));
}

module _ (classes : List Class) (i : ℕ) (nexts following : List (Option ℕ)) (was : AreNextsFrom classes (i + 1) nexts following) where
  -- a call of no value
  pub nexts_same : ((k : ℕ) → HasClass classes i k → ⊥) → AreNextsFrom classes i nexts following
  nexts_same none = record {
    count = was.count;
    width = was.width;
    here = λ j k next le has at. elim (cases_lt i j) [
      | inl h ↦ was.here j k next (omega arith) has at
      | inr h ↦ (let same : j ≡ i = omega arith in absurd (none k (subst (λ (x : ℕ). HasClass classes x k) same has)))
    ];
    ahead = λ k next at. earlier classes i k next (λ w. none k (inl w)) (was.ahead k next at);
  }

  module _ (k : ℕ) (next : Option ℕ) (has : HasClass classes i k) (within : i < length classes) (at : slice_get following k ≡ Some next) where
    here_more : (j m : ℕ) (other : Option ℕ) → i ≤ j → HasClass classes j m → slice_get (set nexts i next) j ≡ Some other → ((m : ℕ) → HasClass classes i m → k ≡ m) → IsWriteFrom classes (j + 1) m other
    here_more j m other le has_j at_j one = elim (slice_get-set nexts i j next (omega (arith, was.count))) [
      | inl w ↦
          let same : next ≡ other = same_Some next other (sym w.1 ∙ at_j) in
          let value : k ≡ m = one m (subst (λ (x : ℕ). HasClass classes x m) w.0 has_j) in
          subst (λ (x : ℕ). IsWriteFrom classes (x + 1) m other) (sym w.0) (subst (λ (x : ℕ). IsWriteFrom classes (i + 1) x other) value (subst (λ (o : Option ℕ). IsWriteFrom classes (i + 1) k o) same (was.ahead k next at)))
      | inr w ↦ elim (cases_lt i j) [
        | inl h ↦ was.here j m other (omega arith) has_j (sym w.1 ∙ at_j)
        | inr h ↦ absurd (w.0 (omega arith))
      ]
    ]

    -- a read of the value
    pub nexts_read : slice_get classes i ≡ Some (class.Answers k) → AreNextsFrom classes i (set nexts i next) following
    nexts_read is = record {
      count = length-set nexts i next ∙ was.count;
      width = was.width;
      here = λ j m other le has_j at_j. here_more j m other le has_j at_j (λ n h. elim h [
        | inl w ↦ absurd (cc (is, w))
        | inr a ↦ cc (is, a)
      ]);
      ahead = λ m other there. earlier classes i m other (λ w. cc (is, w)) (was.ahead m other there);
    }

    -- a write of it
    pub nexts_write : slice_get classes i ≡ Some (class.Writes k) → AreNextsFrom classes i (set nexts i next) (set following k (Some i))
    nexts_write is = record {
      count = length-set nexts i next ∙ was.count;
      width = length-set following k (Some i) ∙ was.width;
      here = λ j m other le has_j at_j. here_more j m other le has_j at_j (λ n h. elim h [
        | inl w ↦ cc (is, w)
        | inr a ↦ absurd (cc (is, a))
      ]);
      ahead = λ m other there. elim (slice_get-set following k m (Some i) (slice_get_within following k next at)) [
        | inl w ↦
            let same : Some i ≡ other = same_Some (Some i) other (sym w.1 ∙ there) in
            let own : IsWriteFrom classes i m (Some i) = (omega arith, is ∙ ap (λ (x : ℕ). Some (class.Writes x)) (sym w.0), λ n le_n at_n. le_n) in
            subst (λ (o : Option ℕ). IsWriteFrom classes i m o) same own
        | inr w ↦ earlier classes i m other (λ e. w.0 (cc (is, e))) (was.ahead m other (sym w.1 ∙ there))
      ];
    }

pub nexts_all : (classes : List Class) (i : ℕ) (nexts following : List (Option ℕ)) → i ≤ 0 → AreNextsFrom classes i nexts following → AreNexts classes nexts
nexts_all classes i nexts following zero was = record {
  all = was.count;
  each = λ j k next has at. was.here j k next (omega arith) has at;
}
