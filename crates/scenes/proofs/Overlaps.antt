-- How many calls are under way at a place: those that have begun, but for those that are answered.
use Rattle.std.proofs.Common.{ℕ, zero, suc, ◌≡◌, ◌<◌, ◌≤◌, ◌+◌, ◌-◌, ◌⊎◌, ◌&&◌, max, inl, inr, List, [], ◌∷◌, ◌++◌, Option, Some, None}
use Rattle.std.proofs.Common.{Bool, true, false, cond, length, take, get_or, refl, sym, ◌∙◌, ap, subst, arith, add-one, take_all}
use Rattle.std.specs.List.{slice_get, count_by}
use Rattle.std.specs.List.Sorted.{IsPartitionPoint}
use Rattle.std.proofs.Common.{nat_le, nat_lt, option_map, option_to_list}
use Rattle.std.proofs.lemmas.Bool.{cases_lt}
use Rattle.std.proofs.lemmas.Bool.Decides.{nat_tests}
use Rattle.std.proofs.lemmas.List.Sums.{sum_by-append, count_by_more_yes, count_by_more_no}
use Rattle.std.proofs.lemmas.Option.{same_Some, slice_get_within}
use Rattle.tag.proofs.Lists.{take_push, Contains-slice_get}
use Rattle.tag.proofs.Options.{none_some}
use Rattle.recorder.specs.declared.part.Call.{Call}
use Rattle.recorder.specs.declared.part.Response.{Response}
use Rattle.recorder.specs.Parts.{IsSequence}
use Rattle.scenes.specs.Overlaps.{ends_after, is_answered, under_way, answered, up_to, AreEnds, IsMostAtOnce}

-- ---- those that have begun

-- how many of the calls begin at the place or before it
abbrev pub begun : List Call → ℕ → ℕ
begun [] place = 0
begun (call ∷ calls) place = cond (nat_le call.invoked place) 1 0 + begun calls place

abbrev Rise : List Call → Type 0
Rise calls = (i j : ℕ) (a b : Call) → i < j → slice_get calls i ≡ Some a → slice_get calls j ≡ Some b → a.invoked < b.invoked

abbrev one : Bool → ℕ
one b = cond b 1 0

one_yes : (a b : ℕ) → a ≤ b → one (nat_le a b) ≡ 1
one_yes a b h = grind (arith, nat_tests)

one_no : (a b : ℕ) → b < a → one (nat_le a b) ≡ 0
one_no a b h = grind (arith, nat_tests)

begun_none : (calls : List Call) (place : ℕ) → ((k : ℕ) (x : Call) → slice_get calls k ≡ Some x → place < x.invoked) → begun calls place ≡ 0
begun_none [] place late = refl
begun_none (call ∷ calls) place late =
    let first = one_no call.invoked place (late 0 call refl) in
    let rest = begun_none calls place (λ k x at. late (suc k) x at) in
    omega (arith, first, rest)

-- the calls after the first begin after it
from_first : (call : Call) (calls : List Call) → Rise (call ∷ calls) → (k : ℕ) (x : Call) → slice_get (call ∷ calls) k ≡ Some x
    → call.invoked ≤ x.invoked
from_first call calls rise zero x at = let same : call.invoked ≡ x.invoked = ap (λ (c : Call). c.invoked) (same_Some call x at) in omega
    arith
from_first call calls rise (suc k) x at = let up : call.invoked < x.invoked = rise 0 (suc k) call x (omega arith) refl at in omega arith

-- at the place of a call's invocation the call and those before it have begun
pub begun_with : (calls : List Call) (k : ℕ) (x : Call) → Rise calls → slice_get calls k ≡ Some x → begun calls x.invoked ≡ k + 1
begun_with [] k x rise at = none_some at
begun_with (call ∷ calls) zero x rise at =
    let same : call.invoked ≡ x.invoked = ap (λ (c : Call). c.invoked) (same_Some call x at) in
    let first = one_yes call.invoked x.invoked (omega arith) in
    let rest = begun_none calls x.invoked
    (λ j y there. let up : call.invoked < y.invoked = rise 0 (suc j) call y (omega arith) refl there in omega arith) in
    omega (arith, first, rest)
begun_with (call ∷ calls) (suc k) x rise at =
    let up : call.invoked < x.invoked = rise 0 (suc k) call x (omega arith) refl at in
    let first = one_yes call.invoked x.invoked (omega arith) in
    let rest = begun_with calls k x (λ i j a b less at_i at_j. rise (suc i) (suc j) a b (omega arith) at_i at_j) at in
    omega (arith, first, rest)

-- at any place no call has begun, or the calls up to one of them
abbrev BegunUpTo : List Call → ℕ → Type 0
BegunUpTo calls place = (k : ℕ) × (x : Call) × (slice_get calls k ≡ Some x) × (x.invoked ≤ place) × (begun calls place ≡ k + 1)

pub begun_at : (calls : List Call) (place : ℕ) → Rise calls → (begun calls place ≡ 0) ⊎ BegunUpTo calls place
begun_at [] place rise = inl refl
begun_at (call ∷ calls) place rise =
    elim (cases_lt place call.invoked) [
      | inl early ↦ inl
          (begun_none (call ∷ calls) place
          (λ k x at. let low : call.invoked ≤ x.invoked = from_first call calls rise k x at in omega arith))
      | inr late ↦
          let first = one_yes call.invoked place late in
          elim (begun_at calls place (λ i j a b less at_i at_j. rise (suc i) (suc j) a b (omega arith) at_i at_j)) [
            | inl none ↦ inr (0, call, refl, late, omega (arith, first, none))
            | inr w ↦ inr (suc w.0, w.1, w.2, w.3, omega (arith, first, w.4))
          ]
    ]

-- ---- those that are answered

one_of : (b : Bool) → cond (b && true) 1 0 + 0 ≡ cond b 1 0
one_of true = refl
one_of false = refl

one_answered : (begins place end : ℕ) → begins < end
    → cond (nat_le begins place && nat_lt place end) 1 0 + cond (nat_le end place) 1 0 ≡ cond (nat_le begins place) 1 0
one_answered begins place end h = grind (arith, nat_tests)

one_call : (begins place : ℕ) (response : Option Response) → ((r : Response) → response ≡ Some r → begins < r.place)
    → cond (nat_le begins place && ends_after response place) 1 0 + cond (is_answered response place) 1 0 ≡ cond (nat_le begins place) 1 0
one_call begins place None later = one_of (nat_le begins place)
one_call begins place (Some r) later = one_answered begins place r.place (later r refl)

pub balance : (calls : List Call) (place : ℕ)
    → ((k : ℕ) (x : Call) (r : Response) → slice_get calls k ≡ Some x → x.response ≡ Some r → x.invoked < r.place)
    → under_way calls place + answered calls place ≡ begun calls place
balance [] place later = refl
balance (call ∷ calls) place later =
    let first = one_call call.invoked place call.response (λ r is. later 0 call r refl is) in
    let rest = balance calls place (λ k x r at is. later (suc k) x r at is) in
    omega (arith, first, rest)

one_higher : (end low high : ℕ) → low ≤ high → cond (nat_le end low) 1 0 ≤ cond (nat_le end high) 1 0
one_higher end low high le = grind (arith, nat_tests)

one_up : (response : Option Response) (low high : ℕ) → low ≤ high
    → cond (is_answered response low) 1 0 ≤ cond (is_answered response high) 1 0
one_up None low high le = omega arith
one_up (Some r) low high le = one_higher r.place low high le

pub answered_up : (calls : List Call) (low high : ℕ) → low ≤ high → answered calls low ≤ answered calls high
answered_up [] low high le = omega arith
answered_up (call ∷ calls) low high le =
    let first = one_up call.response low high le in
    let rest = answered_up calls low high le in
    omega (arith, first, rest)

answered_push : (calls : List Call) (call : Call) (place : ℕ)
    → answered (calls ++ call ∷ []) place ≡ answered calls place + cond (is_answered call.response place) 1 0
answered_push [] call place = omega arith
answered_push (x ∷ calls) call place = let rest = answered_push calls call place in omega (arith, rest)

up_to_one : (response : Option Response) (place : ℕ)
    → up_to (option_to_list (option_map (λ (r : Response). r.place) response)) place ≡ cond (is_answered response place) 1 0
up_to_one None place = refl
up_to_one (Some r) place = omega arith

-- one call's response more
pub ends_more : (calls : List Call) (i : ℕ) (call : Call) (ends now : List ℕ) → slice_get calls i ≡ Some call
    → now ≡ ends ++ option_to_list (option_map (λ (r : Response). r.place) call.response) → AreEnds (take i calls) ends
    → AreEnds (take (i + 1) calls) now
ends_more calls i call ends now at more before = λ place.
    let front : take (i + 1) calls ≡ take i calls ++ call ∷ [] = rw add-one (take_push calls i call at) in
    let new = answered_push (take i calls) call place in
    let sum = sum_by-append (λ (end : ℕ). cond (nat_le end place) 1 0) ends
    (option_to_list (option_map (λ (r : Response). r.place) call.response)) in
    let one = up_to_one call.response place in
    let left : up_to now place ≡ up_to ends place + cond (is_answered call.response place) 1 0 = ap (λ (l : List ℕ). up_to l place) more
    ∙ (sum ∙ ap (λ (n : ℕ). up_to ends place + n) one) in
    left ∙
    (ap (λ (n : ℕ). n + cond (is_answered call.response place) 1 0) (before place) ∙
    (sym new ∙ ap (λ (l : List Call). answered l place) (sym front)))

-- ---- a sorted list's front

count_front : (p : ℕ → Bool) (xs : List ℕ) (i : ℕ) → i ≤ length xs → ((k : ℕ) → k < i → p (get_or xs k 0) ≡ true)
    → count_by p (take i xs) ≡ i
count_front p xs zero within passes = refl
count_front p xs (suc i) within passes =
    let rest = count_front p xs i (omega arith) (λ k less. passes k (omega arith)) in
    let more = count_by_more_yes p xs i 0 (omega arith) (passes i (omega arith)) in
    let next : i + 1 ≡ suc i = omega arith in
    subst (λ (n : ℕ). count_by p (take n xs) ≡ n) next (more ∙ ap (λ (n : ℕ). n + 1) rest)

count_rest : (p : ℕ → Bool) (xs : List ℕ) (i m : ℕ) → i + m ≤ length xs → ((k : ℕ) → i ≤ k → k < length xs → p (get_or xs k 0) ≡ false)
    → count_by p (take (i + m) xs) ≡ count_by p (take i xs)
count_rest p xs i zero within fails = let same : i + 0 ≡ i = omega arith in ap (λ (n : ℕ). count_by p (take n xs)) same
count_rest p xs i (suc m) within fails =
    let rest = count_rest p xs i m (omega arith) fails in
    let more = count_by_more_no p xs (i + m) 0 (omega arith) (fails (i + m) (omega arith) (omega arith)) in
    let same : i + suc m ≡ (i + m) + 1 = omega arith in
    ap (λ (n : ℕ). count_by p (take n xs)) same ∙ (more ∙ rest)

pub count_partition : (p : ℕ → Bool) (xs : List ℕ) (i : ℕ) → i ≤ length xs → IsPartitionPoint (λ y. p y ≡ true) (λ y. p y ≡ false) xs i
    → i ≡ count_by p xs
count_partition p xs i within point =
    let front = count_front p xs i within (λ k less. point.0 k 0 (omega arith) less) in
    let rest = count_rest p xs i (length xs - i) (omega arith) (λ k le less. point.1 k 0 le less) in
    let whole : take (i + (length xs - i)) xs ≡ xs = take_all (i + (length xs - i)) xs (omega arith) in
    sym front ∙ (sym rest ∙ ap (λ (l : List ℕ). count_by p l) whole)

-- ---- the greatest so far

pub record SoFar (calls : List Call) (k most : ℕ) : Type 0 where
  pub reached : ((place : ℕ) × (under_way calls place ≡ most)) ⊎ ((k ≡ 0) × (most ≡ 0))
  pub each : (j : ℕ) (x : Call) → j < k → slice_get calls j ≡ Some x → under_way calls x.invoked ≤ most

module _ (calls : List Call) (sequence : IsSequence calls) where
  later : (k : ℕ) (x : Call) (r : Response) → slice_get calls k ≡ Some x → x.response ≡ Some r → x.invoked < r.place
  later k x r at is = sequence.responses x r (Contains-slice_get calls k x at) is

  -- how many are under way where a call begins
  pub under_way_with : (k : ℕ) (x : Call) → slice_get calls k ≡ Some x → under_way calls x.invoked + answered calls x.invoked ≡ k + 1
  under_way_with k x at = balance calls x.invoked later ∙ begun_with calls k x sequence.places at

  pub so_far_more : (k most now gone : ℕ) (x : Call) → slice_get calls k ≡ Some x → gone ≡ answered calls x.invoked
      → now ≡ max most (k + 1 - gone)
      → SoFar calls k most → SoFar calls (k + 1) now
  so_far_more k most now gone x at is more before =
      let here = under_way_with k x at in
      let value : under_way calls x.invoked ≡ k + 1 - gone = omega (arith, here, is) in
      record {
        reached = elim (cases_lt most (k + 1 - gone)) [
          | inl h ↦ inl (x.invoked, omega (arith, value, more))
          | inr h ↦ elim before.reached [
            | inl w ↦ inl (w.0, omega (arith, w.1, more))
            | inr w ↦ inl (x.invoked, omega (arith, value, more, w.1))
          ]
        ];
        each = λ j y less there. elim (cases_lt j k) [
          | inl h ↦ let old = before.each j y h there in omega (arith, old, more)
          | inr h ↦
              let same : j ≡ k = omega arith in
              let call : x ≡ y = same_Some x y (sym at ∙ subst (λ (n : ℕ). slice_get calls n ≡ Some y) same there) in
              subst (λ (c : Call). under_way calls c.invoked ≤ now) call (omega (arith, value, more))
        ];
      }

  pub most_at_end : (k most : ℕ) → length calls ≤ k → SoFar calls k most → IsMostAtOnce calls most
  most_at_end k most past so_far = record {
    reached = elim so_far.reached [
      | inl w ↦ w
      | inr w ↦ (0, none_there calls 0 (omega (arith, w.0)) ∙ sym w.1)
    ];
    greatest = λ place.
        let all = balance calls place later in
        elim (begun_at calls place sequence.places) [
          | inl none ↦ omega (arith, all, none)
          | inr w ↦
              let up = answered_up calls w.1.invoked place w.3 in
              let here = under_way_with w.0 w.1 w.2 in
              let old = so_far.each w.0 w.1 (omega (arith, slice_get_within calls w.0 w.1 w.2)) w.2 in
              omega (arith, all, w.4, up, here, old)
        ];
  }
    where
      none_there : (calls : List Call) (place : ℕ) → length calls ≤ 0 → under_way calls place ≡ 0
      none_there [] place h = refl
      none_there (x ∷ calls) place h = absurd (omega arith)
