-- The slowest writes of values, and the writes that ended, call by call.
use Rattle.std.proofs.Common.{ℕ, ◌≡◌, ◌<◌, ◌≤◌, ◌+◌, inl, inr, max, Bool, true, false, not, true≢false, List, [], ◌∷◌, ◌++◌, Option, Some, None, IsPermutation, IsSorted, take, length, length-append, length-set, set, sym, ◌∙◌, ap, subst, refl, arith}
use Rattle.std.specs.List.{slice_get}
use Rattle.std.proofs.lemmas.Bool.{cases_lt}
use Rattle.std.proofs.lemmas.Option.{same_Some, slice_get_within, none-some}
use Rattle.tag.proofs.Lists.{get_at, push_cases, slice_get-push_left, slice_get-push_last, slice_get-set}
use Rattle.recorder.specs.declared.part.Call.{Call}
use Rattle.recorder.specs.declared.part.Response.{Response}
use Rattle.recorder.specs.Parts.{IsSequence}
use Rattle.tag.specs.declared.actions.Action.{Action}
use Rattle.tag.specs.declared.actions.Action.TheVariants.{Read, Write}
use Rattle.recorder.specs.Sound.{IsWrite}
use Rattle.recorder.specs.States.{is_write, place_in}
use Rattle.value_order.specs.declared.classes.Class.{Class}
use Rattle.value_order.specs.declared.classes.Class.TheVariants as class
use Rattle.value_order.specs.declared.keys.SortKey.{SortKey}
use Rattle.value_order.specs.Classes.{AreClasses}
use Rattle.value_order.proofs.ReadSources.{numbered}
use Rattle.value_order.specs.Ended.{WriteEnds, AreEndKeys, AreByEnd, IsLatestBefore, EndsNoLater, IsSlower, IsSlowest, AreSlowest, IsPassed, IsGreatestIndex}
use Rattle.value_order.specs.Keys.{key_cmp}
use Rattle.value_order.specs.Stales.{IsOverwriter}
use Rattle.value_order.proofs.KeyOrder.{are_sorted, rank_at_most}
use Rattle.value_order.proofs.CallKinds.{one_place, call_at, has_place}

-- ---- keys of the writes that ended

pub ends_none : (part : List Call) (keys : List SortKey) → keys ≡ [] → AreEndKeys part 0 keys
ends_none part keys none =
    let empty : (p : ℕ) (key : SortKey) → slice_get keys p ≡ Some key → ⊥ = λ p key at. (let at : slice_get [] p ≡ Some key = subst (λ (l : List SortKey). slice_get l p ≡ Some key) none at in none-some key at) in
    record {
      each = λ p key at. absurd (empty p key at);
      below = λ p key at. absurd (empty p key at);
      all = λ k end less ends. absurd (omega arith);
      rise = λ p q a b less at_p at_q. absurd (empty p a at_p);
    }

module _ (part : List Call) (n : ℕ) (call : Call) (at : slice_get part n ≡ Some call) (keys : List SortKey) (are : AreEndKeys part n keys) where
  pub ends_same : ((end : ℕ) → WriteEnds part n end → ⊥) → AreEndKeys part (n + 1) keys
  ends_same not = record {
    each = are.each;
    below = λ p key here. (let less : key.index < n = are.below p key here in omega arith);
    all = λ k end less ends. elim (cases_lt k n) [
      | inl h ↦ are.all k end h ends
      | inr h ↦ (let here : k ≡ n = omega arith in absurd (not end (subst (λ (j : ℕ). WriteEnds part j end) here ends)))
    ];
    rise = are.rise;
  }

  pub ends_more : (key : SortKey) → key.index ≡ n → WriteEnds part n key.rank → AreEndKeys part (n + 1) (keys ++ key ∷ [])
  ends_more key index ends = record {
    each = λ p k here. elim (push_cases keys key p k here) [
      | inl h ↦ are.each p k h
      | inr h ↦ subst (λ (x : SortKey). WriteEnds part x.index x.rank) h.1 (subst (λ (j : ℕ). WriteEnds part j key.rank) (sym index) ends)
    ];
    below = λ p k here. elim (push_cases keys key p k here) [
      | inl h ↦ (let less : k.index < n = are.below p k h in omega arith)
      | inr h ↦ (let same : key.index ≡ k.index = ap (λ (x : SortKey). x.index) h.1 in omega arith)
    ];
    all = λ k end less there. elim (cases_lt k n) [
      | inl h ↦ (let a = are.all k end h there in (a.0, a.1, slice_get-push_left keys key a.0 a.1 a.2, a.3))
      | inr h ↦ (length keys, key, slice_get-push_last keys key, omega arith)
    ];
    rise = λ p q a b less at_p at_q. elim (push_cases keys key q b at_q) [
      | inl h ↦ are.rise p q a b less (old p q a less at_p (let small = slice_get_within keys q b h in omega arith)) h
      | inr h ↦
          let same : key.index ≡ b.index = ap (λ (x : SortKey). x.index) h.1 in
          let low : a.index < n = are.below p a (old p q a less at_p (omega (arith, h.0))) in
          omega arith
    ];
  }
    where
      old : (p q : ℕ) (a : SortKey) → p < q → slice_get (keys ++ key ∷ []) p ≡ Some a → q ≤ length keys → slice_get keys p ≡ Some a
      old p q a less here past = elim (push_cases keys key p a here) [ inl h ↦ h | inr h ↦ absurd (omega (arith, h.0)) ]

pub by_end : (part : List Call) (n : ℕ) (made keys : List SortKey) → length part ≤ n → AreEndKeys part n made → IsPermutation made keys → IsSorted key_cmp keys → AreByEnd part keys
by_end part n made keys past are moved up =
    let sorted = are_sorted made keys are.rise moved up in
    record {
      each = λ p key at. (let k = sorted.each p key at in are.each k.0 key k.1);
      all = λ k end ends.
          let a = are.all k end (omega (arith, slice_get_within part k ends.write ends.at)) ends in
          let p = sorted.all a.0 a.1 a.2 in
          (p.0, a.1, p.1, a.3);
      rises = λ p q a b less at_p at_q. rank_at_most a b (sorted.rises p q a b less at_p at_q);
    }

-- one end
one_end : (part : List Call) (k e f : ℕ) → WriteEnds part k e → WriteEnds part k f → e ≡ f
one_end part k e f a b =
    let same = call_at part k k a.write b.write a.at b.at refl in
    let place = one_place b.write a.response b.response (ap (λ (c : Call). c.response) (sym same) ∙ a.responds) b.responds in
    omega (arith, a.ends, b.ends)

-- the first keys are of the writes that ended before the place
pub latest_before : (part : List Call) (keys : List SortKey) (count place : ℕ) (latest : Option ℕ) → AreByEnd part keys → IsPassed keys count place → IsGreatestIndex keys count latest → IsLatestBefore part place latest
latest_before part keys count place latest are passed greatest = by latest greatest
  where
    place_in : (k end : ℕ) → WriteEnds part k end → end < place → (p : ℕ) × (key : SortKey) × (p < count) × (slice_get keys p ≡ Some key) × (key.index ≡ k)
    place_in k end ends less =
        let a = are.all k end ends in
        let e = are.each a.0 a.1 a.2 in
        let same = one_end part k a.1.rank end (subst (λ (j : ℕ). WriteEnds part j a.1.rank) a.3 e) ends in
        (a.0, a.1, elim (cases_lt a.0 count) [ inl h ↦ h | inr h ↦ (let high = passed.left a.0 a.1 h a.2 in absurd (omega arith)) ], a.2, a.3)

    by : (o : Option ℕ) → IsGreatestIndex keys count o → IsLatestBefore part place o
    by None none = λ k end ends less. (let p = place_in k end ends less in none p.0 p.1 p.2 p.3)
    by (Some top) g =
        let p = g.0 in (
          (p.1.rank, subst (λ (j : ℕ). WriteEnds part j p.1.rank) p.4 (are.each p.0 p.1 p.3), passed.passed p.0 p.1 p.2 p.3),
          λ k end ends less. (let q = place_in k end ends less in let low = g.1 q.0 q.1 q.2 q.3 in omega (arith, q.4)),
        )

-- one key more
pub greatest_first : (keys : List SortKey) (count : ℕ) (key : SortKey) → slice_get keys count ≡ Some key → IsGreatestIndex keys count None → IsGreatestIndex keys (count + 1) (Some key.index)
greatest_first keys count key at none = (
  (count, key, omega arith, at, refl),
  λ p other less here. elim (cases_lt p count) [
    | inl h ↦ absurd (none p other h here)
    | inr h ↦
        let place : p ≡ count = omega arith in
        let same : other.index ≡ key.index = ap (λ (k : SortKey). k.index) (same_Some other key (sym here ∙ (ap (slice_get keys) place ∙ at))) in
        omega arith
  ],
)

pub greatest_more : (keys : List SortKey) (count top new : ℕ) (key : SortKey) → slice_get keys count ≡ Some key → new ≡ max top key.index → IsGreatestIndex keys count (Some top) → IsGreatestIndex keys (count + 1) (Some new)
greatest_more keys count top new key at is g = (
  elim (cases_lt top key.index) [
    | inl h ↦ (count, key, omega arith, at, omega arith)
    | inr h ↦ (g.0.0, g.0.1, omega (arith, g.0.2), g.0.3, omega (arith, g.0.4))
  ],
  λ p other less here. elim (cases_lt p count) [
    | inl h ↦ (let low = g.1 p other h here in omega arith)
    | inr h ↦
        let place : p ≡ count = omega arith in
        let same : other.index ≡ key.index = ap (λ (k : SortKey). k.index) (same_Some other key (sym here ∙ (ap (slice_get keys) place ∙ at))) in
        omega arith
  ],
)

-- ---- the slowest writes

pub ends_itself : (part : List Call) (i : ℕ) → EndsNoLater part i i
ends_itself part i a b response at_a at_b responds =
    (response, ap (λ (c : Call). c.response) (call_at part i i a b at_a at_b refl) ∙ responds, omega arith)

pub ends_pending : (part : List Call) (j k : ℕ) (call : Call) → slice_get part k ≡ Some call → call.response ≡ None → EndsNoLater part j k
ends_pending part j k call at pending a b response at_a at_b responds =
    absurd (none-some response (sym pending ∙ (ap (λ (c : Call). c.response) (call_at part k k call b at at_b refl) ∙ responds)))

pub ends_by : (part : List Call) (j k : ℕ) (a b : Call) (p q : Response) → slice_get part j ≡ Some a → slice_get part k ≡ Some b → a.response ≡ Some p → b.response ≡ Some q → p.place ≤ q.place → EndsNoLater part j k
ends_by part j k a b p q at_j at_k res_a res_b le x y response at_x at_y responds =
    let same_x = call_at part j j a x at_j at_x refl in
    let same_y = call_at part k k b y at_k at_y refl in
    let place = one_place y q response (ap (λ (c : Call). c.response) (sym same_y) ∙ res_b) responds in
    (p, ap (λ (c : Call). c.response) (sym same_x) ∙ res_a, omega arith)

ends_through : (part : List Call) (j slow later : ℕ) → slow < length part → EndsNoLater part j slow → EndsNoLater part slow later → EndsNoLater part j later
ends_through part j slow later within p q a b response at_a at_b responds =
    let s = get_at part slow within in
    let m = q s.0 b response s.1 at_b responds in
    let n = p a s.0 m.0 at_a s.1 m.1 in
    (n.0, n.1, omega (arith, n.2, m.2))

module _ (part : List Call) (classes : List Class) (i : ℕ) where
  slowest_same : (first : ℕ) (slow : Option ℕ) → (slice_get classes i ≡ Some (class.Writes first) → ⊥) → IsSlowest part classes first i slow → IsSlowest part classes first (i + 1) slow
  slowest_same first None not h = λ j less at. elim (cases_lt j i) [
    | inl l ↦ h j l at
    | inr l ↦ (let here : j ≡ i = omega arith in not (ap (slice_get classes) (sym here) ∙ at))
  ]
  slowest_same first (Some slow) not h = (
    omega (arith, h.0),
    h.1,
    λ j less at. elim (cases_lt j i) [
      | inl l ↦ h.2 j l at
      | inr l ↦ (let here : j ≡ i = omega arith in absurd (not (ap (slice_get classes) (sym here) ∙ at)))
    ],
  )

  slowest_by : (first later : ℕ) (slow : Option ℕ) → i < length part → slice_get classes i ≡ Some (class.Writes first) → IsSlower part slow i later → IsSlowest part classes first i slow → IsSlowest part classes first (i + 1) (Some later)
  slowest_by first later None within is s h = (
    omega (arith, own),
    ap (slice_get classes) own ∙ is,
    λ j less at. elim (cases_lt j i) [
      | inl l ↦ absurd (h j l at)
      | inr l ↦ (let here : i ≡ j = omega arith in subst (λ (x : ℕ). EndsNoLater part x later) here s.new)
    ],
  )
    where
      own : later ≡ i
      own = elim s.is [ inl e ↦ e | inr e ↦ absurd (none-some later e) ]
  slowest_by first later (Some slow) within is s h = (
    elim s.is [ inl e ↦ omega arith | inr e ↦ (let same : slow ≡ later = same_Some slow later e in omega (arith, h.0)) ],
    elim s.is [ inl e ↦ ap (slice_get classes) e ∙ is | inr e ↦ ap (slice_get classes) (sym (same_Some slow later e)) ∙ h.1 ],
    λ j less at. elim (cases_lt j i) [
      | inl l ↦ ends_through part j slow later (omega (arith, h.0)) (h.2 j l at) (s.old slow refl)
      | inr l ↦ (let here : i ≡ j = omega arith in subst (λ (x : ℕ). EndsNoLater part x later) here s.new)
    ],
  )

  module _ (slowest : List (Option ℕ)) (was : AreSlowest part classes i slowest) where
    pub slowest_kept : ((first : ℕ) → slice_get classes i ≡ Some (class.Writes first) → ⊥) → AreSlowest part classes (i + 1) slowest
    slowest_kept not = record { all = was.all; each = λ first slow at. slowest_same first slow (not first) (was.each first slow at) }

    pub slowest_more : (first later : ℕ) (slow : Option ℕ) → i < length part → slice_get classes i ≡ Some (class.Writes first) → slice_get slowest first ≡ Some slow → IsSlower part slow i later → AreSlowest part classes (i + 1) (set slowest first (Some later))
    slowest_more first later slow within is at s = record {
      all = length-set slowest first (Some later) ∙ was.all;
      each = λ k other there. elim (slice_get-set slowest first k (Some later) (slice_get_within slowest first slow at)) [
        | inl w ↦
            let same : Some later ≡ other = same_Some (Some later) other (sym w.1 ∙ there) in
            let new = slowest_by first later slow within is s (was.each first slow at) in
            subst (λ (x : ℕ). IsSlowest part classes x (i + 1) other) (sym w.0) (subst (λ (o : Option ℕ). IsSlowest part classes first (i + 1) o) same new)
        | inr w ↦ slowest_same k other (λ e. w.0 (cc (is, e))) (was.each k other (sym w.1 ∙ there))
      ];
    }

pub slowest_none : (part : List Call) (classes : List Class) (slowest : List (Option ℕ)) → length slowest ≡ length part → ((k : ℕ) (slow : Option ℕ) → slice_get slowest k ≡ Some slow → slow ≡ None) → AreSlowest part classes 0 slowest
slowest_none part classes slowest count empty = record {
  all = count;
  each = λ first slow at. subst (λ (o : Option ℕ). IsSlowest part classes first 0 o) (sym (empty first slow at)) (λ j less. absurd (omega arith));
}

-- ---- what a state says of a write's end

no_end : (part : List Call) (i : ℕ) (call : Call) → slice_get part i ≡ Some call → (end : ℕ) → (s : WriteEnds part i end) → s.write ≡ call
no_end part i call at end s = call_at part i i s.write call s.at at refl

pub no_end_read : (part : List Call) (i : ℕ) (call : Call) (state : Bool) → slice_get part i ≡ Some call → state ≡ is_write call.action → state ≡ false → (end : ℕ) → WriteEnds part i end → ⊥
no_end_read part i call state at kind reads end s =
    let wrote : is_write call.action ≡ true = ap (λ (a : Action). is_write a) (ap (λ (c : Call). c.action) (sym (no_end part i call at end s)) ∙ s.writes.1) in
    true≢false (sym wrote ∙ (sym kind ∙ reads))

pub no_end_pending : (part : List Call) (i : ℕ) (call : Call) (state : Option ℕ) → slice_get part i ≡ Some call → state ≡ place_in call.response → state ≡ None → (end : ℕ) → WriteEnds part i end → ⊥
no_end_pending part i call state at of none end s =
    none-some s.response.place (sym none ∙ (of ∙ ap place_in (ap (λ (c : Call). c.response) (sym (no_end part i call at end s)) ∙ s.responds)))

pub writes_by_state : (call : Call) (state : Bool) → state ≡ is_write call.action → state ≡ true → IsWrite call
writes_by_state call state kind writes = by call.action refl
  where
    by : (a : Action) → call.action ≡ a → IsWrite call
    by Read e = absurd (true≢false (sym writes ∙ (kind ∙ ap (λ (x : Action). is_write x) e)))
    by (Write value) e = (value, e)

pub end_here : (part : List Call) (i : ℕ) (call : Call) (state : Bool) (place : Option ℕ) (end : ℕ) → slice_get part i ≡ Some call → state ≡ is_write call.action → state ≡ true → place ≡ place_in call.response → place ≡ Some end → WriteEnds part i end
end_here part i call state place end at kind writes of is =
    let r = has_place call place end of is in
    record { write = call; at = at; writes = writes_by_state call state kind writes; response = r.0; responds = r.1; ends = r.2 }

-- ---- keys that were passed

pub passed_more : (keys : List SortKey) (count place : ℕ) (key : SortKey) → slice_get keys count ≡ Some key → key.rank < place → ((p : ℕ) (other : SortKey) → p < count → slice_get keys p ≡ Some other → other.rank < place) → (p : ℕ) (other : SortKey) → p < count + 1 → slice_get keys p ≡ Some other → other.rank < place
passed_more keys count place key at low was p other less here = elim (cases_lt p count) [
  | inl h ↦ was p other h here
  | inr h ↦
      let same : p ≡ count = omega arith in
      let rank : other.rank ≡ key.rank = ap (λ (k : SortKey). k.rank) (same_Some other key (sym here ∙ (ap (slice_get keys) same ∙ at))) in
      omega arith
]

pub passed_left : (keys : List SortKey) (count place : ℕ) (key : SortKey) → slice_get keys count ≡ Some key → place ≤ key.rank → ((p q : ℕ) (a b : SortKey) → p < q → slice_get keys p ≡ Some a → slice_get keys q ≡ Some b → a.rank ≤ b.rank) → ((p : ℕ) (other : SortKey) → p < count → slice_get keys p ≡ Some other → other.rank < place) → IsPassed keys count place
passed_left keys count place key at high rises was = record {
  passed = was;
  left = λ p other le here. elim (cases_lt count p) [
    | inl h ↦ (let up = rises count p key other h at here in omega arith)
    | inr h ↦
        let same : p ≡ count = omega arith in
        let rank : other.rank ≡ key.rank = ap (λ (k : SortKey). k.rank) (same_Some other key (sym here ∙ (ap (slice_get keys) same ∙ at))) in
        omega arith
  ];
}

pub greatest_next : (keys : List SortKey) (count new : ℕ) (latest : Option ℕ) (key : SortKey) → slice_get keys count ≡ Some key → (latest ≡ None → new ≡ key.index) → ((other : ℕ) → latest ≡ Some other → new ≡ max other key.index) → IsGreatestIndex keys count latest → IsGreatestIndex keys (count + 1) (Some new)
greatest_next keys count new None key at first later g = subst (λ (n : ℕ). IsGreatestIndex keys (count + 1) (Some n)) (sym (first refl)) (greatest_first keys count key at g)
greatest_next keys count new (Some top) key at first later g = greatest_more keys count top new key at (later top refl) g

pub not_true : (b : Bool) → not b ≡ true → b ≡ false
not_true true e = absurd (true≢false (sym e))
not_true false e = refl

pub not_false : (b : Bool) → not b ≡ false → b ≡ true
not_false true e = refl
not_false false e = absurd (true≢false e)

-- ---- call by call

-- the first keys end before each call from index i on began
abbrev pub ArePassed : List Call → List SortKey → ℕ → ℕ → Type 0
ArePassed part keys count i = (p j : ℕ) (key : SortKey) (call : Call) → p < count → slice_get keys p ≡ Some key → i ≤ j → slice_get part j ≡ Some call → key.rank < call.invoked

pub passed_here : (part : List Call) (keys : List SortKey) (count i : ℕ) (call : Call) (place : ℕ) → slice_get part i ≡ Some call → place ≡ call.invoked → ArePassed part keys count i → (p : ℕ) (key : SortKey) → p < count → slice_get keys p ≡ Some key → key.rank < place
passed_here part keys count i call place at same was p key less here = (let low = was p i key call less here (omega arith) at in omega arith)

pub passed_next : (part : List Call) → IsSequence part → (keys : List SortKey) (count i : ℕ) (call : Call) (place : ℕ) → slice_get part i ≡ Some call → place ≡ call.invoked → IsPassed keys count place → ArePassed part keys count (i + 1)
passed_next part sequence keys count i call place at same passed p j key other less here le at_j =
    let low = passed.passed p key less here in
    let up = sequence.places i j call other (omega arith) at at_j in
    omega arith

-- what was found for the calls below index i
pub record AreFound (part : List Call) (i : ℕ) (found : List (Option ℕ)) : Type 0 where
  pub count : length found ≡ i
  pub each : (k : ℕ) (call : Call) (between : Option ℕ) → slice_get part k ≡ Some call → slice_get found k ≡ Some between → IsOverwriter part call between

pub found_none : (part : List Call) (found : List (Option ℕ)) → found ≡ [] → AreFound part 0 found
found_none part found none = record {
  count = ap (λ (l : List (Option ℕ)). length l) none;
  each = λ k call between at here. absurd (let here : slice_get [] k ≡ Some between = subst (λ (l : List (Option ℕ)). slice_get l k ≡ Some between) none here in none-some between here);
}

pub found_more : (part : List Call) (i : ℕ) (found : List (Option ℕ)) (between : Option ℕ) → (call : Call) × (slice_get part i ≡ Some call) × IsOverwriter part call between → AreFound part i found → AreFound part (i + 1) (found ++ between ∷ [])
found_more part i found between here are = record {
  count = simp length-append (omega (arith, are.count));
  each = λ k call other at_k there. elim (push_cases found between k other there) [
    | inl h ↦ are.each k call other at_k h
    | inr h ↦
        let place : k ≡ i = omega (arith, h.0, are.count) in
        let same : here.0 ≡ call = same_Some here.0 call (sym here.1 ∙ (ap (slice_get part) (sym place) ∙ at_k)) in
        subst (λ (o : Option ℕ). IsOverwriter part call o) h.1 (subst (λ (c : Call). IsOverwriter part c between) same here.2)
  ];
}

-- a list that is put back
take_whole : {X : Type 0} (xs ys : List X) → take (length xs) (xs ++ ys) ≡ xs
take_whole [] ys = take-zero ys
  where
    take-zero : {X : Type 0} (ys : List X) → take 0 ys ≡ []
    take-zero [] = refl
    take-zero (y ∷ ys) = refl
take_whole (x ∷ xs) ys = ap (λ l. x ∷ l) (take_whole xs ys)

pub take_back : {X : Type 0} (n : ℕ) (xs ys : List X) → length xs ≡ n → take n (xs ++ ys) ≡ xs
take_back {X = X} n xs ys same = subst (λ (k : ℕ). take k (xs ++ ys) ≡ xs) same (take_whole xs ys)

-- the value of a write is named by an index that the slowest writes have
pub value_within : (part : List Call) (classes : List Class) → AreClasses part classes → (slowest : List (Option ℕ)) → length slowest ≡ length part → (i first : ℕ) → slice_get classes i ≡ Some (class.Writes first) → first < length slowest
value_within part classes are slowest all i first is = (let small = numbered part classes are i first (inl is) in omega (arith, are.all))
