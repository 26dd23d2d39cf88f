-- A log beside the rows of a record, call by call.
use Rattle.std.proofs.Common.{◌≡◌, ◌<◌, ◌≤◌, ◌⊎◌, ◌+◌, ℕ, List, Some, None, length, slice_get, get_or, map, take, sym, ap, ◌∙◌, subst, inl, inr, arith}
use Rattle.std.proofs.lemmas.Bool.{cases_lt}
use Rattle.std.proofs.lemmas.Option.{same_Some, slice_get_within}
use Rattle.tag.proofs.Options.{none_some}
use Rattle.tag.proofs.Lists.{Contains-slice_get, item_at, slice_get-map_at, slice_get-take}
use Rattle.tag.proofs.Below.{below_or_next}
use Rattle.tag.specs.declared.actions.Returned.{Returned}
use Rattle.tag.specs.declared.numbers.OpId.{OpId}
use Rattle.recorder.specs.Histories.{IsWellFormed}
use Rattle.recorder.specs.declared.part.Response.{Response}
use Rattle.recorder.specs.declared.row.Row.{Row}
use Rattle.recorder.specs.declared.row.Row.TheVariants.{Invoke, Respond}
use Rattle.world_steps.specs.Sound.{At, NotCompleted}
use Rattle.seats.specs.Comparisons.{AreInvocations, IsInvocationBy, ResponseMatches, ResponsesMatch}
use Rattle.recorder.specs.declared.log_entry.Entry.{Entry}
use Rattle.recorder.specs.Logs.{IsLog}

-- ---- invocations

-- an element that was read, and what a map makes of it
pub mapped_at : {X Y : Type 0} (v : X → Y) (xs : List X) (k : ℕ) (x : X) → k < length xs → x ≡ get_or xs k x → slice_get (map v xs) k ≡ Some (v x)
mapped_at v xs k x below is = slice_get-map_at v xs k x (item_at xs k x below is)

pub none_begun : (rows : List Row) (client : ℕ) (log : List Entry) → AreInvocations rows client 0 log 0
none_begun rows client log = record {
  each = λ k entry lt at. absurd (omega arith);
  all = λ p op key action lt at. absurd (omega arith);
  ordered = λ i j a b lt below x y. absurd (omega arith);
}

-- a row that begins no call of the client
pub passed_over : (rows : List Row) (client place : ℕ) (log : List Entry) (count : ℕ) (row : Row) → AreInvocations rows client place log count
    → At rows place row → (IsInvocationBy row client → ⊥) → AreInvocations rows client (place + 1) log count
passed_over rows client place log count row so_far here other = record {
  each = λ k entry lt at. let h = so_far.each k entry lt at in (let below : entry.invoked < place = h.0 in omega arith, h.1);
  all = λ p op key action lt at. elim (below_or_next p place lt) [
    | inl before ↦ so_far.all p op key action before at
    | inr is ↦ absurd (other (op, key, action, same_Some row (Invoke op client key action) (sym here ∙ subst (λ n. At rows n (Invoke op client key action)) is at)))
  ];
  ordered = so_far.ordered;
}

-- a row that begins the next entry's call
module _ (rows : List Row) (client place : ℕ) (log : List Entry) (count : ℕ) (entry : Entry) (so_far : AreInvocations rows client place log count)
    (next : slice_get log count ≡ Some entry) (invoked : entry.invoked ≡ place) (here : At rows place (Invoke entry.op client entry.key entry.action)) where
  next_at : (k : ℕ) (e : Entry) → k ≡ count → slice_get log k ≡ Some e → entry ≡ e
  next_at k e is at = same_Some entry e (sym next ∙ subst (λ n. slice_get log n ≡ Some e) is at)

  next_begun : (e : Entry) → entry ≡ e → (e.invoked < place + 1) × At rows e.invoked (Invoke e.op client e.key e.action)
  next_begun e is = subst (λ (x : Entry). (x.invoked < place + 1) × At rows x.invoked (Invoke x.op client x.key x.action)) is
      (omega (arith, invoked), subst (λ n. At rows n (Invoke entry.op client entry.key entry.action)) (sym invoked) here)

  next_behind : (i j : ℕ) (a b : Entry) → i < j → j ≡ count → slice_get log i ≡ Some a → entry ≡ b → a.invoked < b.invoked
  next_behind i j a b lt is x same =
      let early : a.invoked < place = (so_far.each i a (omega (arith, is)) x).0 in
      let late : entry.invoked ≡ b.invoked = ap (λ (e : Entry). e.invoked) same in
      omega (arith, invoked)

  pub begun_next : AreInvocations rows client (place + 1) log (count + 1)
  begun_next = record {
    each = λ k e lt at. elim (below_or_next k count lt) [
      | inl before ↦ let h = so_far.each k e before at in (let below : e.invoked < place = h.0 in omega arith, h.1)
      | inr is ↦ next_begun e (next_at k e is at)
    ];
    all = λ p op key action lt at. elim (below_or_next p place lt) [
      | inl before ↦ so_far.all p op key action before at
      | inr is ↦ (count, entry, next, invoked ∙ sym is)
    ];
    ordered = λ i j a b lt below x y. elim (below_or_next j count below) [
      | inl before ↦ so_far.ordered i j a b lt before x y
      | inr is ↦ next_behind i j a b lt is x (next_at j b is y)
    ];
  }

-- ---- responses

-- a call has no two responses
not_twice : (rows : List Row) → IsWellFormed rows → (p q : ℕ) (op : OpId) (a b : Returned) → p < q → At rows p (Respond op a) → At rows q (Respond op b) → ⊥
not_twice rows formed p q op a b lt x y =
    let may = formed q (Respond op b) y in
    may.2.unanswered (a, Contains-slice_get (take q rows) p (Respond op a) (slice_get-take rows q p lt ∙ x))

same_place : (rows : List Row) → IsWellFormed rows → (p q : ℕ) (op : OpId) (a b : Returned) → At rows p (Respond op a) → At rows q (Respond op b) → p ≡ q
same_place rows formed p q op a b x y = elim (cases_lt p q) [
  | inl lt ↦ absurd (not_twice rows formed p q op a b lt x y)
  | inr ge ↦ elim (cases_lt q p) [
    | inl lt ↦ absurd (not_twice rows formed q p op b a lt y x)
    | inr le ↦ (let one : q ≤ p = ge in let other : p ≤ q = le in omega arith)
  ]
]

same_returned : (op : OpId) (a b : Returned) → Respond op a ≡ Respond op b → a ≡ b
same_returned op a b e = cc

same_answer : (rows : List Row) (p q : ℕ) (op : OpId) (a b : Returned) → p ≡ q → At rows p (Respond op a) → At rows q (Respond op b) → a ≡ b
same_answer rows p q op a b is x y = same_returned op a b (same_Some (Respond op a) (Respond op b) (sym x ∙ subst (λ n. At rows n (Respond op b)) (sym is) y))

pub has_that : (rows : List Row) → IsWellFormed rows → (entry : Entry) (response : Response) → entry.response ≡ Some response → At rows response.place (Respond entry.op response.returned) → ResponseMatches rows entry
has_that rows formed entry response is there = λ place returned. (
  λ e. let same : response ≡ record { place = place; returned = returned } = same_Some response (record { place = place; returned = returned }) (sym is ∙ e) in
      subst (λ (r : Response). At rows r.place (Respond entry.op r.returned)) same there,
  λ at. let place_is = same_place rows formed response.place place entry.op response.returned returned there at in
      let returned_is = same_answer rows response.place place entry.op response.returned returned place_is there at in
      is ∙ ap Some (λ i. record { place = place_is i; returned = returned_is i }),
)

pub has_none : (rows : List Row) (entry : Entry) → entry.response ≡ None → NotCompleted rows entry.op → ResponseMatches rows entry
has_none rows entry is unanswered = λ place returned. (
  λ e. none_some (sym is ∙ e),
  λ at. absurd (unanswered place returned at),
)

pub responds_next : (rows : List Row) (log : List Entry) (count : ℕ) (entry : Entry) → ResponsesMatch rows log count → slice_get log count ≡ Some entry → ResponseMatches rows entry → ResponsesMatch rows log (count + 1)
responds_next rows log count entry so_far next has = λ k e lt at. elim (below_or_next k count lt) [
  | inl before ↦ so_far k e before at
  | inr is ↦ subst (ResponseMatches rows) (same_Some entry e (sym next ∙ subst (λ n. slice_get log n ≡ Some e) is at)) has
]

-- ---- both

pub log_is : (rows : List Row) (client : ℕ) (log : List Entry) → AreInvocations rows client (length rows) log (length log) → ResponsesMatch rows log (length log) → IsLog rows client log
log_is rows client log begun answered = record {
  each = λ k entry at. record {
    begun = (begun.each k entry (slice_get_within log k entry at) at).1;
    answered = answered k entry (slice_get_within log k entry at) at;
  };
  all = λ place op key action at. begun.all place op key action (slice_get_within rows place (Invoke op client key action) at) at;
  ordered = λ i j a b lt x y. begun.ordered i j a b lt (slice_get_within log j b y) x y;
}

-- so many entries are all of them
pub log_from : (rows : List Row) (client : ℕ) (log : List Entry) (count : ℕ) → length log ≡ count → AreInvocations rows client (length rows) log count → ResponsesMatch rows log count → IsLog rows client log
log_from rows client log count long begun answered = log_is rows client log
    (subst (AreInvocations rows client (length rows) log) (sym long) begun)
    (λ k entry lt at. answered k entry (subst (λ n. k < n) long lt) at)
