-- What stands at a place of an order.
use Rattle.std.proofs.Common.{Bool, true, false, [], ◌∷◌, ◌++◌, max, take, set, length-take, length-append, ℕ, ◌≡◌, ◌<◌, ◌≤◌, ◌+◌, List, Some, None, Option, length, sym, ◌∙◌, ap, arith, refl}
use Rattle.std.specs.List.{slice_get, Contains}
use Rattle.std.proofs.lemmas.Option.{slice_get_within, same_Some}
use Rattle.std.proofs.lemmas.Bool.{cases_lt}
use Rattle.std.proofs.Common.{inl, inr, subst}
use Rattle.tag.proofs.Lists.{Contains-slice_get, get_at, place_of, slice_get-take, push_cases, slice_get-set}
use Rattle.tag.specs.declared.actions.Action.TheVariants.{Read, Write}
use Rattle.tag.specs.declared.actions.Returned.TheVariants.{Value}
use Rattle.recorder.specs.declared.part.Response.{Response}
use Rattle.std.proofs.Common.{below_more}
use Rattle.tag.specs.declared.numbers.OpId.{OpId}
use Rattle.recorder.specs.declared.part.Call.{Call}
use Rattle.recorder.proofs.Sequences.{same_at, same_index}
use Rattle.recorder.specs.Parts.{IsSequence, IsPending}
use Rattle.recorder.specs.States.{place_in}
use Rattle.recorder.specs.Orders.{StandsAt, WritesAt, NoWriteFrom, IsLastWritten, AnswersLast, IsLegal, IsComplete, IsOrder}
use Rattle.certificate_check.specs.Places.{Locates, HasOpAt, Marks}
use Rattle.certificate_check.specs.Verdicts.{IsPendingRead, IsWrongAnswer, IsLeast, IsUnknown, IsRepeated, BreaksPrecedence, BreaksPrecedenceAt, HasNone, IsMissing}

-- a call that stands at a place stands below the order's length
pub place_within : (part : List Call) (order : List OpId) (i : ℕ) (a : Call) → StandsAt part order i a → i < length order
place_within part order i a h = slice_get_within order i a.op h.listed

-- a response that stands at a place
pub response_at : (response : Option Response) (place : ℕ) → place_in response ≡ Some place → (r : Response) × (response ≡ Some r) × (r.place ≡ place)
response_at None place is = absurd cc
response_at (Some r) place is = (r, refl, same_Some r.place place is)

-- no pending read up to a place that has none
pub pending_more : (part : List Call) (order : List OpId) → IsSequence part → (i : ℕ) (call : Call) → StandsAt part order i call → (IsPending call × (call.action ≡ Read) → ⊥) → ((m : ℕ) → m < i → IsPendingRead part order m → ⊥) → (m : ℕ) → m < i + 1 → IsPendingRead part order m → ⊥
pending_more part order numbered i call stands not_here before =
    below_more (λ m. IsPendingRead part order m → ⊥) i before (λ found.
    let same : found.0 ≡ call = same_at part order numbered i found.0 call found.1 stands in
    not_here (subst (λ (x : Call). IsPending x × (x.action ≡ Read)) same (found.2, found.3)))

-- the call at place m, if it is a read with a response, answers the last value
abbrev pub IsRightAt : List Call → List OpId → ℕ → Type 0
IsRightAt part order m = (call : Call) (response : Response) → StandsAt part order m call → call.action ≡ Read → call.response ≡ Some response → AnswersLast part order m response

-- right answers up to a place whose read, if it is one, answers right
pub legal_more : (part : List Call) (order : List OpId) → IsSequence part → (i : ℕ) (call : Call) (v : Option (List ℕ)) → StandsAt part order i call → IsLastWritten part order i v → ((response : Response) → call.action ≡ Read → call.response ≡ Some response → response.returned ≡ Value v) → ((m : ℕ) → m < i → IsRightAt part order m) → (m : ℕ) → m < i + 1 → IsRightAt part order m
legal_more part order numbered i call v stands last right before =
    below_more (IsRightAt part order) i before (λ other response there reads answered.
    let same : other ≡ call = same_at part order numbered i other call there stands in
    let read : call.action ≡ Read = cc (reads, same) in
    let has : call.response ≡ Some response = cc (answered, same) in
    (v, right response read has, last))

-- a place with a write: its value is the last one after it
pub last_written : (part : List Call) (order : List OpId) (i : ℕ) (call : Call) (value : List ℕ) → StandsAt part order i call → call.action ≡ Write value → IsLastWritten part order (i + 1) (Some value)
last_written part order i call value stands wrote =
    (i, omega arith, (call, stands, wrote), λ k v low high w. omega arith)

-- a place without a write keeps the last one
pub last_kept : (part : List Call) (order : List OpId) → IsSequence part → (i : ℕ) (call : Call) (v : Option (List ℕ)) → StandsAt part order i call → call.action ≡ Read → IsLastWritten part order i v → IsLastWritten part order (i + 1) v
last_kept part order numbered i call v stands read last =
    let none_here : (value : List ℕ) → WritesAt part order i value → ⊥ = λ value w.
    let same : w.0 ≡ call = same_at part order numbered i w.0 call w.1 stands in
    cc (w.2, same, read) in
    let more : (low : ℕ) → NoWriteFrom part order low i → NoWriteFrom part order low (i + 1) = λ low none k value above below wrote.
    elim (cases_lt k i) [
      | inl h ↦ none k value above h wrote
      | inr h ↦ let here : k ≡ i = omega arith in none_here value (subst (λ (x : ℕ). WritesAt part order x value) here wrote)
    ] in
    kept_by_cases part order i v more last
  where
    kept_by_cases : (part : List Call) (order : List OpId) (i : ℕ) (v : Option (List ℕ)) → ((low : ℕ) → NoWriteFrom part order low i → NoWriteFrom part order low (i + 1)) → IsLastWritten part order i v → IsLastWritten part order (i + 1) v
    kept_by_cases part order i None more last = more 0 last
    kept_by_cases part order i (Some value) more last = (last.0, omega (arith, last.1), last.2, more (last.0 + 1) last.3)

-- two values that were the last ones are one
pub same_last : (part : List Call) (order : List OpId) → IsSequence part → (i : ℕ) (v w : Option (List ℕ)) → IsLastWritten part order i v → IsLastWritten part order i w → v ≡ w
same_last part order numbered i None None a b = refl
same_last part order numbered i None (Some y) a b = absurd (a b.0 y (omega arith) b.1 b.2)
same_last part order numbered i (Some x) None a b = absurd (b a.0 x (omega arith) a.1 a.2)
same_last part order numbered i (Some x) (Some y) a b =
    elim (cases_lt a.0 b.0) [
      | inl h ↦ absurd (a.3 b.0 y (omega arith) b.1 b.2)
      | inr h ↦ elim (cases_lt b.0 a.0) [
        | inl g ↦ absurd (b.3 a.0 x (omega arith) a.1 a.2)
        | inr g ↦
            let at : a.0 ≡ b.0 = omega arith in
            let there : WritesAt part order b.0 x = subst (λ (k : ℕ). WritesAt part order k x) at a.2 in
            let same : there.0 ≡ b.2.0 = same_at part order numbered b.0 there.0 b.2.0 there.1 b.2.1 in
            cc (there.2, b.2.2, same)
      ]
    ]

-- an answer that isn't the last value is wrong
pub wrong_here : (part : List Call) (order : List OpId) → IsSequence part → (i : ℕ) (call : Call) (response : Response) (v : Option (List ℕ)) → StandsAt part order i call → call.action ≡ Read → call.response ≡ Some response → IsLastWritten part order i v → (response.returned ≡ Value v → ⊥) → IsWrongAnswer part order i
wrong_here part order numbered i call response v stands read answered last other = (
  call,
  response,
  stands,
  read,
  answered,
  λ right.
      let same : right.0 ≡ v = same_last part order numbered i right.0 v right.2 last in
      other (cc (right.1, same)),
)

-- no broken place up to one whose response isn't before any earlier invocation
pub broken_more : (part : List Call) (order : List OpId) → IsSequence part → (j : ℕ) (call : Call) (latest : ℕ) → StandsAt part order j call → ((i : ℕ) (a : Call) → i < j → StandsAt part order i a → a.invoked ≤ latest) → ((response : Response) → call.response ≡ Some response → latest ≤ response.place) → ((m : ℕ) → m < j → BreaksPrecedenceAt part order m → ⊥) → (m : ℕ) → m < j + 1 → BreaksPrecedenceAt part order m → ⊥
broken_more part order numbered j call latest stands most late before =
    below_more (λ m. BreaksPrecedenceAt part order m → ⊥) j before (λ found.
    let broken = found.1 in
    let same : broken.1 ≡ call = same_at part order numbered j broken.1 call broken.4 stands in
    let preceded = broken.5 in
    let answered : call.response ≡ Some preceded.0 = cc (preceded.1, same) in
    let high : latest ≤ preceded.0.place = late preceded.0 answered in
    let low : broken.0.invoked ≤ latest = most found.0 broken.0 broken.2 broken.3 in
    omega (arith, preceded.2))

-- the greatest place of an invocation, with one call more
pub most_more : (part : List Call) (order : List OpId) → IsSequence part → (j : ℕ) (call : Call) (latest later : ℕ) → later ≡ max latest call.invoked → StandsAt part order j call → ((i : ℕ) (a : Call) → i < j → StandsAt part order i a → a.invoked ≤ latest) → (i : ℕ) (a : Call) → i < j + 1 → StandsAt part order i a → a.invoked ≤ later
most_more part order numbered j call latest later is stands most i a below at =
    elim (cases_lt i j) [
      | inl h ↦ let low : a.invoked ≤ latest = most i a h at in omega arith
      | inr h ↦
          let here : i ≡ j = omega arith in
          let there : StandsAt part order j a = subst (λ (x : ℕ). StandsAt part order x a) here at in
          let same : a ≡ call = same_at part order numbered j a call there stands in
          let places : a.invoked ≡ call.invoked = ap (λ (x : Call). x.invoked) same in
          omega arith
    ]

abbrev pub Reaches : List Call → List OpId → ℕ → ℕ → Type 0
Reaches part order j place = (i : ℕ) × (call : Call) × (i < j) × StandsAt part order i call × (place < call.invoked)

pub reached_more : (part : List Call) (order : List OpId) (j : ℕ) (call : Call) (latest later : ℕ) → later ≡ max latest call.invoked → StandsAt part order j call → ((place : ℕ) → place < latest → Reaches part order j place) → (place : ℕ) → place < later → Reaches part order (j + 1) place
reached_more part order j call latest later is stands reached place below =
    elim (cases_lt place latest) [
      | inl h ↦ let r : Reaches part order j place = reached place h in (r.0, r.1, omega (arith, r.2), r.3, r.4)
      | inr h ↦ (j, call, omega arith, stands, omega arith)
    ]

-- what the first earlier call that was invoked after the response makes of a broken place
pub broken_here : (part : List Call) (order : List OpId) → IsSequence part → (j : ℕ) (call : Call) (response : Response) (latest : ℕ) → StandsAt part order j call → call.response ≡ Some response → response.place < latest → ((place : ℕ) → place < latest → Reaches part order j place) → ((m : ℕ) → m < j → BreaksPrecedenceAt part order m → ⊥) → (i : ℕ) → IsLeast (λ k. (a : Call) × StandsAt part order k a × (response.place < a.invoked)) i → IsLeast (BreaksPrecedenceAt part order) j × IsLeast (BreaksPrecedence part order j) i
broken_here part order numbered j call response latest stands answered below reached before i first =
    let r : Reaches part order j response.place = reached response.place below in
    let earlier : i < j = elim (cases_lt r.0 i) [ inl h ↦ absurd (first.1 r.0 h (r.1, r.3, r.4)) | inr h ↦ omega (arith, r.2) ] in
    let broken : BreaksPrecedence part order j i = (first.0.0, call, earlier, first.0.1, stands, (response, answered, first.0.2)) in (
      ((i, broken), before),
      (
        broken,
        λ m less other.
            let same : other.1 ≡ call = same_at part order numbered j other.1 call other.4 stands in
            let responses : other.5.0 ≡ response = cc (other.5.1, answered, same) in
            let places : other.5.0.place ≡ response.place = ap (λ (x : Response). x.place) responses in
            first.1 m less (other.0, other.3, omega (arith, other.5.2)),
      ),
    )

-- the call at a place, by its index
pub record Placed (calls : List Call) (order : List OpId) (indexes : List ℕ) (i : ℕ) : Type 0 where
  pub index : ℕ
  pub call : Call
  pub listed : slice_get indexes i ≡ Some index
  pub recorded : slice_get calls index ≡ Some call
  pub same : slice_get order i ≡ Some call.op

pub placed : (calls : List Call) (order : List OpId) (indexes : List ℕ) → Locates calls order indexes → (i : ℕ) → i < length order → Placed calls order indexes i
placed calls order indexes located i h =
    let at = get_at indexes i (omega (arith, located.all)) in
    let call = get_at calls at.0 (located.within i at.0 at.1) in
    record { index = at.0; call = call.0; listed = at.1; recorded = call.1; same = located.same i at.0 call.0 at.1 call.1 }

-- a call with an index stands
pub Placed-stands : (calls : List Call) (order : List OpId) (indexes : List ℕ) (i : ℕ) → (p : Placed calls order indexes i) → StandsAt calls order i p.call
Placed-stands calls order indexes i p = record { listed = p.same; recorded = Contains-slice_get calls p.index p.call p.recorded }

-- the first call that isn't there
pub unknown_here : (calls : List Call) (order : List OpId) (indexes : List ℕ) (i : ℕ) (op : OpId) → Locates calls (take i order) indexes → slice_get order i ≡ Some op → ((call : Call) → Contains calls call → call.op ≡ op → ⊥) → IsLeast (IsUnknown calls order) i
unknown_here calls order indexes i op located at none =
    let within : i < length order = slice_get_within order i op at in (
      (within, λ call stands. none call stands.recorded (cc (stands.listed, at))),
      λ m less unknown.
          let p : Placed calls (take i order) indexes m = placed calls (take i order) indexes located m (simp length-take (omega arith)) in
          unknown.1 p.call (record { listed = sym (slice_get-take order i m less) ∙ p.same; recorded = Contains-slice_get calls p.index p.call p.recorded }),
    )

-- one more index
pub Locates-more : (calls : List Call) (order : List OpId) (indexes : List ℕ) (i k : ℕ) (op : OpId) → Locates calls (take i order) indexes → slice_get order i ≡ Some op → HasOpAt calls k op → Locates calls (take (i + 1) order) (indexes ++ k ∷ [])
Locates-more calls order indexes i k op located at found =
    let within : i < length order = slice_get_within order i op at in
    let count : length indexes ≡ i = located.all ∙ simp length-take (omega arith) in
    record {
      all = simp (length-append, length-take) (omega arith);
      within = λ m x h. elim (push_cases indexes k m x h) [
        | inl w ↦ located.within m x w
        | inr w ↦ let small : k < length calls = slice_get_within calls k found.0 found.1 in omega (arith, w.1)
      ];
      same = λ m x call h g. elim (push_cases indexes k m x h) [
        | inl w ↦
            let less : m < i = omega (arith, slice_get_within indexes m x w) in
            slice_get-take order (i + 1) m (omega arith) ∙ (sym (slice_get-take order i m less) ∙ located.same m x call w g)
        | inr w ↦
            let here : m ≡ i = omega (arith, w.0) in
            let there : slice_get order m ≡ Some op = ap (slice_get order) here ∙ at in
            let same : slice_get calls k ≡ Some call = ap (slice_get calls) w.1 ∙ g in
            slice_get-take order (i + 1) m (omega arith) ∙ cc (there, same, found.1, found.2)
      ];
    }

-- what stands twice in the order stands twice among the indexes
pub repeated_index : (calls : List Call) (order : List OpId) (indexes : List ℕ) → IsSequence calls → Locates calls order indexes → (i : ℕ) → IsRepeated order i → IsRepeated indexes i
repeated_index calls order indexes numbered located i repeated =
    let p : Placed calls order indexes i = placed calls order indexes located i repeated.0 in
    let k = repeated.1 in
    let q : Placed calls order indexes k.0 = placed calls order indexes located k.0 (omega (arith, repeated.0, k.1)) in
    let ops : q.call.op ≡ p.call.op = cc (k.2, p.same, q.same) in
    let index : q.index ≡ p.index = same_index calls numbered q.index p.index q.call p.call q.recorded p.recorded (ap (λ (o : OpId). o.0) ops) in
    (slice_get_within indexes i p.index p.listed, (k.0, k.1, cc (p.listed, q.listed, index)))

-- and back
pub repeated_call : (calls : List Call) (order : List OpId) (indexes : List ℕ) → IsSequence calls → Locates calls order indexes → (i k : ℕ) → k < i → i < length indexes → slice_get indexes k ≡ slice_get indexes i → IsRepeated order i
repeated_call calls order indexes numbered located i k less within same =
    let p : Placed calls order indexes i = placed calls order indexes located i (omega (arith, located.all)) in
    let q : Placed calls order indexes k = placed calls order indexes located k (omega (arith, located.all)) in
    let index : q.index ≡ p.index = cc (p.listed, q.listed, same) in
    let call : q.call ≡ p.call = cc (p.recorded, q.recorded, ap (slice_get calls) index) in
    (omega (arith, located.all), (k, less, cc (p.same, q.same, call)))

-- what follows where each call is known, the order complete, and legal
pub unknown_none : (calls : List Call) (order : List OpId) (indexes : List ℕ) → Locates calls order indexes → HasNone (IsUnknown calls order)
unknown_none calls order indexes located i found =
    let p : Placed calls order indexes i = placed calls order indexes located i found.0 in
    found.1 p.call (Placed-stands calls order indexes i p)

pub missing_none : (calls : List Call) (order : List OpId) → IsComplete calls order → HasNone (IsMissing calls order)
missing_none calls order complete number found = let at = complete found.0 found.1 found.3 in found.4 at.0 at.1

pub wrong_none : (calls : List Call) (order : List OpId) → IsLegal calls order → HasNone (IsWrongAnswer calls order)
wrong_none calls order legal i found = found.5 (legal i found.0 found.1 found.2 found.3 found.4)

-- no fault, so an order
pub order_of_none : (calls : List Call) (order : List OpId) (indexes : List ℕ) → Locates calls order indexes → HasNone (IsRepeated order) → IsComplete calls order → HasNone (IsPendingRead calls order) → IsLegal calls order → HasNone (BreaksPrecedenceAt calls order) → IsOrder calls order
order_of_none calls order indexes located once complete answered legal kept = record {
  known = λ i h. let p : Placed calls order indexes i = placed calls order indexes located i h in (p.call, Placed-stands calls order indexes i p);
  once = λ i j less within same. once j (within, (i, less, same));
  complete = complete;
  writes = λ i call stands pending read. answered i (call, stands, pending, read);
  legal = legal;
  precedence = λ i j a b less first second before. kept j (i, (a, b, less, first, second, before));
}

-- what the call in the middle says of those before it, or of those after it
module _ (calls : List Call) (numbered : IsSequence calls) (op : OpId) (middle : ℕ) (call : Call) (at : slice_get calls middle ≡ Some call) where
  number_there : (k : ℕ) (other : Call) → k ≡ middle → slice_get calls k ≡ Some other → other.op.0 ≡ call.op.0
  number_there k other here there = let again : slice_get calls k ≡ Some call = ap (slice_get calls) here ∙ at in
      let same : other ≡ call = cc (there, again) in ap (λ (x : Call). x.op.0) same

  pub lower_half : call.op.0 < op.0 → (k : ℕ) (other : Call) → k < middle + 1 → slice_get calls k ≡ Some other → other.op.0 < op.0
  lower_half below k other less there =
      elim (cases_lt k middle) [
        | inl h ↦ let rise : other.op.0 < call.op.0 = numbered.numbers k middle other call h there at in omega arith
        | inr h ↦ omega (arith, number_there k other (omega arith) there)
      ]

  pub upper_half : op.0 < call.op.0 → (k : ℕ) (other : Call) → middle ≤ k → slice_get calls k ≡ Some other → op.0 < other.op.0
  upper_half above k other least there =
      elim (cases_lt middle k) [
        | inl h ↦ let rise : call.op.0 < other.op.0 = numbered.numbers middle k call other h at there in omega arith
        | inr h ↦ omega (arith, number_there k other (omega arith) there)
      ]

-- no call has the number where none before a place and none after it has it
pub absent : (calls : List Call) (op : OpId) (low high : ℕ) → high ≤ low → ((k : ℕ) (call : Call) → k < low → slice_get calls k ≡ Some call → call.op.0 < op.0) → ((k : ℕ) (call : Call) → high ≤ k → slice_get calls k ≡ Some call → op.0 < call.op.0) → (call : Call) → Contains calls call → call.op ≡ op → ⊥
absent calls op low high met before after call there same =
    let k = place_of calls call there in
    let number : call.op.0 ≡ op.0 = ap (λ (o : OpId). o.0) same in
    elim (cases_lt k.0 low) [
      | inl h ↦ let less : call.op.0 < op.0 = before k.0 call h k.1 in omega arith
      | inr h ↦ let more : op.0 < call.op.0 = after k.0 call (omega (arith, met, h)) k.1 in omega arith
    ]

-- the marks with one more, at the index x of place i
module _ (indexes : List ℕ) (marks : List Bool) (i x : ℕ) (at : slice_get indexes i ≡ Some x) (within : x < length marks) where
  pub once_more : slice_get marks x ≡ Some false → ((m k : ℕ) → m < i → slice_get indexes m ≡ Some k → slice_get marks k ≡ Some true) → ((m : ℕ) → m < i → IsRepeated indexes m → ⊥) → (m : ℕ) → m < i + 1 → IsRepeated indexes m → ⊥
  once_more free marked once =
      below_more (λ m. IsRepeated indexes m → ⊥) i once (λ found.
      let earlier = found.1 in
      let there : slice_get indexes earlier.0 ≡ Some x = earlier.2 ∙ at in
      cc (free, marked earlier.0 x earlier.1 there))

  pub listed_more : ((k : ℕ) → slice_get marks k ≡ Some true → (m : ℕ) × (m < i) × (slice_get indexes m ≡ Some k)) → (k : ℕ) → slice_get (set marks x true) k ≡ Some true → (m : ℕ) × (m < i + 1) × (slice_get indexes m ≡ Some k)
  listed_more listed k h =
      elim (slice_get-set marks x k true within) [
        | inl w ↦ (i, omega arith, at ∙ ap Some (sym w.0))
        | inr w ↦ let m = listed k (sym w.1 ∙ h) in (m.0, omega (arith, m.1), m.2)
      ]

  pub marked_more : ((m k : ℕ) → m < i → slice_get indexes m ≡ Some k → slice_get marks k ≡ Some true) → (m k : ℕ) → m < i + 1 → slice_get indexes m ≡ Some k → slice_get (set marks x true) k ≡ Some true
  marked_more marked m k less there =
      elim (slice_get-set marks x k true within) [
        | inl w ↦ w.1
        | inr w ↦ elim (cases_lt m i) [
          | inl h ↦ w.1 ∙ marked m k h there
          | inr h ↦
              let here : m ≡ i = omega arith in
              let again : slice_get indexes m ≡ Some x = ap (slice_get indexes) here ∙ at in
              absurd (w.0 (cc (there, again)))
        ]
      ]

-- marks for all indexes are marks for the calls of the order
pub Marks-from_indexes : (calls : List Call) (order : List OpId) (indexes : List ℕ) (marks : List Bool) (i : ℕ) → IsSequence calls → Locates calls order indexes → length order ≤ i → length marks ≡ length calls → ((k : ℕ) → slice_get marks k ≡ Some true → (m : ℕ) × (m < i) × (slice_get indexes m ≡ Some k)) → ((m k : ℕ) → m < i → slice_get indexes m ≡ Some k → slice_get marks k ≡ Some true) → Marks calls order marks
Marks-from_indexes calls order indexes marks i numbered located past all listed marked = record {
  all = all;
  listed = λ k call at mark. let m = listed k mark in (m.0, record { listed = located.same m.0 k call m.2 at; recorded = Contains-slice_get calls k call at });
  marked = λ j k call at stands.
      let p : Placed calls order indexes j = placed calls order indexes located j (place_within calls order j call stands) in
      let same : p.call ≡ call = same_at calls order numbered j p.call call (Placed-stands calls order indexes j p) stands in
      let index : p.index ≡ k = same_index calls numbered p.index k p.call call p.recorded at (ap (λ (x : Call). x.op.0) same) in
      let below : j < i = omega (arith, place_within calls order j call stands) in
      ap (slice_get marks) (sym index) ∙ marked j p.index below p.listed;
}
