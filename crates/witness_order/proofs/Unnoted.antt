-- The least completed call without a note.
use Rattle.std.proofs.Common.{ℕ, ◌≡◌, ◌<◌, ◌+◌, inl, inr, List, Option, Some, None, is_some, true, false, length, below_more, sym, ap, ◌∙◌, subst, refl, arith}
use Rattle.std.specs.List.{slice_get}
use Rattle.std.proofs.lemmas.Option.{slice_get_within}
use Rattle.std.proofs.lemmas.Bool.{cases_lt}
use Rattle.recorder.specs.declared.part.Call.{Call}
use Rattle.recorder.specs.declared.part.Response.{Response}
use Rattle.recorder.specs.States.{place_in}
use Rattle.tag.specs.declared.numbers.OpId.{OpId}
use Rattle.recorder.specs.Parts.{IsSequence, IsCompleted}
use Rattle.witness_order.specs.Notes.{IsNotedCall, AllNoted, IsLeastUnnoted}
use Rattle.tag.proofs.Lists.{place_of, Contains-slice_get}

-- the call at a place, if it is completed, has a note
abbrev pub IsNotedAt : List Call → ℕ → Type 0
IsNotedAt calls k = (call : Call) → slice_get calls k ≡ Some call → IsCompleted call → IsNotedCall call

pub noted_more : (calls : List Call) (n : ℕ) (call : Call) → slice_get calls n ≡ Some call → (IsCompleted call → IsNotedCall call) → ((k : ℕ) → k < n → IsNotedAt calls k) → (k : ℕ) → k < n + 1 → IsNotedAt calls k
noted_more calls n call at here before =
    below_more (IsNotedAt calls) n before (λ other there completed.
    let same : call ≡ other = cc in
    subst IsNotedCall same (here (subst IsCompleted (sym same) completed)))

pub noted_all : (calls : List Call) (n : ℕ) → length calls < n + 1 → ((k : ℕ) → k < n → IsNotedAt calls k) → AllNoted calls
noted_all calls n long before call h completed =
    let i = place_of calls call h in
    let within = slice_get_within calls i.0 call i.1 in
    before i.0 (omega (arith, within)) call i.1 completed

-- the first such call is the one of the least number
pub least_unnoted : (calls : List Call) → IsSequence calls → (n : ℕ) (call : Call) → slice_get calls n ≡ Some call → IsCompleted call → call.note ≡ None → ((k : ℕ) → k < n → IsNotedAt calls k) → IsLeastUnnoted calls call.op
least_unnoted calls sequence n call at completed unnoted before = record {
  call = call;
  recorded = Contains-slice_get calls n call at;
  number = refl;
  completed = completed;
  unnoted = unnoted;
  least = λ other h done less.
      let i = place_of calls other h in
      elim (cases_lt i.0 n) [
        | inl w ↦ before i.0 w other i.1 done
        | inr w ↦ elim (cases_lt n i.0) [
          | inl v ↦ absurd (let up : call.op.0 < other.op.0 = sequence.numbers n i.0 call other v at i.1 in omega arith)
          | inr v ↦
              let places : i.0 ≡ n = omega arith in
              let there : slice_get calls i.0 ≡ slice_get calls n = ap (slice_get calls) places in
              let same : other ≡ call = cc (at, i.1, there) in
              let number : other.op.0 ≡ call.op.0 = ap (λ (c : Call). c.op.0) same in
              absurd (omega arith)
        ]
      ];
}

-- a call has a response where its state has the place of one
pub answered : (call : Call) (place : Option ℕ) → place ≡ place_in call.response → is_some place ≡ is_some call.response
answered call place is = ap (λ (p : Option ℕ). is_some p) is ∙ by call.response
  where
    by : (response : Option Response) → is_some (place_in response) ≡ is_some response
    by None = refl
    by (Some response) = refl

-- a call without a response isn't completed
pub not_completed : (call : Call) → is_some call.response ≡ false → IsCompleted call → ⊥
not_completed call h completed = let test : is_some call.response ≡ true = ap is_some completed.1 in cc

-- there is one such number
pub one_least : (calls : List Call) (a b : OpId) → IsLeastUnnoted calls a → IsLeastUnnoted calls b → a ≡ b
one_least calls a b p q =
    elim (cases_lt a.0 b.0) [
      | inl h ↦ absurd (none p.call p.unnoted (q.least p.call p.recorded p.completed (rw p.number h)))
      | inr h ↦ elim (cases_lt b.0 a.0) [
        | inl g ↦ absurd (none q.call q.unnoted (p.least q.call q.recorded q.completed (rw q.number g)))
        | inr g ↦ let number : a.0 ≡ b.0 = omega arith in λ i. record { 0 = number i }
      ]
    ]
  where
    none : (call : Call) → call.note ≡ None → IsNotedCall call → ⊥
    none call unnoted noted = let e = noted.1 in cc

-- where each has a note there is none
pub none_unnoted : (calls : List Call) (op : OpId) → AllNoted calls → IsLeastUnnoted calls op → ⊥
none_unnoted calls op noted u = let e = (noted u.call u.recorded u.completed).1 in let none = u.unnoted in cc
