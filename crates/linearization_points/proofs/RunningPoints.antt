-- Linearization points: the running maximum of the invocations' places makes them.
use Rattle.std.proofs.Common.{ℕ, zero, suc, ◌≡◌, ◌<◌, ◌≤◌, ◌+◌, ◌-◌, max, inl, inr, List, [], ◌∷◌, ◌++◌, Some, length, get_or, refl}
use Rattle.std.proofs.Common.{ap, sym, ◌∙◌, subst, arith}
use Rattle.std.specs.List.{slice_get}
use Rattle.std.specs.List.Sorted.{IsNonDecreasing}
use Rattle.std.proofs.lemmas.Bool.{cases_lt}
use Rattle.std.proofs.lemmas.List.{length_push}
use Rattle.std.proofs.lemmas.List.Sorted.{IsNonDecreasingBy-push, IsNonDecreasingBy-short}
use Rattle.std.proofs.lemmas.Option.{slice_get-get_or, slice_get_within, get_or_from_slice_get}
use Rattle.tag.proofs.Lists.{push_cases, get_at}
use Rattle.tag.proofs.Options.{none_some}
use Rattle.tag.specs.declared.numbers.OpId.{OpId}
use Rattle.recorder.proofs.Sequences.{same_at}
use Rattle.recorder.specs.declared.row.Row.{Row}
use Rattle.recorder.specs.declared.part.Call.{Call}
use Rattle.recorder.specs.declared.part.Response.{Response}
use Rattle.recorder.specs.Orders.{StandsAt}
use Rattle.recorder.specs.Parts.{IsSequence}
use Rattle.recorder.specs.Records.{IsPart}
use Rattle.linearization_points.specs.Points.{IsWithin, AreApart, AreCalls, KeepsPrecedence, ArePoints}

-- in a history a row is either an invocation or a response
pub apart : (rows : List Row) (key : List ℕ) (part : List Call) → IsPart rows key part → AreApart part
apart rows key part is a b response in_a in_b answered same =
    let begun = (is.each a in_a).begun in
    let told = ((is.each b in_b).answered response.place response.returned).0 answered in
    let there : slice_get rows a.invoked ≡ slice_get rows response.place = ap (slice_get rows) same in
    cc (begun, told, there)

-- the points of the first n calls of an order, and the last of them
pub record Reached (part : List Call) (order : List OpId) (n : ℕ) (points : List ℕ) (latest : ℕ) : Type 0 where
  pub all : length points ≡ n
  pub within : (i place : ℕ) (call : Call) → slice_get points i ≡ Some place → StandsAt part order i call → IsWithin call place
  pub rising : IsNonDecreasing points
  pub most : (i place : ℕ) → slice_get points i ≡ Some place → place ≤ latest
  pub begun : 0 < latest → (i : ℕ) × (call : Call) × (i < n) × StandsAt part order i call × (call.invoked ≡ latest)

module _ (part : List Call) (order : List OpId) where
  -- no call has points yet
  pub reached_none : Reached part order 0 [] 0
  reached_none = record {
    all = omega arith;
    within = λ i place call at stands. none_some at;
    rising = IsNonDecreasingBy-short (λ x. x) [] (omega arith);
    most = λ i place at. none_some at;
    begun = λ h. absurd (omega arith);
  }

  module _ (sequence : IsSequence part) (apart : AreApart part) (kept : KeepsPrecedence part order) where
    -- a call isn't answered before an earlier one begins
    later_answer : (n latest : ℕ) (call : Call) (response : Response) → StandsAt part order n call → call.response ≡ Some response
        → (i : ℕ) × (other : Call) × (i < n) × StandsAt part order i other × (other.invoked ≡ latest) → latest < response.place
    later_answer n latest call response stands answered earlier =
        let other = earlier.1 in
        elim (cases_lt latest response.place) [
          | inl h ↦ h
          | inr h ↦ elim (cases_lt response.place other.invoked) [
            | inl g ↦ absurd (kept earlier.0 n other call earlier.2 earlier.3 stands (response, answered, g))
            | inr g ↦
                let same : other.invoked ≡ response.place = omega (arith, earlier.4) in
                absurd (apart other call response earlier.3.recorded stands.recorded answered same)
          ]
        ]

    -- the greater of the last point and the call's invocation lies within the call
    here : (n latest later : ℕ) (points : List ℕ) (call : Call) → later ≡ max latest call.invoked → Reached part order n points latest
        → StandsAt part order n call → IsWithin call later
    here n latest later points call is before stands = (
      omega arith,
      λ response answered.
          let begins : call.invoked < response.place = sequence.responses call response stands.recorded answered in
          elim (cases_lt 0 latest) [
            | inl h ↦
                let late : latest < response.place = later_answer n latest call response stands answered (before.begun h) in
                omega arith
            | inr h ↦ omega arith
          ],
    )

    -- one point more
    pub reached_more : (n latest later : ℕ) (points now : List ℕ) (call : Call) → later ≡ max latest call.invoked
        → now ≡ points ++ later ∷ []
        → StandsAt part order n call → Reached part order n points latest → Reached part order (n + 1) now later
    reached_more n latest later points now call is more stands before = subst (λ (l : List ℕ). Reached part order (n + 1) l later)
        (sym more) (record {
          all = length_push points later ∙ ap (λ (k : ℕ). k + 1) before.all;
          within = λ i place other at there. elim (push_cases points later i place at) [
            | inl old ↦ before.within i place other old there
            | inr last ↦
                let at_n : i ≡ n = last.0 ∙ before.all in
                let there_n : StandsAt part order n other = subst (λ (k : ℕ). StandsAt part order k other) at_n there in
                let same : call ≡ other = same_at part order sequence n call other stands there_n in
                let held : IsWithin call place = subst (IsWithin call) last.1 (here n latest later points call is before stands) in
                subst (λ (x : Call). IsWithin x place) same held
          ];
          rising = IsNonDecreasingBy-push (λ x. x) points later before.rising (λ d some.
              let at = slice_get-get_or points (length points - 1) d (omega arith) in
              omega (arith, before.most (length points - 1) (get_or points (length points - 1) d) at));
          most = λ i place at. elim (push_cases points later i place at) [
            | inl old ↦ let low : place ≤ latest = before.most i place old in omega arith
            | inr last ↦ omega (arith, last.1)
          ];
          begun = λ h. elim (cases_lt latest later) [
            | inl new ↦ (n, call, omega arith, stands, omega arith)
            | inr old ↦
                let positive : 0 < latest = omega arith in
                let r = before.begun positive in
                (r.0, r.1, omega (arith, r.2), r.3, omega (arith, r.4))
          ];
        })

    -- the points of the first n calls
    first_points : (n : ℕ) → n ≤ length order → AreCalls part order → (points : List ℕ) × (latest : ℕ) × Reached part order n points latest
    first_points zero h known = ([], 0, reached_none)
    first_points (suc n) h known =
        let before = first_points n (omega arith) known in
        let stands = known n (omega arith) in
        let later = max before.1 stands.0.invoked in
        let more = reached_more n before.1 later before.0 (before.0 ++ later ∷ []) stands.0 refl refl stands.1 before.2 in
        let count : n + 1 ≡ suc n = omega arith in
        (before.0 ++ later ∷ [], later, subst (λ (k : ℕ). Reached part order k (before.0 ++ later ∷ []) later) count more)

  -- the points of all calls
  pub ArePoints-reached : (points : List ℕ) (latest n : ℕ) → length order ≡ n → Reached part order n points latest
      → ArePoints part order points
  ArePoints-reached points latest n all reached = record {
    all = reached.all ∙ sym all;
    within = reached.within;
    rising = reached.rising;
  }

  pub points_there : IsSequence part → AreApart part → AreCalls part order → KeepsPrecedence part order
      → (points : List ℕ) × ArePoints part order points
  points_there sequence apart known kept =
      let made = first_points sequence apart kept (length order) (omega arith) known in
      (made.0, ArePoints-reached made.0 made.1 (length order) refl made.2)

  -- where there are points, precedence is kept: the earlier point isn't after the later one
  pub kept : (points : List ℕ) → ArePoints part order points → KeepsPrecedence part order
  kept points are i j a b less first second before =
      let i_in : i < length points = omega (arith, are.all, slice_get_within order i a.op first.listed) in
      let j_in : j < length points = omega (arith, are.all, slice_get_within order j b.op second.listed) in
      let at_i = get_at points i i_in in
      let at_j = get_at points j j_in in
      let low = (are.within i at_i.0 a at_i.1 first).0 in
      let high = (are.within j at_j.0 b at_j.1 second).1 before.0 before.1 in
      let up = are.rising i j 0 (omega arith) j_in in
      let value_i : get_or points i 0 ≡ at_i.0 = get_or_from_slice_get points i at_i.0 0 at_i.1 in
      let value_j : get_or points j 0 ≡ at_j.0 = get_or_from_slice_get points j at_j.0 0 at_j.1 in
      omega (arith, before.2, low, high, up)
