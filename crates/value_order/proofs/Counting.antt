-- How many calls of a part have a property.
use Rattle.std.proofs.Common.{ℕ, ◌≡◌, ◌<◌, ◌≤◌, ◌+◌, ◌↔◌, inl, inr, Bool, true, false, true≢false, IsTrue, List, [], ◌∷◌, ◌++◌, Option, Some, None, is_some, min, nat_lt, take, length, add-one, sym, ◌∙◌, ap, subst, refl, arith}
use Rattle.std.specs.List.{slice_get}
use Rattle.std.proofs.lemmas.Bool.{cases_lt, false≢true}
use Rattle.std.proofs.lemmas.Bool.Decides.{nat_tests}
use Rattle.std.proofs.lemmas.List.{take_all}
use Rattle.std.proofs.lemmas.Option.{slice_get_within, none-some}
use Rattle.tag.proofs.Lists.{place_of, take_push, Contains-slice_get}
use Rattle.recorder.specs.declared.part.Call.{Call}
use Rattle.tag.specs.declared.actions.Action.{Action}
use Rattle.tag.specs.declared.actions.Action.TheVariants.{Read, Write}
use Rattle.recorder.specs.declared.part.Response.{Response}
use Rattle.recorder.specs.Parts.{IsCompleted}
use Rattle.recorder.specs.Sound.{IsRead}
use Rattle.recorder.specs.States.{is_write, place_in}
use Rattle.value_order.specs.declared.sources.Source.{Source}
use Rattle.value_order.specs.declared.sources.Source.TheVariants as source
use Rattle.value_order.specs.Ended.{WriteEnds, IsFirstWriteEnd}
use Rattle.value_order.specs.Faults.{IsStale}
use Rattle.value_order.specs.Sources.{IsSource}
use Rattle.value_order.specs.Stales.{IsOverwriter, IsAnsweredRead, IsCount}
use Rattle.value_order.specs.Writers.{AnswersNothing}
use Rattle.value_order.proofs.CallKinds.{nothing_no_value, call_at, one_place, not_both}
use Rattle.value_order.proofs.SortLists.{source_nothing}
use Rattle.value_order.proofs.StaleReads.{stale_from}
use Rattle.value_order.proofs.StaleTables.{end_here, no_end_read, writes_by_state}

snoc_has : (P : Call → Type 0) (xs : List Call) (x : Call) (n : ℕ) → IsCount P xs n → P x → IsCount P (xs ++ x ∷ []) (n + 1)
snoc_has P [] x n h p = inl (p, n, refl, h)
snoc_has P (y ∷ ys) x n (inl h) p = inl (h.0, h.1 + 1, omega (arith, h.2), snoc_has P ys x h.1 h.3 p)
snoc_has P (y ∷ ys) x n (inr h) p = inr (h.0, snoc_has P ys x n h.1 p)

snoc_lacks : (P : Call → Type 0) (xs : List Call) (x : Call) (n : ℕ) → IsCount P xs n → (P x → ⊥) → IsCount P (xs ++ x ∷ []) n
snoc_lacks P [] x n h not = inr (not, h)
snoc_lacks P (y ∷ ys) x n (inl h) not = inl (h.0, h.1, h.2, snoc_lacks P ys x h.1 h.3 not)
snoc_lacks P (y ∷ ys) x n (inr h) not = inr (h.0, snoc_lacks P ys x n h.1 not)

module _ (P : Call → Type 0) (calls : List Call) (i n : ℕ) (call : Call) (at : slice_get calls i ≡ Some call) (was : IsCount P (take i calls) n) where
  front : take (i + 1) calls ≡ take i calls ++ call ∷ []
  front = ap (λ (k : ℕ). take k calls) (add-one i) ∙ take_push calls i call at

  pub count_has : P call → IsCount P (take (i + 1) calls) (n + 1)
  count_has p = subst (λ (l : List Call). IsCount P l (n + 1)) (sym front) (snoc_has P (take i calls) call n was p)

  pub count_lacks : (P call → ⊥) → IsCount P (take (i + 1) calls) n
  count_lacks not = subst (λ (l : List Call). IsCount P l n) (sym front) (snoc_lacks P (take i calls) call n was not)

pub count_all : (P : Call → Type 0) (calls : List Call) (i n : ℕ) → length calls ≤ i → IsCount P (take i calls) n → IsCount P calls n
count_all P calls i n past h = subst (λ (l : List Call). IsCount P l n) (take_all i calls past) h

-- ---- stale reads

-- of reads of nothing
pub stale_nothing : (part : List Call) (call : Call) (end : ℕ) → AnswersNothing call → IsFirstWriteEnd part (length part) (Some end) → IsStale part call ↔ (end < call.invoked)
stale_nothing part call end nothing first = (
  λ s. elim s [
    | inl v ↦ absurd (nothing_no_value call v.has.value nothing v.has.answered)
    | inr n ↦
        let k = place_of part n.write n.recorded in
        let low = first.1 k.0 n.precedes.0.place (slice_get_within part k.0 n.write k.1) (record { write = n.write; at = k.1; writes = n.writes; response = n.precedes.0; responds = n.precedes.1; ends = refl }) in
        omega (arith, n.precedes.2)
  ],
  λ less. inr (record {
    nothing = nothing;
    write = first.0.1.write;
    recorded = Contains-slice_get part first.0.0 first.0.1.write first.0.1.at;
    writes = first.0.1.writes;
    precedes = (first.0.1.response, first.0.1.responds, omega (arith, first.0.1.ends));
  }),
)

pub fresh_nothing : (part : List Call) (call : Call) → AnswersNothing call → IsFirstWriteEnd part (length part) None → IsStale part call → ⊥
fresh_nothing part call nothing none s = elim s [
  | inl v ↦ nothing_no_value call v.has.value nothing v.has.answered
  | inr n ↦ (let k = place_of part n.write n.recorded in none k.0 n.precedes.0.place (slice_get_within part k.0 n.write k.1) (record { write = n.write; at = k.1; writes = n.writes; response = n.precedes.0; responds = n.precedes.1; ends = refl }))
]

-- of the others
pub stale_value : (part : List Call) (call : Call) (from : Source) (between : Option ℕ) → IsSource part call from → (from ≡ source.Nothing → ⊥) → IsOverwriter part call between → IsTrue (is_some between) ↔ IsStale part call
stale_value part call from None is not none = (
  λ t. absurd (false≢true t),
  λ s. elim s [
    | inl v ↦ absurd (none v)
    | inr n ↦ absurd (not (source_nothing part call from is n.nothing))
  ],
)
stale_value part call from (Some k) is not o = (λ t. inl (stale_from part call k o), λ s. refl)

-- ---- the first end of a write

pub write_end_none : (part : List Call) → IsFirstWriteEnd part 0 None
write_end_none part k end less = absurd (omega arith)

one_write_end : (part : List Call) (k e f : ℕ) → WriteEnds part k e → WriteEnds part k f → e ≡ f
one_write_end part k e f a b =
    let same = call_at part k k a.write b.write a.at b.at refl in
    let place = one_place b.write a.response b.response (ap (λ (c : Call). c.response) (sym same) ∙ a.responds) b.responds in
    omega (arith, a.ends, b.ends)

pub write_end_same : (part : List Call) (i : ℕ) (first : Option ℕ) → ((end : ℕ) → WriteEnds part i end → ⊥) → IsFirstWriteEnd part i first → IsFirstWriteEnd part (i + 1) first
write_end_same part i None not was = λ k end less w. elim (cases_lt k i) [
  | inl h ↦ was k end h w
  | inr h ↦ (let here : k ≡ i = omega arith in not end (subst (λ (x : ℕ). WriteEnds part x end) here w))
]
write_end_same part i (Some f) not was = (
  was.0,
  λ k end less w. elim (cases_lt k i) [
    | inl h ↦ was.1 k end h w
    | inr h ↦ (let here : k ≡ i = omega arith in absurd (not end (subst (λ (x : ℕ). WriteEnds part x end) here w)))
  ],
)

pub write_end_more : (part : List Call) (i end new : ℕ) (first : Option ℕ) → WriteEnds part i end → (first ≡ None → new ≡ end) → ((other : ℕ) → first ≡ Some other → new ≡ min other end) → IsFirstWriteEnd part i first → IsFirstWriteEnd part (i + 1) (Some new)
write_end_more part i end new None w is later was = (
  (i, subst (λ (x : ℕ). WriteEnds part i x) (sym (is refl)) w),
  λ k e less v. elim (cases_lt k i) [
    | inl h ↦ absurd (was k e h v)
    | inr h ↦ (let here : k ≡ i = omega arith in let same = one_write_end part i e end (subst (λ (x : ℕ). WriteEnds part x e) here v) w in let eq = is refl in omega arith)
  ],
)
write_end_more part i end new (Some f) w is later was =
    let eq = later f refl in (
      elim (cases_lt f end) [
        | inl h ↦ (was.0.0, subst (λ (x : ℕ). WriteEnds part was.0.0 x) (omega arith) was.0.1)
        | inr h ↦ (i, subst (λ (x : ℕ). WriteEnds part i x) (omega arith) w)
      ],
      λ k e less v. elim (cases_lt k i) [
        | inl h ↦ (let low = was.1 k e h v in omega arith)
        | inr h ↦ (let here : k ≡ i = omega arith in let same = one_write_end part i e end (subst (λ (x : ℕ). WriteEnds part x e) here v) w in omega arith)
      ],
    )

-- ---- by a call's state

pub reads_by_state : (call : Call) (state : Bool) → state ≡ is_write call.action → state ≡ false → IsRead call
reads_by_state call state kind reads = by call.action refl
  where
    by : (a : Action) → call.action ≡ a → IsRead call
    by Read e = e
    by (Write value) e = absurd (true≢false (sym (ap (λ (x : Action). is_write x) e) ∙ (sym kind ∙ reads)))

pub answered_read : (call : Call) (state : Bool) (place : Option ℕ) (test : Bool) → state ≡ is_write call.action → state ≡ false → place ≡ place_in call.response → test ≡ is_some place → IsTrue test ↔ IsAnsweredRead call
answered_read call state place test kind reads of is = (
  λ t. (reads_by_state call state kind reads, by call.response refl t),
  λ h. is ∙ (ap (λ (p : Option ℕ). is_some p) of ∙ ap (λ (p : Option ℕ). is_some p) (ap place_in h.1.1)),
)
  where
    by : (r : Option Response) → call.response ≡ r → IsTrue test → IsCompleted call
    by (Some r) e t = (r, e)
    by None e t = absurd (false≢true (sym (ap (λ (p : Option ℕ). is_some p) (of ∙ ap place_in e)) ∙ (sym is ∙ t)))

pub no_answered_read : (call : Call) (state : Bool) → state ≡ is_write call.action → state ≡ true → IsAnsweredRead call → ⊥
no_answered_read call state kind writes h = not_both call h.0 (writes_by_state call state kind writes)

pub write_end_at : (part : List Call) (i : ℕ) (call : Call) (state : Bool) (place : Option ℕ) → slice_get part i ≡ Some call → state ≡ is_write call.action → state ≡ true → place ≡ place_in call.response → (end : ℕ) → (place ≡ Some end) ↔ WriteEnds part i end
write_end_at part i call state place at kind writes of end = (
  λ e. end_here part i call state place end at kind writes of e,
  λ w. of ∙ (ap place_in (ap (λ (c : Call). c.response) (call_at part i i call w.write at w.at refl) ∙ w.responds) ∙ ap Some w.ends),
)

pub no_write_end : (part : List Call) (i : ℕ) (call : Call) (state : Bool) → slice_get part i ≡ Some call → state ≡ is_write call.action → state ≡ false → (end : ℕ) → (None ≡ Some end) ↔ WriteEnds part i end
no_write_end part i call state at kind reads end = (λ e. absurd (none-some end e), λ w. absurd (no_end_read part i call state at kind reads end w))

less_test : (a b : ℕ) → IsTrue (nat_lt a b) ↔ (a < b)
less_test a b = (λ t. grind (arith, nat_tests), λ less. grind (arith, nat_tests))

pub stale_test : (part : List Call) (call : Call) (end place : ℕ) → AnswersNothing call → place ≡ call.invoked → IsFirstWriteEnd part (length part) (Some end) → IsTrue (nat_lt end place) ↔ IsStale part call
stale_test part call end place nothing same first =
    let s = stale_nothing part call end nothing first in
    (λ t. s.1 (let less = (less_test end place).0 t in omega arith), λ h. (less_test end place).1 (let less = s.0 h in omega arith))
