-- An overwriter is a neighbour, by the indexes; and where the first two zones aren't spent, none is.
use Rattle.std.proofs.Common.{ℕ, ◌≡◌, ◌<◌, ◌≤◌, inl, inr, List, Option, Some, None, ap, sym, ◌∙◌, subst, arith}
use Rattle.std.proofs.lemmas.Bool.{cases_lt, cases_eq}
use Rattle.std.proofs.lemmas.Option.{same_Some, none-some}
use Rattle.kept_zones.specs.Indexes.{AreIndexed, Misses}
use Rattle.kept_zones.specs.Nearest.{IsLastBefore, IsFirstAfter, IsFirstOfAll}
use Rattle.kept_zones.specs.Places.{HasNoOther}
use Rattle.kept_zones.specs.Overwriting.{last_of, Known, Overwrites, IsOverwritten, IsSpent, NoneSpent}

module _ (all forward inner : List (ℕ × ℕ)) (floor end place : ℕ) (is : AreIndexed (last_of all) (last_of forward) (last_of inner) floor) (high : floor ≤ end) where
  -- the forward zone before it reaches beyond it
  pub by_before : (e : ℕ × ℕ) → IsLastBefore forward end (Some e) → end < e.1 → e.0 < place → Overwrites all place e.0 end
  by_before e before over early = (let a = is.ahead e.0 e.1 before.1 in record { last = e.1; is = a.0; apart = (let less = before.0 in λ same. absurd (omega arith)); early = early; later = over })

  -- the forward zone after it
  pub by_after : (e : ℕ × ℕ) → IsFirstAfter forward end (Some e) → e.0 < place → Overwrites all place e.0 end
  by_after e after early = (let a = is.ahead e.0 e.1 after.1 in record { last = e.1; is = a.0; apart = (let less = after.0 in λ same. absurd (omega arith)); early = early; later = omega (arith, a.1, after.0) })

  -- the last inner zone before the place
  pub by_inner : (e : ℕ × ℕ) → IsLastBefore inner place (Some e) → end < e.1 → Overwrites all place e.0 end
  by_inner e before over = (let i = is.within e.0 e.1 before.1 in record { last = i.0; is = i.1; apart = (let low = i.3 in λ same. absurd (omega arith)); early = before.0; later = omega (arith, i.2) })

  -- the forward zone before it is the only one that may reach beyond it
  before_misses : (o : Option (ℕ × ℕ)) → IsLastBefore forward end o → Misses o (λ e. (end < e.1) × (e.0 < place)) → (w l : ℕ) → last_of forward w ≡ Some l → w < end → w < place → end < l → ⊥
  before_misses None before miss w l at less early over = none-some l (sym (before w less) ∙ at)
  before_misses (Some e) before miss w l at less early over =
      let low = before.2 w l less at in
      let a = is.ahead e.0 e.1 before.1 in
      let b = is.ahead w l at in
      elim (cases_eq w e.0) [
        | inl same ↦
            let here : e.1 ≡ l = same_Some e.1 l (sym before.1 ∙ (ap (last_of forward) (sym same) ∙ at)) in
            miss (omega arith, omega arith)
        | inr apart ↦ is.free w e.0 l e.1 apart b.0 a.0 (omega (arith, a.1)) (let less = before.0 in omega arith)
      ]

  after_misses : (o : Option (ℕ × ℕ)) → IsFirstAfter forward end o → Misses o (λ e. e.0 < place) → (w l : ℕ) → last_of forward w ≡ Some l → end < w → w < place → ⊥
  after_misses None after miss w l at less early = none-some l (sym (after w less) ∙ at)
  after_misses (Some e) after miss w l at less early = (let low = after.2 w l less at in miss (omega arith))

  -- each inner zone before the place began no later than the last of them
  inner_misses : (o : Option (ℕ × ℕ)) → IsLastBefore inner place o → Misses o (λ e. end < e.1) → (w begin : ℕ) → last_of inner w ≡ Some begin → w < place → end < begin → ⊥
  inner_misses None before miss w begin at early over = none-some begin (sym (before w early) ∙ at)
  inner_misses (Some e) before miss w begin at early over =
      let low = before.2 w begin early at in
      elim (cases_lt w e.0) [
        | inl less ↦ (let up = is.rising w e.0 begin e.1 less at before.1 in miss (omega arith))
        | inr same ↦
            let here : w ≡ e.0 = omega arith in
            let begins : begin ≡ e.1 = same_Some begin e.1 (sym at ∙ (ap (last_of inner) here ∙ before.1)) in
            miss (omega arith)
      ]

  -- so none overwrites it
  pub none_overwrites : (o p q : Option (ℕ × ℕ)) → IsLastBefore forward end o → Misses o (λ e. (end < e.1) × (e.0 < place)) → IsFirstAfter forward end p → Misses p (λ e. e.0 < place) → IsLastBefore inner place q → Misses q (λ e. end < e.1) → IsOverwritten all place end → ⊥
  none_overwrites o p q before miss_o after miss_p within miss_q h =
      let w = h.0 in
      let x = h.1 in
      elim (cases_lt w x.last) [
        | inl ahead ↦
            let at = is.all_ahead w x.last x.is ahead in
            elim (cases_lt w end) [
              | inl less ↦ before_misses o before miss_o w x.last at less x.early x.later
              | inr more ↦ after_misses p after miss_p w x.last at (let apart = x.apart in omega arith) x.early
            ]
        | inr back ↦ elim (is.held w x.last x.is back) [
          | inl i ↦ inner_misses q within miss_q i.w i.begin i.is (omega (arith, i.early, x.early)) (omega (arith, i.late, x.later))
          | inr low ↦ absurd (omega (arith, x.later))
        ]
      ]

-- ---- what is spent

module _ (known : Known) (place : ℕ) where
  -- no zone at all
  pub none_there : IsFirstOfAll known.zones None → NoneSpent known place
  none_there none u last at spent = none-some last (sym (none u) ∙ at)

  -- the first isn't spent, and there is no other
  pub one_there : (e : ℕ × ℕ) → IsFirstOfAll known.zones (Some e) → (IsSpent known place e.0 → ⊥) → IsFirstAfter known.zones e.0 None → NoneSpent known place
  one_there e first fresh none u last at spent = elim (cases_lt e.0 u) [
    | inl less ↦ none-some last (sym (none u less) ∙ at)
    | inr more ↦
        let low = first.1 u last at in
        let same : u ≡ e.0 = omega arith in
        fresh (subst (IsSpent known place) same spent)
  ]

  -- the first two aren't: what overwrites a later one is one of them, and overwrites the other
  pub two_there : (e f : ℕ × ℕ) → IsFirstOfAll known.zones (Some e) → (IsSpent known place e.0 → ⊥) → IsFirstAfter known.zones e.0 (Some f) → (IsSpent known place f.0 → ⊥) → NoneSpent known place
  two_there e f first fresh_e second fresh_f u last at spent = elim (cases_lt f.0 u) [
    | inr more ↦ elim (cases_lt e.0 u) [
      | inl less ↦
          let low = second.2 u last less at in
          let same : u ≡ f.0 = omega arith in
          fresh_f (subst (IsSpent known place) same spent)
      | inr most ↦
          let low = first.1 u last at in
          let same : u ≡ e.0 = omega arith in
          fresh_e (subst (IsSpent known place) same spent)
    ]
    | inl beyond ↦
        let order = second.0 in
        elim spent [
          | inl low ↦ fresh_f (inl (omega arith))
          | inr o ↦
              let x = o.1 in
              elim (cases_eq o.0 f.0) [
                | inl same ↦ fresh_e (inr (o.0, record { last = x.last; is = x.is; apart = λ e_same. absurd (omega arith); early = x.early; later = omega (arith, x.later) }))
                | inr apart ↦ fresh_f (inr (o.0, record { last = x.last; is = x.is; apart = apart; early = x.early; later = omega (arith, x.later) }))
              ]
        ]
  ]

-- a zone without another isn't overwritten
pub not_overwritten : (all : List (ℕ × ℕ)) (end place : ℕ) → HasNoOther all end → IsOverwritten all place end → ⊥
not_overwritten all end place none h = none-some h.1.last (sym (none h.0 h.1.apart) ∙ h.1.is)

-- so no zone is spent where there is only that one, and it isn't
pub one_unspent : (known : Known) (place first : ℕ) → HasNoOther known.zones first → (IsSpent known place first → ⊥) → NoneSpent known place
one_unspent known place first none unspent u last at spent = elim (cases_eq u first) [
  | inl same ↦ unspent (subst (λ (n : ℕ). IsSpent known place n) same spent)
  | inr apart ↦ none-some last (sym (none u apart) ∙ at)
]
