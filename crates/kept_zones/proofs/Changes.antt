-- Maps as functions: what a change of one entry leaves of the indexes.
use Rattle.std.proofs.Common.{ℕ, ◌≡◌, ◌≢◌, ◌<◌, ◌≤◌, ◌⊎◌, inl, inr, Option, Some, None, ap, sym, ◌∙◌, arith}
use Rattle.std.proofs.lemmas.Bool.{cases_eq}
use Rattle.std.proofs.lemmas.Option.{same_Some, none-some}
use Rattle.kept_zones.specs.Indexes.{HoldsInner, AreIndexed}

-- the map with that value there; without one
pub record Sets (old : ℕ → Option ℕ) (key value : ℕ) (new : ℕ → Option ℕ) : Type 0 where
  pub here : new key ≡ Some value
  pub others : (q : ℕ) → q ≢ key → new q ≡ old q

pub record Drops (old : ℕ → Option ℕ) (key : ℕ) (new : ℕ → Option ℕ) : Type 0 where
  pub here : new key ≡ None
  pub others : (q : ℕ) → q ≢ key → new q ≡ old q

-- what is there after a change was there, or is the new value
pub set_either : (old : ℕ → Option ℕ) (key value : ℕ) (new : ℕ → Option ℕ) → Sets old key value new → (q x : ℕ) → new q ≡ Some x → ((q ≡ key) × (x ≡ value)) ⊎ ((q ≢ key) × (old q ≡ Some x))
set_either old key value new s q x is = elim (cases_eq q key) [
  | inl same ↦ inl (same, same_Some x value (sym is ∙ (ap new same ∙ s.here)))
  | inr apart ↦ inr (apart, sym (s.others q apart) ∙ is)
]

pub dropped_old : (old : ℕ → Option ℕ) (key : ℕ) (new : ℕ → Option ℕ) → Drops old key new → (q x : ℕ) → new q ≡ Some x → (q ≢ key) × (old q ≡ Some x)
dropped_old old key new d q x is = elim (cases_eq q key) [
  | inl same ↦ absurd (none-some x (sym (ap new same ∙ d.here) ∙ is))
  | inr apart ↦ (apart, sym (d.others q apart) ∙ is)
]

-- the same zone elsewhere
pub same_last : (all : ℕ → Option ℕ) (v w k l : ℕ) → v ≡ w → all v ≡ Some k → all w ≡ Some l → k ≡ l
same_last all v w k l same at_v at_w = same_Some k l (sym at_v ∙ (ap all same ∙ at_w))

-- ---- a zone more, which ended after all others began and ended

module _ (all forward inner : ℕ → Option ℕ) (floor end last : ℕ) (is : AreIndexed all forward inner floor) (before : (w l : ℕ) → all w ≡ Some l → (w < end) × (l < end)) (begun : last ≤ end) (new_all : ℕ → Option ℕ) (sets : Sets all end last new_all) where
  added_ahead : (w l : ℕ) → forward w ≡ Some l → (new_all w ≡ Some l) × (w < l)
  added_ahead w l at =
      let a = is.ahead w l at in
      let low = (before w l a.0).0 in
      (sets.others w (λ same. absurd (omega arith)) ∙ a.0, a.1)

  added_all_ahead : (w l : ℕ) → new_all w ≡ Some l → w < l → forward w ≡ Some l
  added_all_ahead w l at less = elim (set_either all end last new_all sets w l at) [
    | inl h ↦ absurd (omega (arith, h.0, h.1))
    | inr h ↦ is.all_ahead w l h.1 less
  ]

  added_free : (v w k l : ℕ) → v ≢ w → new_all v ≡ Some k → new_all w ≡ Some l → v < l → w < k → ⊥
  added_free v w k l apart at_v at_w there back = elim (set_either all end last new_all sets v k at_v) [
    | inl h ↦ elim (set_either all end last new_all sets w l at_w) [
      | inl g ↦ apart (h.0 ∙ sym g.0)
      | inr g ↦ (let low = before w l g.1 in absurd (omega (arith, h.0, low.1)))
    ]
    | inr h ↦ elim (set_either all end last new_all sets w l at_w) [
      | inl g ↦ (let low = before v k h.1 in absurd (omega (arith, g.0, low.1)))
      | inr g ↦ is.free v w k l apart h.1 g.1 there back
    ]
  ]

  -- it holds an inner one already
  pub added_same : HoldsInner all forward inner floor end last → AreIndexed new_all forward inner floor
  added_same holds = record {
    ahead = added_ahead;
    all_ahead = added_all_ahead;
    within = λ w begin at. (let i = is.within w begin at in let low = (before w i.0 i.1).0 in (i.0, sets.others w (λ same. absurd (omega arith)) ∙ i.1, i.2, i.3));
    rising = is.rising;
    held = λ w l at back. elim (set_either all end last new_all sets w l at) [
      | inl h ↦ inl (record { w = holds.w; begin = holds.begin; is = holds.is; early = omega (arith, h.0, holds.early); late = omega (arith, h.1, holds.late) })
      | inr h ↦ elim (is.held w l h.1 back) [
        | inl i ↦ inl (record { w = i.w; begin = i.begin; is = i.is; early = i.early; late = i.late })
        | inr low ↦ inr low
      ]
    ];
    free = added_free;
  }

  -- it is an inner one
  pub added_inner : ((w begin : ℕ) → inner w ≡ Some begin → begin < last) → (new_inner : ℕ → Option ℕ) → Sets inner end last new_inner → AreIndexed new_all forward new_inner floor
  added_inner lower new_inner puts = record {
    ahead = added_ahead;
    all_ahead = added_all_ahead;
    within = λ w begin at. elim (set_either inner end last new_inner puts w begin at) [
      | inl h ↦ (last, ap new_all h.0 ∙ sets.here, omega (arith, h.1), omega (arith, h.0, h.1))
      | inr h ↦ (let i = is.within w begin h.1 in (i.0, sets.others w h.0 ∙ i.1, i.2, i.3))
    ];
    rising = λ v w a b less at_v at_w. elim (set_either inner end last new_inner puts w b at_w) [
      | inl h ↦ elim (set_either inner end last new_inner puts v a at_v) [
        | inl g ↦ absurd (omega (arith, h.0, g.0))
        | inr g ↦ (let low = lower v a g.1 in omega (arith, h.1))
      ]
      | inr h ↦ elim (set_either inner end last new_inner puts v a at_v) [
        | inl g ↦ (let i = is.within w b h.1 in let low = (before w i.0 i.1).0 in absurd (omega (arith, g.0)))
        | inr g ↦ is.rising v w a b less g.1 h.1
      ]
    ];
    held = λ w l at back. elim (set_either all end last new_all sets w l at) [
      | inl h ↦ inl (record { w = end; begin = last; is = puts.here; early = omega (arith, h.0); late = omega (arith, h.1) })
      | inr h ↦ elim (is.held w l h.1 back) [
        | inl i ↦
            let j = is.within i.w i.begin i.is in
            let low = (before i.w j.0 j.1).0 in
            inl (record { w = i.w; begin = i.begin; is = puts.others i.w (λ same. absurd (omega arith)) ∙ i.is; early = i.early; late = i.late })
        | inr low ↦ inr low
      ]
    ];
    free = added_free;
  }

-- ---- a zone that began later than was known

module _ (all forward inner : ℕ → Option ℕ) (floor end last known : ℕ) (is : AreIndexed all forward inner floor) (there : all end ≡ Some known) (later : known < last) (apart_all : (w l : ℕ) → w ≢ end → all w ≡ Some l → end < l → w < last → ⊥) (new_all : ℕ → Option ℕ) (sets : Sets all end last new_all) where
  pub raised_free : (v w k l : ℕ) → v ≢ w → new_all v ≡ Some k → new_all w ≡ Some l → v < l → w < k → ⊥
  raised_free v w k l apart at_v at_w less back = elim (set_either all end last new_all sets v k at_v) [
    | inl h ↦ elim (set_either all end last new_all sets w l at_w) [
      | inl g ↦ apart (h.0 ∙ sym g.0)
      | inr g ↦ apart_all w l g.0 g.1 (omega (arith, h.0)) (omega (arith, h.1))
    ]
    | inr h ↦ elim (set_either all end last new_all sets w l at_w) [
      | inl g ↦ apart_all v k h.0 h.1 (omega (arith, g.0)) (omega (arith, g.1))
      | inr g ↦ is.free v w k l apart h.1 g.1 less back
    ]
  ]

  raised_within : (w begin : ℕ) → inner w ≡ Some begin → (l : ℕ) × (new_all w ≡ Some l) × (begin ≤ l) × (begin ≤ w)
  raised_within w begin at =
      let i = is.within w begin at in
      elim (cases_eq w end) [
        | inl same ↦
            let here : i.0 ≡ known = same_last all w end i.0 known same i.1 there in
            (last, ap new_all same ∙ sets.here, omega (arith, i.2), i.3)
        | inr apart ↦ (i.0, sets.others w apart ∙ i.1, i.2, i.3)
      ]

  -- after its first end
  pub raised_ahead : end < last → (new_forward : ℕ → Option ℕ) → Sets forward end last new_forward → AreIndexed new_all new_forward inner floor
  raised_ahead ahead new_forward puts = record {
    ahead = λ w l at. elim (set_either forward end last new_forward puts w l at) [
      | inl h ↦ (ap new_all h.0 ∙ (sets.here ∙ ap Some (sym h.1)), omega (arith, h.0, h.1))
      | inr h ↦ (let a = is.ahead w l h.1 in (sets.others w h.0 ∙ a.0, a.1))
    ];
    all_ahead = λ w l at less. elim (set_either all end last new_all sets w l at) [
      | inl h ↦ ap new_forward h.0 ∙ (puts.here ∙ ap Some (sym h.1))
      | inr h ↦ puts.others w h.0 ∙ is.all_ahead w l h.1 less
    ];
    within = raised_within;
    rising = is.rising;
    held = λ w l at back. elim (set_either all end last new_all sets w l at) [
      | inl h ↦ absurd (omega (arith, h.0, h.1))
      | inr h ↦ elim (is.held w l h.1 back) [
        | inl i ↦ inl (record { w = i.w; begin = i.begin; is = i.is; early = i.early; late = i.late })
        | inr low ↦ inr low
      ]
    ];
    free = raised_free;
  }

  -- before it: then it wasn't ahead
  module _ (behind : last ≤ end) where
    not_ahead : (w l : ℕ) → forward w ≡ Some l → w ≢ end
    not_ahead w l at same =
        let a = is.ahead w l at in
        let here : l ≡ known = same_last all w end l known same a.0 there in
        absurd (omega (arith, a.1))

    pub behind_ahead : (w l : ℕ) → forward w ≡ Some l → (new_all w ≡ Some l) × (w < l)
    behind_ahead w l at = (let a = is.ahead w l at in (sets.others w (not_ahead w l at) ∙ a.0, a.1))

    pub behind_all_ahead : (w l : ℕ) → new_all w ≡ Some l → w < l → forward w ≡ Some l
    behind_all_ahead w l at less = elim (set_either all end last new_all sets w l at) [
      | inl h ↦ absurd (omega (arith, h.0, h.1))
      | inr h ↦ is.all_ahead w l h.1 less
    ]

    -- it holds an inner one already
    pub raised_same : HoldsInner all forward inner floor end last → AreIndexed new_all forward inner floor
    raised_same holds = record {
      ahead = behind_ahead;
      all_ahead = behind_all_ahead;
      within = raised_within;
      rising = is.rising;
      held = λ w l at back. elim (set_either all end last new_all sets w l at) [
        | inl h ↦ inl (record { w = holds.w; begin = holds.begin; is = holds.is; early = omega (arith, h.0, holds.early); late = omega (arith, h.1, holds.late) })
        | inr h ↦ elim (is.held w l h.1 back) [
          | inl i ↦ inl (record { w = i.w; begin = i.begin; is = i.is; early = i.early; late = i.late })
          | inr low ↦ inr low
        ]
      ];
      free = raised_free;
    }

-- ---- a zone that goes

module _ (all forward inner : ℕ → Option ℕ) (floor end last : ℕ) (is : AreIndexed all forward inner floor) (there : all end ≡ Some last) (new_all new_forward new_inner : ℕ → Option ℕ) (off_all : Drops all end new_all) (off_forward : Drops forward end new_forward) (off_inner : Drops inner end new_inner) (new_floor : ℕ) (low : floor ≤ new_floor) (above : last ≤ new_floor) where
  pub gone : AreIndexed new_all new_forward new_inner new_floor
  gone = record {
    ahead = λ w l at. (let o = dropped_old forward end new_forward off_forward w l at in let a = is.ahead w l o.1 in (off_all.others w o.0 ∙ a.0, a.1));
    all_ahead = λ w l at less. (let o = dropped_old all end new_all off_all w l at in off_forward.others w o.0 ∙ is.all_ahead w l o.1 less);
    within = λ w begin at. (let o = dropped_old inner end new_inner off_inner w begin at in let i = is.within w begin o.1 in (i.0, off_all.others w o.0 ∙ i.1, i.2, i.3));
    rising = λ v w a b less at_v at_w. is.rising v w a b less (dropped_old inner end new_inner off_inner v a at_v).1 (dropped_old inner end new_inner off_inner w b at_w).1;
    held = λ w l at back. (let o = dropped_old all end new_all off_all w l at in elim (is.held w l o.1 back) [
      | inl i ↦ elim (cases_eq i.w end) [
        | inl same ↦
            let j = is.within i.w i.begin i.is in
            let here : j.0 ≡ last = same_last all i.w end j.0 last same j.1 there in
            inr (omega (arith, i.late, j.2))
        | inr apart ↦ inl (record { w = i.w; begin = i.begin; is = off_inner.others i.w apart ∙ i.is; early = i.early; late = i.late })
      ]
      | inr small ↦ inr (omega arith)
    ]);
    free = λ v w k l apart at_v at_w there back. is.free v w k l apart (dropped_old all end new_all off_all v k at_v).1 (dropped_old all end new_all off_all w l at_w).1 there back;
  }
