-- An inner zone more: those that hold it go.
use Rattle.std.proofs.Common.{ℕ, ◌≡◌, ◌≢◌, ◌<◌, ◌≤◌, ◌⊎◌, inl, inr, Option, Some, ap, sym, ◌∙◌, arith}
use Rattle.std.proofs.lemmas.Bool.{cases_eq}
use Rattle.std.proofs.lemmas.Option.{same_Some}
use Rattle.kept_zones.specs.Indexes.{HoldsInner, AreIndexed, ArePruned, IsDone}
use Rattle.kept_zones.proofs.Changes.{Sets, Drops, set_either, dropped_old, raised_free, behind_ahead, behind_all_ahead}

pub pruned_none : (old : ℕ → Option ℕ) (end last : ℕ) (new : ℕ → Option ℕ) → Sets old end last new → ArePruned old end last new
pruned_none old end last new s = record {
  here = s.here;
  known = λ w begin apart at. sym (s.others w apart) ∙ at;
  kept = λ w begin apart at. inl (s.others w apart ∙ at);
}

-- one more goes
pub pruned_more : (old : ℕ → Option ℕ) (end last : ℕ) (now new : ℕ → Option ℕ) (w begin : ℕ) → ArePruned old end last now → end < w → now w ≡ Some begin → begin ≤ last → Drops now w new → ArePruned old end last new
pruned_more old end last now new w begin p late at low d = record {
  here = d.others end (λ same. absurd (omega arith)) ∙ p.here;
  known = λ v b apart there. p.known v b apart (dropped_old now w new d v b there).1;
  kept = λ v b apart there. elim (p.kept v b apart there) [
    | inr gone ↦ inr gone
    | inl is ↦ elim (cases_eq v w) [
      | inl same ↦
          let here : b ≡ begin = same_Some b begin (sym is ∙ (ap now same ∙ at)) in
          inr (omega arith, omega arith)
      | inr other ↦ inl (d.others v other ∙ is)
    ]
  ];
}

module _ (all forward inner : ℕ → Option ℕ) (floor end last known : ℕ) (is : AreIndexed all forward inner floor) (there : all end ≡ Some known) (later : known < last) (apart_all : (w l : ℕ) → w ≢ end → all w ≡ Some l → end < l → w < last → ⊥) (new_all : ℕ → Option ℕ) (sets : Sets all end last new_all) (behind : last ≤ end) (lower : (w begin : ℕ) → w ≤ end → inner w ≡ Some begin → begin < last)
    (new_inner : ℕ → Option ℕ) (p : ArePruned inner end last new_inner) (done : IsDone new_inner end last) where
  -- what is there is the new one, or was there
  either : (w begin : ℕ) → new_inner w ≡ Some begin → ((w ≡ end) × (begin ≡ last)) ⊎ ((w ≢ end) × (inner w ≡ Some begin))
  either w begin at = elim (cases_eq w end) [
    | inl same ↦ inl (same, same_Some begin last (sym at ∙ (ap new_inner same ∙ p.here)))
    | inr apart ↦ inr (apart, p.known w begin apart at)
  ]

  rising_now : (v w a b : ℕ) → v < w → new_inner v ≡ Some a → new_inner w ≡ Some b → a < b
  rising_now v w a b less at_v at_w = elim (either v a at_v) [
    | inl h ↦ (let up = done w b (omega (arith, h.0)) at_w in omega (arith, h.1))
    | inr h ↦ elim (either w b at_w) [
      | inl g ↦ (let low = lower v a (omega (arith, g.0)) h.1 in omega (arith, g.1))
      | inr g ↦ is.rising v w a b less h.1 g.1
    ]
  ]

  -- what held an inner one that went holds the new one
  holds_now : (w l : ℕ) → HoldsInner all forward inner floor w l → HoldsInner new_all forward new_inner floor w l
  holds_now w l i = elim (cases_eq i.w end) [
    | inl same ↦ (let low = lower i.w i.begin (omega arith) i.is in record { w = end; begin = last; is = p.here; early = omega (arith, i.early); late = omega (arith, i.late) })
    | inr apart ↦ elim (p.kept i.w i.begin apart i.is) [
      | inl here ↦ record { w = i.w; begin = i.begin; is = here; early = i.early; late = i.late }
      | inr gone ↦ record { w = end; begin = last; is = p.here; early = omega (arith, gone.0, i.early); late = omega (arith, gone.1, i.late) }
    ]
  ]

  pub raised_inner : AreIndexed new_all forward new_inner floor
  raised_inner = record {
    ahead = behind_ahead all forward inner floor end last known is there later apart_all new_all sets behind;
    all_ahead = behind_all_ahead all forward inner floor end last known is there later apart_all new_all sets behind;
    within = λ w begin at. elim (either w begin at) [
      | inl h ↦ (last, ap new_all h.0 ∙ sets.here, omega (arith, h.1), omega (arith, h.0, h.1))
      | inr h ↦ (let i = is.within w begin h.1 in (i.0, sets.others w h.0 ∙ i.1, i.2, i.3))
    ];
    rising = rising_now;
    held = λ w l at back. elim (set_either all end last new_all sets w l at) [
      | inl h ↦ inl (record { w = end; begin = last; is = p.here; early = omega (arith, h.0); late = omega (arith, h.1) })
      | inr h ↦ elim (is.held w l h.1 back) [ inl i ↦ inl (holds_now w l i) | inr low ↦ inr low ]
    ];
    free = raised_free all forward inner floor end last known is there later apart_all new_all sets;
  }
