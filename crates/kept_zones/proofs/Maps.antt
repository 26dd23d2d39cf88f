-- Maps of places as functions.
use Rattle.std.proofs.Common.{ℕ, ◌≡◌, ◌≢◌, ◌<◌, ◌≤◌, inl, inr, false, List, Option, Some, None, ap, sym, ◌∙◌, refl, arith}
use Rattle.std.proofs.lemmas.Grind.{common_steps}
use Rattle.std.proofs.lemmas.Bool.{cases_lt}
use Rattle.std.proofs.lemmas.Option.{same_Some, none-some}
use Rattle.std.specs.BTreeMap.{BTreeMap, UpdatesBy, is_at}
use Rattle.std.specs.Ordering.{nat_cmp}
use Rattle.kept_zones.specs.Indexes.{ArePruned, HoldsOne, IsDone, IsLower, IsRising, IsRisingAfter}
use Rattle.kept_zones.specs.Nearest.{IsFirstAfter, IsLastUpTo}
use Rattle.kept_zones.specs.Overwriting.{last_of}
use Rattle.kept_zones.proofs.Changes.{Sets, Drops}

pub apart_test : (k q : ℕ) → q ≢ k → is_at (nat_cmp k) q ≡ false
apart_test k q apart = grind (arith, common_steps)

pub set_from : (m n : BTreeMap ℕ ℕ) (k v : ℕ) → UpdatesBy nat_cmp (nat_cmp k) m n (Some v) → Sets (last_of m.entries) k v (last_of n.entries)
set_from m n k v u = record { here = u.1; others = λ q apart. u.2 q (apart_test k q apart) }

pub dropped_from : (m n : BTreeMap ℕ ℕ) (k : ℕ) → UpdatesBy nat_cmp (nat_cmp k) m n None → Drops (last_of m.entries) k (last_of n.entries)
dropped_from m n k u = record { here = u.1; others = λ q apart. u.2 q (apart_test k q apart) }

-- nothing has gone yet
pub pruned_start : (inner : ℕ → Option ℕ) (end last : ℕ) → inner end ≡ Some last → ArePruned inner end last inner
pruned_start inner end last here = record { here = here; known = λ w begin apart at. at; kept = λ w begin apart at. inl at }

-- the first after it that is left began later, so all do
pub done_by : (start now : List (ℕ × ℕ)) (end last : ℕ) → IsRisingAfter (last_of start) end → ArePruned (last_of start) end last (last_of now) → (o : Option (ℕ × ℕ)) → IsFirstAfter now end o → ((e : ℕ × ℕ) → o ≡ Some e → last < e.1) → IsDone (last_of now) end last
done_by start now end last rising p None none more w begin less at = absurd (none-some begin (sym (none w less) ∙ at))
done_by start now end last rising p (Some e) first more w begin less at =
    let low = first.2 w begin less at in
    let high = more e refl in
    let after = first.0 in
    elim (cases_lt e.0 w) [
      | inl h ↦ (let up = rising e.0 w e.1 begin after h (p.known e.0 e.1 (λ same. absurd (omega arith)) first.1) (p.known w begin (λ same. absurd (omega arith)) at) in omega arith)
      | inr h ↦
          let here : w ≡ e.0 = omega arith in
          let same : begin ≡ e.1 = same_Some begin e.1 (sym at ∙ (ap (last_of now) here ∙ first.1)) in
          omega arith
    ]

-- after it was put in, and others went
pub pruned_after : (old start new : ℕ → Option ℕ) (end last : ℕ) → Sets old end last start → ArePruned start end last new → ArePruned old end last new
pruned_after old start new end last s p = record {
  here = p.here;
  known = λ w begin apart at. sym (s.others w apart) ∙ p.known w begin apart at;
  kept = λ w begin apart at. p.kept w begin apart (s.others w apart ∙ at);
}

-- what was put in leaves the later ones as they were
pub rising_after : (old start : ℕ → Option ℕ) (end last : ℕ) → IsRising old → Sets old end last start → IsRisingAfter start end
rising_after old start end last rising s v w a b above less at_v at_w =
    rising v w a b less (sym (s.others v (λ same. absurd (omega arith))) ∙ at_v) (sym (s.others w (λ same. absurd (omega arith))) ∙ at_w)

-- the last one up to it
pub holds_by : (inner : List (ℕ × ℕ)) (end last : ℕ) (e : ℕ × ℕ) → IsLastUpTo inner end (Some e) → last ≤ e.1 → HoldsOne (last_of inner) end last
holds_by inner end last e is late = (e.0, e.1, is.1, is.0, late)

pub lower_by : (inner : List (ℕ × ℕ)) (end last : ℕ) → IsRising (last_of inner) → (o : Option (ℕ × ℕ)) → IsLastUpTo inner end o → ((e : ℕ × ℕ) → o ≡ Some e → e.1 < last) → IsLower (last_of inner) end last
lower_by inner end last rising None none less w begin low at = absurd (none-some begin (sym (none w low) ∙ at))
lower_by inner end last rising (Some e) is less w begin low at =
    let most = is.2 w begin low at in
    let early = less e refl in
    elim (cases_lt w e.0) [
      | inl h ↦ (let up = rising w e.0 begin e.1 h at is.1 in omega arith)
      | inr h ↦
          let here : w ≡ e.0 = omega arith in
          let same : begin ≡ e.1 = same_Some begin e.1 (sym at ∙ (ap (last_of inner) here ∙ is.1)) in
          omega arith
    ]
