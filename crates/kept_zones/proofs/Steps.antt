-- What the operations leave.
use Rattle.std.proofs.Common.{ℕ, ◌≡◌, ◌≢◌, ◌<◌, ◌≤◌, inl, inr, Option, Some, None, false, MatchOption, IsSome, ap, sym, ◌∙◌, refl, arith}
use Rattle.std.proofs.lemmas.Bool.{cases_eq}
use Rattle.std.proofs.lemmas.Grind.{common_steps}
use Rattle.std.proofs.lemmas.Option.{none-some}
use Rattle.std.specs.BTreeMap.{BTreeMap, get}
use Rattle.std.specs.BTreeMap.Range.{IsEntryInRange, IsInRange}
use Rattle.std.specs.declared.ops.Bound.TheVariants.{Included, Excluded, Unbounded}
use Rattle.std.specs.Ordering.{nat_cmp, is_lt, is_gt}
use Rattle.std.specs.declared.cmp.Ordering.TheVariants.{Less}
use Rattle.kept_zones.specs.Indexes.{AreIndexed, ArePruned, HoldsOne, HoldsInner, IsHeld}
use Rattle.kept_zones.specs.Nearest.{IsLastBefore, IsLastUpTo}
use Rattle.kept_zones.specs.Overwriting.{last_of}
use Rattle.kept_zones.proofs.Changes.{Sets, Drops, added_same, added_inner, raised_same}
use Rattle.kept_zones.proofs.Pruning.{raised_inner}

some_there : (o : Option ℕ) (v : ℕ) → o ≡ Some v → IsSome o
some_there (Some w) v e = refl
some_there None v e = absurd (none-some v e)

less_from : (k q : ℕ) → nat_cmp k q ≡ Less → k < q
less_from k q e = grind (arith, common_steps)

less_to : (k q : ℕ) → k < q → nat_cmp k q ≡ Less
less_to k q h = grind (arith, common_steps)

most_from : (k q : ℕ) → is_gt (nat_cmp k q) ≡ false → k ≤ q
most_from k q e = grind (arith, common_steps)

most_to : (k q : ℕ) → k ≤ q → is_gt (nat_cmp k q) ≡ false
most_to k q h = grind (arith, common_steps)

not_less : (k q : ℕ) → is_lt (nat_cmp k q) ≡ false → q ≤ k
not_less k q e = grind (arith, common_steps)

pub before_from : (m : BTreeMap ℕ ℕ) (place k v : ℕ) → IsEntryInRange nat_cmp Unbounded (Excluded place) m (k, v) → ((q : ℕ) → IsInRange nat_cmp Unbounded (Excluded place) q → IsSome (get nat_cmp m q) → is_lt (nat_cmp k q) ≡ false) → IsLastBefore m.entries place (Some (k, v))
before_from m place k v is greatest = (less_from k place is.0.1, is.1, λ q value less at. not_less k q (greatest q (tt, less_to q place less) (some_there (last_of m.entries q) value at)))

pub up_to_from : (m : BTreeMap ℕ ℕ) (place k v : ℕ) → IsEntryInRange nat_cmp Unbounded (Included place) m (k, v) → ((q : ℕ) → IsInRange nat_cmp Unbounded (Included place) q → IsSome (get nat_cmp m q) → is_lt (nat_cmp k q) ≡ false) → IsLastUpTo m.entries place (Some (k, v))
up_to_from m place k v is greatest = (most_from k place is.0.1, is.1, λ q value low at. not_less k q (greatest q (tt, most_to q place low) (some_there (last_of m.entries q) value at)))

-- an option matched again
pub match_again : {P A : Type 0} {Q B : ℕ → Type 0} (r : Option ℕ) → MatchOption r P Q → (P → A) → ((w : ℕ) → Q w → B w) → MatchOption r A B
match_again None h f g = f h
match_again (Some w) h f g = g w h

-- ---- the same inner zones

same_holds : (all forward inner new : ℕ → Option ℕ) (floor end last : ℕ) → ((q : ℕ) → new q ≡ inner q) → HoldsInner all forward inner floor end last → HoldsInner all forward new floor end last
same_holds all forward inner new floor end last same i = record { w = i.w; begin = i.begin; is = same i.w ∙ i.is; early = i.early; late = i.late }

pub same_inner : (all forward inner new : ℕ → Option ℕ) (floor : ℕ) → ((q : ℕ) → new q ≡ inner q) → AreIndexed all forward inner floor → AreIndexed all forward new floor
same_inner all forward inner new floor same is = record {
  ahead = is.ahead;
  all_ahead = is.all_ahead;
  within = λ w begin at. is.within w begin (sym (same w) ∙ at);
  rising = λ v w a b less at_v at_w. is.rising v w a b less (sym (same v) ∙ at_v) (sym (same w) ∙ at_w);
  held = λ w last at back. elim (is.held w last at back) [ inl i ↦ inl (same_holds all forward inner new floor w last same i) | inr low ↦ inr low ];
  free = is.free;
}

one_of : (all forward inner : ℕ → Option ℕ) (floor end last : ℕ) → HoldsOne inner end last → HoldsInner all forward inner floor end last
one_of all forward inner floor end last h = record { w = h.0; begin = h.1; is = h.2; early = h.3; late = h.4 }

module _ (all forward inner : ℕ → Option ℕ) (floor end last : ℕ) (is : AreIndexed all forward inner floor) (before : (w l : ℕ) → all w ≡ Some l → (w < end) × (l < end)) where
  inner_before : (w begin : ℕ) → inner w ≡ Some begin → w < end
  inner_before w begin at = (let i = is.within w begin at in (before w i.0 i.1).0)

  -- none ended after it, so none went
  other_by : (held : ℕ → Option ℕ) → ArePruned inner end last held → (q : ℕ) → q ≢ end → (o p : Option ℕ) → held q ≡ o → inner q ≡ p → held q ≡ inner q
  other_by held p q apart None None e f = e ∙ sym f
  other_by held p q apart (Some b) None e f = absurd (none-some b (sym f ∙ p.known q b apart e))
  other_by held p q apart o (Some b) e f = elim (p.kept q b apart f) [
    | inl same ↦ same ∙ sym f
    | inr gone ↦ (let less = inner_before q b f in absurd (omega (arith, gone.0)))
  ]

  pruned_sets : (held : ℕ → Option ℕ) → ArePruned inner end last held → Sets inner end last held
  pruned_sets held p = record { here = p.here; others = λ q apart. other_by held p q apart (held q) (inner q) refl refl }

  pub added : last ≤ end → (new_all held : ℕ → Option ℕ) → Sets all end last new_all → IsHeld inner end last held → AreIndexed new_all forward held floor
  added begun new_all held sets (inl h) = same_inner new_all forward inner held floor h.1 (added_same all forward inner floor end last is before begun new_all sets (one_of all forward inner floor end last h.0))
  added begun new_all held sets (inr h) = added_inner all forward inner floor end last is before begun new_all sets (λ w begin at. h.0 w begin (let less = inner_before w begin at in omega arith) at) held (pruned_sets held h.1)

  -- taken out again
  absent : (o : Option ℕ) → inner end ≡ o → inner end ≡ None
  absent None e = e
  absent (Some b) e = (let less = inner_before end b e in absurd (omega arith))

  pub restored : (held back : ℕ → Option ℕ) → IsHeld inner end last held → Drops held end back → (q : ℕ) → back q ≡ inner q
  restored held back h d q = elim (cases_eq q end) [
    | inl same ↦ ap back same ∙ (d.here ∙ (sym (absent (inner end) refl) ∙ ap inner (sym same)))
    | inr apart ↦ d.others q apart ∙ elim h [ inl x ↦ x.1 q | inr x ↦ (pruned_sets held x.1).others q apart ]
  ]

module _ (all forward inner : ℕ → Option ℕ) (floor end last known : ℕ) (is : AreIndexed all forward inner floor) (there : all end ≡ Some known) (later : known < last) (free : (w l : ℕ) → w ≢ end → all w ≡ Some l → end < l → w < last → ⊥) (new_all : ℕ → Option ℕ) (sets : Sets all end last new_all) where
  pub raised_behind : last ≤ end → (held : ℕ → Option ℕ) → IsHeld inner end last held → AreIndexed new_all forward held floor
  raised_behind behind held (inl h) = same_inner new_all forward inner held floor h.1 (raised_same all forward inner floor end last known is there later free new_all sets behind (one_of all forward inner floor end last h.0))
  raised_behind behind held (inr h) = raised_inner all forward inner floor end last known is there later free new_all sets behind h.0 held h.1 h.2
