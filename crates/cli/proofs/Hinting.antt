-- What is made of keys, and people are told.
use Rattle.std.proofs.Common.{ℕ, ◌≡◌, Bool, true, false, cond, List, [], ◌++◌, append-nil, codes, refl, subst, sym, ap, ◌∙◌}
use Rattle.recorder.specs.Histories.{Recorded}
use Rattle.parallel_keys.specs.CheckedKeys.{KeyParts, all_parts}
use Rattle.parallel_keys.specs.Histories.{AreHallParts}
use Rattle.cli.specs.Hints.{MakesHinted, have_notes, hint_of, hint_text}
use Rattle.cli.specs.Justifications.{KeyPart, OfHalls}
use Rattle.cli.specs.TagOrders.{MakesOrders}
use Rattle.cli.specs.declared.outcome.Found.{Found}
use Rattle.cli.specs.declared.outcome.Found.TheVariants as found
use Rattle.cli.specs.declared.outcome.Outcome.{Outcome}

pub made_hinted : (halls : List Recorded) (parts : List KeyParts) → AreHallParts halls parts → (unchecked people : Bool) (made told : Outcome) → MakesOrders unchecked (all_parts parts) made.found made.text.items made.notes.items
    → told.text.items ≡ made.text.items → told.found ≡ made.found → told.notes.items ≡ made.notes.items ++ hint_of people made.found (all_parts parts) → OfHalls (MakesHinted (MakesOrders unchecked) people) halls told
made_hinted halls parts split unchecked people made told is text same notes = record {
  parts = parts;
  split = split;
  makes = record {
    own = made.notes.items;
    made = subst (λ (f : Found). MakesOrders unchecked (all_parts parts) f told.text.items made.notes.items) (sym same) (subst (λ (t : List ℕ). MakesOrders unchecked (all_parts parts) made.found t made.notes.items) (sym text) is);
    is = notes ∙ ap (λ (f : Found). made.notes.items ++ hint_of people f (all_parts parts)) (sym same);
  };
}

hint_is : (people : Bool) (f : Found) (parts : List KeyPart) → people ≡ true → f ≡ found.Refused → have_notes parts ≡ false → hint_of people f parts ≡ hint_text
hint_is true found.Refused parts asked refused none = ap (λ (b : Bool). cond b [] hint_text) none
hint_is true found.Good parts asked refused none = absurd (cc)
hint_is true found.Undecided parts asked refused none = absurd (cc)
hint_is false f parts asked refused none = absurd (cc)

no_hint : (people : Bool) (f : Found) (parts : List KeyPart) → (people ≡ true → f ≡ found.Refused → have_notes parts ≡ false → ⊥) → hint_of people f parts ≡ []
no_hint true found.Refused parts other = by (have_notes parts) refl
  where
    by : (b : Bool) → have_notes parts ≡ b → hint_of true found.Refused parts ≡ []
    by true some = ap (λ (b : Bool). cond b [] hint_text) some
    by false none = absurd (other refl refl none)
no_hint true found.Good parts other = refl
no_hint true found.Undecided parts other = refl
no_hint false f parts other = refl

-- people are told of a refusal, if no call has a note
pub hint_told : (people : Bool) (f : Found) (parts : List KeyPart) (old new : List ℕ) → people ≡ true → f ≡ found.Refused → have_notes parts ≡ false
    → new ≡ old ++ codes "abd: no call has a note; abd justify --by values makes orders from the values\n" → new ≡ old ++ hint_of people f parts
unfolding hint_text
hint_told people f parts old new asked refused none grown = grown ∙ ap (λ (l : List ℕ). old ++ l) (sym (hint_is people f parts asked refused none))

-- and else no more
pub nothing_told : (people : Bool) (f : Found) (parts : List KeyPart) (notes : List ℕ) → (people ≡ true → f ≡ found.Refused → have_notes parts ≡ false → ⊥)
    → notes ≡ notes ++ hint_of people f parts
nothing_told people f parts notes other = sym (append-nil notes) ∙ ap (λ (l : List ℕ). notes ++ l) (sym (no_hint people f parts other))
