-- A number stands once, also after a change.
use Rattle.std.proofs.Common.{ℕ, ◌≡◌, inl, inr, List, Option, Some, None, IsSome, ap, sym, ◌∙◌}
use Rattle.std.proofs.lemmas.Bool.{cases_eq}
use Rattle.std.proofs.lemmas.Option.{none-some}
use Rattle.kept_zones.proofs.Changes.{Sets, Drops, set_either, dropped_old}
use Rattle.kept_writers.specs.Candidates.{begin_at, StandOnce}
use Rattle.kept_writers.specs.Ends.{number_at}

some_not_none : (o : Option ℕ) → o ≡ None → IsSome o → ⊥
some_not_none None e h = cc
some_not_none (Some v) e h = none-some v (sym e)

module _ (begins ends : List (ℕ × ℕ)) (s : StandOnce begins ends) where
  pub once_added : (number place : ℕ) → ((end : ℕ) → number_at ends end ≡ Some number → ⊥) → (new : List (ℕ × ℕ)) → Sets (begin_at begins) number place (begin_at new) → StandOnce new ends
  once_added number place other new sets = record {
    once = s.once;
    apart = λ end n at. elim (cases_eq n number) [
      | inl same ↦ absurd (other end (at ∙ ap Some same))
      | inr apart ↦ sets.others n apart ∙ s.apart end n at
    ];
  }

  pub once_ended_at : (number end : ℕ) → IsSome (begin_at begins number) → (new_begins new_ends : List (ℕ × ℕ)) → Sets (number_at ends) end number (number_at new_ends) → Drops (begin_at begins) number (begin_at new_begins) → StandOnce new_begins new_ends
  once_ended_at number end there new_begins new_ends sets drops = record {
    once = λ a b n at_a at_b. elim (set_either (number_at ends) end number (number_at new_ends) sets a n at_a) [
      | inl x ↦ elim (set_either (number_at ends) end number (number_at new_ends) sets b n at_b) [
        | inl y ↦ x.0 ∙ sym y.0
        | inr y ↦ absurd (some_not_none (begin_at begins number) (s.apart b number (y.1 ∙ ap Some x.1)) there)
      ]
      | inr x ↦ elim (set_either (number_at ends) end number (number_at new_ends) sets b n at_b) [
        | inl y ↦ absurd (some_not_none (begin_at begins number) (s.apart a number (x.1 ∙ ap Some y.1)) there)
        | inr y ↦ s.once a b n x.1 y.1
      ]
    ];
    apart = λ e n at. elim (cases_eq n number) [
      | inl same ↦ ap (begin_at new_begins) same ∙ drops.here
      | inr apart ↦ elim (set_either (number_at ends) end number (number_at new_ends) sets e n at) [
        | inl x ↦ absurd (apart x.1)
        | inr x ↦ drops.others n apart ∙ s.apart e n x.1
      ]
    ];
  }

  pub once_forgot : (end : ℕ) (new : List (ℕ × ℕ)) → Drops (number_at ends) end (number_at new) → StandOnce begins new
  once_forgot end new drops = record {
    once = λ a b n at_a at_b. s.once a b n (dropped_old (number_at ends) end (number_at new) drops a n at_a).1 (dropped_old (number_at ends) end (number_at new) drops b n at_b).1;
    apart = λ e n at. s.apart e n (dropped_old (number_at ends) end (number_at new) drops e n at).1;
  }
