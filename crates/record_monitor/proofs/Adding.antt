-- Numbers of keys.
use Rattle.std.proofs.Common.{ℕ, ◌≡◌, ◌<◌, ◌≤◌, inl, inr, List, [], ◌∷◌, ◌++◌, Some, length, sym, subst, arith}
use Rattle.std.specs.List.{slice_get, Contains}
use Rattle.std.proofs.lemmas.Option.{slice_get_within}
use Rattle.tag.proofs.Lists.{Contains-slice_get, slice_get-push_last}
use Rattle.key_index.specs.Numbers.{Numbers}
use Rattle.record_monitor.specs.Watched.{IsNumberOf}

-- a key that wasn't seen is added
pub unseen_number : (old : List (List ℕ)) (key : List ℕ) (number : ℕ) (new : List (List ℕ)) → Numbers old key number new
    → (Contains old key → ⊥) → new ≡ old ++ key ∷ []
unseen_number old key number new (Numbers.known at same) unseen = absurd (unseen (Contains-slice_get old number key at))
unseen_number old key number new (Numbers.first none is more) unseen = more

module _ (keys : List (List ℕ)) (key : List ℕ) (number count : ℕ) (many : count ≡ length keys) (is : IsNumberOf keys key number) where
  -- a number below the count is a seen key's
  pub number_seen : number < count → slice_get keys number ≡ Some key
  number_seen less = elim is [ inl at ↦ at | inr none ↦ absurd (omega (arith, less, many, none.1)) ]

  -- another one is the next
  pub number_unseen : count ≤ number → Contains keys key → ⊥
  number_unseen more there = elim is [
    | inl at ↦ absurd (omega (arith, more, many, slice_get_within keys number key at))
    | inr none ↦ none.0 there
  ]

  pub number_next : count ≤ number → number ≡ length keys
  number_next more = elim is [
    | inl at ↦ absurd (omega (arith, more, many, slice_get_within keys number key at))
    | inr none ↦ none.1
  ]

  pub number_there : count ≤ number → (new : List (List ℕ)) → new ≡ keys ++ key ∷ [] → slice_get new number ≡ Some key
  number_there more new added =
      subst (λ (n : ℕ). slice_get new n ≡ Some key) (sym (number_next more))
      (subst (λ (ks : List (List ℕ)). slice_get ks (length keys) ≡ Some key) (sym added) (slice_get-push_last keys key))
