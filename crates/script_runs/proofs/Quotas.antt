-- The first items of a list, one more.
use Rattle.std.proofs.Common.{ℕ, ◌≡◌, ◌+◌, List, [], ◌∷◌, ◌++◌, length, length-append, sym, ap, ◌∙◌, subst, arith}
use Rattle.std.specs.Prelude.{take}
use Rattle.std.proofs.lemmas.List.{take_all, take-append-le}
use Rattle.script_runs.specs.Quotas.{GoesOn, HasRoom, IsFull, IsQuotaAfter, ShowsFirst}
use Rattle.script_runs.specs.declared.quota.Quota.{Quota}

module _ {A : Type 0} where
  -- no item yet
  pub none_shown : (Shows : List A → Type 0) (most : ℕ) (quota : Quota) → Shows [] → IsQuotaAfter most 0 quota → ShowsFirst Shows most [] quota
  none_shown Shows most quota shows counted = record { shows = subst Shows (sym (take_all most [] (omega arith))) shows; counted = counted }

  module _ (Before After : List A → Type 0) (old new : Quota) (x : A) (on : GoesOn old new) (most : ℕ) (items : List A) (first : ShowsFirst Before most items old) where
    counted_on : IsQuotaAfter most (length (items ++ x ∷ [])) new
    counted_on = subst (λ (n : ℕ). IsQuotaAfter most n new) (sym (length-append items (x ∷ []))) (on most (length items) first.counted)

    -- one that is shown
    pub one_shown : HasRoom old → ((xs : List A) → Before xs → After (xs ++ x ∷ [])) → ShowsFirst After most (items ++ x ∷ []) new
    one_shown room shows =
        let few = room most (length items) first.counted in
        let long = length-append items (x ∷ []) in
        let same : take most items ++ x ∷ [] ≡ take most (items ++ x ∷ []) =
        ap (λ (ys : List A). ys ++ x ∷ []) (take_all most items (omega (arith, few)))
        ∙ sym (take_all most (items ++ x ∷ []) (omega (arith, few, long))) in
        record { shows = subst After same (shows (take most items) first.shows); counted = counted_on }

    -- one that is left out
    pub one_omitted : IsFull old → ((xs : List A) → Before xs → After xs) → ShowsFirst After most (items ++ x ∷ []) new
    one_omitted full shows =
        let same = take-append-le most items (x ∷ []) (full most (length items) first.counted) in
        record { shows = subst After (sym same) (shows (take most items) first.shows); counted = counted_on }
