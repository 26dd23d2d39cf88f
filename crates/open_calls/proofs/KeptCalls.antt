-- What is kept of the pending calls, after a change.
use Rattle.std.proofs.Common.{ℕ, ◌≡◌, ◌+◌, ◌-◌, inl, inr, Option, Some, None, ap, sym, ◌∙◌, refl, arith}
use Rattle.std.proofs.lemmas.Bool.{cases_eq}
use Rattle.std.proofs.lemmas.Option.{none-some}
use Rattle.std.specs.FinMap as finite
use Rattle.std.specs.Ordering.{nat_cmp}
use Rattle.open_calls.specs.declared.numbered.Numbered.{Numbered}
use Rattle.open_calls.specs.declared.open_call.OpenCall.{OpenCall}
use Rattle.open_calls.specs.Kept.{AreKept}
use Rattle.open_calls.specs.Numbered.{AreFit, Sets, map_of, noted_call, value_in}
use Rattle.open_calls.proofs.Indexing.{indexed_next, indexed_noted, indexed_same, indexed_taken}
use Rattle.open_calls.proofs.Mapped.{count_gone, count_put, map_none, map_same}

-- what is taken out where nothing is changes nothing
pub nothing_gone : {X : Type 0} (old new : ℕ → Option X) (number : ℕ) → old number ≡ None → Sets old number None new → (q : ℕ) → new q ≡ old q
nothing_gone old new number none sets q = elim (cases_eq q number) [
  | inl same ↦ ap new same ∙ (sets.here ∙ (sym none ∙ ap old (sym same)))
  | inr apart ↦ sets.others q apart
]

module _ {T : Type 0} where
  pub kept_none : (calls : Numbered (OpenCall T)) (clients : Numbered ℕ) → AreFit calls → AreFit clients → ((q : ℕ) → value_in calls q ≡ None) → ((q : ℕ) → value_in clients q ≡ None) → AreKept 0 0 calls clients
  kept_none calls clients calls_fit clients_fit no_calls no_clients = record {
    calls_fit = calls_fit;
    clients_fit = clients_fit;
    indexed = record {
      below = λ number call at. absurd (none-some call (sym (no_calls number) ∙ at));
      owner = λ number call at. absurd (none-some call (sym (no_calls number) ∙ at));
      owned = λ client number at. absurd (none-some number (sym (no_clients client) ∙ at));
    };
    counted = sym (ap finite.len (map_none calls calls_fit no_calls) ∙ finite.len-empty nat_cmp (OpenCall T));
    few = omega arith;
  }

  module _ (begun count : ℕ) (calls : Numbered (OpenCall T)) (clients : Numbered ℕ) (kept : AreKept begun count calls clients) where
    -- the next call isn't kept yet
    pub none_next : (number : ℕ) → number ≡ begun → value_in calls number ≡ None
    none_next number next = by (value_in calls number) refl
      where
        by : (o : Option (OpenCall T)) → value_in calls number ≡ o → value_in calls number ≡ None
        by None e = e
        by (Some call) e = (let low = kept.indexed.below number call e in absurd (omega arith))

    pub kept_same : (more : Numbered (OpenCall T)) (owners : Numbered ℕ) → AreFit more → AreFit owners → ((q : ℕ) → value_in more q ≡ value_in calls q) → ((q : ℕ) → value_in owners q ≡ value_in clients q) → AreKept begun count more owners
    kept_same more owners more_fit owners_fit same_calls same_clients = record {
      calls_fit = more_fit;
      clients_fit = owners_fit;
      indexed = indexed_same begun (value_in calls) (value_in clients) kept.indexed (value_in more) (value_in owners) same_calls same_clients;
      counted = kept.counted ∙ sym (ap finite.len (map_same calls more kept.calls_fit more_fit same_calls));
      few = kept.few;
    }

    pub kept_begun : (number : ℕ) (call : OpenCall T) (more : Numbered (OpenCall T)) (owners : Numbered ℕ) → number ≡ begun → value_in clients call.client ≡ None → AreFit more → AreFit owners
        → Sets (value_in calls) number (Some call) (value_in more) → Sets (value_in clients) call.client (Some number) (value_in owners) → AreKept (begun + 1) (count + 1) more owners
    kept_begun number call more owners next idle more_fit owners_fit put owns = record {
      calls_fit = more_fit;
      clients_fit = owners_fit;
      indexed = indexed_next begun (value_in calls) (value_in clients) kept.indexed number next call idle (value_in more) (value_in owners) put owns;
      counted = ap (λ n. n + 1) kept.counted ∙ sym (count_put calls more kept.calls_fit more_fit number call (none_next number next) put);
      few = (let low = kept.few in omega arith);
    }

    pub kept_noted : (number : ℕ) (call : OpenCall T) (more : Numbered (OpenCall T)) → value_in calls number ≡ Some call → AreFit more → Sets (value_in calls) number (Some (noted_call call)) (value_in more) → finite.len (map_of more) ≡ finite.len (map_of calls) → AreKept begun count more clients
    kept_noted number call more there more_fit put many = record {
      calls_fit = more_fit;
      clients_fit = kept.clients_fit;
      indexed = indexed_noted begun (value_in calls) (value_in clients) kept.indexed number call (noted_call call) there refl (value_in more) put;
      counted = kept.counted ∙ sym many;
      few = kept.few;
    }

    pub kept_taken : (number : ℕ) (call : OpenCall T) (fewer : Numbered (OpenCall T)) (owners : Numbered ℕ) → value_in calls number ≡ Some call → AreFit fewer → AreFit owners
        → Sets (value_in calls) number None (value_in fewer) → Sets (value_in clients) call.client None (value_in owners) → AreKept begun (count - 1) fewer owners
    kept_taken number call fewer owners there fewer_fit owners_fit gone freed = record {
      calls_fit = fewer_fit;
      clients_fit = owners_fit;
      indexed = indexed_taken begun (value_in calls) (value_in clients) kept.indexed number call there (value_in fewer) (value_in owners) gone freed;
      counted = ap (λ n. n - 1) kept.counted ∙ sym (count_gone calls fewer kept.calls_fit fewer_fit number call there gone);
      few = (let low = kept.few in omega arith);
    }
