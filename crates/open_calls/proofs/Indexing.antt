-- The maps of open calls stay of one another.
use Rattle.std.proofs.Common.{ℕ, ◌≡◌, ◌≢◌, ◌<◌, ◌+◌, inl, inr, Option, Some, None, ap, sym, subst, ◌∙◌, refl, arith}
use Rattle.std.proofs.lemmas.Bool.{cases_eq}
use Rattle.std.proofs.lemmas.Option.{same_Some, none-some}
use Rattle.open_calls.specs.declared.open_call.OpenCall.{OpenCall}
use Rattle.open_calls.specs.Indexes.{AreIndexed}
use Rattle.open_calls.specs.Numbered.{Sets}

module _ {T : Type 0} (begun : ℕ) (calls : ℕ → Option (OpenCall T)) (clients : ℕ → Option ℕ) (are : AreIndexed begun calls clients) where
  -- equal maps
  pub indexed_same : (new_calls : ℕ → Option (OpenCall T)) (new_clients : ℕ → Option ℕ) → ((q : ℕ) → new_calls q ≡ calls q) → ((q : ℕ) → new_clients q ≡ clients q) → AreIndexed begun new_calls new_clients
  indexed_same new_calls new_clients same_calls same_clients = record {
    below = λ number call at. are.below number call (sym (same_calls number) ∙ at);
    owner = λ number call at. same_clients call.client ∙ are.owner number call (sym (same_calls number) ∙ at);
    owned = λ client number at. let o = are.owned client number (sym (same_clients client) ∙ at) in (o.0, same_calls number ∙ o.1, o.2);
  }

  -- a client without a call has no number
  pub no_number : (client : ℕ) → ((number : ℕ) (call : OpenCall T) → calls number ≡ Some call → call.client ≡ client → ⊥) → clients client ≡ None
  no_number client idle = by (clients client) refl
    where
      by : (o : Option ℕ) → clients client ≡ o → clients client ≡ None
      by None e = e
      by (Some number) e = let o = are.owned client number e in absurd (idle number o.0 o.1 o.2)

  -- a client that is put in and taken out again
  pub client_back : (client number : ℕ) → clients client ≡ None → (more back : ℕ → Option ℕ) → Sets clients client (Some number) more → Sets more client None back → (q : ℕ) → back q ≡ clients q
  client_back client number none more back put taken q = elim (cases_eq q client) [
    | inl same ↦ ap back same ∙ (taken.here ∙ (sym none ∙ ap clients (sym same)))
    | inr apart ↦ taken.others q apart ∙ put.others q apart
  ]

  -- a call began
  pub indexed_begun : (call : OpenCall T) → clients call.client ≡ None → (new_calls : ℕ → Option (OpenCall T)) (new_clients : ℕ → Option ℕ) → Sets calls begun (Some call) new_calls → Sets clients call.client (Some begun) new_clients → AreIndexed (begun + 1) new_calls new_clients
  indexed_begun call idle new_calls new_clients put owns = record {
    below = λ number c at. elim (cases_eq number begun) [
      | inl same ↦ omega arith
      | inr apart ↦ (let low = are.below number c (sym (put.others number apart) ∙ at) in omega arith)
    ];
    owner = λ number c at. elim (cases_eq number begun) [
      | inl same ↦
          let here : call ≡ c = same_Some call c (sym put.here ∙ (ap new_calls (sym same) ∙ at)) in
          ap (λ (x : OpenCall T). new_clients x.client) (sym here) ∙ (owns.here ∙ ap Some (sym same))
      | inr apart ↦
          let was = are.owner number c (sym (put.others number apart) ∙ at) in
          owns.others c.client (λ e. none-some number (sym idle ∙ (ap clients (sym e) ∙ was))) ∙ was
    ];
    owned = λ client number at. elim (cases_eq client call.client) [
      | inl same ↦
          let here : begun ≡ number = same_Some begun number (sym owns.here ∙ (ap new_clients (sym same) ∙ at)) in
          (call, ap new_calls (sym here) ∙ put.here, sym same)
      | inr apart ↦
          let o = are.owned client number (sym (owns.others client apart) ∙ at) in
          let low = are.below number o.0 o.1 in
          (o.0, put.others number (λ e. absurd (omega arith)) ∙ o.1, o.2)
    ];
  }

  -- a call's note is written
  pub indexed_noted : (number : ℕ) (call noted : OpenCall T) → calls number ≡ Some call → noted.client ≡ call.client → (new_calls : ℕ → Option (OpenCall T)) → Sets calls number (Some noted) new_calls → AreIndexed begun new_calls clients
  indexed_noted number call noted is same_client new_calls put = record {
    below = λ n c at. elim (cases_eq n number) [
      | inl same ↦ subst (λ (k : ℕ). k < begun) (sym same) (are.below number call is)
      | inr apart ↦ are.below n c (sym (put.others n apart) ∙ at)
    ];
    owner = λ n c at. elim (cases_eq n number) [
      | inl same ↦
          let here : noted ≡ c = same_Some noted c (sym put.here ∙ (ap new_calls (sym same) ∙ at)) in
          ap (λ (x : OpenCall T). clients x.client) (sym here) ∙ (ap clients same_client ∙ (are.owner number call is ∙ ap Some (sym same)))
      | inr apart ↦ are.owner n c (sym (put.others n apart) ∙ at)
    ];
    owned = λ client n at. let o = are.owned client n at in elim (cases_eq n number) [
      | inl same ↦
          let here : call ≡ o.0 = same_Some call o.0 (sym is ∙ (ap calls (sym same) ∙ o.1)) in
          (noted, ap new_calls same ∙ put.here, same_client ∙ (ap (λ (x : OpenCall T). x.client) here ∙ o.2))
      | inr apart ↦ (o.0, put.others n apart ∙ o.1, o.2)
    ];
  }

  -- a call is taken out, and its client's number with it
  pub indexed_taken : (number : ℕ) (call : OpenCall T) → calls number ≡ Some call → (new_calls : ℕ → Option (OpenCall T)) (new_clients : ℕ → Option ℕ) → Sets calls number None new_calls → Sets clients call.client None new_clients → AreIndexed begun new_calls new_clients
  indexed_taken number call is new_calls new_clients gone freed = record {
    below = λ n c at. elim (cases_eq n number) [
      | inl same ↦ absurd (none-some c (sym gone.here ∙ (ap new_calls (sym same) ∙ at)))
      | inr apart ↦ are.below n c (sym (gone.others n apart) ∙ at)
    ];
    owner = λ n c at. elim (cases_eq n number) [
      | inl same ↦ absurd (none-some c (sym gone.here ∙ (ap new_calls (sym same) ∙ at)))
      | inr apart ↦
          let was = are.owner n c (sym (gone.others n apart) ∙ at) in
          freed.others c.client (λ e. apart (same_Some n number (sym was ∙ (ap clients e ∙ are.owner number call is)))) ∙ was
    ];
    owned = λ client n at. elim (cases_eq client call.client) [
      | inl same ↦ absurd (none-some n (sym freed.here ∙ (ap new_clients (sym same) ∙ at)))
      | inr apart ↦
          let o = are.owned client n (sym (freed.others client apart) ∙ at) in
          let other : n ≢ number = λ e.
          apart (sym o.2 ∙ ap (λ (x : OpenCall T). x.client) (same_Some o.0 call (sym o.1 ∙ (ap calls e ∙ is)))) in
          (o.0, gone.others n other ∙ o.1, o.2)
    ];
  }

  -- a call of the next number began
  pub indexed_next : (number : ℕ) → number ≡ begun → (call : OpenCall T) → clients call.client ≡ None → (new_calls : ℕ → Option (OpenCall T)) (new_clients : ℕ → Option ℕ) → Sets calls number (Some call) new_calls → Sets clients call.client (Some number) new_clients → AreIndexed (begun + 1) new_calls new_clients
  indexed_next number next call idle new_calls new_clients put owns =
      indexed_begun call idle new_calls new_clients (subst (λ (n : ℕ). Sets calls n (Some call) new_calls) next put) (subst (λ (n : ℕ). Sets clients call.client (Some n) new_clients) next owns)
