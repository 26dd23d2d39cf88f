-- Who has a pending call, with one row more.
use Rattle.std.proofs.Common.{ℕ, ◌≡◌, List, [], ◌∷◌, ◌++◌, Bool, true, false, cond, eqb, sym, subst, arith}
use Rattle.std.specs.List.{Contains}
use Rattle.std.proofs.lemmas.List.Elements.{Contains-push}
use Rattle.std.proofs.lemmas.Bool.Decides.{nat_tests}
use Rattle.tag.specs.declared.actions.Action.{Action}
use Rattle.tag.specs.declared.actions.Returned.{Returned}
use Rattle.tag.specs.declared.numbers.OpId.{OpId}
use Rattle.tag.specs.Tags.{Tag}
use Rattle.recorder.specs.declared.row.Row.{Row}
use Rattle.recorder.specs.declared.row.Row.TheVariants.{Invoke, Note, Respond}
use Rattle.recorder.specs.Histories.{call_count, IsPendingCall, IsBusy, IsWellFormed}
use Rattle.recorder.proofs.Numbers.{no_response, one_pending, same_client}
use Rattle.recorder.proofs.OneMore.{HasResponse-back, IsPendingCall-push, IsPendingCall-back}

-- a note changes nobody's state
module _ (rows : List Row) (op : OpId) (tag : Tag) (client : ℕ) where
  pub busy_note : IsBusy rows client → IsBusy (rows ++ Note op tag ∷ []) client
  busy_note b = (b.0, b.1, IsPendingCall-push rows (Note op tag) b.0 client b.1 (λ r e. cc) b.2)

  pub busy_note_back : IsBusy (rows ++ Note op tag ∷ []) client → IsBusy rows client
  busy_note_back b = (b.0, b.1, IsPendingCall-back rows (Note op tag) b.0 client b.1 (λ k a e. cc) b.2)

-- a response frees its call's client, and nobody else
module _ (rows : List Row) (formed : IsWellFormed rows) (op : OpId) (returned : Returned) (whose : ℕ) (action : Action) (pending : IsPendingCall rows op whose action) where
  pub busy_respond : (client : ℕ) (test new old : Bool) → eqb whose client ≡ test → new ≡ cond test false old → (old ≡ true → IsBusy rows client) → new ≡ true → IsBusy (rows ++ Respond op returned ∷ []) client
  busy_respond client true new old same is was now = absurd (cc)
  busy_respond client false new old other is was now =
      let b : IsBusy rows client = was (cc) in (
        b.0,
        b.1,
        IsPendingCall-push rows (Respond op returned) b.0 client b.1 (λ r e.
            let here : op ≡ b.0 = cc in
            let invoked = subst (λ (x : OpId). Contains rows (Invoke x client b.2.key b.1)) (sym here) b.2.invoked in
            let mine : whose ≡ client = same_client rows formed op whose client pending.key b.2.key action b.1 pending.invoked invoked in
            grind (arith, nat_tests)) b.2,
      )

  pub not_busy_respond : (client : ℕ) (test new old : Bool) → eqb whose client ≡ test → new ≡ cond test false old → (old ≡ false → IsBusy rows client → ⊥) → new ≡ false → IsBusy (rows ++ Respond op returned ∷ []) client → ⊥
  not_busy_respond client true new old same is was now b =
      let back = IsPendingCall-back rows (Respond op returned) b.0 client b.1 (λ k a e. cc) b.2 in
      let mine : whose ≡ client = grind (arith, nat_tests) in
      let here : IsPendingCall rows op client action = subst (λ (x : ℕ). IsPendingCall rows op x action) mine pending in
      let same_op : b.0 ≡ op = one_pending rows formed client b.0 op b.1 action back here in
      b.2.unanswered (returned, subst (λ (x : OpId). Contains (rows ++ Respond op returned ∷ []) (Respond x returned)) (sym same_op) (Contains-push rows (Respond op returned)))
  not_busy_respond client false new old other is was now b =
      was (cc) (b.0, b.1, IsPendingCall-back rows (Respond op returned) b.0 client b.1 (λ k a e. cc) b.2)

-- an invocation makes its client busy, and nobody else
module _ (rows : List Row) (formed : IsWellFormed rows) (op : OpId) (whose : ℕ) (key : List ℕ) (action : Action) (fresh : op.0 ≡ call_count rows) where
  pub busy_invoke : (client : ℕ) (test new old : Bool) → eqb whose client ≡ test → new ≡ cond test true old → (old ≡ true → IsBusy rows client) → new ≡ true → IsBusy (rows ++ Invoke op whose key action ∷ []) client
  busy_invoke client true new old same is was now =
      let mine : whose ≡ client = grind (arith, nat_tests) in
      subst (λ (x : ℕ). IsBusy (rows ++ Invoke op whose key action ∷ []) x) mine (
        op,
        action,
        record {
          key = key;
          invoked = Contains-push rows (Invoke op whose key action);
          unanswered = λ r. no_response rows formed op fresh (HasResponse-back rows (Invoke op whose key action) op (λ s e. cc) r);
        },
      )
  busy_invoke client false new old other is was now =
      let b : IsBusy rows client = was (cc) in
      (b.0, b.1, IsPendingCall-push rows (Invoke op whose key action) b.0 client b.1 (λ r e. cc) b.2)

  pub not_busy_invoke : (client : ℕ) (test new old : Bool) → eqb whose client ≡ test → new ≡ cond test true old → (old ≡ false → IsBusy rows client → ⊥) → new ≡ false → IsBusy (rows ++ Invoke op whose key action ∷ []) client → ⊥
  not_busy_invoke client true new old same is was now b = cc
  not_busy_invoke client false new old other is was now b =
      let mine : (whose ≡ client) → ⊥ = λ e. grind (arith, nat_tests) in
      was (cc) (b.0, b.1, IsPendingCall-back rows (Invoke op whose key action) b.0 client b.1 (λ k a e. mine (cc)) b.2)
