-- Why a seat's call isn't answered, from what its pass saw.
use Rattle.std.proofs.Common.{◌≡◌, ◌<◌, ◌∙◌, ℕ, Bool, List, [], ◌∷◌, Some, length, slice_get, slice_set, unwrap_or, refl, sym, ap, subst, inl, inr}
use Rattle.std.proofs.lemmas.Option.{same_Some, slice_get_within}
use Rattle.tag.proofs.Lists.{slice_get-set}
use Rattle.tag.specs.declared.actions.Action.{Action}
use Rattle.tag.specs.declared.numbers.OpId.{OpId}
use Rattle.hall_lock.specs.Turns.{ClientView}
use Rattle.recorder.specs.declared.log_entry.Entry.{Entry}
use Rattle.seats.specs.declared.errors.CallError.{CallError}
use Rattle.seats.specs.Answers.{HasReason}
use Rattle.seats.specs.Answers.HasReason.{HeldBack, Stalled}
use Rattle.seats.specs.Calls.{BeginsCall}
use Rattle.seats.specs.Reasons.{IsHeldBack, IsStalled}
use Rattle.seats.specs.Rounds.{Reach}
use Rattle.seats.specs.Seats.{Seat}

set_there : {X : Type 0} (xs : List X) (i : ℕ) (v w : X) → slice_get xs i ≡ Some v → slice_get (slice_set xs i w) i ≡ Some w
set_there xs i v w e = elim (slice_get-set xs i i w (slice_get_within xs i v e)) [ inl here ↦ here.1 | inr other ↦ absurd (other.0 refl) ]

-- the call didn't begin
pub held_back : {reach : Reach} (s : Seat) (log : List Entry) (at hall : ℕ) (old new : ClientView) (key : List ℕ) (action : Action) (seen : ℕ) (error : CallError)
    → slice_get s.passes at ≡ Some old → slice_get s.seen at ≡ Some seen → at ≡ hall → IsHeldBack old key action seen error new
    → HasReason reach error s hall key action (record { store = s.store; client = s.client; is_spent = s.is_spent; log = log; passes = slice_set s.passes at new; seen = s.seen })
held_back {reach} s log at hall old new key action seen error there saw same held =
    subst (λ h. HasReason reach error s h key action (record { store = s.store; client = s.client; is_spent = s.is_spent; log = log; passes = slice_set s.passes at new; seen = s.seen })) same
    (HeldBack (record { before = old; after = new; was = there; is = set_there s.passes at old new there })
    (subst (λ n. IsHeldBack old key action n error new) (sym (ap (λ o. unwrap_or o 0) saw)) held))

-- it began, and stalled
pub stalled : {reach : Reach} (s : Seat) (log : List Entry) (places : List ℕ) (at hall : ℕ) (old mid new : ClientView) (key : List ℕ) (action : Action) (op : OpId) (place : ℕ) (error : CallError) (spent : Bool)
    → slice_get s.passes at ≡ Some old → at ≡ hall → BeginsCall old key action op place mid → IsStalled reach mid error new
    → HasReason reach error s hall key action (record { store = s.store; client = s.client; is_spent = spent; log = log; passes = slice_set s.passes at new; seen = places })
stalled {reach} s log places at hall old mid new key action op place error spent there same begins stalls =
    subst (λ h. HasReason reach error s h key action (record { store = s.store; client = s.client; is_spent = spent; log = log; passes = slice_set s.passes at new; seen = places })) same
    (Stalled (record { before = old; after = new; was = there; is = set_there s.passes at old new there }) op place mid begins stalls)

-- the pass of that hall is the one that was set
set_is : (passes : List ClientView) (at hall : ℕ) (old new pass : ClientView)
    → slice_get passes at ≡ Some old → at ≡ hall → slice_get (slice_set passes at new) hall ≡ Some pass → pass ≡ new
set_is passes at hall old new pass there same is =
    sym (same_Some new pass (sym (set_there passes at old new there) ∙ ap (λ n. slice_get (slice_set passes at new) n) same ∙ is))

-- the pass that was set has fewer rows than were seen
pub finds_fewer : (passes : List ClientView) (places : List ℕ) (at hall : ℕ) (old new : ClientView) (seen : ℕ)
    → slice_get passes at ≡ Some old → slice_get places at ≡ Some seen → at ≡ hall
    → (pass : ClientView) × (slice_get (slice_set passes at new) hall ≡ Some pass) × (length pass.rows < unwrap_or (slice_get places hall) 0)
    → length new.rows < seen
finds_fewer passes places at hall old new seen there saw same fewer =
    let pass_is : fewer.0 ≡ new = set_is passes at hall old new fewer.0 there same fewer.1 in
    let seen_is : unwrap_or (slice_get places hall) 0 ≡ seen =
    ap (λ o. unwrap_or o 0) (ap (λ n. slice_get places n) (sym same) ∙ saw) in
    subst (λ (y : ClientView × ℕ). length y.0.rows < y.1) (λ i. (pass_is i, seen_is i)) fewer.2
