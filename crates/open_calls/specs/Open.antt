-- The pending calls of a history, by number.
use Rattle.std.specs.Prelude.{ℕ, ◌≡◌, ◌+◌, Bool, true, false, Option, Some, refl}
use Rattle.std.specs.Coded.{Coded, code_by, coded×, coded_ℕ, coded_bool}
use Rattle.std.specs.Ordering.{nat_cmp}
use Rattle.std.specs.FinMap as finite
use Rattle.open_calls.specs.declared.open_call.OpenCall.{OpenCall}

-- what contracts see of open calls: how many calls were begun, and what is kept of each pending
-- one, by its number
pub record Open (T : Type 0) : Type 0 where
  pub begun : ℕ
  pub calls : finite.FinMap nat_cmp (OpenCall T)

-- a call is stored as the tuple of its fields
abbrev pub call_code : {T : Type 0} → Coded T → Coded (OpenCall T)
call_code {T} code = code_by (ℕ × (Bool × (Bool × T)))
    (coded× coded_ℕ (coded× coded_bool (coded× coded_bool code)))
    (λ c. (c.client, (c.is_write, (c.is_noted, c.payload))))
    (λ p. record { client = p.0; is_write = p.1.0; is_noted = p.1.1.0; payload = p.1.1.1 })
    (λ _. refl)

-- and so are open calls
abbrev pub open_code : {T : Type 0} → Coded T → Coded (Open T)
open_code {T} code = code_by (ℕ × finite.FinMap nat_cmp (OpenCall T))
    (coded× coded_ℕ (finite.code coded_ℕ (call_code code)))
    (λ o. (o.begun, o.calls)) (λ p. record { begun = p.0; calls = p.1 }) (λ _. refl)

module _ {T : Type 0} where
  -- what is kept of the call of that number, if it is pending
  abbrev pub call_at : Open T → ℕ → Option (OpenCall T)
  call_at state number = finite.get state.calls number

  -- a call of the client is pending
  abbrev pub HasCallOf : Open T → ℕ → Type 0
  HasCallOf state client = (number : ℕ) × (call : OpenCall T)
      × (call_at state number ≡ Some call) × (call.client ≡ client)

  -- a call that has just begun
  abbrev pub begun_call : ℕ → Bool → T → OpenCall T
  begun_call client is_write payload = record {
    client = client;
    is_write = is_write;
    is_noted = false;
    payload = payload;
  }

  -- a further call was begun
  abbrev pub with_begun : Open T → OpenCall T → Open T
  with_begun state call = record {
    begun = state.begun + 1;
    calls = finite.insert state.calls state.begun call;
  }

  -- the call of that number has a note
  abbrev pub with_note : Open T → ℕ → OpenCall T → Open T
  with_note state number call = record state {
    calls = finite.insert state.calls number (record call { is_noted = true });
  }

  -- the call of that number is answered
  abbrev pub with_answer : Open T → ℕ → Open T
  with_answer state number = record state { calls = finite.remove state.calls number }
