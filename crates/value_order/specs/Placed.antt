-- The places of calls' rows, beside a part.
use Rattle.std.specs.Prelude.{ℕ, ◌≡◌, List, Some, length, slice_get}
use Rattle.recorder.specs.declared.part.Call.{Call}
use Rattle.recorder.specs.States.{place_in}
use Rattle.value_order.specs.declared.placed.Places.{Places}

-- the places are those of the call's rows
pub record ArePlacesOf (call : Call) (places : Places) : Type 0 where
  pub invoked : places.invoked ≡ call.invoked
  pub response : places.response ≡ place_in call.response

-- beside each call the places of its rows
pub record ArePlaces (part : List Call) (places : List Places) : Type 0 where
  pub all : length places ≡ length part
  pub each : (i : ℕ) (call : Call) (own : Places) → slice_get part i ≡ Some call
      → slice_get places i ≡ Some own → ArePlacesOf call own
