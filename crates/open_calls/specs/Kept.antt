-- What is kept of the pending calls.
use Rattle.std.specs.Prelude.{ℕ, ◌≡◌, ◌≤◌}
use Rattle.std.specs.FinMap as finite
use Rattle.open_calls.specs.declared.numbered.Numbered.{Numbered}
use Rattle.open_calls.specs.declared.open_call.OpenCall.{OpenCall}
use Rattle.open_calls.specs.Indexes.{AreIndexed}
use Rattle.open_calls.specs.Numbered.{AreFit, map_of, value_in}

-- the calls and the clients are found by number, are of one another, and are counted
pub record AreKept {T : Type 0} (begun count : ℕ) (calls : Numbered (OpenCall T))
    (clients : Numbered ℕ) : Type 0 where
  pub calls_fit : AreFit calls
  pub clients_fit : AreFit clients
  pub indexed : AreIndexed begun (value_in calls) (value_in clients)
  pub counted : count ≡ finite.len (map_of calls)
  pub few : count ≤ begun
