-- What a load comes to.
use Rattle.std.specs.Prelude.{ℕ, ◌≡◌, List, [], ◌∷◌, ◌++◌, Option, Some, None, IfOk, map}
use Rattle.node_threads.specs.Closings.{Closes}
use Rattle.seats.specs.declared.errors.CallError.{CallError}
use Rattle.load.specs.declared.load.LoadOptions.{LoadOptions}
use Rattle.load_run.specs.Callers.{AreCalled}
use Rattle.load_run.specs.LoadStores.{settings_of}
use Rattle.load_run.specs.declared.callers.Called.{Called}
use Rattle.load_run.specs.declared.load_run.LoadOutcome.{LoadOutcome}
use Rattle.load_run.specs.declared.load_run.Refused.{Refused}

-- a caller, if its call was refused
abbrev pub refused_of : ℕ → Option CallError → List Refused
refused_of caller None = []
refused_of caller (Some error) = record { caller = caller; error = error } ∷ []

-- the callers whose calls were refused, in their order
abbrev pub refusals_of : List Called → List Refused
refusals_of [] = []
refusals_of (called ∷ rest) = refused_of called.seat.client called.refusal ++ refusals_of rest

-- what a load leaves: each caller made its calls, the refusals are told, and if the store closed,
-- the halls' records have these calls and orders that show the records atomic
pub record IsLoaded (load : LoadOptions) (loaded : LoadOutcome) : Type 0 where
  pub callers : List Called
  pub called : AreCalled load callers
  pub refusals : loaded.refusals.items ≡ refusals_of callers
  pub closed : IfOk loaded.closed (λ closed. Closes (settings_of load) (map (λ c. c.seat) callers)
      closed.halls.items)
