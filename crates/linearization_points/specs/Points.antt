-- Linearization points: for each call of an order a moment within the call, none before that of a
-- call that stands earlier (Herlihy and Wing 1990, section 2). A place stands for the moment just
-- after its row.
use Rattle.std.specs.Prelude.{ℕ, ◌≡◌, ◌≢◌, ◌<◌, ◌≤◌, List, Some, length, slice_get, Contains}
use Rattle.std.specs.List.Sorted.{IsNonDecreasing}
use Rattle.tag.specs.declared.numbers.OpId.{OpId}
use Rattle.recorder.specs.declared.part.Call.{Call}
use Rattle.recorder.specs.declared.part.Response.{Response}
use Rattle.recorder.specs.Orders.{StandsAt}
use Rattle.recorder.specs.Parts.{Precedes}

-- the place lies within the call: not before its invocation, and before its response, if any
abbrev pub IsWithin : Call → ℕ → Type 0
IsWithin call place = (call.invoked ≤ place)
    × ((response : Response) → call.response ≡ Some response → place < response.place)

-- no call begins at the place of another's response
abbrev pub AreApart : List Call → Type 0
AreApart part = (a b : Call) (response : Response) → Contains part a → Contains part b
    → b.response ≡ Some response → a.invoked ≢ response.place

module _ (part : List Call) (order : List OpId) where
  -- each number of the list is that of a call of the part
  abbrev pub AreCalls : Type 0
  AreCalls = (i : ℕ) → i < length order → (call : Call) × StandsAt part order i call

  -- no call of the list is preceded by one that stands later
  abbrev pub KeepsPrecedence : Type 0
  KeepsPrecedence = (i j : ℕ) (a b : Call) → i < j → StandsAt part order i a
      → StandsAt part order j b → Precedes b a → ⊥

  -- linearization points of the list: one for each of its calls, within that call, and along the
  -- list they don't fall
  pub record ArePoints (points : List ℕ) : Type 0 where
    pub all : length points ≡ length order
    pub within : (i place : ℕ) (call : Call) → slice_get points i ≡ Some place
        → StandsAt part order i call → IsWithin call place
    pub rising : IsNonDecreasing points
