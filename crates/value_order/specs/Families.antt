-- Families of calls: a write and the reads that read it, and which must come first in any order.
use Rattle.std.specs.Prelude.{ℕ, ◌≡◌, ◌≢◌, ◌≤◌, ◌⊎◌, List, Some, Contains}
use Rattle.recorder.specs.declared.part.Call.{Call}
use Rattle.recorder.specs.declared.part.Response.{Response}
use Rattle.recorder.specs.Parts.{Precedes}
use Rattle.recorder.specs.Sound.{IsWrite}

-- the call has a response at that place of the history or before it
pub record IsAnsweredBy (row : ℕ) (call : Call) : Type 0 where
  pub response : Response
  pub responds : call.response ≡ Some response
  pub by : response.place ≤ row

-- `Reads write read`: the read has read that write
module _ (part : List Call) (Reads : Call → Call → Type 0) where
  -- the call is that write, or has read it
  pub record IsOfFamily (write call : Call) : Type 0 where
    pub recorded : Contains part call
    pub writes : IsWrite write
    pub belongs : (call ≡ write) ⊎ Reads write call

  -- a call of the first write's family precedes one of the second's
  pub record MustPrecede (x y : Call) : Type 0 where
    pub first : Call
    pub second : Call
    pub of_x : IsOfFamily x first
    pub of_y : IsOfFamily y second
    pub precedes : Precedes first second

  -- two families each of which must precede the other
  pub record AreOpposed (x y : Call) : Type 0 where
    pub apart : x ≢ y
    pub there : MustPrecede x y
    pub back : MustPrecede y x

  -- no two families are opposed
  abbrev pub HasNoneOpposed : Type 0
  HasNoneOpposed = (x y : Call) → AreOpposed x y → ⊥

  -- what a family has at a row: its write, and its calls that were answered by then
  pub record IsMemberBy (row : ℕ) (write call : Call) : Type 0 where
    pub of : IsOfFamily write call
    pub there : (call ≡ write) ⊎ IsAnsweredBy row call

  -- the same by a row: a call that was answered by then precedes one that was there
  pub record MustPrecedeBy (row : ℕ) (x y : Call) : Type 0 where
    pub first : Call
    pub second : Call
    pub of_x : IsOfFamily x first
    pub of_y : IsMemberBy row y second
    pub ended : IsAnsweredBy row first
    pub precedes : Precedes first second

  pub record AreOpposedBy (row : ℕ) (x y : Call) : Type 0 where
    pub apart : x ≢ y
    pub there : MustPrecedeBy row x y
    pub back : MustPrecedeBy row y x
