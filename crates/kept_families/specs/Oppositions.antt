-- What a row may add to families of which none are opposed.
use Rattle.std.specs.Prelude.{ℕ, ◌≡◌, ◌<◌, ◌≤◌, List, Some}
use Rattle.recorder.specs.declared.part.Call.{Call}
use Rattle.recorder.specs.declared.part.Response.{Response}
use Rattle.value_order.specs.Families.{AreOpposedBy}
use Rattle.kept_families.specs.Forgotten.{IsForgotten}

module _ (part : List Call) (Reads : Call → Call → Type 0) where
  -- two families are opposed by the row
  abbrev pub HasOpposed : ℕ → Type 0
  HasOpposed row = (x : Call) × (y : Call) × AreOpposedBy part Reads row x y

  -- no two families are opposed by the row
  abbrev pub IsFree : ℕ → Type 0
  IsFree row = HasOpposed row → ⊥

  -- a read of the write was answered after the row, and by the later one
  pub record IsReadAfter (row later : ℕ) (write read : Call) : Type 0 where
    pub reads : Reads write read
    pub response : Response
    pub responds : read.response ≡ Some response
    pub after : row < response.place
    pub by : response.place ≤ later

  -- one of a family that the row has forgotten
  abbrev pub HasForgottenRead : ℕ → ℕ → Type 0
  HasForgottenRead row later =
      (write : Call) × (read : Call) × IsForgotten part Reads row write
      × IsReadAfter row later write read

  -- two families are opposed by the later row that the row hasn't forgotten
  pub record HasKnownOpposed (row later : ℕ) : Type 0 where
    pub x : Call
    pub y : Call
    pub opposed : AreOpposedBy part Reads later x y
    pub known_x : IsForgotten part Reads row x → ⊥
    pub known_y : IsForgotten part Reads row y → ⊥
