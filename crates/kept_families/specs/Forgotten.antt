-- Families that no later row can touch.
use Rattle.std.specs.Prelude.{ℕ, ◌≡◌, ◌≢◌, ◌<◌, ◌≤◌, ◌⊎◌, List, Contains}
use Rattle.recorder.specs.declared.part.Call.{Call}
use Rattle.recorder.specs.Sound.{IsWrite}
use Rattle.value_order.specs.Families.{IsOfFamily, IsAnsweredBy, MustPrecedeBy}
use Rattle.kept_families.specs.Open.{IsOpen}

module _ (part : List Call) (Reads : Call → Call → Type 0) where
  -- a call of the family was answered by the row, before any open read began
  pub record IsSettled (row : ℕ) (write : Call) : Type 0 where
    pub call : Call
    pub of : IsOfFamily part Reads write call
    pub ended : IsAnsweredBy row call
    pub early : (read : Call) → IsOpen part row read → ended.response.place < read.invoked

  -- write u is forgotten by write w: its family must precede that of w, which is settled. A later
  -- read of u would begin after a call of w has ended, so w would have to precede u too
  pub record IsForgottenBy (row : ℕ) (w u : Call) : Type 0 where
    pub apart : u ≢ w
    pub precedes : MustPrecedeBy part Reads row u w
    pub settled : IsSettled row w

  -- some write forgets it by the row
  abbrev pub IsForgotten : ℕ → Call → Type 0
  IsForgotten row u = (w : Call) × IsForgottenBy row w u

  -- the write was begun by the row, and isn't forgotten
  pub record IsKept (row : ℕ) (write : Call) : Type 0 where
    pub recorded : Contains part write
    pub writes : IsWrite write
    pub begun : write.invoked ≤ row
    pub known : IsForgotten row write → ⊥

  -- the numbers of the kept writes: each write that was begun is kept or forgotten, and no kept one
  -- is forgotten
  pub record AreKept (row : ℕ) (kept : List ℕ) : Type 0 where
    pub each : (number : ℕ) → Contains kept number
        → (write : Call) × (write.op.0 ≡ number) × IsKept row write
    pub all : (write : Call) → Contains part write → IsWrite write → write.invoked ≤ row
        → Contains kept write.op.0 ⊎ IsForgotten row write
