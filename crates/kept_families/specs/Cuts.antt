-- The cut: the greatest place at which a settled family began last. It forgets what ended before.
use Rattle.std.specs.Prelude.{ℕ, ◌≢◌, ◌≤◌, List}
use Rattle.recorder.specs.declared.part.Call.{Call}
use Rattle.value_order.specs.Zones.{BeginsAt}
use Rattle.kept_families.specs.Forgotten.{IsSettled}

module _ (part : List Call) (Reads : Call → Call → Type 0) (row : ℕ) where
  -- of the settled families that of w began last, at that place
  pub record IsCut (w : Call) (place : ℕ) : Type 0 where
    pub settled : IsSettled part Reads row w
    pub begins : BeginsAt part Reads row w place
    pub greatest : (other : Call) (begin : ℕ) → IsSettled part Reads row other
        → BeginsAt part Reads row other begin → begin ≤ place

  -- the same of the settled families but that of u
  pub record IsCutFor (u w : Call) (place : ℕ) : Type 0 where
    pub apart : u ≢ w
    pub settled : IsSettled part Reads row w
    pub begins : BeginsAt part Reads row w place
    pub greatest : (other : Call) (begin : ℕ) → u ≢ other → IsSettled part Reads row other
        → BeginsAt part Reads row other begin → begin ≤ place
