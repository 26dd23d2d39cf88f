-- What is known of the writes that are kept, and which of them a read may have read.
use Rattle.std.specs.Prelude.{ℕ, ◌≡◌, ◌≢◌, ◌⊎◌, List, Option, Some, None, Contains}
use Rattle.tag.specs.declared.actions.Action.TheVariants.{Write}
use Rattle.recorder.specs.declared.part.Call.{Call}
use Rattle.recorder.specs.Sound.{IsWrite}
use Rattle.value_order.specs.Zones.{IsFirstEnd}
use Rattle.kept_families.specs.Forgotten.{IsForgotten}
use Rattle.kept_zones.specs.Overwriting.{Known, IsOverwritten, last_of}

-- a kept write: its value, where it began, and the first end of its family
pub record KeptWrite : Type 0 where
  pub value : List ℕ
  pub begin : ℕ
  pub end : Option ℕ

module _ (part : List Call) (Reads : Call → Call → Type 0) (row : ℕ) (known : Known) where
  -- that is known of the write; its zone is there, if its family has an end
  pub record IsKnownAs (op : ℕ) (kept : KeptWrite) (write : Call) : Type 0 where
    pub recorded : Contains part write
    pub number : write.op.0 ≡ op
    pub writes : write.action ≡ Write kept.value
    pub begun : write.invoked ≡ kept.begin
    pub first : IsFirstEnd part Reads row write kept.end
    pub zone : (place : ℕ) → kept.end ≡ Some place
        → (last : ℕ) × (last_of known.zones place ≡ Some last)

  -- by number what is known of the writes: each of the part is among them, or is forgotten
  pub record AreWritesOf (writes : ℕ → Option KeptWrite) : Type 0 where
    pub each : (op : ℕ) (kept : KeptWrite) → writes op ≡ Some kept
        → (write : Call) × IsKnownAs op kept write
    pub all : (write : Call) → Contains part write → IsWrite write
        → ((kept : KeptWrite) × (writes write.op.0 ≡ Some kept)) ⊎ IsForgotten part Reads row write

-- a zone overwrites that of the write before the place
abbrev pub IsStaleAt : Known → ℕ → KeptWrite → Type 0
IsStaleAt known place kept =
    (end : ℕ) × (kept.end ≡ Some end) × IsOverwritten known.zones place end

-- none does, or it has none
abbrev pub IsFreshBy : Known → ℕ → Option ℕ → Type 0
IsFreshBy known place None = Unit {0}
IsFreshBy known place (Some end) = IsOverwritten known.zones place end → ⊥

-- the one kept write of its value that a read which began at the place may have read
pub record IsOneFresh (known : Known) (writes : ℕ → Option KeptWrite) (place op : ℕ)
    (kept : KeptWrite) : Type 0 where
  pub is : writes op ≡ Some kept
  pub fresh : IsFreshBy known place kept.end
  pub others : (other : ℕ) (its : KeptWrite) → writes other ≡ Some its → its.value ≡ kept.value
      → (other ≡ op) ⊎ IsStaleAt known place its

-- no kept write of the value is one
abbrev pub HasNoneFresh : Known → (ℕ → Option KeptWrite) → ℕ → List ℕ → Type 0
HasNoneFresh known writes place value = (other : ℕ) (its : KeptWrite) → writes other ≡ Some its
    → its.value ≡ value → IsStaleAt known place its

-- the writes with that one more, or with that known of it
pub record HasKept (writes : ℕ → Option KeptWrite) (op : ℕ) (kept : KeptWrite)
    (new : ℕ → Option KeptWrite) : Type 0 where
  pub here : new op ≡ Some kept
  pub others : (other : ℕ) → other ≢ op → new other ≡ writes other

-- the writes without that one
pub record LacksKept (writes : ℕ → Option KeptWrite) (op : ℕ) (new : ℕ → Option KeptWrite) : Type 0
  where
    pub here : new op ≡ None
    pub others : (other : ℕ) → other ≢ op → new other ≡ writes other
