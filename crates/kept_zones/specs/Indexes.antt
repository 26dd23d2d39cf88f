-- The maps beside the zones by which an overwriter is found.
use Rattle.std.specs.Prelude.{ℕ, ◌≡◌, ◌≢◌, ◌<◌, ◌≤◌, ◌⊎◌, Option, Some, None}

-- the maps: all zones, by first end; those that began last after their first end; of those that
-- began last before it, the ones that hold no other
module _ (all forward inner : ℕ → Option ℕ) (floor : ℕ) where
  -- a zone that ended no later and began last no earlier is among the inner ones
  pub record HoldsInner (end last : ℕ) : Type 0 where
    pub w : ℕ
    pub begin : ℕ
    pub is : inner w ≡ Some begin
    pub early : w ≤ end
    pub late : last ≤ begin

  -- each zone that began last before its first end holds such a one, or ended after one that went
  abbrev pub AreHeld : Type 0
  AreHeld = (w last : ℕ) → all w ≡ Some last → last ≤ w → HoldsInner w last ⊎ (last ≤ floor)

  pub record AreIndexed : Type 0 where
    pub ahead : (w last : ℕ) → forward w ≡ Some last → (all w ≡ Some last) × (w < last)
    pub all_ahead : (w last : ℕ) → all w ≡ Some last → w < last → forward w ≡ Some last
    pub within : (w begin : ℕ) → inner w ≡ Some begin
        → (last : ℕ) × (all w ≡ Some last) × (begin ≤ last) × (begin ≤ w)
    pub rising : (v w a b : ℕ) → v < w → inner v ≡ Some a → inner w ≡ Some b → a < b
    pub held : AreHeld
    -- no two zones cross
    pub free : (v w k l : ℕ) → v ≢ w → all v ≡ Some k → all w ≡ Some l → v < l → w < k → ⊥

-- a neighbour, if there is one, doesn't hit
abbrev pub Misses : Option (ℕ × ℕ) → (ℕ × ℕ → Type 0) → Type 0
Misses None Hits = Unit {0}
Misses (Some e) Hits = Hits e → ⊥

-- the inner zones with that one more, without some that ended later and began no later
pub record ArePruned (old : ℕ → Option ℕ) (end last : ℕ) (new : ℕ → Option ℕ) : Type 0 where
  pub here : new end ≡ Some last
  pub known : (w begin : ℕ) → w ≢ end → new w ≡ Some begin → old w ≡ Some begin
  pub kept : (w begin : ℕ) → w ≢ end → old w ≡ Some begin
      → (new w ≡ Some begin) ⊎ ((end < w) × (begin ≤ last))

-- what ended after it began later
abbrev pub IsDone : (ℕ → Option ℕ) → ℕ → ℕ → Type 0
IsDone inner end last = (w begin : ℕ) → end < w → inner w ≡ Some begin → last < begin

-- of two that ended after it the later one began later
abbrev pub IsRisingAfter : (ℕ → Option ℕ) → ℕ → Type 0
IsRisingAfter inner end = (v w a b : ℕ) → end < v → v < w → inner v ≡ Some a → inner w ≡ Some b
    → a < b

-- of two the later one began later
abbrev pub IsRising : (ℕ → Option ℕ) → Type 0
IsRising inner = (v w a b : ℕ) → v < w → inner v ≡ Some a → inner w ≡ Some b → a < b

-- one that ended no later began no earlier
abbrev pub HoldsOne : (ℕ → Option ℕ) → ℕ → ℕ → Type 0
HoldsOne inner end last =
    (w : ℕ) × (begin : ℕ) × (inner w ≡ Some begin) × (w ≤ end) × (last ≤ begin)

-- what ended no later began before that place
abbrev pub IsLower : (ℕ → Option ℕ) → ℕ → ℕ → Type 0
IsLower inner end last = (w begin : ℕ) → w ≤ end → inner w ≡ Some begin → begin < last

-- the inner zones hold one already, or it is among them and what holds it is not
abbrev pub IsHeld : (ℕ → Option ℕ) → ℕ → ℕ → (ℕ → Option ℕ) → Type 0
IsHeld old end last new =
    (HoldsOne old end last × ((q : ℕ) → new q ≡ old q))
    ⊎ (IsLower old end last × ArePruned old end last new × IsDone new end last)
