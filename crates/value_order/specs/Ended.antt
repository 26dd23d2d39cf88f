-- The writes that ended before a place, and of the writes of a value the one that ends last.
use Rattle.std.specs.Prelude.{ℕ, ◌≡◌, ◌<◌, ◌≤◌, ◌⊎◌, List, Option, Some, None, length}
use Rattle.std.specs.Prelude.{slice_get}
use Rattle.recorder.specs.declared.part.Call.{Call}
use Rattle.recorder.specs.declared.part.Response.{Response}
use Rattle.recorder.specs.Parts.{Precedes}
use Rattle.recorder.specs.Sound.{IsWrite}
use Rattle.value_order.specs.declared.classes.Class.{Class}
use Rattle.value_order.specs.declared.classes.Class.TheVariants as class
use Rattle.value_order.specs.declared.keys.SortKey.{SortKey}

module _ (part : List Call) where
  -- the write of index k ended at that place
  pub record WriteEnds (k end : ℕ) : Type 0 where
    pub write : Call
    pub at : slice_get part k ≡ Some write
    pub writes : IsWrite write
    pub response : Response
    pub responds : write.response ≡ Some response
    pub ends : response.place ≡ end

  -- keys of the writes below index n that ended: each has its end for a rank
  pub record AreEndKeys (n : ℕ) (keys : List SortKey) : Type 0 where
    pub each : (p : ℕ) (key : SortKey) → slice_get keys p ≡ Some key → WriteEnds key.index key.rank
    pub below : (p : ℕ) (key : SortKey) → slice_get keys p ≡ Some key → key.index < n
    pub all : (k end : ℕ) → k < n → WriteEnds k end → (p : ℕ) × (key : SortKey)
        × (slice_get keys p ≡ Some key) × (key.index ≡ k)
    pub rise : (p q : ℕ) (a b : SortKey) → p < q → slice_get keys p ≡ Some a
        → slice_get keys q ≡ Some b → a.index < b.index

  -- the same by end
  pub record AreByEnd (keys : List SortKey) : Type 0 where
    pub each : (p : ℕ) (key : SortKey) → slice_get keys p ≡ Some key → WriteEnds key.index key.rank
    pub all : (k end : ℕ) → WriteEnds k end → (p : ℕ) × (key : SortKey)
        × (slice_get keys p ≡ Some key) × (key.index ≡ k)
    pub rises : (p q : ℕ) (a b : SortKey) → p < q → slice_get keys p ≡ Some a
        → slice_get keys q ≡ Some b → a.rank ≤ b.rank

  -- of the writes that ended before a place the last by index
  abbrev pub IsLatestBefore : ℕ → Option ℕ → Type 0
  IsLatestBefore place None = (k end : ℕ) → WriteEnds k end → end < place → ⊥
  IsLatestBefore place (Some latest) = ((end : ℕ) × WriteEnds latest end × (end < place))
      × ((k end : ℕ) → WriteEnds k end → end < place → k ≤ latest)

  -- the call of index k is pending or ends no sooner than that of index m
  abbrev pub EndsNoLater : ℕ → ℕ → Type 0
  EndsNoLater m k = (a b : Call) (response : Response) → slice_get part m ≡ Some a
      → slice_get part k ≡ Some b → b.response ≡ Some response
      → (other : Response) × (a.response ≡ Some other) × (other.place ≤ response.place)

  -- the first end of the writes below index n
  abbrev pub IsFirstWriteEnd : ℕ → Option ℕ → Type 0
  IsFirstWriteEnd n None = (k end : ℕ) → k < n → WriteEnds k end → ⊥
  IsFirstWriteEnd n (Some first) = ((k : ℕ) × WriteEnds k first)
      × ((k end : ℕ) → k < n → WriteEnds k end → first ≤ end)

  -- of the call of index i and the slowest before it the one that ends last
  pub record IsSlower (slowest : Option ℕ) (i later : ℕ) : Type 0 where
    pub is : (later ≡ i) ⊎ (slowest ≡ Some later)
    pub new : EndsNoLater i later
    pub old : (slow : ℕ) → slowest ≡ Some slow → EndsNoLater slow later

  -- the call of index k precedes that of index m
  abbrev pub PrecedesAt : ℕ → ℕ → Type 0
  PrecedesAt k m = (a : Call) × (b : Call) × (slice_get part k ≡ Some a)
      × (slice_get part m ≡ Some b) × Precedes a b

  -- the next call, if there is one, began no later than the call of index i was answered
  abbrev pub BeginsDuring : Option ℕ → ℕ → Type 0
  BeginsDuring next i = (n : ℕ) × (a : Call) × (b : Call) × (response : Response)
      × (next ≡ Some n) × (slice_get part n ≡ Some a) × (slice_get part i ≡ Some b)
      × (b.response ≡ Some response) × (a.invoked ≤ response.place)

  -- of the writes of a value below index i the one that ends last
  abbrev pub IsSlowest : List Class → ℕ → ℕ → Option ℕ → Type 0
  IsSlowest classes first i None =
      (j : ℕ) → j < i → slice_get classes j ≡ Some (class.Writes first) → ⊥
  IsSlowest classes first i (Some slow) = (slow < i)
      × (slice_get classes slow ≡ Some (class.Writes first))
      × ((j : ℕ) → j < i → slice_get classes j ≡ Some (class.Writes first) → EndsNoLater j slow)

-- of each value
pub record AreSlowest (part : List Call) (classes : List Class) (i : ℕ)
    (slowest : List (Option ℕ)) : Type 0 where
  pub all : length slowest ≡ length part
  pub each : (first : ℕ) (slow : Option ℕ) → slice_get slowest first ≡ Some slow
      → IsSlowest part classes first i slow

-- the first keys, which are those below the place
pub record IsPassed (keys : List SortKey) (count place : ℕ) : Type 0 where
  pub passed : (p : ℕ) (key : SortKey) → p < count → slice_get keys p ≡ Some key → key.rank < place
  pub left : (p : ℕ) (key : SortKey) → count ≤ p → slice_get keys p ≡ Some key → place ≤ key.rank

-- of the first keys the greatest index
abbrev pub IsGreatestIndex : List SortKey → ℕ → Option ℕ → Type 0
IsGreatestIndex keys count None =
    (p : ℕ) (key : SortKey) → p < count → slice_get keys p ≡ Some key → ⊥
IsGreatestIndex keys count (Some latest) = ((p : ℕ) × (key : SortKey) × (p < count)
    × (slice_get keys p ≡ Some key) × (key.index ≡ latest))
    × ((p : ℕ) (key : SortKey) → p < count → slice_get keys p ≡ Some key → key.index ≤ latest)
