-- What a call says of values: the value is named by the index of its first write.
use Rattle.std.specs.Prelude.{ℕ, ◌≡◌, ◌<◌, ◌≤◌, ◌+◌, ◌⊎◌, List, Option, Some, None, length}
use Rattle.std.specs.Prelude.{slice_get}
use Rattle.tag.specs.declared.actions.Action.TheVariants.{Write}
use Rattle.recorder.specs.declared.part.Call.{Call}
use Rattle.recorder.specs.Parts.{IsPending}
use Rattle.recorder.specs.Sound.{IsRead, IsWrite}
use Rattle.value_order.specs.declared.classes.Class.{Class}
use Rattle.value_order.specs.declared.classes.Class.TheVariants as class
use Rattle.value_order.specs.Writers.{AnswersValue, AnswersNothing}
use Rattle.value_order.specs.Faults.{AnswersUnwritten}

-- the first write of the value stands at index k
pub record IsFirstWrite (part : List Call) (value : List ℕ) (k : ℕ) : Type 0 where
  pub write : Call
  pub at : slice_get part k ≡ Some write
  pub writes : write.action ≡ Write value
  pub least : (j : ℕ) (other : Call) → slice_get part j ≡ Some other → other.action ≡ Write value
      → k ≤ j

-- the first write of the value, if one stands below index n
abbrev pub IsFirstBelow : List Call → List ℕ → ℕ → Option ℕ → Type 0
IsFirstBelow part value n None = (j : ℕ) (other : Call) → j < n → slice_get part j ≡ Some other
    → other.action ≡ Write value → ⊥
IsFirstBelow part value n (Some k) = IsFirstWrite part value k

-- the class of a call
abbrev pub IsClass : List Call → Call → Class → Type 0
IsClass part call (class.Writes k) =
    (value : List ℕ) × (call.action ≡ Write value) × IsFirstWrite part value k
IsClass part call (class.Answers k) =
    (value : List ℕ) × AnswersValue call value × IsFirstWrite part value k
IsClass part call class.Unwritten = AnswersUnwritten part call
IsClass part call class.Nothing = AnswersNothing call
IsClass part call class.Pending = IsRead call × IsPending call

-- the class of the call at that index, if it is a write; that of a read is still open
abbrev pub IsWriteClass : List Call → ℕ → Class → Type 0
IsWriteClass part i own = (call : Call) × (slice_get part i ≡ Some call)
    × ((IsWrite call × IsClass part call own) ⊎ (IsRead call × (own ≡ class.Pending)))

-- beside each call that
pub record AreWriteClasses (part : List Call) (classes : List Class) : Type 0 where
  pub all : length classes ≡ length part
  pub each : (i : ℕ) (class : Class) → slice_get classes i ≡ Some class → IsWriteClass part i class

-- beside each call its class
pub record AreClasses (part : List Call) (classes : List Class) : Type 0 where
  pub all : length classes ≡ length part
  pub each : (i : ℕ) (call : Call) (class : Class) → slice_get part i ≡ Some call
      → slice_get classes i ≡ Some class → IsClass part call class

module _ (classes : List Class) where
  -- a write, or an answered read, of the value whose first write has index k
  abbrev pub HasClass : ℕ → ℕ → Type 0
  HasClass i k = (slice_get classes i ≡ Some (class.Writes k))
      ⊎ (slice_get classes i ≡ Some (class.Answers k))

  -- the value of each call is named by an index of the calls
  abbrev pub AreNumbered : Type 0
  AreNumbered = (i k : ℕ) → HasClass i k → k < length classes

  -- the first write of that value from index low on
  abbrev pub IsWriteFrom : ℕ → ℕ → Option ℕ → Type 0
  IsWriteFrom low k None = (j : ℕ) → low ≤ j → slice_get classes j ≡ Some (class.Writes k) → ⊥
  IsWriteFrom low k (Some j) = (low ≤ j) × (slice_get classes j ≡ Some (class.Writes k))
      × ((m : ℕ) → low ≤ m → slice_get classes m ≡ Some (class.Writes k) → j ≤ m)

  -- beside each call the next write of its value after it
  pub record AreNexts (nexts : List (Option ℕ)) : Type 0 where
    pub all : length nexts ≡ length classes
    pub each : (i k : ℕ) (next : Option ℕ) → HasClass i k → slice_get nexts i ≡ Some next
        → IsWriteFrom (i + 1) k next
