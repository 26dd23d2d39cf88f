-- What a decision rests on.
use Rattle.std.specs.Prelude.{ℕ, ◌≡◌, List}
use Rattle.recorder.specs.declared.part.Call.{Call}
use Rattle.tag_check.specs.Least.{LacksCall}
use Rattle.value_order.specs.declared.decide.Doubted.{Doubted}
use Rattle.value_order.specs.declared.decide.Families.{Families}
use Rattle.value_order.specs.declared.decide.Found.{Found}
use Rattle.value_order.specs.declared.decide.Found.TheVariants as found
use Rattle.value_order.specs.Classes.{AreClasses, AreNexts}
use Rattle.value_order.specs.Decisions.{IsFault, LacksFaults, LacksFaultsBefore, LacksReadFaults}
use Rattle.value_order.specs.Doubts.{IsLeastDoubt}
use Rattle.value_order.specs.Sources.{AreSources}
use Rattle.value_order.specs.Writers.{IsInDoubt, IsOnlyWriter}
use Rattle.value_order.specs.Zones.{AreZones, IsLastRow, NoneCross}

module _ (part : List Call) where
  -- families of which no two cross, where no read is faulty or in doubt
  pub record AreApart (families : Families) : Type 0 where
    pub is : families.part ≡ part
    pub sources : AreSources part families.sources.items
    pub row : ℕ
    pub last : IsLastRow part row
    pub zones : AreZones part (IsOnlyWriter part) row families.zones.items
    pub free : NoneCross families.zones.items
    pub reads : LacksReadFaults part
    pub sure : LacksCall part (IsInDoubt part)

  -- the least read in doubt, with the classes of calls and the next writes of their values
  pub record IsDoubted (doubted : Doubted) : Type 0 where
    pub least : IsLeastDoubt part (IsInDoubt part) doubted.doubt
    pub classes : AreClasses part doubted.classes.items
    pub nexts : AreNexts doubted.classes.items doubted.nexts.items

  -- what is decided, with what an order is made from
  abbrev pub IsFound : Found → Type 0
  IsFound (found.Atomic families) = AreApart families
  IsFound (found.NotAtomic f) = IsFault part f × LacksFaultsBefore part f
  IsFound (found.Undecided doubt) =
      IsLeastDoubt part (IsInDoubt part) doubt × LacksFaults part
