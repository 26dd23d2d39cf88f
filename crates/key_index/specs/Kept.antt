-- What is true of the fields of numbered keys.
use Rattle.key_index.specs.declared.numbers.KeyNumbers.TheInside.{Inside}
use Rattle.key_index.specs.Placed.{ArePlaced}

-- the keys are placed in the table and among the others
abbrev pub IsKept : Inside → Type 0
IsKept k = ArePlaced k.slots.items k.others k.keys.items
