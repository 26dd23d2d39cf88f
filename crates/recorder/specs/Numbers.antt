-- The numbers of the reasons why a row is refused, as programs print them.
use Rattle.std.specs.Prelude.{ℕ}
use Rattle.recorder.specs.declared.row.RowRefusal.{RowRefusal}
use Rattle.recorder.specs.declared.row.RowRefusal.TheVariants as refusal

-- the number of a reason
abbrev pub row_refusal_number : RowRefusal → ℕ
row_refusal_number refusal.OpsFull = 1
row_refusal_number refusal.ClientBusy = 2
row_refusal_number refusal.NotPending = 3
row_refusal_number refusal.WrongKind = 4
row_refusal_number refusal.NoteTwice = 5
row_refusal_number refusal.Memory = 6
