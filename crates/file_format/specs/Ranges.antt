-- What the types of a row's and of an order's fields carry: each is in its range.
use Rattle.std.specs.Prelude.{ℕ, ◌≡◌, ◌≤◌, ◌<◌, ◌^◌, List, Option, Some, None, slice_get, true}
use Rattle.std.specs.Prelude.{IsUtf8}
use Rattle.tag.specs.declared.actions.Action.{Action}
use Rattle.tag.specs.declared.actions.Action.TheVariants.{Read, Write}
use Rattle.tag.specs.declared.actions.Returned.{Returned}
use Rattle.tag.specs.declared.actions.Returned.TheVariants.{Value, Written}
use Rattle.tag.specs.declared.numbers.OpId.{OpId}
use Rattle.tag.specs.Limits.{call_limit, client_limit}
use Rattle.tag.specs.Names.{is_key, is_value}
use Rattle.tag.specs.Tags.{Tag}
use Rattle.recorder.specs.declared.row.Row.{Row}
use Rattle.recorder.specs.declared.row.Row.TheVariants.{Invoke, Note, Respond}
use Rattle.quorum.specs.Quorums.{Quorums, IsLawful}
use Rattle.recorder.specs.Histories.{Recorded, IsWellFormed}
use Rattle.recorder.specs.declared.order.KeyOrder.{KeyOrder}
use Rattle.file_format.specs.NumberedRows.{NumberedRow}

-- a number of 32 bits
abbrev pub IsOp : OpId → Type 0
IsOp op = op.0 < 2 ^ 32

-- a text of at most 256 bytes
pub record IsValue (value : List ℕ) : Type 0 where
  pub text : IsUtf8 value
  pub short : is_value value ≡ true

-- a write's value is in its range
abbrev pub HasValueIn : Action → Type 0
HasValueIn Read = Unit {0}
HasValueIn (Write value) = IsValue value

-- a read's answer, if it has one, is in its range
abbrev pub HasAnswerIn : Returned → Type 0
HasAnswerIn Written = Unit {0}
HasAnswerIn (Value None) = Unit {0}
HasAnswerIn (Value (Some value)) = IsValue value

-- a client's name is 1 to 65,535
pub record IsInvocation (op : OpId) (client : ℕ) (key : List ℕ) (action : Action) : Type 0 where
  pub call : IsOp op
  pub least : 1 ≤ client
  pub most : client ≤ client_limit
  pub named : is_key key ≡ true
  pub asks : HasValueIn action

-- a tag's number is at most 1,000,000, its writer at most 65,535
pub record IsNote (op : OpId) (tag : Tag) : Type 0 where
  pub call : IsOp op
  pub few : tag.number ≤ call_limit
  pub named : tag.writer ≤ client_limit

-- a response has a number of 32 bits and an answer in its range
pub record IsResponse (op : OpId) (returned : Returned) : Type 0 where
  pub call : IsOp op
  pub answers : HasAnswerIn returned

-- the row's fields are in their ranges
abbrev pub IsRowInRange : Row → Type 0
IsRowInRange (Invoke op client key action) = IsInvocation op client key action
IsRowInRange (Note op tag) = IsNote op tag
IsRowInRange (Respond op returned) = IsResponse op returned

-- each row's fields are in their ranges
abbrev pub AreRowsInRange : List Row → Type 0
AreRowsInRange rows = (k : ℕ) (row : Row) → slice_get rows k ≡ Some row → IsRowInRange row

-- the number of a row's line, if it has one, has 64 bits
abbrev pub HasLineIn : Option ℕ → Type 0
HasLineIn None = Unit {0}
HasLineIn (Some line) = line < 2 ^ 64

-- the row's fields are in their ranges, and the number of its line has 64 bits
pub record IsNumberedInRange (numbered : NumberedRow) : Type 0 where
  pub line : numbered.line < 2 ^ 64
  pub row : IsRowInRange numbered.row

-- each row with its number is in its range
abbrev pub AreNumberedInRange : List NumberedRow → Type 0
AreNumberedInRange rows = (k : ℕ) (numbered : NumberedRow) → slice_get rows k ≡ Some numbered
    → IsNumberedInRange numbered

-- a history, with its rows' fields in their ranges
pub record IsWritten (history : Recorded) : Type 0 where
  pub formed : IsWellFormed history.rows
  pub ranges : AreRowsInRange history.rows

-- the rows of each history are in their ranges
abbrev pub HasRowsInRange : List Recorded → Type 0
HasRowsInRange halls = (hall : ℕ) (history : Recorded) → slice_get halls hall ≡ Some history
    → AreRowsInRange history.rows

-- the rows of each history are well-formed
abbrev pub HaveFormed : List Recorded → Type 0
HaveFormed halls = (hall : ℕ) (history : Recorded) → slice_get halls hall ≡ Some history
    → IsWellFormed history.rows

-- the quorums, where they are known, are inside the rules
abbrev pub HasLawful : Option Quorums → Type 0
HasLawful None = Unit {0}
HasLawful (Some quorums) = IsLawful quorums

-- each is a number of 32 bits
abbrev pub AreOps : List OpId → Type 0
AreOps ops = (k : ℕ) (op : OpId) → slice_get ops k ≡ Some op → IsOp op

-- the order's key is one, and its calls are numbers of 32 bits
pub record IsOrderInRange (order : KeyOrder) : Type 0 where
  pub named : is_key order.key ≡ true
  pub calls : AreOps order.order

-- each order's key and calls are in their ranges
abbrev pub AreOrdersInRange : List KeyOrder → Type 0
AreOrdersInRange orders =
    (k : ℕ) (order : KeyOrder) → slice_get orders k ≡ Some order → IsOrderInRange order

-- no two orders are of one key
abbrev pub HaveDistinctKeys : List KeyOrder → Type 0
HaveDistinctKeys orders = (i j : ℕ) (a b : KeyOrder) → i < j → slice_get orders i ≡ Some a
    → slice_get orders j ≡ Some b → a.key ≡ b.key → ⊥
