-- The members of a line, as a reader of the format sees them: which row, or which piece of an
-- order, a JSON value says.
use Rattle.std.specs.Prelude.{ℕ, ◌≡◌, ◌≤◌, ◌<◌, ◌^◌, List, Some, None, codes, map, slice_get, true}
use Rattle.serde_json.specs.Data.{Data, null}
use Rattle.serde_json.specs.Find.{get}
use Rattle.tag.specs.declared.actions.Action.{Action}
use Rattle.tag.specs.declared.actions.Action.TheVariants.{Read, Write}
use Rattle.tag.specs.declared.actions.Returned.{Returned}
use Rattle.tag.specs.declared.actions.Returned.TheVariants.{Value, Written}
use Rattle.tag.specs.declared.numbers.OpId.{OpId}
use Rattle.tag.specs.Limits.{call_limit, client_limit}
use Rattle.tag.specs.Names.{is_key, is_value}
use Rattle.tag.specs.Tags.{Tag}
use Rattle.recorder.specs.declared.row.Row.{Row}
use Rattle.recorder.specs.declared.row.Row.TheVariants.{Invoke, Note, Respond}
use Rattle.recorder.specs.declared.order.KeyOrder.{KeyOrder}
use Rattle.quorum.specs.Quorums.{Quorums, IsLawful}
use Rattle.recorder.specs.Halls.{IsHallCount}
use Rattle.file_format.specs.declared.file_header.FileHeader.{FileHeader}
use Rattle.file_format.specs.declared.file_header.FileHeader.TheVariants.{Version1, Version2}
use Rattle.file_format.specs.declared.hall_row.HallRow.{HallRow}
use Rattle.file_format.specs.Members.{text_at, number_at, numbers_at}

module _ (d : Data) where
  -- the member of that name is that text
  abbrev pub HasText : List ℕ → List ℕ → Type 0
  HasText name text = text_at name d ≡ Some text

  -- the member of that name is that number
  abbrev pub HasNumber : List ℕ → ℕ → Type 0
  HasNumber name number = number_at name d ≡ Some number

  -- the member `value` is that value, a text of at most 256 bytes
  pub record HasValue (value : List ℕ) : Type 0 where
    pub text : HasText (codes "value") value
    pub short : is_value value ≡ true

  -- `call` is the number of the call, 0 to 4,294,967,295
  pub record HasCall (op : OpId) : Type 0 where
    pub call : HasNumber (codes "call") op.0
    pub range : op.0 < 2 ^ 32

  -- `do` is the action: `read`, or `write` with its value
  pub data HasAction : Action → Type 0 where
    reads : HasText (codes "do") (codes "read") → HasAction Read
    writes : (value : List ℕ) → HasText (codes "do") (codes "write") → HasValue value
        → HasAction (Write value)

  -- `value` is the answer: a read's text or null, and for a write it is missing
  pub data HasAnswer : Returned → Type 0 where
    written : get (codes "value") d ≡ None → HasAnswer Written
    answered_null : get (codes "value") d ≡ Some null → HasAnswer (Value None)
    answered : (value : List ℕ) → HasValue value → HasAnswer (Value (Some value))

  -- a row that begins a call: its client is 1 to 65,535
  pub record SaysInvoke (op : OpId) (client : ℕ) (key : List ℕ) (action : Action) : Type 0
    where
      pub kind : HasText (codes "row") (codes "invoke")
      pub call : HasCall op
      pub caller : HasNumber (codes "client") client
      pub least : 1 ≤ client
      pub most : client ≤ client_limit
      pub subject : HasText (codes "key") key
      pub named : is_key key ≡ true
      pub asks : HasAction action

  -- a row that notes a call's tag: its number is 0 to 1,000,000, its writer 0 to 65,535
  pub record SaysNote (op : OpId) (tag : Tag) : Type 0 where
    pub kind : HasText (codes "row") (codes "note")
    pub call : HasCall op
    pub number : HasNumber (codes "number") tag.number
    pub few : tag.number ≤ call_limit
    pub writer : HasNumber (codes "writer") tag.writer
    pub named : tag.writer ≤ client_limit

  -- a row that answers a call
  pub record SaysRespond (op : OpId) (returned : Returned) : Type 0 where
    pub kind : HasText (codes "row") (codes "respond")
    pub call : HasCall op
    pub answers : HasAnswer returned

  -- the JSON value says the row, by its members of the row's kind; others are ignored
  abbrev pub SaysRow : Row → Type 0
  SaysRow (Invoke op client key action) = SaysInvoke op client key action
  SaysRow (Note op tag) = SaysNote op tag
  SaysRow (Respond op returned) = SaysRespond op returned

  -- the value is a key and a piece of its order: `order` holds the numbers of the calls, each 0 to
  -- 4,294,967,295
  pub record SaysPiece (piece : KeyOrder) : Type 0 where
    pub subject : HasText (codes "key") piece.key
    pub named : is_key piece.key ≡ true
    pub order : numbers_at (codes "order") d ≡ Some (map (λ (op : OpId). op.0) piece.order)
    pub range : (k : ℕ) (op : OpId) → slice_get piece.order k ≡ Some op → op.0 < 2 ^ 32

  -- the value is the header of a history file of version 2: `halls` is 1 to 64, and `votes`, `ask`
  -- and `put` are quorums inside the rules
  pub record SaysQuorums (halls : ℕ) (quorums : Quorums) : Type 0 where
    pub abd : HasText (codes "abd") (codes "history")
    pub version : HasNumber (codes "version") 2
    pub told : HasNumber (codes "halls") halls
    pub count : IsHallCount halls
    pub votes : numbers_at (codes "votes") d ≡ Some quorums.votes
    pub ask : HasNumber (codes "ask") quorums.ask
    pub put : HasNumber (codes "put") quorums.put
    pub lawful : IsLawful quorums

-- the value is the header of a file of that name, of version 1
pub record SaysHeader (name : List ℕ) (d : Data) : Type 0 where
  pub abd : HasText d (codes "abd") name
  pub version : HasNumber d (codes "version") 1

-- the value is that header of a history file
abbrev pub SaysFileHeader : Data → FileHeader → Type 0
SaysFileHeader d Version1 = SaysHeader (codes "history") d
SaysFileHeader d (Version2 halls quorums) = SaysQuorums d halls quorums

-- the value says a row of version 2: `hall` is the number of one of so many halls
pub record SaysPlacedRow (halls : ℕ) (d : Data) (item : HallRow) : Type 0 where
  pub hall : HasNumber d (codes "hall") item.hall
  pub below : item.hall < halls
  pub said : SaysRow d item.row

-- the value says the row after that header; in version 1 all rows are of hall 0, and a member
-- `hall` is ignored
abbrev pub SaysHallRow : FileHeader → Data → HallRow → Type 0
SaysHallRow Version1 d item = (item.hall ≡ 0) × SaysRow d item.row
SaysHallRow (Version2 halls quorums) d item = SaysPlacedRow halls d item
