-- The texts of histories and of orders: a header, then one line for each row or piece of an order.
-- A line is a JSON object, compact, its members in byte order of their names, and its end.
use Rattle.std.specs.Prelude.{ℕ, zero, suc, ◌-◌, ◌/◌, List, [], ◌∷◌, ◌++◌, Option, Some, None}
use Rattle.std.specs.Prelude.{codes, decimal, map, length, take, drop}
use Rattle.std.specs.List.{flat_map}
use Rattle.serde_json.specs.Data.{Data, null, number, string, array, object, unsigned, Items}
use Rattle.serde_json.specs.Data.{no_items, item, Members, no_members, member}
use Rattle.serde_json.specs.Written.{compact_text}
use Rattle.tag.specs.declared.actions.Action.{Action}
use Rattle.tag.specs.declared.actions.Action.TheVariants.{Read, Write}
use Rattle.tag.specs.declared.actions.Returned.{Returned}
use Rattle.tag.specs.declared.actions.Returned.TheVariants.{Value, Written}
use Rattle.tag.specs.declared.numbers.OpId.{OpId}
use Rattle.recorder.specs.declared.row.Row.{Row}
use Rattle.recorder.specs.declared.row.Row.TheVariants.{Invoke, Note, Respond}
use Rattle.recorder.specs.declared.order.KeyOrder.{KeyOrder}
use Rattle.recorder.specs.Halls.{RecordedHalls}
use Rattle.recorder.specs.Histories.{Recorded}
use Rattle.counted_devices.specs.Cuts.{with_end}
use Rattle.file_format.specs.declared.file_header.FileHeader.{FileHeader}
use Rattle.file_format.specs.declared.file_header.FileHeader.TheVariants.{Version1, Version2}
use Rattle.file_format.specs.declared.hall_row.HallRow.{HallRow}
use Rattle.file_format.specs.declared.marks.Marks.{Marks}
use Rattle.file_format.specs.FileHeaders.{written_hall, header_with}
use Rattle.file_format.specs.NumberedRows.{NumberedRow}

-- a number without a sign
abbrev pub whole : ℕ → Data
whole n = number (unsigned n)

-- a member that is a number, before others
abbrev pub number_member : List ℕ → ℕ → Members → Members
number_member name n others = member name (whole n) others

-- a member that is a text, before others
abbrev pub text_member : List ℕ → List ℕ → Members → Members
text_member name text others = member name (string text) others

-- a member that is a list, before others
abbrev pub list_member : List ℕ → Items → Members → Members
list_member name items others = member name (array items) others

-- those members, in their order
abbrev pub members_in_order : List (Members → Members) → Members
members_in_order [] = no_members
members_in_order (first ∷ others) = first (members_in_order others)

-- the object that has those members
abbrev pub object_with : List (Members → Members) → Data
object_with members = object (members_in_order members)

-- the header of a file of that name
unfoldable pub header_data : List ℕ → Data
header_data name = object_with (
    text_member (codes "abd") name
    ∷ number_member (codes "version") 1
    ∷ [])

-- the name of an action: `read` or `write`
abbrev pub action_name : Action → List ℕ
action_name Read = codes "read"
action_name (Write value) = codes "write"

-- the value that a write asks for, before others; a read has no such member
abbrev pub asked_member : Action → Members → Members
asked_member Read others = others
asked_member (Write value) others = text_member (codes "value") value others

-- a read's answer, a text or null, before others; a write's response has no such member
abbrev pub answered_member : Returned → Members → Members
answered_member Written others = others
answered_member (Value None) others = member (codes "value") null others
answered_member (Value (Some value)) others = text_member (codes "value") value others

-- the number of the row's hall, where the row has one as a member, before others
abbrev pub hall_member : Option ℕ → Members → Members
hall_member None others = others
hall_member (Some hall) others = number_member (codes "hall") hall others

-- the bytes of that member, a comma before it
abbrev pub hall_text : Option ℕ → List ℕ
hall_text None = []
hall_text (Some hall) = codes ",\"hall\":" ++ decimal hall

-- the number of the row's line in a file that is split, where the row has one as a member, before
-- others
abbrev pub line_member : Option ℕ → Members → Members
line_member None others = others
line_member (Some line) others = number_member (codes "line") line others

-- the bytes of that member, a comma before it
abbrev pub line_member_text : Option ℕ → List ℕ
line_member_text None = []
line_member_text (Some line) = codes ",\"line\":" ++ decimal line

-- a row's value, with the members that it is marked by
unfoldable pub marked_data : Marks → Row → Data
marked_data marks (Invoke op client key action) = object_with (
    number_member (codes "call") op.0
    ∷ number_member (codes "client") client
    ∷ text_member (codes "do") (action_name action)
    ∷ hall_member marks.hall
    ∷ text_member (codes "key") key
    ∷ line_member marks.line
    ∷ text_member (codes "row") (codes "invoke")
    ∷ asked_member action
    ∷ [])
marked_data marks (Note op tag) = object_with (
    number_member (codes "call") op.0
    ∷ hall_member marks.hall
    ∷ line_member marks.line
    ∷ number_member (codes "number") tag.number
    ∷ text_member (codes "row") (codes "note")
    ∷ number_member (codes "writer") tag.writer
    ∷ [])
marked_data marks (Respond op returned) = object_with (
    number_member (codes "call") op.0
    ∷ hall_member marks.hall
    ∷ line_member marks.line
    ∷ text_member (codes "row") (codes "respond")
    ∷ answered_member returned
    ∷ [])

-- a row's value, with its hall where that is a member
abbrev pub row_data : Option ℕ → Row → Data
row_data hall row = marked_data (record { hall = hall; line = None }) row

-- numbers without a sign
abbrev pub numbers_data : List ℕ → Items
numbers_data [] = no_items
numbers_data (n ∷ numbers) = item (whole n) (numbers_data numbers)

-- the header of a history file of either version
unfoldable pub file_header_data : FileHeader → Data
file_header_data Version1 = header_data (codes "history")
file_header_data (Version2 halls quorums) = object_with (
    text_member (codes "abd") (codes "history")
    ∷ number_member (codes "ask") quorums.ask
    ∷ number_member (codes "halls") halls
    ∷ number_member (codes "put") quorums.put
    ∷ number_member (codes "version") 2
    ∷ list_member (codes "votes") (numbers_data quorums.votes)
    ∷ [])

-- the numbers of calls
abbrev pub calls_data : List OpId → Items
calls_data ops = numbers_data (map (λ op. op.0) ops)

-- a piece's value: its key, and its calls
unfoldable pub piece_data : KeyOrder → Data
piece_data piece = object_with (
    text_member (codes "key") piece.key
    ∷ list_member (codes "order") (calls_data piece.order)
    ∷ [])

-- the order in so many pieces of 1,000 calls, and a last piece of the calls that are left over
abbrev pub cut_pieces : ℕ → List OpId → List (List OpId)
cut_pieces zero order = order ∷ []
cut_pieces (suc n) order = take 1000 order ∷ cut_pieces n (drop 1000 order)

-- the pieces of an order: none has more than 1,000 calls, and only the last one has fewer
unfoldable pub pieces_of : KeyOrder → List KeyOrder
pieces_of order = map (λ calls. record { key = order.key; order = calls }) (cut_pieces ((length
    order.order - 1) / 1000) order.order)

-- a value's line, with its end
unfoldable pub line_text : Data → List ℕ
line_text d = with_end (compact_text d)

-- the line of a row, with the members that it is marked by
abbrev pub marked_text : Marks → Row → List ℕ
marked_text marks row = line_text (marked_data marks row)

-- the line of a row, with its hall where that is a member
abbrev pub row_text_with : Option ℕ → Row → List ℕ
row_text_with hall row = line_text (row_data hall row)

-- the line of a row without a hall
abbrev pub row_text : Row → List ℕ
row_text row = row_text_with None row

-- the line of a piece of an order
abbrev pub piece_text : KeyOrder → List ℕ
piece_text piece = line_text (piece_data piece)

-- the lines of an order: a line for each piece
abbrev pub order_text : KeyOrder → List ℕ
order_text order = flat_map piece_text (pieces_of order)

-- the text of a history of those rows
abbrev pub history_text : List Row → List ℕ
history_text rows = line_text (header_data (codes "history")) ++ flat_map row_text rows

-- the line of a row, with the number of its line in a file that is split
abbrev pub numbered_text : NumberedRow → List ℕ
numbered_text numbered =
    marked_text (record { hall = None; line = Some numbered.line }) numbered.row

-- the text of a history of those rows, each with its number
abbrev pub numbered_history_text : List NumberedRow → List ℕ
numbered_history_text numbered =
    line_text (header_data (codes "history")) ++ flat_map numbered_text numbered

-- the header of the histories' file: version 2 where the quorums are known, else version 1
abbrev pub header_of_histories : RecordedHalls → FileHeader
header_of_histories histories = header_with (length histories.halls) histories.quorums

-- the rows of halls, from that number on, with their halls
abbrev pub rows_from : ℕ → List Recorded → List HallRow
rows_from hall [] = []
rows_from hall (history ∷ others) =
    map (λ row. record { hall = hall; row = row }) history.rows ++ rows_from (suc hall) others

-- a row's value after that header
abbrev pub hall_row_data : FileHeader → HallRow → Data
hall_row_data header placed = row_data (written_hall header placed.hall) placed.row

-- the text of a file of that header and those rows
abbrev pub hall_rows_text : FileHeader → List HallRow → List ℕ
hall_rows_text header rows = line_text (file_header_data header)
    ++ flat_map (λ placed. line_text (hall_row_data header placed)) rows

-- the text of histories by hall: the rows of hall 0, then those of hall 1, and so on
abbrev pub histories_text : RecordedHalls → List ℕ
histories_text histories =
    hall_rows_text (header_of_histories histories) (rows_from 0 histories.halls)

-- the text of those orders
abbrev pub orders_text : List KeyOrder → List ℕ
orders_text orders = line_text (header_data (codes "orders")) ++ flat_map order_text orders
