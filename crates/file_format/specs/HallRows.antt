-- What a JSON value says as a row after the header of a history file: a row, and the hall that it
-- is of.
use Rattle.std.specs.Prelude.{ℕ, Result, Ok, codes, nat_lt}
use Rattle.serde_json.specs.Data.{Data}
use Rattle.file_format.specs.declared.fault.LineFault.{LineFault}
use Rattle.file_format.specs.declared.file_header.FileHeader.{FileHeader}
use Rattle.file_format.specs.declared.file_header.FileHeader.TheVariants.{Version1, Version2}
use Rattle.file_format.specs.declared.hall_row.HallRow.{HallRow}
use Rattle.counted_devices.specs.Answers.{◌>>=◌}
use Rattle.file_format.specs.Members.{number_at, needed_member, in_range}
use Rattle.file_format.specs.Rows.{row_in}

-- in version 1 every row is of hall 0
unfoldable pub only_row_in : Data → Result HallRow LineFault
only_row_in d = do
  said ← row_in d
  Ok (record { hall = 0; row = said })

-- in version 2 the member `hall` is the number of one of so many halls
unfoldable pub placed_row_in : ℕ → Data → Result HallRow LineFault
placed_row_in halls d = do
  number ← needed_member (number_at (codes "hall") d)
  said ← row_in d
  place ← in_range (nat_lt number halls) number
  Ok (record { hall = place; row = said })

-- the row that the value says after that header, or its fault
unfoldable pub hall_row_in : FileHeader → Data → Result HallRow LineFault
hall_row_in Version1 d = only_row_in d
hall_row_in (Version2 halls quorums) d = placed_row_in halls d
