-- A value's meaning fails by its members alone: never as a line that is too long or no JSON.
use Rattle.std.proofs.Common.{ℕ, ◌≡◌, ◌≤◌, List, length, Bool, true, false, cond, Option, Some, None}
use Rattle.std.proofs.Common.{Result, Ok, Err, codes, subst}
use Rattle.serde_json.specs.Data.{Data}
use Rattle.tag.specs.declared.actions.Action.{Action}
use Rattle.file_format.specs.declared.fault.LineFault.{LineFault}
use Rattle.file_format.specs.declared.fault.LineFault.TheVariants.{NotJson, NoHeader, Version, Range, TooLong}
use Rattle.file_format.specs.Faults.{LineStop}
use Rattle.counted_devices.specs.declared.read_fault.Stop.TheVariants as stop
use Rattle.counted_devices.specs.Answers.{◌>>=◌, Gives}
use Rattle.file_format.specs.Members.{needed_member, in_range, text_at, number_at}
use Rattle.file_format.specs.Rows.{invocation_of, written_in, action_of, invoke_in, note_in}
use Rattle.file_format.specs.Rows.{answer_of, returned_of, respond_in, row_of, row_in}
use Rattle.file_format.specs.OrderLines.{piece_in}
use Rattle.file_format.specs.Headers.{header_of, header_in}
use Rattle.file_format.specs.declared.file_header.FileHeader.{FileHeader}
use Rattle.file_format.specs.declared.file_header.FileHeader.TheVariants.{Version1, Version2}
use Rattle.file_format.specs.FileHeaders.{told_in, version_of, file_header_of, file_header_in}
use Rattle.file_format.specs.HallRows.{only_row_in, placed_row_in, hall_row_in}
use Rattle.file_format.specs.Formats.{IsFine, IsOfMembers}
use Rattle.file_format.specs.Lines.{LineShows, LineShowsBy}
use Rattle.row_members.specs.Values.{IsJson}

pub record Well {X : Type 0} (r : Result X LineFault) : Type 0 where
  pub fine : IsFine r

ok : {X : Type 0} (x : X) → Well {X = X} (Ok x)
ok x = record { fine = tt }

bind : {A B : Type 0} (r : Result A LineFault) (f : A → Result B LineFault) → Well r → ((x : A) → Well (f x)) → Well (r >>= f)
bind (Ok x) f h k = k x
bind (Err e) f h k = record { fine = h.fine }

need : {X : Type 0} (o : Option X) → Well (needed_member o)
need None = record { fine = tt }
need (Some x) = record { fine = tt }

range : {X : Type 0} (b : Bool) (x : X) → Well (in_range b x)
range true x = record { fine = tt }
range false x = record { fine = tt }

choice : {X : Type 0} (b : Bool) (x y : Result X LineFault) → Well x → Well y → Well (cond b x y)
choice true x y h k = h
choice false x y h k = k

out : {X : Type 0} → Well {X = X} (Err Range)
out = record { fine = tt }

invocation_of-well : (call client : ℕ) (key : List ℕ) (action : Action) → Well (invocation_of call client key action)
unfolding invocation_of
invocation_of-well call client key action = search (bind, range, ok) depth 20

written-well : (d : Data) → Well (written_in d)
unfolding written_in
written-well d = search (bind, need, range, ok) depth 20

action-well : (action : List ℕ) (d : Data) → Well (action_of action d)
unfolding action_of
action-well action d = search (choice, written-well, ok, out) depth 20

invoke-well : (d : Data) → Well (invoke_in d)
unfolding invoke_in
invoke-well d = search (bind, need, action-well, invocation_of-well) depth 20

note-well : (d : Data) → Well (note_in d)
unfolding note_in
note-well d = search (bind, need, range, ok) depth 20

answer-well : (o : Option (List ℕ)) → Well (answer_of o)
unfolding answer_of
answer-well None = record { fine = tt }
answer-well (Some text) = search (bind, range, ok) depth 20

returned-well : (o : Option Data) → Well (returned_of o)
unfolding returned_of
returned-well None = record { fine = tt }
returned-well (Some d) = search (choice, answer-well, ok) depth 20

respond-well : (d : Data) → Well (respond_in d)
unfolding respond_in
respond-well d = search (bind, need, returned-well, range, ok) depth 20

row-well : (kind : List ℕ) (d : Data) → Well (row_of kind d)
unfolding row_of
row-well kind d = search (choice, invoke-well, note-well, respond-well, out) depth 20

pub row_in-well : (d : Data) → Well (row_in d)
unfolding row_in
row_in-well d = search (bind, need, row-well) depth 20

no_header : {X : Type 0} → Well {X = X} (Err NoHeader)
no_header = record { fine = tt }

no_version : {X : Type 0} → Well {X = X} (Err Version)
no_version = record { fine = tt }

header-well : (name : List ℕ) (abd : Option (List ℕ)) (version : Option ℕ) → Well (header_of name abd version)
unfolding header_of
header-well name None version = record { fine = tt }
header-well name (Some abd) None = search (choice, no_header, no_version) depth 20
header-well name (Some abd) (Some version) = search (choice, no_header, no_version, ok) depth 20

pub header_in-well : (name : List ℕ) (d : Data) → Well (header_in name d)
unfolding header_in
header_in-well name d = header-well name _ _

-- a history file's header, and its rows with their halls
told-well : (d : Data) → Well (told_in d)
unfolding told_in
told-well d = search (bind, need, range, ok) depth 30

version-well : (version : ℕ) (d : Data) → Well (version_of version d)
version-well version d = search (choice, told-well, no_version, ok) depth 20

file_header-well : (abd : Option (List ℕ)) (version : Option ℕ) (d : Data) → Well (file_header_of abd version d)
file_header-well None version d = record { fine = tt }
file_header-well (Some abd) None d = search (choice, no_header, no_version) depth 20
file_header-well (Some abd) (Some version) d = search (choice, version-well, no_header) depth 20

pub file_header_in-well : (d : Data) → Well (file_header_in d)
unfolding file_header_in
file_header_in-well d = file_header-well (text_at (codes "abd") d) (number_at (codes "version") d) d

only_row-well : (d : Data) → Well (only_row_in d)
unfolding only_row_in
only_row-well d = search (bind, row_in-well, ok) depth 20

placed_row-well : (halls : ℕ) (d : Data) → Well (placed_row_in halls d)
unfolding placed_row_in
placed_row-well halls d = search (bind, need, row_in-well, range, ok) depth 20

pub hall_row_in-well : (header : FileHeader) (d : Data) → Well (hall_row_in header d)
unfolding hall_row_in
hall_row_in-well Version1 d = only_row-well d
hall_row_in-well (Version2 halls quorums) d = placed_row-well halls d

pub piece_in-well : (d : Data) → Well (piece_in d)
unfolding piece_in
piece_in-well d = search (bind, need, range, ok) depth 20

fault_shown : {X : Type 0} (meaning : Data → Result X LineFault) (line : List ℕ) (d : Data) (fault : LineFault) → length line ≤ 65536
    → IsJson line d → meaning d ≡ Err fault → IsOfMembers fault → LineShows meaning line (Err fault)
fault_shown meaning line d NotJson short json meant well = absurd well
fault_shown meaning line d TooLong short json meant well = absurd well
fault_shown meaning line d _ short json meant well = record { short = short; value = d; json = json; meant = meant }

fine_at : {X : Type 0} (r : Result X LineFault) (fault : LineFault) → r ≡ Err fault → Well r → IsOfMembers fault
fine_at {X = X} r fault e w = let P : Result X LineFault → Type 0 = λ x. IsFine x in subst P e w.fine

-- what was made of a line's value is what the line shows
pub shown : {X : Type 0} (meaning : Data → Result X LineFault) (line : List ℕ) (d : Data) (r : Result X LineStop) → length line ≤ 65536
    → IsJson line d → Well (meaning d) → Gives (λ x. x) r (meaning d) → LineShowsBy meaning line r
shown meaning line d (Ok x) short json well given = record { short = short; value = d; json = json; meant = given }
shown meaning line d (Err stop.Memory) short json well given = tt
shown meaning line d (Err (stop.Fault fault)) short json well given =
    fault_shown meaning line d fault short json given (fine_at (meaning d) fault given well)
