-- The faults of a line by itself, as a reader of the format sees them: a header of another file or
-- version, a member that is missing or of the wrong kind, one that is outside its range.
use Rattle.std.specs.Prelude.{ℕ, ◌≡◌, ◌≢◌, ◌≤◌, ◌<◌, ◌^◌, ◌↔◌, List, Some, Result, Err, codes}
use Rattle.std.specs.Prelude.{slice_get, false}
use Rattle.serde_json.specs.Data.{Data, null, string}
use Rattle.serde_json.specs.Find.{get}
use Rattle.tag.specs.Limits.{call_limit, client_limit}
use Rattle.tag.specs.Names.{is_key, is_value}
use Rattle.file_format.specs.declared.fault.LineFault.{LineFault}
use Rattle.file_format.specs.declared.fault.LineFault.TheVariants.{NoHeader, Version, Member, Range}
use Rattle.quorum.specs.Quorums.{Quorums, IsLawful}
use Rattle.recorder.specs.Halls.{IsHallCount}
use Rattle.file_format.specs.declared.file_header.FileHeader.{FileHeader}
use Rattle.file_format.specs.declared.file_header.FileHeader.TheVariants.{Version1, Version2}
use Rattle.file_format.specs.Members.{numbers_at}
use Rattle.file_format.specs.Says.{HasText, HasNumber}

-- the faults that an answer can be are those
abbrev pub FaultsAre : {X Fault : Type 0} → Result X Fault → (Fault → Type 0) → Type 0
FaultsAre {Fault = Fault} said HasFault = (fault : Fault) → (said ≡ Err fault) ↔ HasFault fault

-- `Member` where one is missing or of the wrong kind; `Range` where none is, and one is outside its
-- range
abbrev pub IsMemberFault : Type 0 → Type 0 → LineFault → Type 0
IsMemberFault Lacks IsOut Member = Lacks
IsMemberFault Lacks IsOut Range = (Lacks → ⊥) × IsOut
IsMemberFault Lacks IsOut fault = ⊥

module _ (d : Data) where
  -- ---- a member that is missing or of the wrong kind

  -- the member of that name is missing, or is no text
  abbrev pub LacksText : List ℕ → Type 0
  LacksText name = (text : List ℕ) → HasText d name text → ⊥

  -- the member of that name is missing, or is no whole number below 2^64 without a sign
  abbrev pub LacksNumber : List ℕ → Type 0
  LacksNumber name = (number : ℕ) → HasNumber d name number → ⊥

  -- the member of that name is missing, or is no array of such numbers
  abbrev pub LacksNumbers : List ℕ → Type 0
  LacksNumbers name = (numbers : List ℕ) → numbers_at name d ≡ Some numbers → ⊥

  -- an invocation has the numbers `call` and `client` and the texts `key` and `do`, that of a write
  -- the text `value` too
  pub data LacksInvokeMember : Type 0 where
    no_call_begun : LacksNumber (codes "call") → LacksInvokeMember
    no_client : LacksNumber (codes "client") → LacksInvokeMember
    no_key : LacksText (codes "key") → LacksInvokeMember
    no_action : LacksText (codes "do") → LacksInvokeMember
    no_value : HasText d (codes "do") (codes "write") → LacksText (codes "value")
        → LacksInvokeMember

  -- a note has the numbers `call`, `number` and `writer`
  pub data LacksNoteMember : Type 0 where
    no_call_noted : LacksNumber (codes "call") → LacksNoteMember
    no_number : LacksNumber (codes "number") → LacksNoteMember
    no_writer : LacksNumber (codes "writer") → LacksNoteMember

  -- a response has the number `call`; its `value`, where it has one, is null or a text
  pub data LacksRespondMember : Type 0 where
    no_call_answered : LacksNumber (codes "call") → LacksRespondMember
    no_answer : (value : Data) → get (codes "value") d ≡ Some value → value ≢ null
        → ((text : List ℕ) → value ≢ string text) → LacksRespondMember

  -- a row has the text `row`, and the members of its kind
  pub data LacksRowMember : Type 0 where
    no_row : LacksText (codes "row") → LacksRowMember
    of_invoke : HasText d (codes "row") (codes "invoke") → LacksInvokeMember → LacksRowMember
    of_note : HasText d (codes "row") (codes "note") → LacksNoteMember → LacksRowMember
    of_respond : HasText d (codes "row") (codes "respond") → LacksRespondMember → LacksRowMember

  -- a line of an order file has the text `key` and the array of numbers `order`
  pub data LacksPieceMember : Type 0 where
    no_subject : LacksText (codes "key") → LacksPieceMember
    no_order : LacksNumbers (codes "order") → LacksPieceMember

  -- a header of version 2 has the numbers `ask`, `halls` and `put` and the array of numbers `votes`
  pub data LacksQuorumMember : Type 0 where
    no_ask : LacksNumber (codes "ask") → LacksQuorumMember
    no_halls : LacksNumber (codes "halls") → LacksQuorumMember
    no_put : LacksNumber (codes "put") → LacksQuorumMember
    no_votes : LacksNumbers (codes "votes") → LacksQuorumMember

  -- a row of version 2 has the number `hall` too
  pub data LacksPlacedMember : Type 0 where
    no_hall : LacksNumber (codes "hall") → LacksPlacedMember
    of_row : LacksRowMember → LacksPlacedMember

  -- ---- a member that is outside its range

  -- `call` is 4,294,967,296 or more
  abbrev pub HasGreatCall : Type 0
  HasGreatCall = (call : ℕ) × HasNumber d (codes "call") call × (2 ^ 32 ≤ call)

  -- `key` is no key: not 1 to 64 bytes, or a byte that no key has
  abbrev pub HasBadKey : Type 0
  HasBadKey = (key : List ℕ) × HasText d (codes "key") key × (is_key key ≡ false)

  -- `value` is a text of more than 256 bytes
  abbrev pub HasLongValue : Type 0
  HasLongValue = (value : List ℕ) × HasText d (codes "value") value × (is_value value ≡ false)

  -- of an invocation: `client` is 1 to 65,535, `do` is one of two texts
  pub data IsInvokeOutOfRange : Type 0 where
    great_call_begun : HasGreatCall → IsInvokeOutOfRange
    client_zero : HasNumber d (codes "client") 0 → IsInvokeOutOfRange
    great_client : (client : ℕ) → HasNumber d (codes "client") client → client_limit < client
        → IsInvokeOutOfRange
    bad_key : HasBadKey → IsInvokeOutOfRange
    other_action : (name : List ℕ) → HasText d (codes "do") name → name ≢ codes "read"
        → name ≢ codes "write" → IsInvokeOutOfRange
    long_value : HasText d (codes "do") (codes "write") → HasLongValue → IsInvokeOutOfRange

  -- of a note: `number` is at most 1,000,000, `writer` at most 65,535
  pub data IsNoteOutOfRange : Type 0 where
    great_call_noted : HasGreatCall → IsNoteOutOfRange
    great_number : (number : ℕ) → HasNumber d (codes "number") number → call_limit < number
        → IsNoteOutOfRange
    great_writer : (writer : ℕ) → HasNumber d (codes "writer") writer → client_limit < writer
        → IsNoteOutOfRange

  -- of a response: `call` is below 4,294,967,296, a text `value` has at most 256 bytes
  pub data IsRespondOutOfRange : Type 0 where
    great_call_answered : HasGreatCall → IsRespondOutOfRange
    long_answer : HasLongValue → IsRespondOutOfRange

  -- `row` is one of three texts, and the row's members are in the ranges of its kind
  pub data IsRowOutOfRange : Type 0 where
    other_row : (kind : List ℕ) → HasText d (codes "row") kind → kind ≢ codes "invoke"
        → kind ≢ codes "note" → kind ≢ codes "respond" → IsRowOutOfRange
    out_of_invoke : HasText d (codes "row") (codes "invoke") → IsInvokeOutOfRange
        → IsRowOutOfRange
    out_of_note : HasText d (codes "row") (codes "note") → IsNoteOutOfRange → IsRowOutOfRange
    out_of_respond : HasText d (codes "row") (codes "respond") → IsRespondOutOfRange
        → IsRowOutOfRange

  -- of a line of an order file: each call is below 4,294,967,296
  pub data IsPieceOutOfRange : Type 0 where
    bad_subject : HasBadKey → IsPieceOutOfRange
    great_call : (numbers : List ℕ) (place call : ℕ) → numbers_at (codes "order") d ≡ Some numbers
        → slice_get numbers place ≡ Some call → 2 ^ 32 ≤ call → IsPieceOutOfRange

  -- of a header of version 2: `halls` is 1 to 64, and the quorums are inside the rules
  pub data AreQuorumsOutOfRange : Type 0 where
    bad_count : (halls : ℕ) → HasNumber d (codes "halls") halls → (IsHallCount halls → ⊥)
        → AreQuorumsOutOfRange
    bad_quorums : (quorums : Quorums) → numbers_at (codes "votes") d ≡ Some quorums.votes
        → HasNumber d (codes "ask") quorums.ask → HasNumber d (codes "put") quorums.put
        → (IsLawful quorums → ⊥) → AreQuorumsOutOfRange

  -- the value has that fault as a line of a history file
  abbrev pub HasRowFault : LineFault → Type 0
  HasRowFault fault = IsMemberFault LacksRowMember IsRowOutOfRange fault

  -- the value has that fault as a line of an order file
  abbrev pub HasPieceFault : LineFault → Type 0
  HasPieceFault fault = IsMemberFault LacksPieceMember IsPieceOutOfRange fault

  -- the value is the header of a history file of that version
  pub record IsOfVersion (version : ℕ) : Type 0 where
    pub abd : HasText d (codes "abd") (codes "history")
    pub told : HasNumber d (codes "version") version

  -- the value has that fault as the first line of a history file of either version
  abbrev pub HasFileHeaderFault : LineFault → Type 0
  HasFileHeaderFault NoHeader = HasText d (codes "abd") (codes "history") → ⊥
  HasFileHeaderFault Version = HasText d (codes "abd") (codes "history")
      × (HasNumber d (codes "version") 1 → ⊥) × (HasNumber d (codes "version") 2 → ⊥)
  HasFileHeaderFault fault =
      IsOfVersion 2 × IsMemberFault LacksQuorumMember AreQuorumsOutOfRange fault

-- of a row of version 2: `hall` is below the number of halls
pub data IsPlacedOutOfRange (halls : ℕ) (d : Data) : Type 0 where
  great_hall : (hall : ℕ) → HasNumber d (codes "hall") hall → halls ≤ hall
      → IsPlacedOutOfRange halls d
  bad_row : IsRowOutOfRange d → IsPlacedOutOfRange halls d

-- the value has that fault as a line of a history file of either version
abbrev pub HasHallRowFault : FileHeader → Data → LineFault → Type 0
HasHallRowFault Version1 d fault = HasRowFault d fault
HasHallRowFault (Version2 halls quorums) d fault =
    IsMemberFault (LacksPlacedMember d) (IsPlacedOutOfRange halls d) fault

-- the value has that fault as the first line of a file of that name: it has no `abd` with that
-- text, or it has, and no `version` that is 1
abbrev pub HasHeaderFault : List ℕ → Data → LineFault → Type 0
HasHeaderFault name d NoHeader = HasText d (codes "abd") name → ⊥
HasHeaderFault name d Version = HasText d (codes "abd") name × (HasNumber d (codes "version") 1 → ⊥)
HasHeaderFault name d fault = ⊥
