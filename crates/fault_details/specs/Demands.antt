-- What the members of a line have to be, one by one: which kind a member has, and its range.
use Rattle.std.specs.Prelude.{ℕ, ◌^◌, ◌&&◌, ◌||◌, ◌==◌, List, [], ◌∷◌, ◌++◌, Bool, true, false}
use Rattle.std.specs.Prelude.{Option, Some, None, codes, bytes_eq, is_some, nat_le, nat_lt}
use Rattle.std.specs.Prelude.{if◌then◌else◌}
use Rattle.std.specs.List.{list_all}
use Rattle.serde_json.specs.Data.{Data}
use Rattle.serde_json.specs.Find.{get, as_null, as_str}
use Rattle.tag.specs.Names.{is_key, is_value}
use Rattle.file_format.specs.FileHeaders.{are_votes}
use Rattle.file_format.specs.Members.{text_at, number_at, numbers_at}
use Rattle.fault_details.specs.declared.demand.Name.{Name}
use Rattle.fault_details.specs.declared.demand.Name.TheVariants as name
use Rattle.fault_details.specs.declared.demand.Allowed.{Allowed}
use Rattle.fault_details.specs.declared.demand.Allowed.TheVariants as allowed
use Rattle.fault_details.specs.declared.demand.Demand.{Demand}
use Rattle.fault_details.specs.declared.demand.Test.{Test}
use Rattle.fault_details.specs.declared.demand.Test.TheVariants as tests
use Rattle.fault_details.specs.Shown.{grouped}

-- the name of a member
abbrev pub name_text : Name → List ℕ
name_text name.Abd = codes "abd"
name_text name.Ask = codes "ask"
name_text name.Call = codes "call"
name_text name.Client = codes "client"
name_text name.Do = codes "do"
name_text name.Hall = codes "hall"
name_text name.Halls = codes "halls"
name_text name.Key = codes "key"
name_text name.Number = codes "number"
name_text name.Order = codes "order"
name_text name.Put = codes "put"
name_text name.Row = codes "row"
name_text name.Value = codes "value"
name_text name.Version = codes "version"
name_text name.Votes = codes "votes"
name_text name.Writer = codes "writer"

-- ---- kinds

-- a response has no value, null, or a text
abbrev pub is_answer : Option Data → Bool
is_answer None = true
is_answer (Some d) = is_some (as_null d) || is_some (as_str d)

-- the member of that name is there and of its kind: a number, an array of numbers, an answer, or a
-- text
abbrev pub has_kind : Allowed → List ℕ → Data → Bool
has_kind (allowed.Number least most) name d = is_some (number_at name d)
has_kind allowed.OfVotes name d = is_some (number_at name d)
has_kind (allowed.BesideAsk most) name d = is_some (number_at name d)
has_kind allowed.Votes name d = is_some (numbers_at name d)
has_kind allowed.Calls name d = is_some (numbers_at name d)
has_kind allowed.Answer name d = is_answer (get name d)
has_kind text name d = is_some (text_at name d)

-- ---- ranges

-- what is there has the property
abbrev pub holds : {X : Type 0} → (X → Bool) → Option X → Bool
holds test None = false
holds test (Some x) = test x

-- the kind of a row
abbrev pub is_row : List ℕ → Bool
is_row text = bytes_eq text (codes "invoke") || bytes_eq text (codes "note")
    || bytes_eq text (codes "respond")

-- what a call does
abbrev pub is_action : List ℕ → Bool
is_action text = bytes_eq text (codes "read") || bytes_eq text (codes "write")

-- the text is one that is allowed
abbrev pub is_text_allowed : Allowed → List ℕ → Bool
is_text_allowed allowed.History text = bytes_eq text (codes "history")
is_text_allowed allowed.Orders text = bytes_eq text (codes "orders")
is_text_allowed allowed.Row text = is_row text
is_text_allowed allowed.Action text = is_action text
is_text_allowed allowed.Key text = is_key text
is_text_allowed allowed.Value text = is_value text
is_text_allowed allowed.Answer text = is_value text
is_text_allowed other text = true

-- each is the number of a call
abbrev pub are_calls : List ℕ → Bool
are_calls calls = list_all (λ n. nat_lt n (2 ^ 32)) calls

-- a text that is an answer is a value
abbrev pub is_short : Option (List ℕ) → Bool
is_short None = true
is_short (Some text) = is_value text

-- the member of that name is a number between those two
abbrev pub is_between : ℕ → ℕ → List ℕ → Data → Bool
is_between least most name d = holds (λ n. nat_le least n && nat_le n most) (number_at name d)

-- the member of that name is in its range; no quorum is, of votes that are out of range
abbrev pub is_in_range : Allowed → List ℕ → Data → Bool
is_in_range (allowed.Number least most) name d = is_between least most name d
is_in_range allowed.OfVotes name d = false
is_in_range (allowed.BesideAsk most) name d = is_between 1 most name d
is_in_range allowed.Votes name d = holds are_votes (numbers_at name d)
is_in_range allowed.Calls name d = holds are_calls (numbers_at name d)
is_in_range allowed.Answer name d = is_answer (get name d) && is_short (text_at name d)
is_in_range text name d = holds (is_text_allowed text) (text_at name d)

-- ---- what is wrong

-- the demanded member passes the test: it is of its kind, or in its range too
abbrev pub passes : Test → Data → Demand → Bool
passes tests.Kind d m = has_kind m.allowed (name_text m.name) d
passes tests.Range d m = is_in_range m.allowed (name_text m.name) d

-- the first of the demanded members that doesn't pass the test
abbrev pub first_failing : Test → Data → List Demand → Option Demand
first_failing test d [] = None
first_failing test d (m ∷ ms) = if passes test d m then first_failing test d ms else Some m

-- ---- what is allowed, in words

-- a number between those two
unfoldable pub number_text : ℕ → ℕ → List ℕ
number_text least most = if least == most then codes "the number " ++ grouped least
    else codes "a number from " ++ grouped least ++ codes " to " ++ grouped most

-- a number up to that one, beside an ask quorum that is out of range
unfoldable pub beside_ask_text : ℕ → List ℕ
beside_ask_text most = number_text 1 most ++ codes ", and \"ask\" is out of range"

-- the same of any member
unfoldable pub allowed_text : Allowed → List ℕ
allowed_text (allowed.Number least most) = number_text least most
allowed_text allowed.OfVotes =
    codes "a number from 1 to the sum of \"votes\", and \"votes\" is out of range"
allowed_text (allowed.BesideAsk most) = beside_ask_text most
allowed_text allowed.History = codes "\"history\""
allowed_text allowed.Orders = codes "\"orders\""
allowed_text allowed.Row = codes "\"invoke\", \"note\" or \"respond\""
allowed_text allowed.Action = codes "\"read\" or \"write\""
allowed_text allowed.Key = codes "1 to 64 letters, digits, '.', '_' or '-'"
allowed_text allowed.Value = codes "a text of at most 256 bytes"
allowed_text allowed.Answer = codes "a text of at most 256 bytes, or null"
allowed_text allowed.Votes = codes "an array of 1 to 15 numbers, each from 1 to 9"
allowed_text allowed.Calls = codes "an array of numbers from 0 to 4,294,967,295"
