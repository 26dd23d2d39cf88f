-- The line that is written for a row, or for a piece of an order, is a line of it.
use Rattle.std.proofs.Common.{◌≡◌, ◌<◌, ◌≤◌, ◌+◌, ◌^◌, ℕ, suc, List, [], ◌∷◌, ◌++◌, true, ◌&&◌, nat_lt}
use Rattle.std.proofs.Common.{nat_le, length, Option, Some, None, decimal, codes, IsUtf8, refl, inl}
use Rattle.std.proofs.Common.{inr, ap, ◌∙◌, arith, length-append}
use Rattle.std.specs.Prelude.{⊤, max, option_and_then}
use native.Mathlib.Nat.{max-le}
use Rattle.std.specs.List.{list_all}
use Rattle.std.proofs.lemmas.Bool.{and_parts, and_from, leb-true, lt-ltb, cases_lt}
use Rattle.std.proofs.lemmas.Bool.Decides.{nat_tests}
use Rattle.json.specs.Print.{quoted}
use Rattle.json.specs.Tree as tree
use Rattle.json.proofs.Printed.Utf8.{IsUtf8-are_ascii, are_ascii}
use Rattle.serde_json.specs.Data.{Data, string, Members, no_members, member}
use Rattle.serde_json.specs.Find.{get, get_member, as_str, as_number, as_u64}
use Rattle.serde_json.specs.Read.{of_json}
use Rattle.serde_json.specs.Written.{outline, members_outline, compact_text}
use Rattle.serde_json.proofs.Numbers.{number_of-decimal}
use Rattle.tag.specs.Names.{is_key_byte, is_key, is_value}
use Rattle.tag.specs.Tags.{Tag}
use Rattle.tag.specs.declared.numbers.OpId.{OpId}
use Rattle.tag.specs.declared.actions.Action.{Action}
use Rattle.tag.specs.declared.actions.Action.TheVariants.{Read, Write}
use Rattle.tag.specs.declared.actions.Returned.{Returned}
use Rattle.tag.specs.declared.actions.Returned.TheVariants.{Value, Written}
use Rattle.recorder.specs.declared.row.Row.{Row}
use Rattle.recorder.specs.declared.row.Row.TheVariants.{Invoke, Note, Respond}
use Rattle.file_format.specs.declared.marks.Marks.{Marks}
use Rattle.file_format.specs.Ranges.{HasValueIn, HasAnswerIn, HasLineIn, IsValue}
use Rattle.file_format.specs.Ranges.{IsInvocation, IsNote, IsResponse, IsRowInRange}
use Rattle.file_format.specs.RowTexts.{after_key, after_marks}
use Rattle.file_format.specs.Texts.{whole, action_name, asked_member, answered_member, hall_member, hall_text}
use Rattle.file_format.specs.Texts.{line_member, line_member_text, marked_data, line_text, marked_text}
use Rattle.file_format.specs.Says.{HasText, HasNumber, HasValue, HasAction, reads, writes, HasAnswer}
use Rattle.file_format.specs.Says.{written, answered_null, answered, SaysInvoke, SaysNote, SaysRespond, SaysRow}
use Rattle.file_format.proofs.Compact.{IsSimple, HaveSimple, length-quoted, length-digits}
use Rattle.file_format.proofs.Spelling.{read_bytes, write_bytes, note_bytes, written_bytes, absent_bytes, answered_bytes, respond_bytes}

ascii : (name : List ℕ) → are_ascii name ≡ true → IsUtf8 name
ascii name h = IsUtf8-are_ascii name h

pub short_value : (value : List ℕ) → is_value value ≡ true → length value ≤ 256
short_value value h = leb-true (length value) 256 h

pub short_key : (key : List ℕ) → is_key key ≡ true → length key ≤ 64
short_key key h = leb-true (length key) 64
    (and_parts (nat_le 1 (length key)) (nat_le (length key) 64)
    (and_parts (nat_le 1 (length key) && nat_le (length key) 64) (list_all is_key_byte key) h).0).1

-- ---- rows

-- the hall is a number of 8 bits, where the row has one as a member
abbrev pub IsPlace : Option ℕ → Type 0
IsPlace None = ⊤
IsPlace (Some hall) = hall < 2 ^ 8

-- the members that a row is marked by: a hall of 8 bits, and a line of 64
pub record AreMarks (marks : Marks) : Type 0 where
  pub hall : IsPlace marks.hall
  pub line : HasLineIn marks.line

-- the JSON of a row's value reads back, since its numbers do
back : (hall line : Option ℕ) (row : Row) → IsPlace hall → HasLineIn line → IsRowInRange row
    → of_json (outline (marked_data (record { hall = hall; line = line }) row))
    ≡ Some (marked_data (record { hall = hall; line = line }) row)
unfolding marked_data
back None None (Invoke op client key Read) place numbered h =
    rw (number_of-decimal op.0 (omega (arith, h.call)), number_of-decimal client (omega (arith, h.most))) refl
back None None (Invoke op client key (Write value)) place numbered h =
    rw (number_of-decimal op.0 (omega (arith, h.call)), number_of-decimal client (omega (arith, h.most))) refl
back None None (Note op tag) place numbered h =
    rw (
      number_of-decimal op.0 (omega (arith, h.call)),
      number_of-decimal tag.number (omega (arith, h.few)),
      number_of-decimal tag.writer (omega (arith, h.named)),
    ) refl
back None None (Respond op Written) place numbered h = rw (number_of-decimal op.0 (omega (arith, h.call))) refl
back None None (Respond op (Value None)) place numbered h = rw (number_of-decimal op.0 (omega (arith, h.call))) refl
back None None (Respond op (Value (Some value))) place numbered h = rw (number_of-decimal op.0 (omega (arith, h.call))) refl
back None (Some line) (Invoke op client key Read) place numbered h =
    rw (
      number_of-decimal op.0 (omega (arith, h.call)),
      number_of-decimal client (omega (arith, h.most)),
      number_of-decimal line numbered,
    ) refl
back None (Some line) (Invoke op client key (Write value)) place numbered h =
    rw (
      number_of-decimal op.0 (omega (arith, h.call)),
      number_of-decimal client (omega (arith, h.most)),
      number_of-decimal line numbered,
    ) refl
back None (Some line) (Note op tag) place numbered h =
    rw (
      number_of-decimal op.0 (omega (arith, h.call)),
      number_of-decimal tag.number (omega (arith, h.few)),
      number_of-decimal tag.writer (omega (arith, h.named)),
      number_of-decimal line numbered,
    ) refl
back None (Some line) (Respond op Written) place numbered h =
    rw (number_of-decimal op.0 (omega (arith, h.call)), number_of-decimal line numbered) refl
back None (Some line) (Respond op (Value None)) place numbered h =
    rw (number_of-decimal op.0 (omega (arith, h.call)), number_of-decimal line numbered) refl
back None (Some line) (Respond op (Value (Some value))) place numbered h =
    rw (number_of-decimal op.0 (omega (arith, h.call)), number_of-decimal line numbered) refl
back (Some hall) None (Invoke op client key Read) place numbered h =
    rw (
      number_of-decimal op.0 (omega (arith, h.call)),
      number_of-decimal client (omega (arith, h.most)),
      number_of-decimal hall (omega (arith, place)),
    ) refl
back (Some hall) None (Invoke op client key (Write value)) place numbered h =
    rw (
      number_of-decimal op.0 (omega (arith, h.call)),
      number_of-decimal client (omega (arith, h.most)),
      number_of-decimal hall (omega (arith, place)),
    ) refl
back (Some hall) None (Note op tag) place numbered h =
    rw (
      number_of-decimal op.0 (omega (arith, h.call)),
      number_of-decimal tag.number (omega (arith, h.few)),
      number_of-decimal tag.writer (omega (arith, h.named)),
      number_of-decimal hall (omega (arith, place)),
    ) refl
back (Some hall) None (Respond op Written) place numbered h =
    rw (number_of-decimal op.0 (omega (arith, h.call)), number_of-decimal hall (omega (arith, place))) refl
back (Some hall) None (Respond op (Value None)) place numbered h =
    rw (number_of-decimal op.0 (omega (arith, h.call)), number_of-decimal hall (omega (arith, place))) refl
back (Some hall) None (Respond op (Value (Some value))) place numbered h =
    rw (number_of-decimal op.0 (omega (arith, h.call)), number_of-decimal hall (omega (arith, place))) refl
back (Some hall) (Some line) (Invoke op client key Read) place numbered h =
    rw (
      number_of-decimal op.0 (omega (arith, h.call)),
      number_of-decimal client (omega (arith, h.most)),
      number_of-decimal hall (omega (arith, place)),
      number_of-decimal line numbered,
    ) refl
back (Some hall) (Some line) (Invoke op client key (Write value)) place numbered h =
    rw (
      number_of-decimal op.0 (omega (arith, h.call)),
      number_of-decimal client (omega (arith, h.most)),
      number_of-decimal hall (omega (arith, place)),
      number_of-decimal line numbered,
    ) refl
back (Some hall) (Some line) (Note op tag) place numbered h =
    rw (
      number_of-decimal op.0 (omega (arith, h.call)),
      number_of-decimal tag.number (omega (arith, h.few)),
      number_of-decimal tag.writer (omega (arith, h.named)),
      number_of-decimal hall (omega (arith, place)),
      number_of-decimal line numbered,
    ) refl
back (Some hall) (Some line) (Respond op Written) place numbered h =
    rw (
      number_of-decimal op.0 (omega (arith, h.call)),
      number_of-decimal hall (omega (arith, place)),
      number_of-decimal line numbered,
    ) refl
back (Some hall) (Some line) (Respond op (Value None)) place numbered h =
    rw (
      number_of-decimal op.0 (omega (arith, h.call)),
      number_of-decimal hall (omega (arith, place)),
      number_of-decimal line numbered,
    ) refl
back (Some hall) (Some line) (Respond op (Value (Some value))) place numbered h =
    rw (
      number_of-decimal op.0 (omega (arith, h.call)),
      number_of-decimal hall (omega (arith, place)),
      number_of-decimal line numbered,
    ) refl

pub row_back : (marks : Marks) (row : Row) → AreMarks marks → IsRowInRange row → of_json (outline (marked_data marks row))
    ≡ Some (marked_data marks row)
row_back marks row m h = back marks.hall marks.line row m.hall m.line h

invoke_said : (d : Data) (op : OpId) (client : ℕ) (key : List ℕ) (action : Action) → IsInvocation op client key action
    → HasText d (codes "row") (codes "invoke") → HasNumber d (codes "call") op.0 → HasNumber d (codes "client") client
    → HasText d (codes "key") key → HasAction d action → SaysInvoke d op client key action
invoke_said d op client key action h kind call caller subject asks = record {
  kind = kind;
  call = record { call = call; range = h.call };
  caller = caller;
  least = h.least;
  most = h.most;
  subject = subject;
  named = h.named;
  asks = asks;
}

note_said : (d : Data) (op : OpId) (tag : Tag) → IsNote op tag → HasText d (codes "row") (codes "note")
    → HasNumber d (codes "call") op.0 → HasNumber d (codes "number") tag.number → HasNumber d (codes "writer") tag.writer
    → SaysNote d op tag
note_said d op tag h kind call number writer =
    record { kind = kind; call = record { call = call; range = h.call }; number = number; few = h.few; writer = writer; named = h.named }

respond_said : (d : Data) (op : OpId) (returned : Returned) → IsResponse op returned → HasText d (codes "row") (codes "respond")
    → HasNumber d (codes "call") op.0 → HasAnswer d returned → SaysRespond d op returned
respond_said d op returned h kind call answers =
    record { kind = kind; call = record { call = call; range = h.call }; answers = answers }

value_said : (d : Data) (value : List ℕ) → IsValue value → HasText d (codes "value") value → HasValue d value
value_said d value h text = record { text = text; short = h.short }

-- a member of another name is found past the members `hall` and `line`
past_hall : (name : List ℕ) (hall : Option ℕ) (others : Members)
    → ((n : ℕ) → get_member name (hall_member (Some n) others) ≡ get_member name others)
    → get_member name (hall_member hall others) ≡ get_member name others
past_hall name None others other = refl
past_hall name (Some hall) others other = other hall

past_line : (name : List ℕ) (line : Option ℕ) (others : Members)
    → ((n : ℕ) → get_member name (line_member (Some n) others) ≡ get_member name others)
    → get_member name (line_member line others) ≡ get_member name others
past_line name None others other = refl
past_line name (Some line) others other = other line

abbrev text_of : Option Data → Option (List ℕ)
text_of found = option_and_then as_str found

abbrev number_of : Option Data → Option ℕ
number_of found = option_and_then as_u64 (option_and_then as_number found)

invoke_marked : (marks : Marks) (op : OpId) (client : ℕ) (key : List ℕ) (action : Action)
    → IsInvocation op client key action → HasAction (marked_data marks (Invoke op client key action)) action
    → SaysInvoke (marked_data marks (Invoke op client key action)) op client key action
unfolding marked_data
invoke_marked marks op client key action h asks =
    let kind = member (codes "row") (string (codes "invoke")) (asked_member action no_members) in
    let numbered = line_member marks.line kind in
    let keyed = member (codes "key") (string key) numbered in
    invoke_said _ op client key action h
    (ap text_of (past_hall (codes "row") marks.hall keyed (λ n. refl) ∙ past_line (codes "row") marks.line kind (λ n. refl))) refl refl
    (ap text_of (past_hall (codes "key") marks.hall keyed (λ n. refl))) asks

-- the value of a write stands past the members that the row is marked by
value_found : (marks : Marks) (op : OpId) (client : ℕ) (key value : List ℕ)
    → HasText (marked_data marks (Invoke op client key (Write value))) (codes "value") value
unfolding marked_data
value_found marks op client key value =
    let kind = member (codes "row") (string (codes "invoke")) (member (codes "value") (string value) no_members) in
    let keyed = member (codes "key") (string key) (line_member marks.line kind) in
    ap text_of (past_hall (codes "value") marks.hall keyed (λ n. refl) ∙ past_line (codes "value") marks.line kind (λ n. refl))

-- the same of a member of a note or a response
past_marks : (name : List ℕ) (marks : Marks) (others : Members)
    → ((n : ℕ) (more : Members) → get_member name (hall_member (Some n) more) ≡ get_member name more)
    → ((n : ℕ) (more : Members) → get_member name (line_member (Some n) more) ≡ get_member name more)
    → get_member name (hall_member marks.hall (line_member marks.line others)) ≡ get_member name others
past_marks name marks others hall line =
    past_hall name marks.hall (line_member marks.line others) (λ n. hall n (line_member marks.line others))
    ∙ past_line name marks.line others (λ n. line n others)

note_marked : (marks : Marks) (op : OpId) (tag : Tag) → IsNote op tag → SaysNote (marked_data marks (Note op tag)) op tag
unfolding marked_data
note_marked marks op tag h =
    let others = member (codes "number") (whole tag.number)
    (member (codes "row") (string (codes "note")) (member (codes "writer") (whole tag.writer) no_members)) in
    note_said _ op tag h (ap text_of (past_marks (codes "row") marks others (λ n more. refl) (λ n more. refl))) refl
    (ap number_of (past_marks (codes "number") marks others (λ n more. refl) (λ n more. refl)))
    (ap number_of (past_marks (codes "writer") marks others (λ n more. refl) (λ n more. refl)))

respond_marked : (marks : Marks) (op : OpId) (returned : Returned) → IsResponse op returned
    → HasAnswer (marked_data marks (Respond op returned)) returned → SaysRespond (marked_data marks (Respond op returned)) op returned
unfolding marked_data
respond_marked marks op returned h answers =
    let others = member (codes "row") (string (codes "respond")) (answered_member returned no_members) in
    respond_said _ op returned h (ap text_of (past_marks (codes "row") marks others (λ n more. refl) (λ n more. refl))) refl answers

answer_found : (marks : Marks) (op : OpId) (returned : Returned)
    → get (codes "value") (marked_data marks (Respond op returned)) ≡ get_member (codes "value") (answered_member returned no_members)
unfolding marked_data
answer_found marks op returned =
    past_marks (codes "value") marks (member (codes "row") (string (codes "respond")) (answered_member returned no_members))
    (λ n more. refl) (λ n more. refl)

does_read : (marks : Marks) (op : OpId) (client : ℕ) (key : List ℕ)
    → HasText (marked_data marks (Invoke op client key Read)) (codes "do") (codes "read")
unfolding marked_data
does_read marks op client key = refl

does_write : (marks : Marks) (op : OpId) (client : ℕ) (key value : List ℕ)
    → HasText (marked_data marks (Invoke op client key (Write value))) (codes "do") (codes "write")
unfolding marked_data
does_write marks op client key value = refl

pub says_row : (marks : Marks) (row : Row) → IsRowInRange row → SaysRow (marked_data marks row) row
says_row marks (Invoke op client key Read) h = invoke_marked marks op client key Read h (reads (does_read marks op client key))
says_row marks (Invoke op client key (Write value)) h =
    invoke_marked marks op client key (Write value) h
    (writes value (does_write marks op client key value) (value_said _ value h.asks (value_found marks op client key value)))
says_row marks (Note op tag) h = note_marked marks op tag h
says_row marks (Respond op Written) h = respond_marked marks op Written h (written (answer_found marks op Written))
says_row marks (Respond op (Value None)) h =
    respond_marked marks op (Value None) h (answered_null (answer_found marks op (Value None)))
says_row marks (Respond op (Value (Some value))) h =
    respond_marked marks op (Value (Some value)) h
    (answered value (value_said _ value h.answers (ap text_of (answer_found marks op (Value (Some value))))))

-- the hall is said by its member
pub says_hall : (hall : ℕ) (line : Option ℕ) (row : Row)
    → HasNumber (marked_data (record { hall = Some hall; line = line }) row) (codes "hall") hall
unfolding marked_data
says_hall hall line (Invoke op client key action) = refl
says_hall hall line (Note op tag) = refl
says_hall hall line (Respond op returned) = refl

byte_ascii : (b : ℕ) → is_key_byte b ≡ true → nat_lt b 128 ≡ true
byte_ascii b h = elim (cases_lt b 128) [ inl small ↦ lt-ltb b 128 small | inr big ↦ absurd (grind (arith, nat_tests)) ]

key_ascii : (key : List ℕ) → list_all is_key_byte key ≡ true → are_ascii key ≡ true
key_ascii [] h = refl
key_ascii (b ∷ key) h = let p = and_parts (is_key_byte b) (list_all is_key_byte key) h in
    and_from (nat_lt b 128) (are_ascii key) (byte_ascii b p.0) (key_ascii key p.1)

pub key_utf8 : (key : List ℕ) → is_key key ≡ true → IsUtf8 key
key_utf8 key h = IsUtf8-are_ascii key
    (key_ascii key (and_parts (nat_le 1 (length key) && nat_le (length key) 64) (list_all is_key_byte key) h).1)

hall_simple : (hall : Option ℕ) (others : Members) → IsPlace hall → HaveSimple others → HaveSimple (hall_member hall others)
hall_simple None others place h = h
hall_simple (Some hall) others place h = (ascii (codes "hall") refl, omega (arith, place), h)

name_valid : (action : Action) → IsUtf8 (action_name action)
name_valid Read = ascii (codes "read") refl
name_valid (Write value) = ascii (codes "write") refl

asked_simple : (action : Action) → HasValueIn action → HaveSimple (asked_member action no_members)
asked_simple Read h = tt
asked_simple (Write value) h = (ascii (codes "value") refl, h.text, tt)

answered_simple : (returned : Returned) → HasAnswerIn returned → HaveSimple (answered_member returned no_members)
answered_simple Written h = tt
answered_simple (Value None) h = (ascii (codes "value") refl, tt, tt)
answered_simple (Value (Some value)) h = (ascii (codes "value") refl, h.text, tt)

line_simple : (line : Option ℕ) (others : Members) → HasLineIn line → HaveSimple others → HaveSimple (line_member line others)
line_simple None others numbered h = h
line_simple (Some line) others numbered h = (ascii (codes "line") refl, numbered, h)

pub row_simple : (marks : Marks) (row : Row) → AreMarks marks → IsRowInRange row → IsSimple (marked_data marks row)
unfolding marked_data
row_simple marks (Invoke op client key action) m h = (
  ascii (codes "call") refl,
  omega (arith, h.call),
  (
    ascii (codes "client") refl,
    omega (arith, h.most),
    (
      ascii (codes "do") refl,
      name_valid action,
      hall_simple marks.hall _ m.hall (
        ascii (codes "key") refl,
        key_utf8 key h.named,
        line_simple marks.line _ m.line (ascii (codes "row") refl, ascii (codes "invoke") refl, asked_simple action h.asks),
      ),
    ),
  ),
)
row_simple marks (Note op tag) m h = (
  ascii (codes "call") refl,
  omega (arith, h.call),
  hall_simple marks.hall _ m.hall (line_simple marks.line _ m.line (
    ascii (codes "number") refl,
    omega (arith, h.few),
    (ascii (codes "row") refl, ascii (codes "note") refl, (ascii (codes "writer") refl, omega (arith, h.named), tt)),
  )),
)
row_simple marks (Respond op returned) m h = (
  ascii (codes "call") refl,
  omega (arith, h.call),
  hall_simple marks.hall _ m.hall (line_simple marks.line _ m.line
      (ascii (codes "row") refl, ascii (codes "respond") refl, answered_simple returned h.answers)),
)

-- a row's line has a few members of bounded length
length_more : (before middle rest : List ℕ) (a b c : ℕ) → length before ≤ a → length middle ≤ b → length rest ≤ c
    → length (before ++ (middle ++ rest)) ≤ a + b + c
length_more before middle rest a b c p q r = omega (arith, length-append before (middle ++ rest), length-append middle rest)

abbrev most_key : ℕ
most_key = 386

abbrev most_value : ℕ
most_value = 1538

key_length : (key : List ℕ) → is_key key ≡ true → length (quoted key) ≤ most_key
key_length key h = omega (arith, length-quoted key, short_key key h)

value_length : (value : List ℕ) → is_value value ≡ true → length (quoted value) ≤ most_value
value_length value h = omega (arith, length-quoted value, short_value value h)

count_length : (n : ℕ) → n < 2 ^ 32 → length (decimal n) ≤ 20
count_length n h = length-digits n (omega arith)

within : (xs : List ℕ) (m n : ℕ) → length xs ≤ m → m ≤ n → length xs ≤ n
within xs m n h k = omega arith

asked_length : (call client : ℕ) (rest : List ℕ) (n : ℕ) → call < 2 ^ 32 → client ≤ 65535 → length rest ≤ n
    → length (codes "{\"call\":" ++ (decimal call ++ (codes ",\"client\":" ++ (decimal client ++ rest)))) ≤ n + 58
asked_length call client rest n p q r =
    let second = length_more (codes ",\"client\":") (decimal client) rest 10 20 n (omega arith) (count_length client (omega arith)) r in
    let first = length_more (codes "{\"call\":") (decimal call) (codes ",\"client\":" ++ (decimal client ++ rest)) 8 20 (10 + 20 + n)
    (omega arith) (count_length call p) second in
    within (codes "{\"call\":" ++ (decimal call ++ (codes ",\"client\":" ++ (decimal client ++ rest)))) (8 + 20 + (10 + 20 + n)) (n + 58)
    first (omega arith)

most_hall : (hall : Option ℕ) → IsPlace hall → length (hall_text hall) ≤ 28
most_hall None place = omega arith
most_hall (Some hall) place = omega (arith, length-append (codes ",\"hall\":") (decimal hall), length-digits hall (omega (arith, place)))

most_line : (line : Option ℕ) → HasLineIn line → length (line_member_text line) ≤ 28
most_line None numbered = omega arith
most_line (Some line) numbered = omega (arith, length-append (codes ",\"line\":") (decimal line), length-digits line numbered)

-- the line's number comes between, or the hall
line_between : (line : Option ℕ) (rest : List ℕ) (n : ℕ) → HasLineIn line → length rest ≤ n
    → length (line_member_text line ++ rest) ≤ n + 28
line_between line rest n numbered h = omega (arith, length-append (line_member_text line) rest, most_line line numbered)

hall_between : (hall : Option ℕ) (rest : List ℕ) (n : ℕ) → IsPlace hall → length rest ≤ n → length (hall_text hall ++ rest) ≤ n + 28
hall_between hall rest n place h = omega (arith, length-append (hall_text hall) rest, most_hall hall place)

marks_between : (marks : Marks) (rest : List ℕ) (n : ℕ) → AreMarks marks → length rest ≤ n → length (after_marks marks rest) ≤ n + 56
marks_between marks rest n m h =
    let last = line_between marks.line rest n m.line h in
    within (after_marks marks rest) (n + 28 + 28) (n + 56) (hall_between marks.hall (line_member_text marks.line ++ rest) (n + 28) m.hall last)
    (omega arith)

-- a key between them
key_between : (marks : Marks) (key rest : List ℕ) (n : ℕ) → AreMarks marks → is_key key ≡ true → length rest ≤ n
    → length (after_key marks key rest) ≤ n + 470
key_between marks key rest n m named h =
    let last = line_member_text marks.line ++ rest in
    let subject = length_more (codes ",\"key\":") (quoted key) last 20 most_key (n + 28) (omega arith) (key_length key named)
    (line_between marks.line rest n m.line h) in
    within (after_key marks key rest) (20 + most_key + (n + 28) + 28) (n + 470)
    (hall_between marks.hall (codes ",\"key\":" ++ (quoted key ++ last)) (20 + most_key + (n + 28)) m.hall subject) (omega arith)

invoked_length : (marks : Marks) (call client : ℕ) (action key rest : List ℕ) (n : ℕ) → AreMarks marks → call < 2 ^ 32 → client ≤ 65535
    → is_key key ≡ true → length action ≤ 20 → length rest ≤ n
    → length (codes "{\"call\":" ++ (decimal call ++ (codes ",\"client\":" ++ (decimal client ++ (action ++ after_key marks key rest)))))
    ≤ n + 548
invoked_length marks call client action key rest n m p q named short h =
    let asks : length (action ++ after_key marks key rest) ≤ n + 490 =
    omega (arith, length-append action (after_key marks key rest), key_between marks key rest n m named h) in
    within (codes "{\"call\":" ++ (decimal call ++ (codes ",\"client\":" ++ (decimal client ++ (action ++ after_key marks key rest)))))
    (n + 490 + 58) (n + 548) (asked_length call client (action ++ after_key marks key rest) (n + 490) p q asks) (omega arith)

called_length : (marks : Marks) (call : ℕ) (rest : List ℕ) (n : ℕ) → AreMarks marks → call < 2 ^ 32 → length rest ≤ n
    → length (codes "{\"call\":" ++ (decimal call ++ after_marks marks rest)) ≤ n + 84
called_length marks call rest n m p h =
    let more = length_more (codes "{\"call\":") (decimal call) (after_marks marks rest) 8 20 (n + 56) (omega arith) (count_length call p)
    (marks_between marks rest n m h) in
    within (codes "{\"call\":" ++ (decimal call ++ after_marks marks rest)) (8 + 20 + (n + 56)) (n + 84) more (omega arith)

pub row_length : (marks : Marks) (row : Row) → AreMarks marks → IsRowInRange row → length (marked_text marks row) ≤ 65537
row_length marks (Invoke op client key Read) m h =
    rw (read_bytes marks op client key)
    (omega (
      arith,
      invoked_length marks op.0 client (codes ",\"do\":\"read\"") key (codes ",\"row\":\"invoke\"}\n") 18 m h.call
          h.most h.named (omega arith) (omega arith),
    ))
row_length marks (Invoke op client key (Write value)) m h =
    let more = codes ",\"row\":\"invoke\",\"value\":" ++ (quoted value ++ codes "}\n") in
    let asked = length_more (codes ",\"row\":\"invoke\",\"value\":") (quoted value) (codes "}\n") 27 most_value 2 (omega arith)
    (value_length value h.asks.short) (omega arith) in
    rw (write_bytes marks op client key value)
    (omega (
      arith,
      invoked_length marks op.0 client (codes ",\"do\":\"write\"") key more (27 + most_value + 2) m h.call
          h.most h.named (omega arith) asked,
    ))
row_length marks (Note op tag) m h =
    let last = codes ",\"row\":\"note\",\"writer\":" ++ (decimal tag.writer ++ codes "}\n") in
    let rest = codes ",\"number\":" ++ (decimal tag.number ++ last) in
    let writer = length_more (codes ",\"row\":\"note\",\"writer\":") (decimal tag.writer) (codes "}\n") 30 20 2 (omega arith)
    (count_length tag.writer (omega (arith, h.named))) (omega arith) in
    let number = length_more (codes ",\"number\":") (decimal tag.number) last 20 20 (30 + 20 + 2) (omega arith)
    (count_length tag.number (omega (arith, h.few))) writer in
    rw (note_bytes marks op tag) (omega (arith, called_length marks op.0 rest (20 + 20 + (30 + 20 + 2)) m h.call number))
row_length marks (Respond op Written) m h =
    rw (written_bytes marks op) (omega (arith, called_length marks op.0 (codes ",\"row\":\"respond\"}\n") 30 m h.call (omega arith)))
row_length marks (Respond op (Value None)) m h =
    rw (respond_bytes marks op None, absent_bytes)
    (omega (arith, called_length marks op.0 (codes ",\"row\":\"respond\",\"value\":null}\n") 40 m h.call (omega arith)))
row_length marks (Respond op (Value (Some value))) m h =
    let rest = codes ",\"row\":\"respond\",\"value\":" ++ (quoted value ++ codes "}\n") in
    let answer = length_more (codes ",\"row\":\"respond\",\"value\":") (quoted value) (codes "}\n") 30 most_value 2 (omega arith)
    (value_length value h.answers.short) (omega arith) in
    rw (respond_bytes marks op (Some value), answered_bytes value)
    (omega (arith, called_length marks op.0 rest (30 + most_value + 2) m h.call answer))

pub line_length : (d : Data) → length (line_text d) ≤ 65537 → length (compact_text d) ≤ 65536
unfolding line_text
line_length d h = omega (arith, length-append (compact_text d) (10 ∷ []))

-- a number and a text are no deeper than the members after them
no_deeper : (m n : ℕ) → m ≤ n → max 0 m ≤ n
no_deeper m n h = max-le {a = 0} (omega arith) h

hall_depth : (hall : Option ℕ) (others : Members) (n : ℕ) → tree.members_depth (members_outline others) ≤ n
    → tree.members_depth (members_outline (hall_member hall others)) ≤ n
hall_depth None others n h = h
hall_depth (Some hall) others n h = no_deeper _ n h

line_depth : (line : Option ℕ) (others : Members) (n : ℕ) → tree.members_depth (members_outline others) ≤ n
    → tree.members_depth (members_outline (line_member line others)) ≤ n
line_depth None others n h = h
line_depth (Some line) others n h = no_deeper _ n h

asked_depth : (action : Action) → tree.members_depth (members_outline (asked_member action no_members)) ≤ 0
asked_depth Read = omega arith
asked_depth (Write value) = omega arith

answered_depth : (returned : Returned) → tree.members_depth (members_outline (answered_member returned no_members)) ≤ 0
answered_depth Written = omega arith
answered_depth (Value None) = omega arith
answered_depth (Value (Some value)) = omega arith

one_more : (n : ℕ) → n ≤ 0 → suc n ≤ 127
one_more n h = omega arith

pub row_depth : (marks : Marks) (row : Row) → tree.depth (outline (marked_data marks row)) ≤ 127
unfolding marked_data
row_depth marks (Invoke op client key action) =
    one_more _ (no_deeper _ 0 (no_deeper _ 0 (no_deeper _ 0
    (hall_depth marks.hall _ 0 (no_deeper _ 0 (line_depth marks.line _ 0 (no_deeper _ 0 (asked_depth action))))))))
row_depth marks (Note op tag) = one_more _ (no_deeper _ 0 (hall_depth marks.hall _ 0 (line_depth marks.line _ 0 (omega arith))))
row_depth marks (Respond op returned) =
    one_more _ (no_deeper _ 0 (hall_depth marks.hall _ 0 (line_depth marks.line _ 0 (no_deeper _ 0 (answered_depth returned)))))
