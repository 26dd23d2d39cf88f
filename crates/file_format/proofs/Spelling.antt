-- The bytes of each kind of line.
use Rattle.std.proofs.Common.{◌≡◌, ℕ, true, false, List, [], ◌∷◌}
use Rattle.std.proofs.Common.{◌++◌, Option, Some, None, decimal, refl, sym, ap, ap₂, ◌∙◌}
use Rattle.std.proofs.Common.{append_assoc, arith, take, drop, length, ◌-◌}
use Rattle.std.specs.Prelude.{codes}
use Rattle.std.specs.List.{list_all}
use Rattle.std.proofs.lemmas.Fmt.{decimal_digit}
use Rattle.std.proofs.lemmas.List.{take-append-drop}
use Rattle.json.specs.Print.{quoted, escape_byte}
use Rattle.serde_json.specs.Data.{string, Members, no_members, member}
use Rattle.serde_json.specs.Written.{compact_text, items_text, members_text}
use Rattle.tag.specs.Tags.{Tag}
use Rattle.tag.specs.declared.numbers.OpId.{OpId}
use Rattle.tag.specs.declared.actions.Action.TheVariants.{Read, Write}
use Rattle.tag.specs.declared.actions.Returned.TheVariants.{Value, Written}
use Rattle.recorder.specs.declared.row.Row.{Row}
use Rattle.recorder.specs.declared.row.Row.TheVariants.{Invoke, Note, Respond}
use Rattle.quorum.specs.Quorums.{Quorums}
use Rattle.counted_devices.specs.Cuts.{with_end}
use Rattle.row_members.specs.Scans.{is_plain}
use Rattle.row_members.proofs.PlainTexts.{escape_plain}
use Rattle.row_members.proofs.Pieces.{to_end}
use Rattle.file_format.specs.declared.file_header.FileHeader.TheVariants.{Version2}
use Rattle.file_format.specs.declared.marks.Marks.{Marks}
use Rattle.file_format.specs.RowTexts.{after_key, after_marks, row_bytes}
use Rattle.file_format.specs.Texts.{whole, header_data, file_header_data, numbers_data, marked_data}
use Rattle.file_format.specs.Texts.{hall_member, hall_text, line_member, line_member_text}
use Rattle.file_format.specs.Texts.{answered_member, piece_data, calls_data}
use Rattle.file_format.specs.Texts.{line_text, marked_text, piece_text}

abbrev end : List ℕ
end = 10 ∷ []

pub header_bytes : (name : List ℕ) → line_text (header_data name) ≡ codes "{\"abd\":" ++ (quoted name ++ codes ",\"version\":1}\n")
unfolding line_text header_data escape_byte
header_bytes name = rw (decimal_digit 1 (omega arith))
    (ap (λ (s : List ℕ). codes "{\"abd\":" ++ s) (append_assoc (quoted name) (codes ",\"version\":1}") end))

-- numbers and texts of a line, each with what stands before it, and then the last bytes
abbrev member_bytes : List ℕ → List ℕ → List ℕ → List ℕ
member_bytes before middle rest = before ++ (middle ++ rest)

member_end : (before middle rest : List ℕ) → member_bytes before middle rest ++ end ≡ member_bytes before middle (rest ++ end)
member_end before middle rest = append_assoc before (middle ++ rest) end ∙ ap (λ (s : List ℕ). before ++ s) (append_assoc middle rest end)

-- what a read's response has after its call
abbrev pub answer_members : Option (List ℕ) → Members
answer_members answer = member (codes "row") (string (codes "respond")) (answered_member (Value answer) no_members)

-- the members `hall` and `line`, where there are such, before others
hall_there : (hall : Option ℕ) (others : Members) → members_text true (hall_member hall others) ≡ hall_text hall ++ members_text true others
unfolding escape_byte
hall_there None others = refl
hall_there (Some hall) others = refl

line_there : (line : Option ℕ) (others : Members)
    → members_text true (line_member line others) ≡ line_member_text line ++ members_text true others
unfolding escape_byte
line_there None others = refl
line_there (Some line) others = refl

marks_there : (marks : Marks) (others : Members) → members_text true (hall_member marks.hall (line_member marks.line others))
    ≡ after_marks marks (members_text true others)
marks_there marks others = hall_there marks.hall (line_member marks.line others)
    ∙ ap (λ (s : List ℕ). hall_text marks.hall ++ s) (line_there marks.line others)

-- a key between those members, before others
key_there : (marks : Marks) (key : List ℕ) (others : Members)
    → members_text true (hall_member marks.hall (member (codes "key") (string key) (line_member marks.line others)))
    ≡ after_key marks key (members_text true others)
unfolding escape_byte
key_there marks key others = hall_there marks.hall (member (codes "key") (string key) (line_member marks.line others))
    ∙ ap (λ (s : List ℕ). hall_text marks.hall ++ (codes ",\"key\":" ++ (quoted key ++ s))) (line_there marks.line others)

-- ---- a row's line without its end

abbrev writes_value : List ℕ → List ℕ
writes_value value = member_bytes (codes ",\"row\":\"invoke\",\"value\":") (quoted value) (codes "}")

abbrev begins_invoke : ℕ → ℕ → List ℕ → List ℕ
begins_invoke call client rest =
    member_bytes (codes "{\"call\":") (decimal call) (member_bytes (codes ",\"client\":") (decimal client) rest)

abbrev behind_call : ℕ → List ℕ → List ℕ
behind_call call rest = codes "{\"call\":" ++ (decimal call ++ rest)

pub compact_row : (marks : Marks) (row : Row) → compact_text (marked_data marks row) ≡ row_bytes marks row
unfolding marked_data escape_byte
compact_row marks (Invoke op client key Read) =
    ap (λ (s : List ℕ). begins_invoke op.0 client (codes ",\"do\":\"read\"" ++ s))
    (key_there marks key (member (codes "row") (string (codes "invoke")) no_members))
compact_row marks (Invoke op client key (Write value)) =
    ap (λ (s : List ℕ). begins_invoke op.0 client (codes ",\"do\":\"write\"" ++ s))
    (key_there marks key (member (codes "row") (string (codes "invoke")) (member (codes "value") (string value) no_members)))
compact_row marks (Note op tag) =
    ap (λ (s : List ℕ). behind_call op.0 s)
    (marks_there marks (member (codes "number") (whole tag.number)
    (member (codes "row") (string (codes "note")) (member (codes "writer") (whole tag.writer) no_members))))
compact_row marks (Respond op Written) =
    ap (λ (s : List ℕ). behind_call op.0 s) (marks_there marks (member (codes "row") (string (codes "respond")) no_members))
compact_row marks (Respond op (Value None)) = ap (λ (s : List ℕ). behind_call op.0 s) (marks_there marks (answer_members None))
compact_row marks (Respond op (Value (Some value))) =
    ap (λ (s : List ℕ). behind_call op.0 s) (marks_there marks (answer_members (Some value)))

-- ---- a row's line with its end

invoke_end : (call client : ℕ) (rest : List ℕ) → begins_invoke call client rest ++ end ≡ begins_invoke call client (rest ++ end)
invoke_end call client rest =
    member_end (codes "{\"call\":") (decimal call) (member_bytes (codes ",\"client\":") (decimal client) rest)
    ∙ ap (λ (s : List ℕ). member_bytes (codes "{\"call\":") (decimal call) s) (member_end (codes ",\"client\":") (decimal client) rest)

-- what an invocation asks, its key between the members that it is marked by
asked_end : (action : List ℕ) (marks : Marks) (key rest : List ℕ)
    → (action ++ after_key marks key rest) ++ end ≡ action ++ after_key marks key (rest ++ end)
asked_end action marks key rest =
    let last = line_member_text marks.line ++ rest in
    member_end action (hall_text marks.hall) (member_bytes (codes ",\"key\":") (quoted key) last)
    ∙ ap (λ (s : List ℕ). member_bytes action (hall_text marks.hall) s) (member_end (codes ",\"key\":") (quoted key) last
    ∙ ap (λ (s : List ℕ). member_bytes (codes ",\"key\":") (quoted key) s) (append_assoc (line_member_text marks.line) rest end))

invoked_end : (call client : ℕ) (action : List ℕ) (marks : Marks) (key rest : List ℕ)
    → begins_invoke call client (action ++ after_key marks key rest) ++ end
    ≡ begins_invoke call client (action ++ after_key marks key (rest ++ end))
invoked_end call client action marks key rest =
    invoke_end call client (action ++ after_key marks key rest)
    ∙ ap (λ (s : List ℕ). begins_invoke call client s) (asked_end action marks key rest)

pub read_bytes : (marks : Marks) (op : OpId) (client : ℕ) (key : List ℕ)
    → marked_text marks (Invoke op client key Read) ≡ codes "{\"call\":"
    ++ (decimal op.0 ++ (codes ",\"client\":"
    ++ (decimal client ++ (codes ",\"do\":\"read\""
    ++ (hall_text marks.hall ++ (codes ",\"key\":"
    ++ (quoted key ++ (line_member_text marks.line ++ codes ",\"row\":\"invoke\"}\n"))))))))
unfolding line_text
read_bytes marks op client key =
    ap (λ (s : List ℕ). s ++ end) (compact_row marks (Invoke op client key Read))
    ∙ invoked_end op.0 client (codes ",\"do\":\"read\"") marks key (codes ",\"row\":\"invoke\"}")

pub write_bytes : (marks : Marks) (op : OpId) (client : ℕ) (key value : List ℕ)
    → marked_text marks (Invoke op client key (Write value)) ≡ codes "{\"call\":"
    ++ (decimal op.0 ++ (codes ",\"client\":"
    ++ (decimal client ++ (codes ",\"do\":\"write\""
    ++ (hall_text marks.hall ++ (codes ",\"key\":"
    ++ (quoted key ++ (line_member_text marks.line
    ++ (codes ",\"row\":\"invoke\",\"value\":" ++ (quoted value ++ codes "}\n"))))))))))
unfolding line_text
write_bytes marks op client key value =
    ap (λ (s : List ℕ). s ++ end) (compact_row marks (Invoke op client key (Write value)))
    ∙ invoked_end op.0 client (codes ",\"do\":\"write\"") marks key (writes_value value)
    ∙ ap (λ (s : List ℕ). begins_invoke op.0 client (codes ",\"do\":\"write\"" ++ after_key marks key s))
    (member_end (codes ",\"row\":\"invoke\",\"value\":") (quoted value) (codes "}"))

-- a row that isn't an invocation: its call, the members that it is marked by, and the rest
later_end : (call : ℕ) (marks : Marks) (rest : List ℕ) → behind_call call (after_marks marks rest) ++ end
    ≡ behind_call call (after_marks marks (rest ++ end))
later_end call marks rest =
    let last = line_member_text marks.line ++ rest in
    member_end (codes "{\"call\":") (decimal call) (hall_text marks.hall ++ last)
    ∙ ap (λ (s : List ℕ). behind_call call s) (append_assoc (hall_text marks.hall) last end
    ∙ ap (λ (s : List ℕ). hall_text marks.hall ++ s) (append_assoc (line_member_text marks.line) rest end))

pub note_bytes : (marks : Marks) (op : OpId) (tag : Tag)
    → marked_text marks (Note op tag) ≡ codes "{\"call\":"
    ++ (decimal op.0 ++ (hall_text marks.hall ++ (line_member_text marks.line
    ++ (codes ",\"number\":" ++ (decimal tag.number
    ++ (codes ",\"row\":\"note\",\"writer\":" ++ (decimal tag.writer ++ codes "}\n")))))))
unfolding line_text
note_bytes marks op tag =
    let writer = member_bytes (codes ",\"row\":\"note\",\"writer\":") (decimal tag.writer) (codes "}") in
    ap (λ (s : List ℕ). s ++ end) (compact_row marks (Note op tag))
    ∙ later_end op.0 marks (member_bytes (codes ",\"number\":") (decimal tag.number) writer)
    ∙ ap (λ (s : List ℕ). behind_call op.0 (after_marks marks s)) (member_end (codes ",\"number\":") (decimal tag.number) writer
    ∙ ap (λ (s : List ℕ). member_bytes (codes ",\"number\":") (decimal tag.number) s)
    (member_end (codes ",\"row\":\"note\",\"writer\":") (decimal tag.writer) (codes "}")))

pub written_bytes : (marks : Marks) (op : OpId) → marked_text marks (Respond op Written) ≡ codes "{\"call\":"
    ++ (decimal op.0 ++ (hall_text marks.hall ++ (line_member_text marks.line ++ codes ",\"row\":\"respond\"}\n")))
unfolding line_text
written_bytes marks op = ap (λ (s : List ℕ). s ++ end) (compact_row marks (Respond op Written))
    ∙ later_end op.0 marks (codes ",\"row\":\"respond\"}")

pub absent_bytes : with_end (members_text true (answer_members None)) ≡ codes ",\"row\":\"respond\",\"value\":null}\n"
unfolding escape_byte
absent_bytes = refl

pub answered_bytes : (value : List ℕ) → with_end (members_text true (answer_members (Some value)))
    ≡ codes ",\"row\":\"respond\",\"value\":" ++ (quoted value ++ codes "}\n")
unfolding escape_byte
answered_bytes value = member_end (codes ",\"row\":\"respond\",\"value\":") (quoted value) (codes "}")

pub respond_bytes : (marks : Marks) (op : OpId) (answer : Option (List ℕ)) → marked_text marks (Respond op (Value answer))
    ≡ codes "{\"call\":"
    ++ (decimal op.0 ++ (hall_text marks.hall ++ (line_member_text marks.line ++ with_end (members_text true (answer_members answer)))))
unfolding line_text marked_data escape_byte
respond_bytes marks op answer =
    ap (λ (s : List ℕ). behind_call op.0 s ++ end) (marks_there marks (answer_members answer))
    ∙ later_end op.0 marks (members_text true (answer_members answer))

pub piece_bytes : (key : List ℕ) (order : List OpId) → piece_text (record { key = key; order = order }) ≡ codes "{\"key\":"
    ++ (quoted key ++ (codes ",\"order\":[" ++ (items_text false (calls_data order) ++ codes "}\n")))
unfolding line_text piece_data escape_byte
piece_bytes key order =
    member_end (codes "{\"key\":") (quoted key) (member_bytes (codes ",\"order\":[") (items_text false (calls_data order)) (codes "}"))
    ∙ ap (λ (s : List ℕ). member_bytes (codes "{\"key\":") (quoted key) s)
    (member_end (codes ",\"order\":[") (items_text false (calls_data order)) (codes "}"))

-- the header of version 2
abbrev told_votes : List ℕ → List ℕ
told_votes votes = member_bytes (codes ",\"version\":2,\"votes\":[") (items_text false (numbers_data votes)) (codes "}")

pub quorums_bytes : (halls : ℕ) (quorums : Quorums)
    → line_text (file_header_data (Version2 halls quorums)) ≡ codes "{\"abd\":\"history\",\"ask\":"
    ++ (decimal quorums.ask ++ (codes ",\"halls\":"
    ++ (decimal halls ++ (codes ",\"put\":"
    ++ (decimal quorums.put ++ (codes ",\"version\":2,\"votes\":["
    ++ (items_text false (numbers_data quorums.votes) ++ codes "}\n")))))))
unfolding line_text file_header_data escape_byte
quorums_bytes halls quorums =
    let votes = told_votes quorums.votes in
    let put = member_bytes (codes ",\"put\":") (decimal quorums.put) votes in
    let count = member_bytes (codes ",\"halls\":") (decimal halls) put in
    rw (decimal_digit 2 (omega arith)) (
    member_end (codes "{\"abd\":\"history\",\"ask\":") (decimal quorums.ask) count
    ∙ ap (λ (s : List ℕ). member_bytes (codes "{\"abd\":\"history\",\"ask\":") (decimal quorums.ask) s)
    (member_end (codes ",\"halls\":") (decimal halls) put
    ∙ ap (λ (s : List ℕ). member_bytes (codes ",\"halls\":") (decimal halls) s) (member_end (codes ",\"put\":") (decimal quorums.put) votes
    ∙ ap (λ (s : List ℕ). member_bytes (codes ",\"put\":") (decimal quorums.put) s)
    (member_end (codes ",\"version\":2,\"votes\":[") (items_text false (numbers_data quorums.votes)) (codes "}")))))

-- ---- bytes that come one after another

pub then : (out mid new before middle rest : List ℕ) → mid ≡ out ++ (before ++ middle) → new ≡ mid ++ rest → new ≡ out
    ++ (before ++ (middle ++ rest))
then out mid new before middle rest first more =
    more ∙ ap (λ (s : List ℕ). s ++ rest) first ∙ append_assoc out (before ++ middle) rest
    ∙ ap (λ (s : List ℕ). out ++ s) (append_assoc before middle rest)

pub spelled : (out new line bytes : List ℕ) → line ≡ bytes → new ≡ out ++ bytes → new ≡ out ++ line
spelled out new line bytes same grown = grown ∙ ap (λ (s : List ℕ). out ++ s) (sym same)

pub with_number : (out new before : List ℕ) (m n : ℕ) → m ≡ n → new ≡ out ++ (before ++ decimal m) → new ≡ out ++ (before ++ decimal n)
with_number out new before m n same grown = grown ∙ ap (λ (k : ℕ). out ++ (before ++ decimal k)) same

pub with_text : (out new before s t : List ℕ) → s ≡ t → new ≡ out ++ (before ++ quoted s) → new ≡ out ++ (before ++ quoted t)
with_text out new before s t same grown = grown ∙ ap (λ (u : List ℕ). out ++ (before ++ quoted u)) same

pub both : (out mid new a b : List ℕ) → mid ≡ out ++ a → new ≡ mid ++ b → new ≡ out ++ (a ++ b)
both out mid new a b first more = more ∙ ap (λ (s : List ℕ). s ++ b) first ∙ append_assoc out a b

-- ---- texts without an escape

pub quoted_plain : (s : List ℕ) → list_all is_plain s ≡ true → 34 ∷ (s ++ 34 ∷ []) ≡ quoted s
quoted_plain s h = ap (λ (t : List ℕ). 34 ∷ (t ++ 34 ∷ [])) (sym (escape_plain s h))

pub quoted_whole : (out before first mark text last all : List ℕ) → list_all is_plain text ≡ true → first ≡ out ++ before → mark ≡ first
    ++ 34 ∷ [] → last ≡ mark ++ text → all ≡ last ++ 34 ∷ [] → all ≡ out ++ (before ++ quoted text)
quoted_whole out before first mark text last all plain p q r s =
    s ∙ ap (λ (l : List ℕ). l ++ 34 ∷ []) (r ∙ ap (λ (l : List ℕ). l ++ text) (q ∙ ap (λ (l : List ℕ). l ++ 34 ∷ []) p))
    ∙ append_assoc ((out ++ before) ++ 34 ∷ []) text (34 ∷ []) ∙ append_assoc (out ++ before) (34 ∷ []) (text ++ 34 ∷ [])
    ∙ append_assoc out before (34 ∷ (text ++ 34 ∷ []))
    ∙ ap (λ (l : List ℕ). out ++ (before ++ l)) (quoted_plain text plain)

-- a text in quotation marks that has no escape, and what is after it
pub quoted_first : (bytes inside taken text left rest : List ℕ) → list_all is_plain text ≡ true → bytes ≡ 34 ∷ inside → inside ≡ taken
    ++ left → text ≡ taken → left ≡ 34 ∷ rest → bytes ≡ quoted text ++ rest
quoted_first bytes inside taken text left rest plain p q r s =
    p ∙ ap (λ (l : List ℕ). 34 ∷ l) (q ∙ ap₂ (λ (a b : List ℕ). a ++ b) (sym r) s)
    ∙ ap (λ (l : List ℕ). 34 ∷ l) (sym (append_assoc text (34 ∷ []) rest))
    ∙ ap (λ (l : List ℕ). l ++ rest) (quoted_plain text plain)

-- a list is what comes before a place and all from it on
pub cut_whole : (n : ℕ) (xs : List ℕ) → xs ≡ take n xs ++ take (length xs - n) (drop n xs)
cut_whole n xs = sym (take-append-drop n xs) ∙ ap (λ (l : List ℕ). take n xs ++ l) (sym (to_end xs n))
