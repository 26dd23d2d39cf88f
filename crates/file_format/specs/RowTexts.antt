-- The bytes of a row's line, piece by piece: numbers and texts, each after what stands before it.
use Rattle.std.specs.Prelude.{ℕ, List, ◌++◌, Some, None, codes, decimal}
use Rattle.json.specs.Print.{quoted}
use Rattle.tag.specs.declared.actions.Action.{Action}
use Rattle.tag.specs.declared.actions.Action.TheVariants.{Read, Write}
use Rattle.tag.specs.declared.actions.Returned.{Returned}
use Rattle.tag.specs.declared.actions.Returned.TheVariants.{Value, Written}
use Rattle.tag.specs.declared.numbers.OpId.{OpId}
use Rattle.tag.specs.Tags.{Tag}
use Rattle.recorder.specs.declared.row.Row.{Row}
use Rattle.recorder.specs.declared.row.Row.TheVariants.{Invoke, Note, Respond}
use Rattle.file_format.specs.declared.marks.Marks.{Marks}
use Rattle.file_format.specs.Texts.{hall_text, line_member_text}

-- the members that a note or a response is marked by, and then these bytes
abbrev pub after_marks : Marks → List ℕ → List ℕ
after_marks marks rest = hall_text marks.hall ++ (line_member_text marks.line ++ rest)

-- a key, between the members that an invocation is marked by, and then these bytes
abbrev pub after_key : Marks → List ℕ → List ℕ → List ℕ
after_key marks key rest = hall_text marks.hall
    ++ (codes ",\"key\":" ++ (quoted key ++ (line_member_text marks.line ++ rest)))

-- what an invocation has after its client
abbrev pub asked_text : Marks → List ℕ → Action → List ℕ
asked_text marks key Read =
    codes ",\"do\":\"read\"" ++ after_key marks key (codes ",\"row\":\"invoke\"}")
asked_text marks key (Write value) = codes ",\"do\":\"write\"" ++ after_key marks key
    (codes ",\"row\":\"invoke\",\"value\":" ++ (quoted value ++ codes "}"))

-- a note's number, and all that is after it
abbrev pub noted_text : Tag → List ℕ
noted_text tag = decimal tag.number ++ (codes ",\"row\":\"note\",\"writer\":"
    ++ (decimal tag.writer ++ codes "}"))

-- what a response has after its kind
abbrev pub returned_text : Returned → List ℕ
returned_text Written = codes "}"
returned_text (Value None) = codes ",\"value\":null}"
returned_text (Value (Some value)) = codes ",\"value\":" ++ (quoted value ++ codes "}")

-- a line that has these bytes after its call
abbrev pub after_call : OpId → List ℕ → List ℕ
after_call op rest = codes "{\"call\":" ++ (decimal op.0 ++ rest)

-- a line that has these bytes after its call and its client
abbrev pub after_client : OpId → ℕ → List ℕ → List ℕ
after_client op client rest = after_call op (codes ",\"client\":" ++ (decimal client ++ rest))

-- the line of a row with the members that it is marked by, without its end
abbrev pub row_bytes : Marks → Row → List ℕ
row_bytes marks (Invoke op client key action) =
    after_client op client (asked_text marks key action)
row_bytes marks (Note op tag) =
    after_call op (after_marks marks (codes ",\"number\":" ++ noted_text tag))
row_bytes marks (Respond op returned) =
    after_call op (after_marks marks (codes ",\"row\":\"respond\"" ++ returned_text returned))
