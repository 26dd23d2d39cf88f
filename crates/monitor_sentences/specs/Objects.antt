-- What was found of a key by the row at a place, as objects of JSON.
use Rattle.std.specs.Prelude.{ℕ, List, [], ◌++◌, Option, Some, None, codes, decimal}
use Rattle.tag.specs.declared.numbers.OpId.{OpId}
use Rattle.record_monitor.specs.declared.told.Told.{Told}
use Rattle.record_monitor.specs.declared.told.Told.TheVariants as told
use Rattle.value_explanations.specs.ValueSentences.{calls_of_doubt, calls_of_fault, list_text}
use Rattle.value_order.specs.declared.decision.Doubt.{Doubt}
use Rattle.value_order.specs.declared.decision.ValueFault.TheVariants.{LateNothing, NoWrite}
use Rattle.value_order.specs.declared.decision.ValueFault.TheVariants.{Opposed}
use Rattle.monitor_sentences.specs.Findings.{side_of}
use Rattle.monitor_sentences.specs.ToldCalls.{line_of}

-- the number of the fault
abbrev pub fault_number : Told → ℕ
fault_number (told.NoWrite read value) = 1
fault_number (told.LateNothing read earlier value) = 3
fault_number (told.Opposed one other) = 4
fault_number (told.AllOverwritten read value first second) = 5

-- the calls that the fault names, in the order of its sentence
unfoldable pub calls_text : Told → List ℕ
calls_text (told.NoWrite read value) = list_text (calls_of_fault (NoWrite read.op))
calls_text (told.LateNothing read earlier value) =
    list_text (calls_of_fault (LateNothing read.op earlier.op))
calls_text (told.Opposed one other) =
    list_text (calls_of_fault (Opposed (side_of one) (side_of other)))
calls_text (told.AllOverwritten read value first second) =
    codes "[" ++ decimal read.op.0 ++ codes "," ++ decimal first.0
    ++ codes "," ++ decimal second.0 ++ codes "]"

-- the key's object up to its verdict
unfoldable pub beginning : List ℕ → List ℕ
beginning key = codes "{\"key\":\"" ++ key ++ codes "\",\"verdict\":"

-- the object from the line of the row at that place on
unfoldable pub ending : ℕ → List ℕ
ending place = codes ",\"line\":" ++ decimal (line_of place) ++ codes "}\n"

-- the fault and its calls, if calls show it
unfoldable pub why_members : Option Told → List ℕ
why_members None = []
why_members (Some why) = codes ",\"fault\":" ++ decimal (fault_number why)
    ++ codes ",\"calls\":" ++ calls_text why

-- the key is refused
unfoldable pub refused_object : List ℕ → ℕ → Option Told → List ℕ
refused_object key place why =
    beginning key ++ codes "\"not atomic\"" ++ why_members why ++ ending place

-- a read of the key may have read either of two writes
unfoldable pub doubt_object : List ℕ → ℕ → Doubt → List ℕ
doubt_object key place doubt = beginning key ++ codes "\"undecided\",\"calls\":"
    ++ list_text (calls_of_doubt doubt) ++ ending place

-- a read was given up, as members
unfoldable pub given_up_members : OpId → List ℕ
given_up_members read = codes "\"given up\",\"calls\":[" ++ decimal read.0 ++ codes "]"

-- a read of the key was given up, and is answered after all
unfoldable pub ended_object : List ℕ → ℕ → OpId → List ℕ
ended_object key place read = beginning key ++ given_up_members read ++ ending place
