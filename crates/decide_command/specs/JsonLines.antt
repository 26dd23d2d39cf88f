-- The lines on keys for programs: an object of JSON for each key. A key has no character that needs
-- an escape.
use Rattle.std.specs.Prelude.{ℕ, ◌≡◌, List, ◌++◌, codes, decimal}
use Rattle.sentences.specs.Words.{quoted_text}
use Rattle.recorder.specs.declared.part.Call.{Call}
use Rattle.value_order.specs.Numbers.{value_fault_number}
use Rattle.value_order.specs.declared.decision.Doubt.{Doubt}
use Rattle.value_order.specs.declared.decision.ValueFault.{ValueFault}
use Rattle.value_explanations.specs.ValueSentences.{calls_of_doubt, calls_of_fault, list_text}
use Rattle.parallel_keys.specs.CheckedKeys.{CheckedKey}
use Rattle.judged_keys.specs.Judgements.{Judgement}
use Rattle.judged_keys.specs.declared.finding.Finding.{Finding}
use Rattle.judged_keys.specs.declared.finding.Finding.TheVariants as finding
use Rattle.explain_command.specs.Reasons.{AreCounted}

-- how an object begins: with the key, up to the verdict
unfoldable pub key_member : List ℕ → List ℕ
key_member key = codes "{\"key\":\"" ++ key ++ codes "\",\"verdict\":"

-- the object of a key that is atomic
unfoldable pub atomic_object : List ℕ → List ℕ
atomic_object key = key_member key ++ codes "\"atomic\"}\n"

-- that the key isn't atomic, as members: the fault's number and its calls
unfoldable pub fault_members : ValueFault → List ℕ
fault_members fault = codes "\"not atomic\",\"fault\":" ++ decimal (value_fault_number fault)
    ++ codes ",\"calls\":" ++ list_text (calls_of_fault fault)

-- how many reads are stale and how many there are, as the last members
unfoldable pub count_members : ℕ → ℕ → List ℕ
count_members stale reads =
    codes ",\"stale\":" ++ decimal stale ++ codes ",\"reads\":" ++ decimal reads ++ codes "}\n"

-- the object of a key that isn't: the fault's number, its calls, and how many reads are stale
unfoldable pub fault_object : List ℕ → ValueFault → ℕ → ℕ → List ℕ
fault_object key fault stale reads =
    key_member key ++ fault_members fault ++ count_members stale reads

-- the object of a key that is undecided: the calls of the doubt
unfoldable pub doubt_object : List ℕ → Doubt → List ℕ
doubt_object key doubt = key_member key ++ codes "\"undecided\",\"calls\":"
    ++ list_text (calls_of_doubt doubt) ++ codes "}\n"

-- the object of a name that no key has, which stands there as a JSON text
unfoldable pub missing_object : List ℕ → List ℕ
missing_object name =
    codes "{\"key\":" ++ quoted_text name ++ codes ",\"verdict\":\"no such key\"}\n"

-- the line is the object of a key with that fault, with the counts of its stale reads
pub record IsFaultObject (key : List ℕ) (part : List Call) (fault : ValueFault) (line : List ℕ)
    : Type 0 where
  pub stale : ℕ
  pub reads : ℕ
  pub counted : AreCounted part stale reads
  pub says : line ≡ fault_object key fault stale reads

-- the line is the object of a key of which that was found by its values
abbrev pub IsObjectFor : CheckedKey → Finding → List ℕ → Type 0
IsObjectFor one finding.Atomic line = line ≡ atomic_object one.key
IsObjectFor one (finding.ValueFault fault) line = IsFaultObject one.key one.part fault line
IsObjectFor one (finding.Undecided doubt) line = line ≡ doubt_object one.key doubt
IsObjectFor one f line = ⊥

-- the same of a key that was judged
abbrev pub IsObject : Judgement → List ℕ → Type 0
IsObject j line = IsObjectFor j.one j.finding line
