-- The lines that a check prints for programs: an object of JSON for each key. A key has no
-- character that needs an escape.
use Rattle.std.specs.Prelude.{ℕ, List, ◌++◌, codes, decimal}
use Rattle.certificate_check.specs.Numbers.{order_fault_number}
use Rattle.certificate_check.specs.declared.verdict.Verdict.{Verdict}
use Rattle.certificate_check.specs.declared.verdict.Verdict.TheVariants.{Yes, No}
use Rattle.certificate_check.specs.declared.verdict.Fault.{Fault}
use Rattle.certificate_check.specs.declared.verdict.Fault.TheVariants.{UnknownCall, CallTwice}
use Rattle.certificate_check.specs.declared.verdict.Fault.TheVariants.{MissingCall, PendingRead}
use Rattle.certificate_check.specs.declared.verdict.Fault.TheVariants.{WrongAnswer, OrderBroken}

-- where an order is wrong, as members: the call, the places, or the place
abbrev pub place_members : Fault → List ℕ
place_members (MissingCall op) = codes ",\"call\":" ++ decimal op.0
place_members (OrderBroken i j) = codes ",\"at\":" ++ decimal i ++ codes ",\"and\":" ++ decimal j
place_members (UnknownCall i) = codes ",\"at\":" ++ decimal i
place_members (CallTwice i) = codes ",\"at\":" ++ decimal i
place_members (PendingRead i) = codes ",\"at\":" ++ decimal i
place_members (WrongAnswer i) = codes ",\"at\":" ++ decimal i

-- what is wrong with an order, as members: the fault's number, and where
abbrev pub fault_members : Fault → List ℕ
fault_members fault =
    codes ",\"fault\":" ++ decimal (order_fault_number fault) ++ place_members fault

-- a verdict, with the members that say what is wrong if it is no
abbrev pub verdict_members : Verdict → List ℕ
verdict_members Yes = codes "\"yes\""
verdict_members (No fault) = codes "\"no\"" ++ fault_members fault

-- the line of a key with its verdict, as an object
unfoldable pub json_line : List ℕ → Verdict → List ℕ
json_line key verdict = codes "{\"key\":\"" ++ key ++ codes "\",\"verdict\":"
    ++ verdict_members verdict ++ codes "}\n"
