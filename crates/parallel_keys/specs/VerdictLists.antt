-- Verdicts by marks: 0 for a yes, and for a no the place of its fault, from 1.
use Rattle.std.specs.Prelude.{ℕ, zero, suc, ◌≡◌, ◌≤◌, List, Option, None, Some, length, map}
use Rattle.std.specs.List.{slice_get}
use Rattle.certificate_check.specs.declared.verdict.Fault.{Fault}
use Rattle.certificate_check.specs.declared.verdict.Verdict.{Verdict}
use Rattle.certificate_check.specs.declared.verdict.Verdict.TheVariants.{Yes, No}
use Rattle.parallel_keys.specs.declared.verdict_list.VerdictList.TheInside.{Inside}

-- the verdict for a fault, if there is one
abbrev pub verdict_for : Option Fault → Verdict
verdict_for None = Yes
verdict_for (Some fault) = No fault

-- the verdict of a mark
abbrev pub verdict_of : List Fault → ℕ → Verdict
verdict_of faults zero = Yes
verdict_of faults (suc place) = verdict_for (slice_get faults place)

-- the verdicts of all marks
abbrev pub verdicts_in : Inside → List Verdict
verdicts_in v = map (verdict_of v.faults.items) v.marks.items

-- each mark has its fault
abbrev pub HaveFaults : Inside → Type 0
HaveFaults v =
    (i mark : ℕ) → slice_get v.marks.items i ≡ Some mark → mark ≤ length v.faults.items
