use Rattle.std.specs.Prelude.{IfSome}
use Rattle.fault_details.specs.Written.{IsPart}
use Rattle.fault_details.proofs.member_text.member_text.Given as goal

abbrev pub invariant-loop-place : goal.invariant-loop-place
invariant-loop-place l = IfSome l.found (λ part. IsPart l.line part.now)
