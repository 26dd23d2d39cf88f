use Rattle.std.proofs.Common.{ℕ, ap}
use Rattle.certificate_check.specs.declared.verdict.Fault.TheVariants as fault
use Rattle.reasons.proofs.Faults.{wrong_found}
use Rattle.reasons.proofs.listed.Listed.wrong_answer.Goals as goal

pub returns : goal.returns
returns c =
    let s = c.args.self.now in
    let read = c.placed-read in
    let last = c.last_write_before in
    let answers = wrong_found s.part.now s.order.now s.sequence c.args.place read.result.call last.result c.requires.shown
    read.ensures.call last.ensures in (
      ap (λ (n : ℕ). fault.WrongAnswer n) read.ensures.place,
      rw read.ensures.place (read.ensures.call, last.ensures, answers, c.unnoted_writer-unnoted.ensures),
    )
