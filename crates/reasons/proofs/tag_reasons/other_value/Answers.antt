use Rattle.reasons.proofs.Rules.{absent_found, write_found}
use Rattle.reasons.proofs.tag_reasons.other_value.Goals as goal

pub returns-in-None : goal.returns-in-None
returns-in-None c =
    let read = c.call_of-call in
    let broken = rw c.in-None.is at c.requires.broken in
    let found = absent_found c.args.part.now c.requires.sequence c.args.read read.result broken read.ensures in
    (cc (read.ensures.1, c.in-None.is), (read.ensures.0, found.0, found.1, c.unnoted_writer-unnoted.ensures))

pub returns-in-Some : goal.returns-in-Some
returns-in-Some c =
    let read = c.call_of-call in
    let write = c.call_of in
    let broken = rw c.in-Some.is at c.requires.broken in
    let found = write_found c.args.part.now c.requires.sequence c.args.read c.in-Some.write read.result write.result
    broken read.ensures write.ensures in (
      cc (read.ensures.1, write.ensures.1, c.in-Some.is),
      (read.ensures.0, (write.ensures.0, found.0), found.1, c.unnoted_writer-unnoted.ensures),
    )
