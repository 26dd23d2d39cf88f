use Rattle.std.proofs.Common.{sym, ◌∙◌}
use Rattle.value_explanations.proofs.Reasons.{early_found, late_found, opposed_found, overwritten_fault, overwritten_found}
use Rattle.value_explanations.proofs.value_reasons.value_reason.Goals as goal

pub returns-in-Early : goal.returns-in-Early
returns-in-Early c =
    let read = c.call_of-in-Early in
    let write = c.call_of-in-Early-2 in
    let shows = early_found c.args.part.now c.len-sequence.ensures.sequence c.in-Early.read c.in-Early.write read.result write.result
    (rw c.in-Early.is at c.requires) read.ensures write.ensures in
    (cc (read.ensures.1, write.ensures.1, c.in-Early.is), shows)

pub returns-in-LateNothing : goal.returns-in-LateNothing
returns-in-LateNothing c =
    let read = c.call_of-in-LateNothing in
    let earlier = c.call_of-in-LateNothing-2 in
    let shows = late_found c.args.part.now c.len-sequence.ensures.sequence c.in-LateNothing.read c.in-LateNothing.earlier read.result
    earlier.result (rw c.in-LateNothing.is at c.requires) read.ensures earlier.ensures in
    (cc (read.ensures.1, earlier.ensures.1, c.in-LateNothing.is), (read.ensures.0, earlier.ensures.0, shows))

pub returns-in-Opposed : goal.returns-in-Opposed
returns-in-Opposed c =
    let one = c.side_calls in
    let other = c.side_calls-in-Opposed in
    let shows = opposed_found c.args.part.now c.len-sequence.ensures.sequence c.in-Opposed.one c.in-Opposed.other one.result other.result
    (rw c.in-Opposed.is at c.requires) one.ensures.number one.ensures.calls other.ensures.number other.ensures.calls in
    (cc (one.ensures.number, other.ensures.number, c.in-Opposed.is), shows)

pub returns-in-Overwritten : goal.returns-in-Overwritten
returns-in-Overwritten c =
    let read = c.call_of-in-Overwritten in
    let first = c.call_of-in-Overwritten-2 in
    let second = c.call_of-in-Overwritten-3 in
    let between = c.call_of-in-Overwritten-4 in
    let shows = overwritten_found c.args.part.now c.len-sequence.ensures.sequence c.in-Overwritten.doubt c.in-Overwritten.between
    read.result first.result second.result between.result (rw c.in-Overwritten.is at c.requires) read.ensures first.ensures second.ensures
    between.ensures in
    let fault = overwritten_fault c.args.part.now c.len-sequence.ensures.sequence c.in-Overwritten.doubt c.in-Overwritten.between
    read.result.op first.result.op second.result.op between.result.op read.ensures.1 first.ensures.1 second.ensures.1 between.ensures.1 in
    (fault ∙ sym c.in-Overwritten.is, shows)
