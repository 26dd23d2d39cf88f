use Rattle.std.proofs.Common.{ℕ, sym, ◌∙◌, ap, arith}
use Rattle.std.proofs.lemmas.Option.{slice_get-get_or}
use Rattle.tag.specs.declared.numbers.OpId.{OpId}
use Rattle.certificate_check.specs.declared.verdict.Fault.TheVariants as fault
use Rattle.reasons.proofs.ListedCalls.{stands}
use Rattle.reasons.proofs.Faults.{known, within, missing_found, pending_found, broken_found}
use Rattle.reasons.proofs.listed.Listed.reason.Goals as goal

pub call_at-requires-clause-known : goal.call_at-requires-clause-known
call_at-requires-clause-known c =
    let s = c.args.self.now in
    known s.part.now s.order.now (fault.CallTwice c.in-CallTwice.place) (rw c.in-CallTwice.is at c.requires) (omega arith) c.in-CallTwice.place

pub placed-requires-clause-within : goal.placed-requires-clause-within
placed-requires-clause-within c =
    let s = c.args.self.now in
    let read = (rw c.in-PendingRead.is at c.requires).shown in
    within s.part.now s.order.now c.in-PendingRead.place read.0 read.1

pub placed-requires-in-OrderBroken-clause-within : goal.placed-requires-in-OrderBroken-clause-within
placed-requires-in-OrderBroken-clause-within c =
    let s = c.args.self.now in
    let broken = (rw c.in-OrderBroken.is at c.requires).shown in
    within s.part.now s.order.now c.in-OrderBroken.earlier broken.0 broken.3

pub placed-requires-in-OrderBroken-2-clause-within : goal.placed-requires-in-OrderBroken-2-clause-within
placed-requires-in-OrderBroken-2-clause-within c =
    let s = c.args.self.now in
    let broken = (rw c.in-OrderBroken.is at c.requires).shown in
    within s.part.now s.order.now c.in-OrderBroken.later broken.1 broken.4

pub returns-in-UnknownCall : goal.returns-in-UnknownCall
returns-in-UnknownCall c =
    let s = c.args.self.now in
    let unknown = (rw c.in-UnknownCall.is at c.requires).shown in
    let at = slice_get-get_or s.order.now c.in-UnknownCall.place _ unknown.0 in
    (sym c.in-UnknownCall.is, (at, λ call found. unknown.1 call (stands s.part.now s.order.now c.in-UnknownCall.place _ call at found)))

pub returns-in-MissingCall : goal.returns-in-MissingCall
returns-in-MissingCall c =
    let s = c.args.self.now in
    let missing = (rw c.in-MissingCall.is at c.requires).shown in
    let found = missing_found s.part.now s.order.now s.sequence c.in-MissingCall.op c.call_of.result missing c.call_of.ensures in
    (ap (λ (op : OpId). fault.MissingCall op) c.call_of.ensures.1 ∙ sym c.in-MissingCall.is, (c.call_of.ensures.0, found.0, found.1))

pub returns-in-PendingRead : goal.returns-in-PendingRead
returns-in-PendingRead c =
    let s = c.args.self.now in
    let pending = (rw c.in-PendingRead.is at c.requires).shown in
    let found = pending_found s.part.now s.order.now s.sequence c.in-PendingRead.place c.placed.result.call pending c.placed.ensures.call in
    (ap (λ (n : ℕ). fault.PendingRead n) c.placed.ensures.place ∙ sym c.in-PendingRead.is, rw c.placed.ensures.place (c.placed.ensures.call, found.0, found.1))

pub returns-in-OrderBroken : goal.returns-in-OrderBroken
returns-in-OrderBroken c =
    let s = c.args.self.now in
    let broken = (rw c.in-OrderBroken.is at c.requires).shown in
    let first = c.placed-in-OrderBroken in
    let second = c.placed-in-OrderBroken-2 in
    let precedes = broken_found s.part.now s.order.now s.sequence c.in-OrderBroken.earlier c.in-OrderBroken.later first.result.call second.result.call broken first.ensures.call second.ensures.call in
    (cc (first.ensures.place, second.ensures.place, c.in-OrderBroken.is), rw (first.ensures.place, second.ensures.place) (broken.2, first.ensures.call, second.ensures.call, precedes))
