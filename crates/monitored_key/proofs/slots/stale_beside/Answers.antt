use Rattle.std.proofs.Common.{sym, ◌∙◌}
use Rattle.std.specs.Cmp.Lexicographic.{bytes_decides}
use Rattle.monitored_key.proofs.BesideSlot.{slot_stale}
use Rattle.monitored_key.proofs.slots.stale_beside.Goals as goal

pub returns-in-Some-end : goal.returns-in-Some-end
returns-in-Some-end c = λ es known begin free none h.
    slot_stale known begin c.args.text.now c.args.slot.now c.in-Some.number c.in-Some.write c.in-Some.is es free
    (sym c.text.ensures ∙ (bytes_decides c.text.result.now c.args.text.now).0 (sym c.eq.ensures ∙ c.if-eq.true)) none
    c.in-Some-end.end (sym c.end.ensures ∙ c.in-Some-end.is) c.args.rest c.with_stale.result c.with_stale.ensures h
