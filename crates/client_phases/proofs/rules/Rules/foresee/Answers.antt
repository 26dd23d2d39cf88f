use Rattle.std.proofs.Common.{◌≡◌, true, cond, sym, ap, ◌∙◌}
use Rattle.std.specs.Ordering.{is_lt}
use Rattle.tag.specs.Tags.{tag_cmp}
use Rattle.client_phases.specs.Asking.{Asking, asking_from, asking_with, counts}
use Rattle.client_phases.specs.States.{asking_outcome}
use Rattle.client_phases.specs.declared.states.State.{State}
use Rattle.client_phases.specs.declared.outcomes.Taken.{Taken}
use Rattle.client_phases.proofs.Ends.{room_with, room_of, may_count, heard-held, counts-shown}
use Rattle.client_phases.proofs.rules.Rules.foresee.Goals as goal

pub outcome-requires : goal.outcome-requires
outcome-requires c =
    let a = c.asking.inside in
    let h = c.in-Ask-Held in
    let shown = asking_from a.call a.tally a.found in
    let counted : counts c.args.self.now shown.call shown.counted h.op h.replica ≡ true = sym c.counts.ensures ∙ c.if-counts.true in
    let room = may_count c.args.self.now c.args.state.now c.args.reply.now h.asking h.op h.replica h.tag h.value-1 h.is-0 h.is-1 c.requires (counts-shown c.args.self.now shown h.asking h.op h.replica c.asking.view_is counted) in
    room_with a.call a.tally c.with.result a.found (cond (is_lt (tag_cmp a.tally.best h.tag)) h.value-1 a.found) h.replica (record { tag = h.tag; value = h.value-1 }) (c.with.ensures a.call a.found h.value-1) c.asking.invariant (room_of h.asking shown h.tag c.asking.view_is room)

pub returns-in-Ask-Held : goal.returns-in-Ask-Held
returns-in-Ask-Held c =
    let a = c.asking.inside in
    let h = c.in-Ask-Held in
    let rules = c.args.self.now in
    let shown = asking_from a.call a.tally a.found in
    let counted : counts rules shown.call shown.counted h.op h.replica ≡ true = sym c.counts.ensures ∙ c.if-counts.true in
    let found = cond (is_lt (tag_cmp a.tally.best h.tag)) h.value-1 a.found in
    c.outcome.ensures found
    ∙ ap (λ (x : Asking). (asking_outcome rules x).1) (sym (c.with.ensures a.call a.found h.value-1))
    ∙ ap (λ (x : Asking). (asking_outcome rules (asking_with x h.replica (record { tag = h.tag; value = h.value-1 }))).1) c.asking.view_is
    ∙ sym (ap (λ (r : State × Taken). r.1) (heard-held rules c.args.state.now c.args.reply.now h.asking h.op h.replica h.tag h.value-1 h.is-0 h.is-1 (counts-shown rules shown h.asking h.op h.replica c.asking.view_is counted)))
