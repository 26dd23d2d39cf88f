use Rattle.std.proofs.Common.{◌≡◌, cond, sym, ap, ◌∙◌}
use Rattle.std.specs.Ordering.{is_lt}
use Rattle.tag.specs.Tags.{tag_cmp}
use Rattle.client_phases.specs.Asking.{Asking, asking_from, asking_with}
use Rattle.client_phases.proofs.Ends.{room_with, room_of}
use Rattle.client_phases.proofs.asking.Asking.with.Goals as goal
use Rattle.client_phases.proofs.asking.Asking.with.Goals.{then-lt, else-lt}

pub invariant_of-result : goal.invariant_of-result
invariant_of-result c =
    let a = c.self.inside in
    let pair = c.args.pair in
    let found = cond (is_lt (tag_cmp a.tally.best pair.tag)) pair.value a.found in
    room_with a.call a.tally c.with.result a.found found c.args.replica pair (c.with.ensures a.call a.found pair.value) c.self.invariant (room_of c.args.self (asking_from a.call a.tally a.found) pair.tag c.self.view_is c.requires)

pub returns : goal.returns
returns c =
    let a = c.self.inside in
    let pair = c.args.pair in
    let lt : c.lt.result ≡ is_lt (tag_cmp a.tally.best pair.tag) = c.lt.ensures in
    let found : c.if-lt.found2 ≡ cond (is_lt (tag_cmp a.tally.best pair.tag)) pair.value a.found = elim c.if-lt.branch [
      | then-lt w ↦ w.found2-is ∙ ap (λ b. cond b pair.value a.found) (sym w.if-lt.true ∙ lt)
      | else-lt w ↦ w.found2-is ∙ ap (λ b. cond b pair.value a.found) (sym w.if-lt.false ∙ lt)
    ] in
    ap (λ f. asking_from a.call c.with.result f) found
    ∙ sym (c.with.ensures a.call a.found pair.value)
    ∙ ap (λ (x : Asking). asking_with x c.args.replica pair) c.self.view_is
