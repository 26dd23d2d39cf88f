use Rattle.std.proofs.Common.{◌∙◌, ℕ, Bool, ◌==◌, sym}
use Rattle.std.specs.Cmp.{nat_cmp_total}
use Rattle.std.specs.Cmp.Lexicographic.{pointwise}
use Rattle.std.specs.Ordering.{eq_of_both, on}
use Rattle.client_phases.specs.declared.clients.Client.{Client}
use Rattle.client_phases.specs.contracts.clients.ClientPartialEq.TheImpl as client
use Rattle.replica.proofs.Maps.{alike_in_front, apart_in_front, apart_in_size}
use Rattle.world_steps.proofs.members.MembersPartialEq.eq.Goals.{then-ne-via-then-ne, then-ne-via-else-ne+then-len}
use Rattle.world_steps.proofs.members.MembersPartialEq.eq.Goals as goal

abbrev entry_eq : ℕ × Client → ℕ × Client → Bool
entry_eq = eq_of_both (on (λ p. p.0) ◌==◌) (on (λ p. p.1) client.eq-value.it)

pub returns-then-ne : goal.returns-then-ne
returns-then-ne c =
    let front = pointwise ◌==◌ c.self.inside.joined.items c.other.inside.joined.items in
    let mine = c.self.inside.clients in
    let yours = c.other.inside.clients in
    rw (← c.self.view_is, ← c.other.view_is)
    elim c.then-ne.branch [
      | then-ne-via-then-ne w ↦ apart_in_front nat_cmp_total entry_eq front mine yours (sym w.if-ne.true ∙ c.ne.ensures)
      | then-ne-via-else-ne+then-len w ↦
          apart_in_size nat_cmp_total entry_eq front mine yours w.len.ensures.ordered w.len-else-ne.ensures.ordered
          (λ e. w.if-len.true (w.len.ensures.len ∙ e ∙ sym w.len-else-ne.ensures.len))
    ]

pub returns : goal.returns
returns c =
    let front = pointwise ◌==◌ c.self.inside.joined.items c.other.inside.joined.items in
    let mine = c.self.inside.clients in
    let yours = c.other.inside.clients in
    rw (← c.self.view_is, ← c.other.view_is)
    (c.eq.ensures ∙ alike_in_front nat_cmp_total entry_eq front mine yours (sym c.if-ne.false ∙ c.ne.ensures) c.len.ensures.ordered c.len-else-ne.ensures.ordered)
