use Rattle.std.proofs.Common.{◌∙◌, Bool, sym}
use Rattle.std.specs.Cmp.Lexicographic.{nat_list_cmp_total}
use lib.Dec as lib
use Rattle.std.specs.Ordering.{eq_of_both, on}
use Rattle.tag.specs.declared.names.Key.{Key}
use Rattle.replica.specs.declared.pairs.Pair.{Pair}
use Rattle.replica.specs.contracts.pairs.PairPartialEq.TheImpl as pair
use Rattle.std.specs.Str.{bytes_eq}
use Rattle.replica.proofs.Maps.{alike_in_front, apart_in_front, apart_in_size}
use Rattle.replica.proofs.replicas.ReplicaPartialEq.eq.Goals.{then-ne-via-then-ne, then-ne-via-else-ne+then-len}
use Rattle.replica.proofs.replicas.ReplicaPartialEq.eq.Goals as goal

abbrev entry_eq : Key × Pair → Key × Pair → Bool
entry_eq = eq_of_both (on (λ p. p.0) bytes_eq) (on (λ p. p.1) pair.eq-value.it)

pub returns-then-ne : goal.returns-then-ne
returns-then-ne c =
    let front = lib.eqb c.self.inside.number c.other.inside.number in
    let mine = c.self.inside.pairs in
    let yours = c.other.inside.pairs in
    rw (← c.self.view_is, ← c.other.view_is)
    elim c.then-ne.branch [
      | then-ne-via-then-ne w ↦ apart_in_front nat_list_cmp_total entry_eq front mine yours (sym w.if-ne.true ∙ c.ne.ensures)
      | then-ne-via-else-ne+then-len w ↦
          apart_in_size nat_list_cmp_total entry_eq front mine yours w.len.ensures.ordered w.len-else-ne.ensures.ordered
          (λ e. w.if-len.true (w.len.ensures.len ∙ e ∙ sym w.len-else-ne.ensures.len))
    ]

pub returns : goal.returns
returns c =
    let front = lib.eqb c.self.inside.number c.other.inside.number in
    let mine = c.self.inside.pairs in
    let yours = c.other.inside.pairs in
    rw (← c.self.view_is, ← c.other.view_is)
    (c.eq.ensures ∙ alike_in_front nat_list_cmp_total entry_eq front mine yours (sym c.if-ne.false ∙ c.ne.ensures) c.len.ensures.ordered c.len-else-ne.ensures.ordered)
