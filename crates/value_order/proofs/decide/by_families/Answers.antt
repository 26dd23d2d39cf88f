use Rattle.std.proofs.Common.{refl}
use Rattle.value_order.proofs.Decided.{none_opposed}
use Rattle.value_order.proofs.LeastRows.{has_opposed}
use Rattle.value_order.proofs.decide.by_families.Goals as goal

pub have_crossing-requires-clause-zones : goal.have_crossing-requires-clause-zones
have_crossing-requires-clause-zones c = (c.last_row-last.result, rw c.as_slice-4.ensures.value c.in_ok-zones.ensures)

pub first_opposed-requires-clause-opposed : goal.first_opposed-requires-clause-opposed
first_opposed-requires-clause-opposed c =
    let crossing = rw c.as_slice-4.ensures.value at c.if-have_crossing.ensures in
    has_opposed c.args.values.part c.last_row-last.result c.in_ok-zones.zones.items c.in_ok-zones.ensures c.attest.ensures crossing

pub in_doubt-requires-clause-opposed : goal.in_doubt-requires-clause-opposed
in_doubt-requires-clause-opposed c =
    let free = rw c.if-have_crossing.false at c.have_crossing.ensures in
    let free = rw c.as_slice-4.ensures.value at free in
    none_opposed c.args.values.part c.attest.ensures c.args.values.sources.items c.requires.sources c.last_row-last.result c.last_row-last.ensures c.in_ok-zones.zones.items c.in_ok-zones.ensures free

pub returns : goal.returns
returns c = record {
  is = refl;
  sources = c.requires.sources;
  row = c.last_row-last.result;
  last = c.last_row-last.ensures;
  zones = c.in_ok-zones.ensures;
  free = rw c.as_slice-4.ensures.value at c.if-have_crossing.ensures;
  reads = c.requires.reads;
  sure = c.in-None.ensures;
}
