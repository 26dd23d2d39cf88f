use Rattle.std.proofs.Common.{◌≡◌, take}
use Rattle.std.specs.List.{filter_map}
use Rattle.witness_order.specs.Keys.{key_of}
use Rattle.witness_order.proofs.tag_order.sort_keys.Given as goal

abbrev pub invariant-loop-k : goal.invariant-loop-k
invariant-loop-k l = l.keys.items ≡ filter_map key_of (take l.k l.part)
