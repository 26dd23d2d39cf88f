use Rattle.std.proofs.Common.{◌≡◌, ◌++◌, length, map}
use Rattle.std.specs.List.{flat_map}
use Rattle.counted_devices.specs.Cuts.{with_end}
use Rattle.counted_devices.proofs.lines.cut_chunks.Given as goal

abbrev pub invariant-loop-end : goal.invariant-loop-end
invariant-loop-end l = record {
  whole : l.bytes ≡ flat_map with_end (map (λ chunk. chunk.now) l.chunks.items) ++ l.rest;
}

abbrev pub decreases-loop-end : goal.decreases-loop-end
decreases-loop-end l = length l.rest
