use Rattle.std.proofs.Common.{◌≡◌, ◌++◌, length}
use Rattle.std.specs.Str.{chars}
use Rattle.std.specs.String.{string_bytes}
use Rattle.labels.specs.Cuts.{beginning}
use Rattle.labels.proofs.Fitting.{rest}
use Rattle.labels.proofs.cuts.beginning.Given as goal

abbrev pub invariant-loop-c : goal.invariant-loop-c
invariant-loop-c l = string_bytes l.kept ++ rest l.left (length l.yielded) (chars l.words) ≡ beginning l.room l.words
