-- Whether there are writes, by the least number and the first end.
use Rattle.std.proofs.Common.{ℕ, ◌≡◌, inl, inr, Bool, true, false, not}
use Rattle.std.proofs.Common.{Option, Some, None, IsSome, MatchBool, is_some, ap}
use Rattle.kept_writers.specs.Candidates.{IsLeast}
use Rattle.kept_writers.specs.Ends.{number_at, IsLeastEnd}
use Rattle.kept_writers.specs.Written.{AreNone, AreSome, Written}

there : (o : Option ℕ) (v : ℕ) → o ≡ Some v → IsSome o
there o v e = ap is_some e

-- a write without an end
pub begun_some : (w : Written) (o : Option ℕ) (b : Bool) → is_some o ≡ not b → b ≡ false → IsLeast w.begins o
    → MatchBool b (AreNone w) (AreSome w)
begun_some w None true e f least = absurd cc
begun_some w None false e f least = absurd cc
begun_some w (Some n) true e f least = absurd cc
begun_some w (Some n) false e f least = inl (n, least.0)

-- none, and perhaps one with an end
pub ended_some : (w : Written) (o : Option ℕ) (p : Option (ℕ × ℕ)) (a b : Bool) → is_some o ≡ not a → a ≡ true → is_some p ≡ not b
    → IsLeast w.begins o → IsLeastEnd w.ends p → MatchBool b (AreNone w) (AreSome w)
ended_some w (Some n) p true b none true_a is least first = absurd cc
ended_some w o p false b none true_a is least first = absurd cc
ended_some w None None true true none true_a is least first = record { begins = least; ends = first }
ended_some w None None true false none true_a is least first = absurd cc
ended_some w None (Some e) true true none true_a is least first = absurd cc
ended_some w None (Some e) true false none true_a is least first = inr (e.0, there (number_at w.ends e.0) e.1 first.0)
