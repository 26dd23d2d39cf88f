-- Ranges of numbers, and those of a load.
use Rattle.std.specs.Prelude.{ℕ, ◌≤◌}
use Rattle.load.specs.declared.ranges.NumberRange.{NumberRange}

-- the number is one of the range
pub record IsIn (range : NumberRange) (number : ℕ) : Type 0 where
  pub from : range.least ≤ number
  pub upto : number ≤ range.most

-- the numbers from the one to the other
abbrev pub between : ℕ → ℕ → NumberRange
between least most = record { least = least; most = most }

-- how many callers a load has
abbrev pub callers_range : NumberRange
callers_range = between 1 16

-- how many calls each caller makes
abbrev pub calls_range : NumberRange
calls_range = between 1 10000

-- how many keys there are
abbrev pub keys_range : NumberRange
keys_range = between 1 8

-- how many rounds of messages a phase of a call makes
abbrev pub rounds_range : NumberRange
rounds_range = between 1 10000

-- every how many-th parcel is lost or doubled; none for 0
abbrev pub faults_range : NumberRange
faults_range = between 0 1000
