-- Sets of replicas.
use Rattle.std.specs.Prelude.{ℕ, ◌*◌, ◌<◌, IsTrue}
use Rattle.std.specs.Ordering.{nat_cmp}
use Rattle.std.specs.Coded.{Coded, coded_ℕ}
use Rattle.std.specs.FinSet as finite

-- a set of replicas' numbers
abbrev pub Replicas : Type 0
Replicas = finite.FinSet nat_cmp

-- its code, by which a proof tells sets apart
abbrev pub replicas_code : Coded Replicas
replicas_code = finite.code coded_ℕ

-- a set of some of the first n replicas
abbrev pub IsOfFirst : ℕ → Replicas → Type 0
IsOfFirst n set = (replica : ℕ) → IsTrue (finite.contains set replica) → replica < n

-- a majority of n replicas: more than half of them
abbrev pub IsMajority : ℕ → Replicas → Type 0
IsMajority n set = n < 2 * finite.len set
