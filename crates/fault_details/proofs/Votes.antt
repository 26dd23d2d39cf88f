-- Votes of replicas, taken together.
use Rattle.std.proofs.Common.{ℕ, ◌≡◌, ◌≤◌, ◌*◌, ◌&&◌, List, [], ◌∷◌, Bool, true, length, nat_le, arith}
use Rattle.std.specs.List.{list_all}
use Rattle.std.proofs.lemmas.Bool.{leb-true, and_parts}
use Rattle.file_format.specs.FileHeaders.{are_votes}
use Rattle.fault_details.specs.Needed.{together}

abbrev is_vote : ℕ → Bool
is_vote v = nat_le 1 v && nat_le v 9

at_most : (votes : List ℕ) → list_all is_vote votes ≡ true → together votes ≤ 9 * length votes
at_most [] e = omega arith
at_most (v ∷ votes) e =
    let p = and_parts (is_vote v) (list_all is_vote votes) e in
    let q = and_parts (nat_le 1 v) (nat_le v 9) p.0 in
    omega (arith, leb-true v 9 q.1, at_most votes p.1)

-- 15 replicas have at most 9 votes each
pub few : (votes : List ℕ) → are_votes votes ≡ true → together votes ≤ 135
few votes e =
    let p = and_parts (nat_le 1 (length votes) && nat_le (length votes) 15) (list_all is_vote votes) e in
    let q = and_parts (nat_le 1 (length votes)) (nat_le (length votes) 15) p.0 in
    omega (arith, leb-true (length votes) 15 q.1, at_most votes p.1)
