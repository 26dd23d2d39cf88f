-- The members of a set below a number, one number more.
use Rattle.std.proofs.Common.{ℕ, suc, ◌≡◌, ◌+◌, Bool, cond, [], ◌++◌, codes, decimal, ap, subst, arith}
use Rattle.std.specs.FinSet as finite
use Rattle.quorum.specs.Sets.{Replicas}
use Rattle.traces.specs.StepLines.{members_text}

on_suc : (set : Replicas) (n : ℕ) (is : Bool) → finite.contains set n ≡ is
    → members_text set (suc n) ≡ members_text set n ++ cond is (decimal n ++ codes ", ") []
unfolding members_text
on_suc set n is has = ap (λ (b : Bool). members_text set n ++ cond b (decimal n ++ codes ", ") []) has

-- what one number adds
pub members_on : (set : Replicas) (n : ℕ) (is : Bool) → finite.contains set n ≡ is
    → members_text set (n + 1) ≡ members_text set n ++ cond is (decimal n ++ codes ", ") []
members_on set n is has =
    let P : ℕ → Type 0 = λ k. members_text set k ≡ members_text set n ++ cond is (decimal n ++ codes ", ") [] in
    let one : suc n ≡ n + 1 = omega arith in
    subst P one (on_suc set n is has)
