-- Random steps, one after another.
use Rattle.std.proofs.Common.{ℕ, suc, ◌≡◌, ◌+◌, ◌≤◌, Bool, true, false, is_some, is_none, not, cond}
use Rattle.std.proofs.Common.{ap, ◌∙◌, subst, add-zero, arith}
use Rattle.std.specs.Int.{from_bool}
use Rattle.rand_pcg.specs.Lcg.{Lcg}
use Rattle.random_steps.specs.Choices.{draw, step_of}
use Rattle.world_steps.specs.Refusals.{refusal_of}
use Rattle.world_steps.specs.Runs.{next}
use Rattle.world_steps.specs.declared.system.System.{System}
use Rattle.script_runs.specs.Walks.{Walk, stride, walk_after}

-- a walk stands there
pub record IsWalkAt (walk : Walk) (system : System) (generator : Lcg) (taken : ℕ) : Type 0 where
  pub system_is : system ≡ walk.system
  pub generator_is : generator ≡ walk.generator
  pub taken_is : taken ≡ walk.taken

-- one more if it was taken
abbrev pub counted : Bool → ℕ → ℕ
counted was taken = taken + from_bool was

counts : (refused : Bool) (walk taken : ℕ) → taken ≡ walk → counted (not refused) taken ≡ cond refused walk (walk + 1)
counts true walk taken e = add-zero taken ∙ e
counts false walk taken e = ap (λ n. n + 1) e

pub counted_few : (was : Bool) (taken turn : ℕ) → taken ≤ turn → counted was taken ≤ turn + 1
counted_few true taken turn few = omega (arith, few)
counted_few false taken turn few = omega (arith, few)

-- one random step more
pub goes_on : (walk : Walk) (s new : System) (g rest : Lcg) (n m : ℕ) (was : Bool) → IsWalkAt walk s g n
    → new ≡ next s (step_of s (draw g)) → rest ≡ (draw g).rest → was ≡ is_none (refusal_of s (step_of s (draw g))) → m ≡ counted was n
    → IsWalkAt (stride walk) new rest m
unfolding stride
goes_on walk s new g rest n m was at is drawn taken more =
    let refused : Bool = is_some (refusal_of walk.system (step_of walk.system (draw walk.generator))) in
    let same : was ≡ not refused = taken
    ∙ (λ i. is_none (refusal_of (at.system_is i) (step_of (at.system_is i) (draw (at.generator_is i))))) in
    record {
      system_is = is ∙ (λ i. next (at.system_is i) (step_of (at.system_is i) (draw (at.generator_is i))));
      generator_is = drawn ∙ ap (λ (x : Lcg). (draw x).rest) at.generator_is;
      taken_is = more ∙ ap (λ (b : Bool). counted b n) same ∙ counts refused walk.taken n at.taken_is;
    }

-- the same, counted
pub walk_on : (start : Walk) (turn : ℕ) (s new : System) (g rest : Lcg) (n m : ℕ) (was : Bool) → IsWalkAt (walk_after start turn) s g n
    → new ≡ next s (step_of s (draw g)) → rest ≡ (draw g).rest → was ≡ is_none (refusal_of s (step_of s (draw g))) → m ≡ counted was n
    → IsWalkAt (walk_after start (turn + 1)) new rest m
walk_on start turn s new g rest n m was at is drawn taken more =
    let P : ℕ → Type 0 = λ k. IsWalkAt (walk_after start k) new rest m in
    let one : suc turn ≡ turn + 1 = omega arith in
    subst P one (goes_on (walk_after start turn) s new g rest n m was at is drawn taken more)
