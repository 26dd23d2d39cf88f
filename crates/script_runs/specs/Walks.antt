-- Random steps, one after another.
use Rattle.std.specs.Prelude.{ℕ, zero, suc, ◌+◌, is_some, if◌then◌else◌}
use Rattle.rand_pcg.specs.Lcg.{Lcg}
use Rattle.random_steps.specs.Choices.{draw, generator_of, step_of}
use Rattle.world_steps.specs.Refusals.{refusal_of}
use Rattle.world_steps.specs.Runs.{next}
use Rattle.world_steps.specs.declared.system.System.{System}

-- a system after some random steps, the generator of those to come, and how many were taken
pub record Walk : Type 0 where
  pub system : System
  pub generator : Lcg
  pub taken : ℕ

-- one random step more: three words are drawn, and the step that they choose is taken or passed
-- over
unfoldable pub stride : Walk → Walk
stride walk =
    let step = step_of walk.system (draw walk.generator) in
    record {
      system = next walk.system step;
      generator = (draw walk.generator).rest;
      taken = if is_some (refusal_of walk.system step) then walk.taken else walk.taken + 1;
    }

-- so many random steps more
abbrev pub walk_after : Walk → ℕ → Walk
walk_after walk zero = walk
walk_after walk (suc n) = stride (walk_after walk n)

-- before the first of the random steps of a seed
abbrev pub walk_from : System → ℕ → Walk
walk_from s seed = record { system = s; generator = generator_of seed; taken = 0 }

-- so many random steps of a seed
abbrev pub random_walk : System → ℕ → ℕ → Walk
random_walk s seed count = walk_after (walk_from s seed) count
