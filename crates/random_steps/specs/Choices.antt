-- Random steps: the words of a generator (O'Neill 2014, PCG XSH RR 64/32), and the step that three
-- words choose.
use Rattle.std.specs.Prelude.{ℕ, zero, suc, ◌-◌, ◌/◌, ◌%◌, List, ◌++◌, length, min, nat_eq, nat_lt}
use Rattle.std.specs.Prelude.{if◌then◌else◌, slice_index_or, codes, decimal}
use Rattle.rand_pcg.specs.Lcg.{Lcg, started, increment_of}
use Rattle.rand_pcg.specs.Pcg.{multiplier_64, pcg32}
use Rattle.tag.specs.declared.actions.Action.{Action}
use Rattle.tag.specs.declared.actions.Action.TheVariants.{Read, Write}
use Rattle.random_steps.specs.declared.random_steps.Kind.{Kind}
use Rattle.random_steps.specs.declared.random_steps.Kind.TheVariants as kind
use Rattle.world_steps.specs.declared.step.Step.{Step}
use Rattle.world_steps.specs.declared.step.Step.TheVariants as step
use Rattle.world_steps.specs.declared.system.System.{System}

-- the generator of a seed
abbrev pub generator_of : ℕ → Lcg
generator_of seed = started 64 multiplier_64 seed (increment_of 64 54)

-- three words of a generator, and the generator after them
pub record Draw : Type 0 where
  pub first : ℕ
  pub second : ℕ
  pub third : ℕ
  pub rest : Lcg

-- the next three words of a generator
abbrev pub draw : Lcg → Draw
draw g =
    let a = pcg32 g in
    let b = pcg32 a.1 in
    let c = pcg32 b.1 in
    record { first = a.0; second = b.0; third = c.0; rest = c.1 }

-- the client that a word chooses: of those that joined the one of that number, modulo their count;
-- name 1 if nobody joined
abbrev pub client_at : System → ℕ → ℕ
client_at s word = slice_index_or s.members.joined (word % length s.members.joined) 1

-- the flight that a word chooses: one of the last 32 that were sent; 0 if none was
abbrev pub flight_at : System → ℕ → ℕ
flight_at s word = s.pool.sent - 1 - word % min s.pool.sent 32

-- the replica that a word chooses
abbrev pub replica_at : System → ℕ → ℕ
replica_at s word = word % length s.config.quorums.votes

-- one of four keys
abbrev key_named : ℕ → List ℕ
key_named zero = codes "k0"
key_named (suc zero) = codes "k1"
key_named (suc (suc zero)) = codes "k2"
key_named other = codes "k3"

-- the key that a word chooses
abbrev pub key_of : ℕ → List ℕ
key_of word = key_named (word % 4)

-- the action that a word chooses: a read, or a write of the word's digits after an r
abbrev pub action_of : ℕ → Action
action_of word = if nat_eq (word / 4 % 2) 0 then Read else Write (codes "r" ++ decimal word)

-- of 16 chances one each for losing and repeating, two each for answering and invoking, four for
-- sending, six for delivering
abbrev pub kind_of : ℕ → Kind
kind_of word =
    if nat_eq (word % 16) 0 then kind.Lose
    else if nat_eq (word % 16) 1 then kind.Repeat
    else if nat_lt (word % 16) 4 then kind.Respond
    else if nat_lt (word % 16) 6 then kind.Invoke
    else if nat_lt (word % 16) 10 then kind.Send
    else kind.Deliver

-- the step of that kind that two words choose
abbrev pub step_by : System → Kind → ℕ → ℕ → Step
step_by s kind.Lose second third = step.Lose (flight_at s second)
step_by s kind.Repeat second third = step.Repeat (flight_at s second)
step_by s kind.Respond second third = step.Respond (client_at s second)
step_by s kind.Invoke second third =
    step.Invoke (client_at s second) (key_of third) (action_of third)
step_by s kind.Send second third = step.Send (client_at s second) (replica_at s third)
step_by s kind.Deliver second third = step.Deliver (flight_at s second)

-- the step that three words choose: the first its kind, the second its client or flight, the third
-- its replica, or its key and action
abbrev pub step_of : System → Draw → Step
step_of s words = step_by s (kind_of words.first) words.second words.third
