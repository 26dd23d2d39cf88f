-- What is told of a step, as a text of its own. It is begun before the step is taken, and ended by
-- what comes of the step.
use Rattle.std.specs.Prelude.{ℕ, List, ◌++◌, Option, None, codes}
use Rattle.sentences.specs.Words.{numbered}
use Rattle.world_settle.specs.declared.errors.SettleError.{SettleError}
use Rattle.world_steps.specs.Systems.{effect_of}
use Rattle.world_steps.specs.declared.effect.Effect.{Effect}
use Rattle.world_steps.specs.declared.refusal.Refusal.{Refusal}
use Rattle.world_steps.specs.declared.step.Step.{Step}
use Rattle.world_steps.specs.declared.system.System.{System}
use Rattle.traces.specs.StepLines.{act_text, count_of, effect_text, step_words, told}
use Rattle.traces.specs.Words.{refusal_text, unsettled_text}
use Rattle.traces.specs.declared.counts.Count.{Count}

-- what is told of a step before it is taken: its text so far, and what the client counts that hears
-- a reply by it
pub record Begun : Type 0 where
  pub text : List ℕ
  pub count : Option Count

-- what is told before it is taken of a step that is to be taken in the system
abbrev pub begun_of : System → Step → Begun
begun_of s step = record { text = act_text s step; count = count_of s step }

-- what was begun, ended by the effect of the step
abbrev pub ended_by : Begun → Effect → List ℕ
ended_by begun effect = begun.text ++ effect_text begun.count effect

-- what is told of a step that is taken in the system
abbrev pub taken_sentence : System → Step → List ℕ
taken_sentence s step = told s step None (effect_of s step)

-- what is told of a step that is refused
abbrev pub refused_sentence : Step → Refusal → List ℕ
refused_sentence step why = step_words step ++ refusal_text why

-- what is told of the pending call of a client that can't be finished
abbrev pub unfinished_sentence : ℕ → SettleError → List ℕ
unfinished_sentence name why = numbered (codes "finish ") name ++ unsettled_text why
