-- Lines, told one after another.
use Rattle.std.proofs.Common.{ℕ, ◌≡◌, List, [], ◌∷◌, ◌++◌, Option, Some, Ok, flat_map, codes, sym, ap, ◌∙◌, subst, append_assoc}
use Rattle.std.proofs.lemmas.List.{flat_map_more}
use Rattle.std.proofs.lemmas.List.Concat.{flat_map_single}
use Rattle.world_steps.specs.Refusals.{refusal_of}
use Rattle.world_steps.specs.Runs.{Steps}
use Rattle.world_steps.specs.Systems.{effect_of}
use Rattle.world_steps.specs.declared.effect.Effect.{Effect}
use Rattle.world_steps.specs.declared.refusal.Refusal.{Refusal}
use Rattle.world_steps.specs.declared.step.Step.{Step}
use Rattle.world_steps.specs.declared.system.System.{System}
use Rattle.script_runs.specs.Events.{Event, tries}
use Rattle.script_runs.specs.Quotas.{GoesOn, HasRoom, IsFull}
use Rattle.script_runs.specs.declared.origin.Origin.{Origin}
use Rattle.script_runs.specs.declared.quota.Quota.{Quota}
use Rattle.script_runs.proofs.Observing.{all_added}
use Rattle.script_runs.proofs.Quotas.{one_omitted, one_shown}
use Rattle.traces.specs.Running.{BeginsLine, IsText, IsTextOf, IsTold, TellsOn}
use Rattle.traces.specs.StepLines.{act_text, count_of, effect_text, step_words, told}
use Rattle.traces.specs.Traces.{event_line, head_text, omitted_line, own_line, step_line}
use Rattle.traces.specs.Words.{refusal_text}
use Rattle.traces.specs.declared.telling.Telling.{Telling}
use Rattle.traces.specs.declared.telling.ToldStep.{ToldStep}

regroup : (old a b c d : List ℕ) → old ++ (a ++ b) ++ (c ++ d) ≡ old ++ (a ++ (b ++ c) ++ d)
regroup old a b c d = simp append_assoc

module _ (old new : Telling) (line : List ℕ) (on : GoesOn old.quota new.quota) where
  -- a line that is told
  pub line_told : HasRoom old.quota → new.text.items ≡ old.text.items ++ line
      → (most : ℕ) (lines : List (List ℕ)) → IsTold most lines old → IsTold most (lines ++ line ∷ []) new
  line_told room text most lines told =
      one_shown (IsText old) (IsText new) old.quota new.quota line on most lines told room
      (λ shown is. text ∙ ap (λ (t : List ℕ). t ++ line) is ∙ flat_map_more (λ (l : List ℕ). l) [] shown line)

  -- a line that is left out
  pub line_omitted : IsFull old.quota → new.text.items ≡ old.text.items
      → (most : ℕ) (lines : List (List ℕ)) → IsTold most lines old → IsTold most (lines ++ line ∷ []) new
  line_omitted full text most lines told =
      one_omitted (IsText old) (IsText new) old.quota new.quota line on most lines told full (λ shown is. text ∙ is)

-- the line of a step that was begun before it was taken
pub line_ended : (first old new : Telling) (origin : Origin) (s after : System) (step : Step) (told : ToldStep) (effect : Effect)
    → BeginsLine first origin s step old told → new.quota ≡ old.quota
    → new.text.items ≡ old.text.items ++ (effect_text told.count effect ++ codes "\n") → Steps s step (Ok effect) after
    → TellsOn first (tries origin s step) new
unfolding step_line told
line_ended first old new origin s after step told' effect begun quota ended (none, does, moved) =
    let head : List ℕ = head_text (own_line origin.line origin.kind) in
    let act : List ℕ = act_text s step in
    let line : List ℕ = head ++ (act ++ effect_text (count_of s step) effect) ++ codes "\n" in
    let same : line ≡ step_line (own_line origin.line origin.kind) s step =
    λ i. head ++ told s step (sym none i) (sym does i) ++ codes "\n" in
    let text : new.text.items ≡ first.text.items ++ line =
    ended ∙ (λ i. begun.begun i ++ (effect_text (begun.count i) effect ++ codes "\n"))
    ∙ regroup first.text.items head act (effect_text (count_of s step) effect) (codes "\n") in
    line_told first new (step_line (own_line origin.line origin.kind) s step)
    (subst (λ (q : Quota). GoesOn first.quota q) (sym quota) begun.on) begun.room (text ∙ ap (λ (l : List ℕ). first.text.items ++ l) same)

-- the line of a step that is refused
pub line_refused : (old new : Telling) (origin : Origin) (s : System) (step : Step) (why : Refusal) → GoesOn old.quota new.quota → HasRoom old.quota
    → new.text.items ≡ old.text.items ++ (head_text (own_line origin.line origin.kind) ++ (step_words step ++ refusal_text why) ++ codes "\n")
    → refusal_of s step ≡ Some why → TellsOn old (tries origin s step) new
unfolding step_line told
line_refused old new origin s step why on room text refused =
    let number : Option ℕ = own_line origin.line origin.kind in
    line_told old new (step_line number s step) on room
    (text ∙ ap (λ (found : Option Refusal). old.text.items ++ (head_text number ++ told s step found (effect_of s step) ++ codes "\n")) (sym refused))

-- the text of a telling of all that happens
pub text_told : (telling : Telling) (text : List ℕ) → text ≡ telling.text.items ++ omitted_line telling.quota.omitted → IsTextOf telling text
text_told telling text is = λ script most last first none run.
    let all = all_added IsTold (λ (event : Event). event_line event ∷ []) first telling run.events run.observes most [] none in
    record {
      lines = flat_map (λ (event : Event). event_line event ∷ []) run.events;
      trace = record { last = last; events = run.events; happen = run.happen; told = flat_map_single event_line run.events };
      is = is ∙ (λ i. all.shows i ++ omitted_line (all.counted.omitted i));
    }
