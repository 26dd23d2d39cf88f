use Rattle.std.proofs.Common.{ℕ, ◌++◌, Option, codes, ap, ◌∙◌}
use Rattle.traces.specs.StepLines.{step_words}
use Rattle.traces.specs.Traces.{head_text}
use Rattle.traces.specs.Words.{refusal_text}
use Rattle.traces.specs.declared.telling.Telling.{Telling}
use Rattle.traces.proofs.Lines.{line_refused}
use Rattle.traces.proofs.telling.TellingObserver.refused.Goals as goal

pub returns-in_ok-append_refusal : goal.returns-in_ok-append_refusal
returns-in_ok-append_refusal c = λ s refused.
    let old = c.args.self.now in
    let new : Telling = record { text = c.append_refusal.new.text; quota = c.admits.new.self } in
    let step = c.args.step.now in
    line_refused old new c.args.origin.now s step c.args.why c.admits.ensures.after (c.admits.ensures.shown c.if-admits.true)
    (c.in_ok-append_refusal.ensures
    ∙ ap (λ (number : Option ℕ). old.text.items ++ (head_text number ++ (step_words step ++ refusal_text c.args.why) ++ codes "\n"))
    c.own_line.ensures) refused
