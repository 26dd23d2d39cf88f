-- How a command ends whose outcome is sent.
use Rattle.std.proofs.Common.{◌≡◌, inl, inr, ℕ, Result, Ok, Err, sym, subst, ◌∙◌}
use Rattle.std.specs.Prelude.{IfOk, IfErr}
use Rattle.cli.specs.Devices.{FailsOnce, Receives, ReceivesOrFails, ReceivesPrefix, WriterStates, Writes}
use Rattle.parallel_keys.specs.Workers.{MayFail}
use Rattle.parallel_keys.specs.declared.error.CheckError.{CheckError}
use Rattle.parallel_keys.specs.declared.error.CheckError.TheVariants as error
use Rattle.cli.specs.FailureLines.{failure_line, failure_of}
use Rattle.cli.specs.Outcomes.{Ends, ended}
use Rattle.cli.specs.Reports.{StopsKeys}
use Rattle.cli.specs.Statuses.{status_of}
use Rattle.cli.specs.declared.outcome.Found.{Found}
use Rattle.cli.specs.declared.outcome.Found.TheVariants as found
use Rattle.cli.specs.declared.outcome.Outcome.{Outcome}
use Rattle.cli.specs.declared.status.Failure.{Failure}
use Rattle.cli.specs.declared.status.Failure.TheVariants as failure
use Rattle.cli.specs.declared.status.Status.{Status}
use Rattle.cli.specs.declared.status.Status.TheVariants.{Good, Refused, Usage, Format, Failed, Undecided}
use Rattle.cli.proofs.Reported.{failure_ends}

-- keys that weren't checked for that reason
pub keys_stop : (workers : ℕ) (why : CheckError) → MayFail workers why → StopsKeys workers (failure_of why)
keys_stop workers error.Memory may = tt
keys_stop workers error.Thread may = may

module _ {W E : Type 0} (out : WriterStates W) (errors : WriterStates E) where
  module _ (Makes : Outcome → Type 0) (Stops : Failure → Type 0) where
    -- an outcome was sent
    pub sent : (outcome : Outcome) → Makes outcome → Writes out Receives outcome.text.items → Writes errors ReceivesOrFails outcome.notes.items → (its : Found) → outcome.found ≡ its
        → Ends Makes Stops out errors (ended its)
    sent outcome made text notes found.Good is = record { outcome = outcome; made = made; is = is; text = text; notes = notes }
    sent outcome made text notes found.Refused is = record { outcome = outcome; made = made; is = is; text = text; notes = notes }
    sent outcome made text notes found.Undecided is = record { outcome = outcome; made = made; is = is; text = text; notes = notes }

    -- the output failed
    pub broke_off : (outcome : Outcome) → Makes outcome → ReceivesPrefix out.device outcome.text.items → FailsOnce out.device → (s : Status) → s ≡ Failed
        → ReceivesOrFails errors.device (failure_line failure.Output) → Ends Makes Stops out errors s
    broke_off outcome made begun fails s is told =
        subst (Ends Makes Stops out errors) (sym is) (inr (record { outcome = outcome; made = made; begun = begun; fails = fails; told = told }))

    -- nothing was made
    pub stopped : (why : Failure) → Stops why → out.new ≡ out.old → (s : Status) → s ≡ status_of why → ReceivesOrFails errors.device (failure_line why) → Ends Makes Stops out errors s
    stopped why stops quiet s is told = elim (failure_ends why) [
      | inl ends ↦ subst (Ends Makes Stops out errors) (sym (is ∙ ends)) (record { failure = why; ends = ends; stops = stops; quiet = quiet; told = told })
      | inr ends ↦ subst (Ends Makes Stops out errors) (sym (is ∙ ends)) (inl (record { failure = why; ends = ends; stops = stops; quiet = quiet; told = told }))
    ]

  -- something weaker holds of the outcome, and of why none was made
  pub weaker : (M N : Outcome → Type 0) (S T : Failure → Type 0) → ((outcome : Outcome) → M outcome → N outcome) → ((why : Failure) → S why → T why)
      → (s : Status) → Ends M S out errors s → Ends N T out errors s
  weaker M N S T more also Good e = record { outcome = e.outcome; made = more e.outcome e.made; is = e.is; text = e.text; notes = e.notes }
  weaker M N S T more also Refused e = record { outcome = e.outcome; made = more e.outcome e.made; is = e.is; text = e.text; notes = e.notes }
  weaker M N S T more also Undecided e = record { outcome = e.outcome; made = more e.outcome e.made; is = e.is; text = e.text; notes = e.notes }
  weaker M N S T more also Usage e = e
  weaker M N S T more also Format e = record { failure = e.failure; ends = e.ends; stops = also e.failure e.stops; quiet = e.quiet; told = e.told }
  weaker M N S T more also Failed (inl e) = inl (record { failure = e.failure; ends = e.ends; stops = also e.failure e.stops; quiet = e.quiet; told = e.told })
  weaker M N S T more also Failed (inr e) = inr (record { outcome = e.outcome; made = more e.outcome e.made; begun = e.begun; fails = e.fails; told = e.told })

  -- what was made was sent, or wasn't made
  pub concluded : (M N : Outcome → Type 0) (S T : Failure → Type 0) (made : Result Outcome Failure) → IfOk made M → IfErr made S → ((outcome : Outcome) → M outcome → N outcome)
      → ((why : Failure) → S why → T why) → (s : Status) → Ends (λ outcome. made ≡ Ok outcome) (λ why. made ≡ Err why) out errors s → Ends N T out errors s
  concluded M N S T made makes stops more also s ends =
      weaker (λ outcome. made ≡ Ok outcome) N (λ why. made ≡ Err why) T
      (λ outcome is. more outcome (subst (λ (r : Result Outcome Failure). IfOk r M) is makes)) (λ why is. also why (subst (λ (r : Result Outcome Failure). IfErr r S) is stops)) s ends
