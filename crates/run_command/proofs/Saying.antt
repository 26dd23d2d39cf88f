-- Lines that are said one after another, and how a run that closed its store ends.
use Rattle.std.proofs.Common.{◌≡◌, ℕ, List, [], ◌∷◌, ◌++◌, Option, inl, inr, refl, sym, ap, subst}
use Rattle.cli.specs.FailureLines.{failure_line}
use Rattle.counted_devices.specs.DeviceStates.{DeviceStates}
use Rattle.cli.specs.Devices.{FailsOnce, ReceivesOrFails}
use Rattle.cli.specs.declared.status.Failure.TheVariants as failure
use Rattle.cli.specs.declared.status.Status.{Status}
use Rattle.cli.specs.declared.status.Status.TheVariants as status
use Rattle.node_threads.specs.declared.closing.ClosedHall.{ClosedHall}
use Rattle.run_command.specs.Messages.{ReceivesLines, SaysEnding, TellsKey, TellsWant, check_line, key_line, key_lines, no_text_line}
use Rattle.parallel_keys.specs.declared.error.CheckError.{CheckError}
use Rattle.parallel_keys.specs.declared.error.CheckError.TheVariants as check
use Rattle.recorder.specs.Halls.{RecordedHalls}
use Rattle.recorder.specs.declared.order.KeyOrder.{KeyOrder}
use Rattle.run_command.specs.RecordVerdicts.{IsFirstNoOfHalls, IsFirstNoOfRecord}
use Rattle.run_command.specs.Records.{histories_in, orders_in, record_of}
use Rattle.run_command.specs.Runs.{status_of_check}
use Rattle.run_command.specs.declared.check_record.RefusedKey.{RefusedKey}
use Rattle.run_command.specs.declared.shown.NoText.{NoText}
use Rattle.run_command.specs.declared.shown.NoText.TheVariants as none

-- what was checked are the halls
pub checked_halls : (halls : List ClosedHall) (histories : RecordedHalls) (orders : List KeyOrder) (first : Option RefusedKey) → histories ≡ record_of halls → orders ≡ orders_in halls
    → IsFirstNoOfRecord histories.halls orders first → IsFirstNoOfHalls halls first
checked_halls halls histories orders first are ordered checked =
    subst (λ (l : List KeyOrder). IsFirstNoOfRecord (histories_in halls) l first) ordered (subst (λ (r : RecordedHalls). IsFirstNoOfRecord r.halls orders first) are checked)

-- two states of a writer, by what each had taken and how often it had failed
abbrev pub between : Option (List ℕ) → Option (List ℕ) → ℕ → ℕ → DeviceStates
between old new failures failures_now = record { old = old; new = new; failures = failures; failures_now = failures_now }

-- why the keys weren't checked, or there is no text, is a want of something
pub wants_check : (error : CheckError) (errors : DeviceStates) → ReceivesOrFails errors (check_line error) → TellsWant errors
wants_check check.Memory errors told = (failure_line failure.Memory, inl refl, told)
wants_check check.Thread errors told = (failure_line failure.Thread, inr (inl refl), told)

pub wants_text : (error : NoText) (errors : DeviceStates) → ReceivesOrFails errors (no_text_line error) → TellsWant errors
wants_text none.Memory errors told = (failure_line failure.Memory, inl refl, told)
wants_text none.Apart errors told = (no_text_line none.Apart, inr (inr refl), told)

-- a line alone
pub says_one : (w : DeviceStates) (line : List ℕ) → ReceivesOrFails w line → ReceivesLines w (line ∷ [])
says_one w line told = (w.new, w.failures_now, told, (refl, refl))

-- some lines, and then others
pub says_both : (a b c : Option (List ℕ)) (f g h : ℕ) (xs ys : List (List ℕ)) → ReceivesLines (between a b f g) xs → ReceivesLines (between b c g h) ys → ReceivesLines (between a c f h) (xs ++ ys)
says_both a b c f g h [] ys none rest = rw (← none.0, ← none.1) rest
says_both a b c f g h (x ∷ xs) ys (now, failures, told, more) rest = (now, failures, told, says_both now b c failures g h xs ys more rest)

module _ (halls : List ClosedHall) (out : DeviceStates) where
  -- something was wanted before the keys were checked
  pub ends_wanting : (errors : DeviceStates) → TellsWant errors → SaysEnding halls out errors status.Failed
  ends_wanting errors (line, want, told) = (line ∷ [], ([], line, inl (inr refl, want), refl), says_one errors line told)

  -- memory was wanted for the line of a key
  pub ends_untold : (first : Option RefusedKey) (errors : DeviceStates) (s : Status) → TellsKey first errors s → s ≡ status.Failed → SaysEnding halls out errors s
  ends_untold first errors s tells is =
      subst (λ (t : Status). SaysEnding halls out errors t) (sym is) (ends_wanting errors (failure_line failure.Memory, inl refl, subst (λ (t : Status). TellsKey first errors t) is tells))

  module _ (first : Option RefusedKey) (checked : IsFirstNoOfHalls halls first) (a b c : Option (List ℕ)) (f g h : ℕ) (keys : ReceivesLines (between a b f g) (key_lines first)) where
    -- something was wanted once they were
    pub ends_wanting_then : TellsWant (between b c g h) → SaysEnding halls out (between a c f h) status.Failed
    ends_wanting_then (line, want, told) =
        (key_lines first ++ line ∷ [], (key_lines first, line, inl (inl (first, checked, refl), want), refl), says_both a b c f g h (key_lines first) (line ∷ []) keys (says_one (between b c g h) line told))

    -- the output failed
    pub ends_without_output : FailsOnce out → ReceivesOrFails (between b c g h) (failure_line failure.Output) → SaysEnding halls out (between a c f h) status.Failed
    ends_without_output more told =
        let line = failure_line failure.Output in
        (key_lines first ++ line ∷ [], (key_lines first, line, inr ((first, checked, refl), (refl, more)), refl), says_both a b c f g h (key_lines first) (line ∷ []) keys (says_one (between b c g h) line told))

-- the status of a first key that was told
pub key_status : (first : Option RefusedKey) (errors : DeviceStates) (s : Status) → TellsKey first errors s → (s ≡ status.Failed → ⊥) → s ≡ status_of_check first
key_status first errors status.Good (none, said) well = sym (ap status_of_check none)
key_status first errors status.Refused (refused, is, told) well = sym (ap status_of_check is)
key_status first errors status.Usage tells well = absurd tells
key_status first errors status.Format tells well = absurd tells
key_status first errors status.Undecided tells well = absurd tells
key_status first errors status.Failed tells well = absurd (well refl)

-- what was said then
pub key_said : (first : Option RefusedKey) (errors : DeviceStates) (s : Status) → TellsKey first errors s → (s ≡ status.Failed → ⊥) → ReceivesLines errors (key_lines first)
key_said first errors status.Good (none, said) well = subst (λ (o : Option RefusedKey). ReceivesLines errors (key_lines o)) (sym none) said
key_said first errors status.Refused (refused, is, told) well = subst (λ (o : Option RefusedKey). ReceivesLines errors (key_lines o)) (sym is) (says_one errors (key_line refused) told)
key_said first errors status.Usage tells well = absurd tells
key_said first errors status.Format tells well = absurd tells
key_said first errors status.Undecided tells well = absurd tells
key_said first errors status.Failed tells well = absurd (well refl)

-- it was told, and all else is well
pub ends_told : (halls : List ClosedHall) (out errors : DeviceStates) (first : Option RefusedKey) (s : Status) → IsFirstNoOfHalls halls first → TellsKey first errors s → (s ≡ status.Failed → ⊥) → SaysEnding halls out errors s
ends_told halls out errors first status.Good checked (none, said) well = ([], refl, said)
ends_told halls out errors first status.Refused checked (refused, is, told) well =
    (key_line refused ∷ [], (refused, subst (λ (o : Option RefusedKey). IsFirstNoOfHalls halls o) is checked, refl), says_one errors (key_line refused) told)
ends_told halls out errors first status.Usage checked tells well = absurd tells
ends_told halls out errors first status.Format checked tells well = absurd tells
ends_told halls out errors first status.Undecided checked tells well = absurd tells
ends_told halls out errors first status.Failed checked tells well = absurd (well refl)
