-- Lines of a run, joined of their pieces.
use Rattle.std.proofs.Common.{ℕ, ◌≡◌, List, ◌++◌, Some, codes, decimal, refl, subst, append_assoc}
use Rattle.std.specs.Borrow.{Bor}
use Rattle.cli.specs.FailureLines.{failure_line}
use Rattle.cli.specs.Justifications.{Refuses, refusal_text}
use Rattle.counted_devices.specs.DeviceStates.{DeviceStates}
use Rattle.cli.specs.Devices.{ReceivesOrFails}
use Rattle.certificate_check.specs.Texts.{fault_text}
use Rattle.cli.specs.declared.noted_orders.Unjustified.TheVariants as unjustified
use Rattle.cli.specs.declared.status.Failure.TheVariants as failure
use Rattle.cli.specs.declared.status.Status.{Status}
use Rattle.cli.specs.declared.status.Status.TheVariants as status
use Rattle.node_threads.specs.Numbers.{close_error_name, close_error_number}
use Rattle.node_threads.specs.declared.errors.CloseError.{CloseError}
use Rattle.seats.specs.Numbers.{call_error_name, call_error_number}
use Rattle.load_run.specs.declared.load_run.Refused.{Refused}
use Rattle.run_command.specs.Messages.{TellsKey, close_line, refusal_line}
use Rattle.run_command.specs.declared.check_record.RefusedKey.{RefusedKey}

-- five texts, one after the other, and seven
pub five : (a b c d e : List ℕ) → a ++ (b ++ (c ++ (d ++ e))) ≡ a ++ b ++ c ++ d ++ e
five a b c d e = simp append_assoc

pub seven : (a b c d e f g : List ℕ) → a ++ (b ++ (c ++ (d ++ (e ++ (f ++ g))))) ≡ a ++ b ++ c ++ d ++ e ++ f ++ g
seven a b c d e f g = simp append_assoc

pub refusal_said : (refused : Refused) (caller number name : List ℕ) → caller ≡ decimal refused.caller → number ≡ decimal (call_error_number refused.error) → name ≡ call_error_name refused.error
    → codes "abd: caller " ++ caller ++ codes ": call refused " ++ number ++ codes " " ++ name ++ codes "\n" ≡ refusal_line refused
refusal_said refused caller number name called numbered named = rw (called, numbered, named) refl

pub close_said : (error : CloseError) (number name : List ℕ) → number ≡ decimal (close_error_number error) → name ≡ close_error_name error
    → codes "abd: close refused " ++ number ++ codes " " ++ name ++ codes "\n" ≡ close_line error
close_said error number name numbered named = rw (numbered, named) refl

-- what is said of a key without an order, as what is said of a key that a run refuses
pub key_told : (key : Bor (List ℕ)) (refused : RefusedKey) (errors : DeviceStates) (s : Status) → key.now ≡ refused.key → Refuses (unjustified.NoOrder key refused.fault) errors s
    → (s ≡ status.Failed → ReceivesOrFails errors (failure_line failure.Memory)) → TellsKey (Some refused) errors s
unfolding refusal_text
key_told key refused errors status.Good same refuses memory = absurd refuses
key_told key refused errors status.Refused same refuses memory =
    let P : List ℕ → Type 0 = λ name. ReceivesOrFails errors (codes "abd: key " ++ name ++ codes ": no " ++ fault_text refused.fault ++ codes "\n") in
    (refused, refl, subst P same refuses.1)
key_told key refused errors status.Usage same refuses memory = absurd refuses
key_told key refused errors status.Format same refuses memory = absurd refuses
key_told key refused errors status.Undecided same refuses memory = absurd refuses
key_told key refused errors status.Failed same refuses memory = memory refl
