use Rattle.std.proofs.Common.{rules, ◌≡◌, subst, sym, ◌∙◌}
use denote.Enum.Bare.{same_true, same_false}
use Rattle.cli.specs.contracts.status.Status.{the_type}
use Rattle.counted_devices.specs.DeviceStates.{states}
use Rattle.cli.specs.declared.status.Status.{Status}
use Rattle.cli.specs.declared.status.Status.TheVariants.{Failed}
use Rattle.run_command.specs.Messages.{SaysEnding}
use Rattle.run_command.proofs.Saying.{checked_halls, ends_told, ends_untold, ends_wanting, ends_wanting_then, ends_without_output, key_said, wants_check, wants_text}
use Rattle.run_command.proofs.run.finish.Goals as goal

pub returns-in-Err-clause-said : goal.returns-in-Err-clause-said
returns-in-Err-clause-said g c =
    let out = states g.W.Write.contents g.W.Counted.failures c.args.out.now c.args.out.now in
    let errors = states g.E.Write.contents g.E.Counted.failures c.args.errors.now c.tell_no_text.new.errors in
    subst (λ (s : Status). SaysEnding c.args.halls.items out errors s) (sym c.tell_no_text.ensures.status) (ends_wanting c.args.halls.items out errors (wants_text _ errors c.tell_no_text.ensures.told))

pub returns-in-Err-first_refused-clause-said : goal.returns-in-Err-first_refused-clause-said
returns-in-Err-first_refused-clause-said g c =
    let out = states g.W.Write.contents g.W.Counted.failures c.args.out.now c.args.out.now in
    let errors = states g.E.Write.contents g.E.Counted.failures c.args.errors.now c.tell_check.new.errors in
    subst (λ (s : Status). SaysEnding c.args.halls.items out errors s) (sym c.tell_check.ensures.status) (ends_wanting c.args.halls.items out errors (wants_check _ errors c.tell_check.ensures.told))

-- memory was wanted for the line of the key
pub returns-then-eq-clause-said : goal.returns-then-eq-clause-said
returns-then-eq-clause-said g c =
    let out = states g.W.Write.contents g.W.Counted.failures c.args.out.now c.args.out.now in
    let errors = states g.E.Write.contents g.E.Counted.failures c.args.errors.now c.tell_refused_key-status.new.errors in
    let failed : c.tell_refused_key-status.result ≡ Failed =
    same_true the_type (search rules) c.tell_refused_key-status.result Failed (sym c.if-eq.ensures) in
    ends_untold c.args.halls.items out c.in-Ok-first_refused.first errors c.tell_refused_key-status.result c.tell_refused_key-status.ensures failed

-- the key was told, and then there was no text to write
pub returns-in-Err-shown_text-clause-said : goal.returns-in-Err-shown_text-clause-said
returns-in-Err-shown_text-clause-said g c =
    let well : c.tell_refused_key-status.result ≡ Failed → ⊥ = same_false the_type c.tell_refused_key-status.result Failed (sym c.if-eq.ensures) in
    let contents = g.E.Write.contents in
    let failures = g.E.Counted.failures in
    let old = c.args.errors.now in
    let told = c.tell_refused_key-status.new.errors in
    let new = c.tell_no_text-in-Err-shown_text.new.errors in
    let halls = c.args.halls.items in
    let first = c.in-Ok-first_refused.first in
    let out = states g.W.Write.contents g.W.Counted.failures c.args.out.now c.args.out.now in
    let checked = checked_halls halls c.in-Ok.record.histories c.as_slice.result.now first c.in-Ok.ensures.histories (c.as_slice.ensures.value ∙ c.in-Ok.ensures.orders) c.in-Ok-first_refused.ensures in
    let keys = key_said first (states contents failures old told) c.tell_refused_key-status.result c.tell_refused_key-status.ensures well in
    subst (λ (s : Status). SaysEnding halls out (states contents failures old new) s) (sym c.tell_no_text-in-Err-shown_text.ensures.status)
    (ends_wanting_then halls out first checked (contents old) (contents told) (contents new) (failures old) (failures told) (failures new) keys (wants_text _ (states contents failures told new) c.tell_no_text-in-Err-shown_text.ensures.told))

-- it was told, and the text went out
pub returns-in-Ok-write_text-clause-said : goal.returns-in-Ok-write_text-clause-said
returns-in-Ok-write_text-clause-said g c =
    let halls = c.args.halls.items in
    let first = c.in-Ok-first_refused.first in
    let out = states g.W.Write.contents g.W.Counted.failures c.args.out.now c.write_text.new.writer in
    let errors = states g.E.Write.contents g.E.Counted.failures c.args.errors.now c.tell_refused_key-status.new.errors in
    let well : c.tell_refused_key-status.result ≡ Failed → ⊥ = same_false the_type c.tell_refused_key-status.result Failed (sym c.if-eq.ensures) in
    let checked = checked_halls halls c.in-Ok.record.histories c.as_slice.result.now first c.in-Ok.ensures.histories (c.as_slice.ensures.value ∙ c.in-Ok.ensures.orders) c.in-Ok-first_refused.ensures in
    ends_told halls out errors first c.tell_refused_key-status.result checked c.tell_refused_key-status.ensures well

-- it was told, and the output failed
pub returns-clause-said : goal.returns-clause-said
returns-clause-said g c =
    let contents = g.E.Write.contents in
    let failures = g.E.Counted.failures in
    let old = c.args.errors.now in
    let told = c.tell_refused_key-status.new.errors in
    let new = c.report.new.errors in
    let halls = c.args.halls.items in
    let first = c.in-Ok-first_refused.first in
    let out = states g.W.Write.contents g.W.Counted.failures c.args.out.now c.write_text.new.writer in
    let well : c.tell_refused_key-status.result ≡ Failed → ⊥ = same_false the_type c.tell_refused_key-status.result Failed (sym c.if-eq.ensures) in
    let checked = checked_halls halls c.in-Ok.record.histories c.as_slice.result.now first c.in-Ok.ensures.histories (c.as_slice.ensures.value ∙ c.in-Ok.ensures.orders) c.in-Ok-first_refused.ensures in
    let keys = key_said first (states contents failures old told) c.tell_refused_key-status.result c.tell_refused_key-status.ensures well in
    subst (λ (s : Status). SaysEnding halls out (states contents failures old new) s) (sym c.report.ensures.status)
    (ends_without_output halls out first checked (contents old) (contents told) (contents new) (failures old) (failures told) (failures new) keys c.in-Err-write_text.ensures.device.1 c.report.ensures.told)
