use Rattle.std.proofs.Common.{List, ◌∷◌, [], refl, sym, subst}
use Rattle.counted_devices.specs.DeviceStates.{DeviceStates, states}
use Rattle.cli.specs.declared.status.Status.{Status}
use Rattle.load_run.specs.declared.load_run.Refused.{Refused}
use Rattle.run_command.specs.Messages.{ReceivesLines, close_line, refusal_lines}
use Rattle.run_command.specs.Runs.{EndsRun}
use Rattle.run_command.proofs.Ending.{ends_closed, ends_open}
use Rattle.run_command.proofs.Saying.{says_both, says_one}
use Rattle.run_command.proofs.run.run_command.Goals as goal

-- the store was closed, and the rest is what `finish` says
pub returns-in-Ok-closed-clause-ends : goal.returns-in-Ok-closed-clause-ends
returns-in-Ok-closed-clause-ends g c =
    let contents = g.E.Write.contents in
    let failures = g.E.Counted.failures in
    let out : DeviceStates = states g.W.Write.contents g.W.Counted.failures c.args.out.now c.finish.new.out in
    let errors : DeviceStates = states contents failures c.args.errors.now c.finish.new.errors in
    let loaded = c.in-Ok.loaded in
    let ending = c.finish.ensures.said in
    let middle : DeviceStates = states contents failures c.args.errors.now c.tell_refusals.new.errors in
    let refused : ReceivesLines middle (refusal_lines loaded.refusals.items) = subst (λ (l : List Refused). ReceivesLines middle (refusal_lines l)) c.as_slice.ensures.value c.tell_refusals.ensures in
    ends_closed c.args.asked out errors c.finish.result (record {
      loaded = loaded;
      run = c.in-Ok.ensures;
      closed = c.in-Ok-closed.closed;
      is = c.in-Ok-closed.is;
      ends = c.finish.ensures.ends;
      lines = ending.0;
      ending = ending.1;
      said = says_both (contents c.args.errors.now) (contents c.tell_refusals.new.errors) (contents c.finish.new.errors) (failures c.args.errors.now) (failures c.tell_refusals.new.errors) (failures c.finish.new.errors) (refusal_lines loaded.refusals.items) ending.0 refused ending.2;
    })

-- it wasn't, and nothing was written
pub returns-clause-ends : goal.returns-clause-ends
returns-clause-ends g c =
    let contents = g.E.Write.contents in
    let failures = g.E.Counted.failures in
    let out : DeviceStates = states g.W.Write.contents g.W.Counted.failures c.args.out.now c.args.out.now in
    let errors : DeviceStates = states contents failures c.args.errors.now c.tell_close.new.errors in
    let loaded = c.in-Ok.loaded in
    let error = c.in-Err-closed.error in
    let line = close_line error in
    let middle : DeviceStates = states contents failures c.args.errors.now c.tell_refusals.new.errors in
    let refused : ReceivesLines middle (refusal_lines loaded.refusals.items) = subst (λ (l : List Refused). ReceivesLines middle (refusal_lines l)) c.as_slice.ensures.value c.tell_refusals.ensures in
    let then : DeviceStates = states contents failures c.tell_refusals.new.errors c.tell_close.new.errors in
    subst (λ (s : Status). EndsRun c.args.asked out errors s) (sym c.tell_close.ensures.status) (ends_open c.args.asked out errors error (record {
      loaded = loaded;
      run = c.in-Ok.ensures;
      refused = c.in-Err-closed.is;
      quiet = refl;
      said = says_both (contents c.args.errors.now) (contents c.tell_refusals.new.errors) (contents c.tell_close.new.errors) (failures c.args.errors.now) (failures c.tell_refusals.new.errors) (failures c.tell_close.new.errors) (refusal_lines loaded.refusals.items) (line ∷ []) refused (says_one then line c.tell_close.ensures.told);
    }))
