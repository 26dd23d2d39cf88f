use Rattle.std.proofs.lemmas.Result.{on_ok_weaker}
use Rattle.counted_devices.specs.DeviceStates.{states}
use Rattle.fault_script.proofs.RunTexts.{begun_at, run_parsed}
use Rattle.fault_script.proofs.simulate_script.simulate.Goals as goal

pub returns-clause-written : goal.returns-clause-written
returns-clause-written g c =
    let reader = states g.R.Read.remaining g.R.Counted.failures c.args.reader.now c.parse.new.reader in
    let texts = c.in_ok-texts.texts in
    on_ok_weaker c.write_texts.result
    (λ written. run_parsed reader c.parse.result c.map_err.result c.in_ok-script.script texts.messages.items texts.history.items _
    c.map_err.ensures.cases c.map_err.ensures.variant c.in_ok-script.was c.parse.ensures.read c.in_ok-texts.ensures written)
    c.write_texts.ensures.written

pub returns-clause-begun : goal.returns-clause-begun
returns-clause-begun g c = λ is_device.
    let texts = c.in_ok-texts.texts in
    run_parsed (states g.R.Read.remaining g.R.Counted.failures c.args.reader.now c.parse.new.reader) c.parse.result c.map_err.result
    c.in_ok-script.script texts.messages.items texts.history.items _ c.map_err.ensures.cases c.map_err.ensures.variant
    c.in_ok-script.was c.parse.ensures.read c.in_ok-texts.ensures (begun_at c.write_texts.result _ is_device c.write_texts.ensures.begun)
