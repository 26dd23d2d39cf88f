use Rattle.fault_script.proofs.RunLemmas.{run_said}
use Rattle.fault_script.proofs.RunTexts.{run_of}
use Rattle.fault_script.proofs.simulate_script.texts_of.Goals as goal

pub returns : goal.returns
returns c =
    run_of c.args.script c.in_ok-run.run'.world c.in_ok-run.run'.observer.text.items c.into_history.result c.in_ok-history.history.items
    (run_said c.args.script c.in_ok-run.run'.world c.new.result c.in_ok-run.run'.observer c.new.ensures c.in_ok-run.ensures)
    c.into_history.ensures.history c.into_history.ensures.parts c.in_ok-history.ensures.text c.in_ok-history.ensures.read
