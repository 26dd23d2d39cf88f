use Rattle.std.proofs.Common.{codes}
use Rattle.std.proofs.lemmas.Result.{on_ok_weaker}
use Rattle.sentences.proofs.Appending.{more, more_number}
use Rattle.fault_script.specs.MessageTexts.{random_message}
use Rattle.fault_script.proofs.messages.append_random.Goals as goal

pub returns : goal.returns
unfolding random_message
returns c =
    let old = c.args.messages.now.items in
    on_ok_weaker c.append.result (more old _ _ _ (codes "\n")
    (more_number old _ _ _ (codes " of ") _ _ c.from-2.ensures
    (more_number old _ _ _ (codes ": random took ") _ _ c.from.ensures c.in_ok-append_number.ensures c.in_ok-append_number-2.ensures)
    c.in_ok-append_number-3.ensures)) c.append.ensures
