use Rattle.command_line.proofs.Unmade.{nothing}
use Rattle.command_line.proofs.words.answer_to.Goals as goal

pub returns-in-Err-clause-makes : goal.returns-in-Err-clause-makes
returns-in-Err-clause-makes c = nothing _ c.in-Err.fault c.usage_of_fault.result c.usage_of_fault.ensures.kind c.usage_of_fault.ensures.memory
    c.in-Err.ensures
