use Rattle.growing_parts.proofs.Answering.{call_ends}
use Rattle.growing_parts.proofs.laws.an_answer.Goals as goal

pub returns : goal.returns
returns c rows key gone before op client action returned formed may is begun stays =
    call_ends rows formed key gone before is op client action returned may begun stays
