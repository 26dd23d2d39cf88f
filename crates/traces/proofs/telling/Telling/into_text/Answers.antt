use Rattle.traces.proofs.Lines.{text_told}
use Rattle.traces.proofs.telling.Telling.into_text.Goals as goal

pub returns : goal.returns
returns c = text_told c.args.self _ c.in_ok-append_omitted.ensures
