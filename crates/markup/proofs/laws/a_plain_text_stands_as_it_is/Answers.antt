use Rattle.markup.proofs.Escaping.{plain_escaped}
use Rattle.markup.proofs.laws.a_plain_text_stands_as_it_is.Goals as goal

pub returns : goal.returns
returns c = plain_escaped
