use Rattle.markup.proofs.Harmless.{escaped_ampersands, escaped_harmless}
use Rattle.markup.proofs.laws.escaped_has_no_markup.Goals as goal

pub returns : goal.returns
returns c = record { brackets = escaped_harmless; ampersands = escaped_ampersands }
