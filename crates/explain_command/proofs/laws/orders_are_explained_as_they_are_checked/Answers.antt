use Rattle.explain_command.proofs.CheckStatus.{good, refused}
use Rattle.explain_command.proofs.laws.orders_are_explained_as_they_are_checked.Goals as goal

pub returns-clause-good : goal.returns-clause-good
returns-clause-good c = good

pub returns-clause-refused : goal.returns-clause-refused
returns-clause-refused c = refused
