use Rattle.world_steps.proofs.AddingLaws.{next_row}
use Rattle.world_steps.proofs.laws.a_step_adds_a_row_of_its_client.Goals as goal

pub returns : goal.returns
returns c s step sound = next_row s sound step
