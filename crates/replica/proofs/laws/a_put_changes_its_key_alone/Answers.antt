use Rattle.replica.proofs.Insertions.{pair_of-adopt_other}
use Rattle.replica.proofs.laws.a_put_changes_its_key_alone.Goals as goal

pub returns : goal.returns
returns c = λ pairs key other pair apart. pair_of-adopt_other pairs key other pair apart
