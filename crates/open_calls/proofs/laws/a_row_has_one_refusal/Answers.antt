use Rattle.open_calls.proofs.Once.{one_refusal}
use Rattle.open_calls.proofs.laws.a_row_has_one_refusal.Goals as goal

pub returns : goal.returns
returns c rows row a b formed x y = one_refusal rows formed row a b x y
