use Rattle.call_links.proofs.Numbers.{own_id}
use Rattle.call_links.proofs.laws.each_bar_has_its_own_id.Goals as goal

pub returns-clause-own : goal.returns-clause-own
returns-clause-own c section other call own = own_id section other call own
