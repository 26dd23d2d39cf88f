use Rattle.growing_parts.proofs.Empty.{first_write}
use Rattle.growing_parts.proofs.laws.follows_a_first_write.Goals as goal

pub returns : goal.returns
returns c after source place call value state writes k empty b wrote has =
    first_write source place after call state k empty b value wrote writes has
