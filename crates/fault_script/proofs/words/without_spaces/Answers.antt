use Rattle.fault_script.proofs.WordLemmas.{start-boundary}
use Rattle.fault_script.proofs.words.without_spaces.Goals as goal

pub range_from-requires : goal.range_from-requires
range_from-requires c _ = start-boundary c.args.text.now c.first_other.result c.unwrap_or-start.result c.utf8.text c.first_other.ensures
    c.unwrap_or-start.ensures
