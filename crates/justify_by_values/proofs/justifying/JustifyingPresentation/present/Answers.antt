use Rattle.std.proofs.Common.{List, map, subst}
use Rattle.parallel_keys.specs.KeysToCheck.{what_of}
use Rattle.parallel_keys.specs.declared.collect_keys.KeyToCheck.{KeyToCheck}
use Rattle.justify_by_values.specs.Decided.{AreDecided}
use Rattle.justify_by_values.proofs.justifying.JustifyingPresentation.present.Goals as goal

pub returns-clause-made : goal.returns-clause-made
returns-clause-made c =
    let gathered = c.in_ok-gathered.ensures in
    record {
      all = gathered.0;
      decided = subst (λ (keys : List KeyToCheck). AreDecided (map what_of keys) gathered.0) c.as_slice.ensures.value gathered.1;
      made = c.in_ok-outcome.ensures gathered.0 gathered.2;
    }
