-- What is told of the keys, and below it the line on notes.
use Rattle.std.proofs.Common.{refl}
use Rattle.explain_command.proofs.explaining.ExplainingPresentation.present.Goals as goal

pub returns-clause-made : goal.returns-clause-made
returns-clause-made c =
    let told = c.in_ok-outcome.outcome in
    record {
      told = told;
      tells = c.in_ok-outcome.ensures;
      is = refl;
      text = rw (c.judges_no_notes-hinted.ensures, c.as_slice.ensures.value) at c.in_ok-append_hint.ensures;
      quiet = c.in_ok-outcome.ensures.quiet;
    }
