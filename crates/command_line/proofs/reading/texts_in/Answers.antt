-- The rows of the matches are what `get_strs` reads.
use Rattle.std.proofs.Common.{[], ap, map, List, Option, ◌∙◌}
use Rattle.std.proofs.lemmas.Result.{IfOk-weaker}
use Rattle.std.specs.Prelude.{unwrap_or}
use Rattle.clap.specs.Words.{Text, found_of}
use Rattle.clap.proofs.WalkLemmas.{raw_values-rows}
use Rattle.command_line.proofs.reading.texts_in.Goals as goal

pub returns-in-Some : goal.returns-in-Some
returns-in-Some c =
    let given = c.in-Some.ensures ∙ raw_values-rows (found_of c.args.matches.now) c.args.name.now in
    IfOk-weaker c.from_slice.result _ _
    (λ v is. ap (map (λ s. s.now)) is ∙ ap (λ (o : Option (List Text)). unwrap_or o []) given) c.from_slice.ensures.items

pub returns-in-None : goal.returns-in-None
returns-in-None c =
    let given = c.in-None.ensures ∙ raw_values-rows (found_of c.args.matches.now) c.args.name.now in
    rw c.new.ensures.items (ap (λ (o : Option (List Text)). unwrap_or o []) given)
