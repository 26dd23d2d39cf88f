use Rattle.std.proofs.Common.{refl}
use Rattle.file_format.proofs.Spelling.{quoted_first, cut_whole}
use Rattle.file_format.proofs.beginnings.first_text.Goals as goal

pub returns-clause-text : goal.returns-clause-text
returns-clause-text c =
    let inside = c.in_ok-inside.inside.now in
    quoted_first c.args.bytes.now inside _ _ _ c.in_ok-rest.rest.now c.plain_run-run.ensures.plain c.in_ok-inside.ensures
    (cut_whole c.plain_run-run.result.length inside) refl c.in_ok-rest.ensures
