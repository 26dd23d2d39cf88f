use Rattle.std.proofs.Common.{◌≡◌, rules}
use Rattle.recorder.specs.declared.row.RowRefusal.TheVariants.{Memory}
use Rattle.merged_keys.proofs.Following.{respond_refused}
use Rattle.merged_keys.proofs.merging.respond.Goals as goal

pub unreachable-requires : goal.unreachable-requires
unreachable-requires c =
    let same : c.in-Err.field-0 ≡ Memory =
    respond_refused c.args.made.now c.row_count-formed.ensures.formed c.args.op c.args.returned.now c.in-Err.field-0 c.requires.follows c.in-Err.ensures.0 in
    search rules
