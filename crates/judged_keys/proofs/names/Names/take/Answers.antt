use Rattle.std.proofs.Common.{ap, sym, ◌∙◌}
use Rattle.judged_keys.specs.Selected.{is_selected, names_in}
use Rattle.judged_keys.specs.declared.names.Names.{Names}
use Rattle.judged_keys.proofs.Selecting.{takes_named}
use Rattle.judged_keys.proofs.names.Names.take.Goals as goal

pub returns-else-is_empty : goal.returns-else-is_empty
returns-else-is_empty c =
    let key = c.args.key.now in
    c.has_name.ensures ∙ takes_named c.in-Several.names.now key (sym c.is_empty.ensures ∙ c.if-is_empty.false) ∙ ap (λ (names : Names). is_selected (names_in names) key) (sym c.in-Several.is)
