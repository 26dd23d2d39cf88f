use Rattle.std.proofs.Common.{ℕ, ap, ◌∙◌}
use Rattle.std.specs.Option.{unwrap_or}
use Rattle.std.specs.Prelude.{Option}
use Rattle.std.proofs.lemmas.Option.{unwrap_or-slice_get}
use Rattle.fault_details.proofs.earlier_rows.EarlierRows.line_at.Goals as goal

pub returns-in-Some : goal.returns-in-Some
returns-in-Some c = ap (λ (o : Option ℕ). unwrap_or o 0) c.in-Some.ensures ∙ unwrap_or-slice_get c.args.self.now.lines.now c.args.place 0

pub returns-in-None : goal.returns-in-None
returns-in-None c = ap (λ (o : Option ℕ). unwrap_or o 0) c.in-None.ensures ∙ unwrap_or-slice_get c.args.self.now.lines.now c.args.place 0
