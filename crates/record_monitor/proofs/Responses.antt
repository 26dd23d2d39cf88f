-- Responses of a call, by a row more.
use Rattle.std.proofs.Common.{◌≡◌, List, [], ◌∷◌, ◌++◌}
use Rattle.std.proofs.lemmas.List.Elements.{Contains-append_left}
use Rattle.tag.specs.declared.actions.Returned.{Returned}
use Rattle.tag.specs.declared.numbers.OpId.{OpId}
use Rattle.recorder.specs.declared.row.Row.{Row}
use Rattle.recorder.specs.declared.row.Row.TheVariants.{Respond}
use Rattle.recorder.specs.Histories.{HasResponse}
use Rattle.growing_parts.proofs.Rows.{Contains-back}

module _ (rows : List Row) (row : Row) (op : OpId) where
  pub response_on : HasResponse rows op → HasResponse (rows ++ row ∷ []) op
  response_on h = (h.0, Contains-append_left rows (row ∷ []) (Respond op h.0) h.1)

  pub response_back : ((returned : Returned) → row ≡ Respond op returned → ⊥) → HasResponse (rows ++ row ∷ []) op → HasResponse rows op
  response_back none h = (h.0, Contains-back rows row (Respond op h.0) h.1 (none h.0))
