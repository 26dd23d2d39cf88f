-- The next call has no rows yet.
use Rattle.std.proofs.Common.{ℕ, ◌≡◌, List, take, sym, ◌∙◌, arith}
use Rattle.std.specs.List.{Contains}
use Rattle.std.proofs.lemmas.Option.{none-some}
use Rattle.tag.specs.declared.actions.Action.{Action}
use Rattle.tag.specs.declared.numbers.OpId.{OpId}
use Rattle.tag.proofs.Lists.{place_of, in_front, Contains-slice_get}
use Rattle.recorder.specs.declared.row.Row.{Row}
use Rattle.recorder.specs.declared.row.Row.TheVariants.{Invoke, Note, Respond}
use Rattle.recorder.specs.Histories.{call_count, HasNote, HasResponse, IsWellFormed}
use Rattle.recorder.proofs.Callers.{caller_found, caller_missing}

-- what a front contains is in the list
contained : (rows : List Row) (k : ℕ) (row : Row) → Contains (take k rows) row → Contains rows row
contained rows k row h =
    let p = place_of (take k rows) row h in
    let q = in_front rows k p.0 row p.1 in
    Contains-slice_get rows p.0 row q.1

module _ (rows : List Row) (formed : IsWellFormed rows) (op : OpId) (fresh : op.0 ≡ call_count rows) where
  pub not_begun : (client : ℕ) (key : List ℕ) (action : Action) → Contains rows (Invoke op client key action) → ⊥
  not_begun client key action h =
      none-some client (sym (caller_missing rows formed op (λ below. omega arith)) ∙ caller_found rows formed op client key action h)

  pub not_answered : HasResponse rows op → ⊥
  not_answered h =
      let p = place_of rows (Respond op h.0) h.1 in
      let m = formed p.0 (Respond op h.0) p.1 in
      not_begun m.0 m.2.key m.1 (contained rows p.0 (Invoke op m.0 m.2.key m.1) m.2.invoked)

  pub not_noted : HasNote rows op → ⊥
  not_noted h =
      let p = place_of rows (Note op h.0) h.1 in
      let m = (formed p.0 (Note op h.0) p.1).0 in
      not_begun m.0 m.2.key m.1 (contained rows p.0 (Invoke op m.0 m.2.key m.1) m.2.invoked)
