-- The copy has the rows so far, and the next one may follow.
use Rattle.std.proofs.Common.{ℕ, ◌≡◌, ◌+◌, List, [], ◌∷◌, ◌++◌, map, take, sym, ap, subst, ◌∙◌, add-one}
use Rattle.std.proofs.lemmas.List.{map-append}
use Rattle.tag.proofs.Lists.{take_push}
use Rattle.recorder.specs.Answers.{with_row}
use Rattle.recorder.specs.declared.row.Row.{Row}
use Rattle.recorder.specs.Histories.{Recorded}
use Rattle.merged_keys.specs.MergedKeys.{CanFollow, on_key}
use Rattle.merged_keys.proofs.Following.{can_follow}
use Rattle.merged_keys.proofs.merging.on_key.Goals as goal

pub add_row-requires : goal.add_row-requires
add_row-requires c =
    let history = c.args.history.now in
    let key = c.args.key.now in
    let row = c.row-row.result in
    subst (λ (made : Recorded). CanFollow made (on_key key row)) (sym c.loop-place.invariant)
    (can_follow key history.rows history.limit c.loop-place.place row c.row_count-rows.ensures.formed (rw c.calls-room.ensures.count at c.calls-room.ensures.most) c.row-row.ensures)

pub loop-place-preserved : goal.loop-place-preserved
loop-place-preserved c =
    let history = c.args.history.now in
    let key = c.args.key.now in
    let row = c.row-row.result in
    let f = on_key key in
    let n = c.loop-place.place in
    let more : map f (take (n + 1) history.rows) ≡ map f (take n history.rows) ++ f row ∷ [] =
    ap (λ (k : ℕ). map f (take k history.rows)) (add-one n) ∙ ap (map f) (take_push history.rows n row c.row-row.ensures)
    ∙ map-append f (take n history.rows) (row ∷ []) in
    c.in_ok-add_row.ensures ∙ ap (λ (made : Recorded). with_row made (f row)) c.loop-place.invariant
    ∙ ap (λ (rows : List Row). record { rows = rows; limit = history.limit }) (sym more)
