use Rattle.std.proofs.Common.{List, subst}
use Rattle.std.proofs.lemmas.List.{take_all}
use Rattle.std.proofs.lemmas.Option.{slice_get-get_or}
use Rattle.tag.specs.declared.numbers.OpId.{OpId}
use Rattle.scenes.specs.Windows.{IsToShow}
use Rattle.scenes.proofs.Around.{none_kept, kept_more, kept_none}
use Rattle.scenes.proofs.Just.{HasJust}
use Rattle.scenes.proofs.windows.indexes_of.Goals as goal
use Rattle.scenes.proofs.windows.indexes_of.Goals.{in-Some+in_ok-push, in_default}

pub loop-op-init : goal.loop-op-init
loop-op-init c = none_kept c.args.part.now c.args.window c.in_ok-indexes.indexes.items
    (rw c.len.ensures.count at c.in_ok-indexes.ensures)

pub loop-op-preserved : goal.loop-op-preserved
loop-op-preserved c =
    let part = c.args.part.now in
    let window = c.args.window in
    let kept = c.args.kept.now in
    let k = c.loop-op.op-index in
    let start = c.loop-op.indexes.items in
    let at = slice_get-get_or kept k (record { 0 = 0 }) c.loop-op-test.true in
    elim c.match-find_call.branch [
      | in-Some+in_ok-push w ↦ rw w.indexes-is
          (kept_more part window c.len.ensures.sequence kept k w.in-Some.k _ start _ at w.in-Some.ensures.found w.in_ok-push.ensures.items
          c.loop-op.invariant)
      | in_default w ↦ rw w.indexes-is (kept_none part window kept k _ start at w.in_default.ensures.none c.loop-op.invariant)
    ]

pub returns : goal.returns
returns c = subst (λ (l : List OpId). HasJust (IsToShow c.args.part.now c.args.window l) c.loop-op.indexes.items)
    (take_all c.loop-op.op-index c.args.kept.now c.loop-op-test.false) c.loop-op.invariant
