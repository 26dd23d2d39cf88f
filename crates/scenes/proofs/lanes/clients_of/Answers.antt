use Rattle.std.proofs.Common.{List, subst, ℕ}
use Rattle.std.proofs.lemmas.List.{take_all}
use Rattle.std.proofs.lemmas.Option.{slice_get-get_or}
use Rattle.tag.proofs.Lists.{Contains-slice_get}
use Rattle.scenes.specs.Scenes.{HasCallOf}
use Rattle.scenes.proofs.Just.{HasJust}
use Rattle.scenes.proofs.ShownCalls.{clients_more}
use Rattle.scenes.proofs.lanes.clients_of.Goals as goal

pub call-requires : goal.call-requires
call-requires c =
    let shown = c.args.shown.now in
    let k = c.loop-i.i-index in
    c.requires.within _ (Contains-slice_get shown k _ (slice_get-get_or shown k 0 c.loop-i-test.true))

pub loop-i-preserved : goal.loop-i-preserved
loop-i-preserved c =
    let shown = c.args.shown.now in
    let k = c.loop-i.i-index in
    clients_more c.args.part.now shown k _ c.call.result c.loop-i.clients.items _
    (slice_get-get_or shown k 0 c.loop-i-test.true) c.call.ensures c.in_ok-push.ensures.items c.loop-i.invariant

pub returns : goal.returns
returns c = subst (λ (l : List ℕ). HasJust (HasCallOf c.args.part.now l) c.loop-i.clients.items)
    (take_all c.loop-i.i-index c.args.shown.now c.loop-i-test.false) c.loop-i.invariant
