use Rattle.std.proofs.Common.{◌∙◌, List, length, ap, refl, arith}
use Rattle.std.specs.Borrow.{Bor}
use Rattle.std.proofs.lemmas.Option.{slice_get_read}
use Rattle.tag.specs.declared.numbers.OpId.{OpId}
use Rattle.parallel_keys.proofs.Given.{given_at_hand}
use Rattle.parallel_keys.proofs.OwnKeys.{own_key_at, own_more}
use Rattle.parallel_keys.proofs.collect_keys.add_own.Goals as goal

pub loop-place-preserved : goal.loop-place-preserved
loop-place-preserved c = λ orders is_table.
    let given = c.args.table.now.given.items in
    let entries = c.args.own.now.entries in
    let place = c.loop-place.place in
    let index = c.index.result.now in
    let key_at = own_key_at entries place _ c.entry-text.ensures in
    let found = is_table.given.each place _ index key_at (slice_get_read given (length given) place index refl (omega (arith, c.requires, c.loop-place-test.true)) c.index.ensures) in
    let order_is = ap (λ (o : Bor (List OpId)). o.now) c.unwrap_or.ensures ∙ given_at_hand index _ orders _ refl found in
    own_more orders entries place _ _ _ c.loop-place.keys.items c.push.new.self.items c.entry-text.ensures c.key.ensures refl order_is (c.loop-place.invariant orders is_table) c.in_ok-push.ensures.items
