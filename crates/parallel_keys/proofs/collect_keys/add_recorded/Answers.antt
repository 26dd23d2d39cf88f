use Rattle.std.proofs.Common.{suc, ◌∙◌, ◌≡◌, ◌<◌, ◌++◌, ◌∷◌, [], List, append-nil, length, map, ap, refl, sym, arith}
use Rattle.std.specs.Borrow.{Bor}
use Rattle.std.specs.List.{slice_get}
use Rattle.std.proofs.lemmas.List.{map-append, nil_from_length}
use Rattle.std.proofs.lemmas.Option.{slice_get_read, slice_get_within}
use Rattle.tag.specs.declared.numbers.OpId.{OpId}
use Rattle.parallel_keys.specs.declared.collect_keys.NumberedKey.{NumberedKey}
use Rattle.parallel_keys.specs.CheckedKeys.{recorded_key}
use Rattle.parallel_keys.specs.KeysToCheck.{entry_of, what_of}
use Rattle.parallel_keys.proofs.Given.{given_at_hand}
use Rattle.parallel_keys.proofs.Recorded.{checked_more}
use Rattle.parallel_keys.proofs.collect_keys.add_recorded.Goals as goal

pub index-requires : goal.index-requires
index-requires c =
    let own = c.in-Some.own in
    let placed = c.loop-own.invariant.placed 0 own (ap (λ (l : List NumberedKey). slice_get l 0) c.in-Some.ensures.steps.0) in
    omega (arith, c.requires.given, slice_get_within c.args.recorded.numbers own.number own.key.now placed)

pub loop-own-init : goal.loop-own-init
loop-own-init c =
    let gives = c.into_iter-own-iterator.ensures.into_iter_gives.0 in
    record {
      placed = λ i own at. c.requires.numbers.placed i own (ap (λ (l : List NumberedKey). slice_get l i) (sym gives) ∙ at);
      keys = λ orders is_table. ap (λ (l : List NumberedKey). map what_of c.args.keys.now.items ++ map (recorded_key orders) (map entry_of l)) gives;
    }

pub loop-own-preserved : goal.loop-own-preserved
loop-own-preserved c =
    let given = c.args.table.now.given.items in
    let own = c.in-Some.own in
    let l = c.loop-own in
    let steps = c.in-Some.ensures.steps.0 in
    let placed = l.invariant.placed 0 own (ap (λ (l : List NumberedKey). slice_get l 0) steps) in
    let within : own.number < length given = omega (arith, c.requires.given, slice_get_within c.args.recorded.numbers own.number own.key.now placed) in
    let index = c.index.result.now in
    record {
      placed = λ i one at. l.invariant.placed (suc i) one (ap (λ (l : List NumberedKey). slice_get l (suc i)) steps ∙ at);
      keys = λ orders is_table.
          let found = is_table.given.each own.number own.key.now index placed (slice_get_read given (length given) own.number index refl within c.index.ensures) in
          let order_is = ap (λ (o : Bor (List OpId)). o.now) c.unwrap_or.ensures ∙ given_at_hand index _ orders own.key.now refl found in
          checked_more orders own c.next.new.self.rest.items (map what_of l.keys.items) _ _ c.unwrap_or.result.now order_is
          (ap (λ (rest : List NumberedKey). map what_of l.keys.items ++ map (recorded_key orders) (map entry_of rest)) (sym steps) ∙ l.invariant.keys orders is_table)
          (ap (map what_of) c.in_ok-push.ensures.items ∙ map-append what_of l.keys.items (_ ∷ []));
    }

pub returns : goal.returns
returns c = λ orders is_table.
    let l = c.loop-own in
    let none : l.own-iterator.rest.items ≡ [] = nil_from_length _ (omega (arith, c.in-None.ensures.steps.0, l.own-iterator.rest.ok.0)) in
    sym (append-nil (map what_of l.keys.items))
    ∙ ap (λ (rest : List NumberedKey). map what_of l.keys.items ++ map (recorded_key orders) (map entry_of rest)) (sym none)
    ∙ l.invariant.keys orders is_table
