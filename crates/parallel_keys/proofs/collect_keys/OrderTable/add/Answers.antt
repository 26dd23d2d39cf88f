use Rattle.std.proofs.Common.{◌≡◌, ◌∙◌, ◌++◌, [], ◌∷◌, List, Some, ap, refl, sym, map, length, not, ◌<◌, arith}
use Rattle.std.specs.Borrow.{Bor}
use Rattle.std.specs.List.{slice_get, Contains}
use Rattle.std.proofs.lemmas.List.{map-append}
use Rattle.std.proofs.lemmas.Option.{slice_get_within}
use Rattle.recorder.specs.declared.order.KeyOrder.{KeyOrder}
use Rattle.tag.proofs.Lists.{Contains-slice_get}
use Rattle.parallel_keys.proofs.Given.{empty_at, first_passed, first_put, first_stays, taken_at}
use Rattle.parallel_keys.proofs.Recorded.{other_added, other_passed}
use Rattle.parallel_keys.proofs.collect_keys.OrderTable.add.Goals as goal

pub returns-in_default : goal.returns-in_default
returns-in_default c = λ orders is.
    let keys = c.args.numbers.now in
    let one = c.args.one.now in
    let unknown : Contains keys one.key → ⊥ = c.in_default.ensures in
    record {
      given = first_passed keys orders one c.args.self.now.given.items is.given unknown;
      others = λ parts has.
          ap (map (λ (o : Bor KeyOrder). o.now)) c.in_ok-push.ensures.items ∙ map-append (λ (o : Bor KeyOrder). o.now) c.args.self.now.others.items (c.args.one ∷ [])
          ∙ ap (λ (l : List KeyOrder). l ++ one ∷ []) (is.others parts has) ∙ sym (other_added keys parts orders one has unknown);
    }

pub index-requires : goal.index-requires
index-requires c =
    let at : slice_get c.args.numbers.now c.in-Some.number ≡ Some c.args.one.now.key = c.in-Some.ensures in
    omega (arith, slice_get_within c.args.numbers.now c.in-Some.number c.args.one.now.key at)

pub index_mut-requires : goal.index_mut-requires
index_mut-requires c =
    let at : slice_get c.args.numbers.now c.in-Some.number ≡ Some c.args.one.now.key = c.in-Some.ensures in
    omega (arith, slice_get_within c.args.numbers.now c.in-Some.number c.args.one.now.key at)

pub returns-then-is_none : goal.returns-then-is_none
returns-then-is_none c = λ orders is.
    let keys = c.args.numbers.now in
    let one = c.args.one.now in
    let number = c.in-Some.number in
    let at : slice_get keys number ≡ Some one.key = c.in-Some.ensures in
    let below : number < length c.args.self.now.given.items = omega (arith, slice_get_within keys number one.key at) in
    let empty = empty_at c.args.self.now.given.items number c.index.result.now below c.index.ensures (c.is_none.ensures ∙ ap not c.if-is_none.true) in
    record {
      given = first_put keys orders one c.args.self.now.given.items _ number c.as_slice.result is.given at empty c.as_slice.ensures refl;
      others = λ parts has. is.others parts has ∙ sym (other_passed keys parts orders one has (Contains-slice_get keys number one.key at));
    }

pub returns-else-is_none : goal.returns-else-is_none
returns-else-is_none c = λ orders is.
    let at : slice_get c.args.numbers.now c.in-Some.number ≡ Some c.args.one.now.key = c.in-Some.ensures in
    let below : c.in-Some.number < length c.args.self.now.given.items = omega (arith, slice_get_within c.args.numbers.now c.in-Some.number c.args.one.now.key at) in
    let taken = taken_at c.args.self.now.given.items c.in-Some.number c.index.result.now below c.index.ensures (c.is_none.ensures ∙ ap not c.if-is_none.false) in
    record {
      given = first_stays c.args.numbers.now orders c.args.one.now c.args.self.now.given.items c.in-Some.number taken.0 is.given at taken.1;
      others = λ parts has. is.others parts has
          ∙ sym (other_passed c.args.numbers.now parts orders c.args.one.now has (Contains-slice_get c.args.numbers.now c.in-Some.number c.args.one.now.key at));
    }
