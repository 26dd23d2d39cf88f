use Rattle.std.proofs.Common.{◌≡◌, length, length-append, List, [], Some, ap, subst, arith}
use Rattle.std.specs.List.{slice_get}
use Rattle.std.proofs.lemmas.Option.{none-some}
use Rattle.value_order.specs.declared.classes.Class.{Class}
use Rattle.value_order.specs.declared.placed.Places.{Places}
use Rattle.value_order.proofs.CallClasses.{places_more, classes_more}
use Rattle.value_order.proofs.classes.classes_of_writes.Goals as goal

pub loop-i-init : goal.loop-i-init
loop-i-init c = record {
  many_places = ap (λ (l : List Places). length l) c.in_ok-places.ensures.items;
  places = λ k call own at here. absurd (let here : slice_get [] k ≡ Some own = subst (λ (l : List Places). slice_get l k ≡ Some own) c.in_ok-places.ensures.items here in none-some own here);
  many_classes = ap (λ (l : List Class). length l) c.in_ok-classes.ensures.items;
  classes = λ k own here. absurd (let here : slice_get [] k ≡ Some own = subst (λ (l : List Class). slice_get l k ≡ Some own) c.in_ok-classes.ensures.items here in none-some own here);
  firsts = c.in_ok-firsts.ensures c.args.part.now;
}

pub loop-i-preserved : goal.loop-i-preserved
loop-i-preserved c =
    let l = c.loop-i in
    let was = l.invariant in
    rw (c.in_ok-push.ensures.items, c.in_ok-push-2.ensures.items) (record {
      many_places = simp length-append (omega (arith, was.many_places));
      places = places_more c.args.part.now l.places.items l.i c.places_of.result was.many_places c.places_of.ensures was.places;
      many_classes = simp length-append (omega (arith, was.many_classes));
      classes = classes_more c.args.part.now l.classes.items l.i c.in_ok-class_of_write.field-0 was.many_classes c.in_ok-class_of_write.ensures.class was.classes;
      firsts = c.in_ok-class_of_write.ensures.kept;
    })

pub returns-clause-firsts : goal.returns-clause-firsts
returns-clause-firsts c =
    let all : c.loop-i.i ≡ length c.args.part.now = omega (arith, c.loop-i-test.false, c.loop-i.auto.i-end, c.len-i-end.ensures.count) in
    rw (← all) c.loop-i.invariant.firsts
