use Rattle.std.proofs.Common.{ℕ, ◌∙◌, List, refl, subst, sym}
use Rattle.std.proofs.lemmas.Result.{on_ok_weaker}
use Rattle.tag.specs.declared.numbers.OpId.{OpId}
use Rattle.pictures.specs.declared.picture.Picture.{Picture}
use Rattle.pictures.specs.declared.keys.CallKeys.TheVariants as keys
use Rattle.draw_command.specs.Drawings.{IsWhy}
use Rattle.draw_command.specs.PicturedKeys.{faulty_in, judged_in}
use Rattle.draw_command.proofs.Framing.{section_added}
use Rattle.draw_command.proofs.SceneOrder.{in_order}
use Rattle.draw_command.proofs.section.add_section.Goals as goal

pub append-requires : goal.append-requires
append-requires c =
    let own = c.args.own.now in
    in_order c.args.task.now.drawn own.hall (judged_in own) c.as_slice-faulty.result.now c.in_ok-scene.scene c.in_ok-scene.ensures

pub first_places-requires : goal.first_places-requires
first_places-requires c = rw c.deref.ensures.value c.in_ok-scene.ensures.is.calls

pub broken_arrow-requires : goal.broken_arrow-requires
broken_arrow-requires c = rw c.deref-2.ensures.value c.in_ok-scene.ensures.is.calls

pub returns : goal.returns
returns c =
    let task = c.args.task.now in
    let own = c.args.own.now in
    let key = own.key.now in
    let faulty = c.as_slice-faulty.result.now in
    let picture : Picture = record {
      keys = keys.One key.one.now.key;
      hall = own.hall;
      part = record { ref_ptr = (0, 0); now = key.one.now.part };
      scene = record { ref_ptr = (0, 0); now = c.in_ok-scene.scene };
      faulty = c.as_slice-faulty.result;
      ids = c.as_str.result;
      places = c.as_slice-places.result;
      before = c.broken_arrow.result;
    } in
    on_ok_weaker c.append.result
    (section_added task.numbered.now task.drawn c.args.refused c.args.n (judged_in own) c.as_slice.result.now picture
    (record {
      of_key = refl;
      of_part = refl;
      hall = c.requires.explained.hall;
      why = subst (λ (t : List ℕ). IsWhy own.hall (judged_in own) t faulty) (sym c.as_slice.ensures.value)
          (subst (λ (calls : List OpId). IsWhy own.hall (judged_in own) own.why.text.items calls) (sym c.as_slice-faulty.ensures.value) c.requires.explained.why);
      scene = c.in_ok-scene.ensures;
      ids = c.as_str.ensures.value ∙ c.in_ok-ids.ensures;
      places = rw c.as_slice-places.ensures.value (rw (c.refused_order.ensures, c.deref.ensures.value) at c.in_ok-listed.ensures);
      before = rw c.deref-2.ensures.value at c.broken_arrow.ensures;
    }) c.hall_among.result c.hall_among.ensures c.as_str-2.result.now (c.as_str-2.ensures.value ∙ c.in_ok-targets.ensures) (faulty_in own) c.as_slice-faulty.ensures.value _ _)
    c.append.ensures
