use Rattle.std.proofs.Common.{Some, None, ◌∙◌, ap, inl, arith}
use Rattle.std.proofs.lemmas.Option.{slice_get_within, slice_get-get_or}
use Rattle.recorder.specs.States.{place_in}
use Rattle.value_order.specs.declared.classes.Class.TheVariants as class
use Rattle.value_order.proofs.CallKinds.{place_is}
use Rattle.value_order.proofs.ReadSources.{class_of_write, ends_before, only_alone, only_early, two_least, began_yes, began_not}
use Rattle.value_order.proofs.sources.source_of_read.Goals as goal

pub returns-in_default : goal.returns-in_default
returns-in_default c =
    let of = c.places.ensures in
    let h = c.requires.classes.each c.args.i of.0 (class.Answers c.args.first) of.1 c.requires.read in
    absurd (c.in_default.not-Some h.1.response.place (of.2.response ∙ ap place_in h.1.responds))

pub began_by-requires : goal.began_by-requires
began_by-requires c = omega (arith, c.requires.first, c.requires.nexts.all, c.requires.classes.all)

pub returns-then-not-began_by : goal.returns-then-not-began_by
returns-then-not-began_by c =
    let part = c.args.part.now in
    let of = c.places.ensures in
    let h = c.requires.classes.each c.args.i of.0 (class.Answers c.args.first) of.1 c.requires.read in
    let same = place_is of.0 h.1.response c.places.result.response c.in-Some.place of.2.response c.in-Some.is h.1.responds in (
      of.0,
      of.1,
      ends_before part c.args.classes.now c.requires.classes c.requires.sequence of.0 h.0 h.1 c.args.first h.2
          (began_not part c.args.first c.in-Some.place c.began_by.result c.began_by.ensures h.2.write h.2.at h.1.response.place same c.if-not-began_by.true),
    )

pub began_by-requires-in-Some-nexts : goal.began_by-requires-in-Some-nexts
began_by-requires-in-Some-nexts c =
    let part = c.args.part.now in
    let of = c.places.ensures in
    let h = c.requires.classes.each c.args.i of.0 (class.Answers c.args.first) of.1 c.requires.read in
    let own = class_of_write part c.args.classes.now c.requires.classes c.args.first h.2.write h.0 c.args.first h.2.at h.2.writes h.2 in
    let next = c.requires.nexts.each c.args.first c.args.first (Some c.in-Some-nexts.second) (inl own) (slice_get-get_or c.args.nexts.now c.args.first _ c.requires.first ∙ ap Some c.in-Some-nexts.is) in
    omega (arith, slice_get_within c.args.classes.now c.in-Some-nexts.second (class.Writes c.args.first) next.1, c.requires.classes.all)

pub returns-then-began_by : goal.returns-then-began_by
returns-then-began_by c =
    let part = c.args.part.now in
    let of = c.places.ensures in
    let h = c.requires.classes.each c.args.i of.0 (class.Answers c.args.first) of.1 c.requires.read in
    let same = place_is of.0 h.1.response c.places.result.response c.in-Some.place of.2.response c.in-Some.is h.1.responds in
    let own = class_of_write part c.args.classes.now c.requires.classes c.args.first h.2.write h.0 c.args.first h.2.at h.2.writes h.2 in
    let next = c.requires.nexts.each c.args.first c.args.first (Some c.in-Some-nexts.second) (inl own) (slice_get-get_or c.args.nexts.now c.args.first _ c.requires.first ∙ ap Some c.in-Some-nexts.is) in
    let second = c.began_by-in-Some-nexts.ensures in (
      of.0,
      of.1,
      two_least part c.args.classes.now c.requires.classes c.requires.sequence of.0 h.0 h.1 c.args.first h.2 c.in-Some-nexts.second second.0
          (began_yes part c.args.first c.in-Some.place c.began_by.result c.began_by.ensures h.2.write h.2.at h.1.response.place same c.if-not-began_by.false) next second.1
          (began_yes part c.in-Some-nexts.second c.in-Some.place c.began_by-in-Some-nexts.result second second.0 second.1 h.1.response.place same c.if-began_by.true),
    )

pub returns-else-began_by : goal.returns-else-began_by
returns-else-began_by c =
    let part = c.args.part.now in
    let of = c.places.ensures in
    let h = c.requires.classes.each c.args.i of.0 (class.Answers c.args.first) of.1 c.requires.read in
    let same = place_is of.0 h.1.response c.places.result.response c.in-Some.place of.2.response c.in-Some.is h.1.responds in
    let own = class_of_write part c.args.classes.now c.requires.classes c.args.first h.2.write h.0 c.args.first h.2.at h.2.writes h.2 in
    let next = c.requires.nexts.each c.args.first c.args.first (Some c.in-Some-nexts.second) (inl own) (slice_get-get_or c.args.nexts.now c.args.first _ c.requires.first ∙ ap Some c.in-Some-nexts.is) in
    let second = c.began_by-in-Some-nexts.ensures in (
      of.0,
      of.1,
      only_early part c.args.classes.now c.requires.classes c.requires.sequence of.0 h.0 h.1 c.args.first h.2 c.in-Some-nexts.second second.0
          (began_yes part c.args.first c.in-Some.place c.began_by.result c.began_by.ensures h.2.write h.2.at h.1.response.place same c.if-not-began_by.false) next second.1
          (began_not part c.in-Some-nexts.second c.in-Some.place c.began_by-in-Some-nexts.result second second.0 second.1 h.1.response.place same c.if-began_by.false),
    )

pub returns-in-None : goal.returns-in-None
returns-in-None c =
    let part = c.args.part.now in
    let of = c.places.ensures in
    let h = c.requires.classes.each c.args.i of.0 (class.Answers c.args.first) of.1 c.requires.read in
    let same = place_is of.0 h.1.response c.places.result.response c.in-Some.place of.2.response c.in-Some.is h.1.responds in
    let own = class_of_write part c.args.classes.now c.requires.classes c.args.first h.2.write h.0 c.args.first h.2.at h.2.writes h.2 in
    let next = c.requires.nexts.each c.args.first c.args.first None (inl own) (slice_get-get_or c.args.nexts.now c.args.first _ c.requires.first ∙ ap Some c.in-None.is) in (
      of.0,
      of.1,
      only_alone part c.args.classes.now c.requires.classes c.requires.sequence of.0 h.0 h.1 c.args.first h.2
          (began_yes part c.args.first c.in-Some.place c.began_by.result c.began_by.ensures h.2.write h.2.at h.1.response.place same c.if-not-began_by.false) next,
    )
