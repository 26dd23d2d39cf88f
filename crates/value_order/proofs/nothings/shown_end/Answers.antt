use Rattle.std.proofs.Common.{◌<◌, length, sym, ◌∙◌, arith}
use Rattle.std.proofs.lemmas.Option.{slice_get-get_or}
use Rattle.tag.proofs.Lists.{get_at, Contains-slice_get}
use Rattle.value_order.proofs.LateReads.{shows_from, shows_none, shown_at, shown_not}
use Rattle.value_order.proofs.nothings.shown_end.Goals as goal

pub returns-then-shows_value : goal.returns-then-shows_value
returns-then-shows_value c =
    let of = c.places.ensures in
    let within : c.args.i < length c.args.sources.now = omega (arith, c.requires.inside, c.requires.sources.all) in
    let shows = shows_from c.args.part.now of.0 _ (sym c.shows_value.ensures ∙ c.if-shows_value.true) (c.requires.sources.each c.args.i of.0 _ of.1 (slice_get-get_or c.args.sources.now c.args.i _ within)) in
    shown_at c.args.part.now c.args.i of.0 c.places.result.response of.1 shows of.2.response

pub returns-else-shows_value : goal.returns-else-shows_value
returns-else-shows_value c =
    let call = get_at c.args.part.now c.args.i c.requires.inside in
    let within : c.args.i < length c.args.sources.now = omega (arith, c.requires.inside, c.requires.sources.all) in
    shown_not c.args.part.now c.args.i call.0 call.1 (shows_none c.args.part.now call.0 _ (sym c.shows_value.ensures ∙ c.if-shows_value.false) (c.requires.sources.each c.args.i call.0 _ call.1 (slice_get-get_or c.args.sources.now c.args.i _ within)) (c.requires.written call.0 (Contains-slice_get c.args.part.now c.args.i call.0 call.1)))
