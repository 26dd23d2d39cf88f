use Rattle.std.proofs.Common.{◌<◌, length, arith}
use Rattle.std.proofs.lemmas.Result.{err_from_is_err_and}
use Rattle.history_file.proofs.NumberedLines.{AreLinesByHall-more, stops_too, kept_too}
use Rattle.history_file.proofs.numbered_format.NumberedHallsBody.follow.Goals as goal

pub returns-in_err-follow-clause-follows : goal.returns-in_err-follow-clause-follows
returns-in_err-follow-clause-follows c =
    let p = err_from_is_err_and c.from_residual.result c.from_residual.ensures.1 in
    rw (p.1, p.2) (λ header items made fits counted. stops_too header items c.args.item c.in_err-follow.field-0.0 c.follow.new.self _ (c.in_err-follow.ensures.follows header items made.made fits))

pub returns-in_err-follow-clause-kept : goal.returns-in_err-follow-clause-kept
returns-in_err-follow-clause-kept c =
    let p = err_from_is_err_and c.from_residual.result c.from_residual.ensures.1 in
    rw (p.1, p.2) (λ header items made fits. kept_too header items c.args.self.now.halls c.args.self.now.lines c.in_err-follow.field-0.0 c.follow.new.self made c.in_err-follow.ensures.unchanged)

pub returns-clause-follows : goal.returns-clause-follows
returns-clause-follows c = λ header items made fits counted.
    let lists = c.args.self.now.lines.items in
    let below : c.from-hall.result < length lists = omega (arith, c.if-hall-len.false, c.len.ensures, c.args.self.now.lines.ok.0) in
    let taken = c.in_ok-follow.ensures.follows header items made.made fits in (
      taken.0,
      record {
        made = taken.1;
        lines = AreLinesByHall-more header items c.args.item lists c.from-hall.result c.index_mut.result.now c.push.new.self c.args.line made.lines c.from-hall.ensures below c.index_mut.ensures.value c.in_ok-push.ensures.ok counted;
      },
    )
