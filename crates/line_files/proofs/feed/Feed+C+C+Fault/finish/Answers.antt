use Rattle.std.proofs.Common.{◌≡◌, ◌<◌, length, sym, ◌∙◌, arith, eqb-true}
use Rattle.std.specs.Vec.{vec_len}
use Rattle.tag.proofs.Below.{above_zero}
use Rattle.std.proofs.lemmas.Result.{err_from_is_err_and}
use Rattle.line_files.proofs.FeedLemmas.{read_by, none_left, last_read, last_stops}
use Rattle.line_files.proofs.feed.Feed+C+C+Fault.finish.Goals as goal
use Rattle.line_files.proofs.feed.Feed+C+C+Fault.finish.Goals.{then-not-is_empty+in_ok-read_block, else-not-is_empty}

pub returns-in_err-read_block-clause-ends : goal.returns-in_err-read_block-clause-ends
returns-in_err-read_block-clause-ends g c = λ bytes s.
    let p = err_from_is_err_and c.from_residual.result c.from_residual.ensures.1 in
    let fault = c.in_err-read_block.field-0.0 in
    let feed = c.args.self in
    let some : 0 < length feed.rest.items = omega (arith, above_zero (vec_len feed.rest) (sym c.is_empty.ensures ∙ c.if-not-is_empty.true), feed.rest.ok.0) in
    rw (p.1, p.2) (last_stops g.C.Contents.Reads bytes feed s g.C.Contents.rules some fault.line fault.kind (c.in_err-read_block.ensures.reads bytes (read_by g.C.Contents.Reads bytes feed s)))

pub returns-clause-ends : goal.returns-clause-ends
returns-clause-ends g c = λ bytes s.
    let feed = c.args.self in
    elim c.if-not-is_empty.branch [
      | then-not-is_empty+in_ok-read_block w ↦
          let some : 0 < length feed.rest.items = omega (arith, above_zero (vec_len feed.rest) (sym c.is_empty.ensures ∙ w.if-not-is_empty.true), feed.rest.ok.0) in
          c.whole.ensures bytes s.lines feed.rest.items s.splits (rw w.progress-is (last_read g.C.Contents.Reads bytes feed s some w.read_block.new.self _ (w.in_ok-read_block.ensures.reads bytes (read_by g.C.Contents.Reads bytes feed s)).0).made)
      | else-not-is_empty w ↦
          let empty : vec_len feed.rest ≡ 0 = eqb-true (vec_len feed.rest) 0 (sym w.if-not-is_empty.ensures) in
          let none : length feed.rest.items ≡ 0 = omega (arith, empty, feed.rest.ok.0) in
          c.whole.ensures bytes s.lines feed.rest.items s.splits (rw w.progress-is (none_left g.C.Contents.Reads bytes feed s none).made)
    ]
