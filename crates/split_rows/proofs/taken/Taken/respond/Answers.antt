use Rattle.split_rows.proofs.Taking.{answered_keeps, piece_below}
use Rattle.split_rows.proofs.taken.Taken.respond.Goals as goal

pub returns-clause-row : goal.returns-clause-row
returns-clause-row c = λ parts rows pieces formed k.
    let old = c.args.self.now in
    let op = c.args.op in
    let new = c.answer.new.self in
    let call = c.in_ok-call.call in
    let was = c.in_ok-call.ensures.given in
    let t = c.in_ok-call.ensures.row rows k.opens in (
      t.0,
      piece_below parts rows formed pieces old k op new call was,
      answered_keeps parts rows formed pieces old k op new call was c.args.returned.now t.0 t.1 c.in_ok-call.ensures.ok,
    )
