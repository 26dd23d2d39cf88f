use Rattle.std.proofs.lemmas.Option.{slice_get_within}
use Rattle.tag_check.proofs.ByTag.{write_there}
use Rattle.tag_check.proofs.Values.{no_write, write_found}
use Rattle.tag_check.proofs.notes.Notes.write_of.Goals as goal

pub call-call-requires : goal.call-call-requires
call-call-requires c = let has = c.in_ok-k.ensures.0 in slice_get_within c.args.self.now.part.now c.in_ok-k.k has.0 has.1

pub returns-in_err-k : goal.returns-in_err-k
returns-in_err-k c = rw c.from_residual.ensures (no_write c.args.self.now.part.now c.args.tag c.in_err-k.ensures)

pub returns-in_err-value : goal.returns-in_err-value
returns-in_err-value c =
    let calls = c.args.self.now.part.now in
    let wrote = write_there calls c.args.tag c.in_ok-k.k c.call-call.result c.call-call.ensures c.in_ok-k.ensures.0 in
    rw c.from_residual-in_err-value.ensures (λ write there is. absurd (cc (wrote.0.1, c.in_err-value.ensures.read)))

pub returns : goal.returns
returns c = write_found c.args.self.now.part.now c.args.tag c.in_ok-k.k c.in_ok-k.ensures.0 c.call-call.result c.in_ok-value.value c.call-call.ensures c.in_ok-value.ensures.write
