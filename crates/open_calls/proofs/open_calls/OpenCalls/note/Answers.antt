use Rattle.std.proofs.Common.{refl}
use Rattle.std.proofs.lemmas.Result.{err_from_is_err_and}
use Rattle.open_calls.specs.Open.{call_at}
use Rattle.open_calls.proofs.Answers.{may_note, note_refused}
use Rattle.open_calls.proofs.Keeping.{is_there, keeps_noted}
use Rattle.open_calls.proofs.open_calls.OpenCalls.note.Goals as goal

pub set_note-requires : goal.set_note-requires
set_note-requires g c = let m = c.in_ok-check_note.ensures.ok in is_there (call_at c.args.self.now c.args.op.0) m.0 m.1.is

pub returns-in_err-check_note-clause-row : goal.returns-in_err-check_note-clause-row
returns-in_err-check_note-clause-row g c = λ rows tag keeps.
    let p = err_from_is_err_and c.from_residual.result c.from_residual.ensures.1 in
    rw (p.1, p.2) (note_refused rows c.args.self.now keeps c.args.op tag c.in_err-check_note.field-0.0 c.in_err-check_note.ensures.err, refl)

pub returns-clause-row : goal.returns-clause-row
returns-clause-row g c = λ rows tag keeps.
    let m = c.in_ok-check_note.ensures.ok in
    (may_note rows c.args.self.now keeps c.args.op tag m.0 m.1, rw (c.set_note.ensures m.0 m.1.is) (keeps_noted rows c.args.self.now keeps c.args.op tag m.0 m.1.is))

pub returns-clause-ok : goal.returns-clause-ok
returns-clause-ok g c = let m = c.in_ok-check_note.ensures.ok in (m.0, m.1, c.set_note.ensures m.0 m.1.is)
