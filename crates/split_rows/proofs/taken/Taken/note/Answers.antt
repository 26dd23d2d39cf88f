use Rattle.std.proofs.Common.{◌≡◌, Ok, ap, sym, ◌∙◌, subst}
use Rattle.std.proofs.lemmas.Option.{none-some, same_Some}
use Rattle.std.proofs.lemmas.Result.{err_from_is_err_and}
use Rattle.recorder.specs.declared.row.Row.TheVariants.{Note}
use Rattle.open_calls.specs.Open.{Open}
use Rattle.split_rows.specs.declared.moved.Moved.{Moved}
use Rattle.split_rows.specs.Taken.{TakesNext}
use Rattle.split_rows.proofs.Calls.{noted_moved}
use Rattle.split_rows.proofs.Taking.{noted_keeps, piece_below}
use Rattle.split_rows.proofs.taken.Taken.note.Goals as goal

pub returns-in_err-note-clause-row : goal.returns-in_err-note-clause-row
returns-in_err-note-clause-row c = λ parts rows pieces tag formed k.
    let p = err_from_is_err_and c.from_residual.result c.from_residual.ensures.1 in
    let r = c.in_err-note.ensures.row rows tag k.opens in
    rw (p.1, p.2) (r.0, λ other. ap (λ (x : Open Moved). record c.args.self.now { calls = x }) r.1)

pub returns-in-Some-clause-row : goal.returns-in-Some-clause-row
returns-in-Some-clause-row c = λ parts rows pieces tag formed k.
    let old = c.args.self.now in
    let op = c.args.op in
    let new = c.note.new.self in
    let t = c.in_ok-note.ensures.row rows tag k.opens in
    let n = c.in_ok-note.ensures.ok in
    let same : c.in-Some.moved ≡ n.0.payload = same_Some c.in-Some.moved n.0.payload
    (sym c.in-Some.is ∙ (c.moved.ensures ∙ noted_moved old.calls new op n.0 n.2)) in
    subst (λ (m : Moved). TakesNext parts rows pieces old (Note op tag) (Ok m) (record old { calls = new })) (sym same) (
      t.0,
      piece_below parts rows formed pieces old k op new n.0 n.1.is,
      noted_keeps parts rows formed pieces old k op new n.0 n.1.is tag t.0 t.1 n.2,
    )

pub returns-in-None-clause-row : goal.returns-in-None-clause-row
returns-in-None-clause-row c = λ parts rows pieces tag formed k.
    let n = c.in_ok-note.ensures.ok in
    absurd (none-some n.0.payload (sym c.in-None.is ∙ (c.moved.ensures
    ∙ noted_moved c.args.self.now.calls c.note.new.self c.args.op n.0 n.2)))

pub returns-in_err-note-clause-free : goal.returns-in_err-note-clause-free
returns-in_err-note-clause-free c =
    let p = err_from_is_err_and c.from_residual.result c.from_residual.ensures.1 in
    rw (p.1, p.2) c.in_err-note.ensures.free
