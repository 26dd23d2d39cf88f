use Rattle.std.proofs.Common.{ℕ, ◌≡◌, ◌+◌, [], ◌∷◌, ◌++◌, length, ap, sym, ◌∙◌, refl, arith}
use Rattle.std.proofs.lemmas.Result.{err_from_is_err_and}
use Rattle.recorder.specs.declared.row.Row.TheVariants.{Note}
use Rattle.recorder.specs.Histories.{call_count}
use Rattle.growing_parts.proofs.Rows.{formed_next}
use Rattle.open_calls.specs.Open.{Open}
use Rattle.record_monitor.specs.declared.taken.Begun.{Begun}
use Rattle.record_monitor.proofs.Calls.{begun_noted}
use Rattle.record_monitor.proofs.Counting.{count_push, one_longer}
use Rattle.record_monitor.proofs.Finishing.{at_place, kept, small_place}
use Rattle.record_monitor.proofs.Taking.{note_at, noted_kept, with_calls}
use Rattle.record_monitor.proofs.taken.Taken.note.Goals as goal

pub returns-in_err-note : goal.returns-in_err-note
returns-in_err-note c = λ rows formed k.
    let p = err_from_is_err_and c.from_residual.result c.from_residual.ensures.1 in
    let r = c.in_err-note.ensures.row rows c.args.tag k.opens in
    rw (p.1, p.2) (r.0, λ other. ap (λ (x : Open Begun). record c.args.self.now { calls = x }) r.1)

pub returns-in_err-keep_note : goal.returns-in_err-keep_note
returns-in_err-keep_note c = λ rows formed k.
    let p = err_from_is_err_and c.from_residual-in_err-keep_note.result c.from_residual-in_err-keep_note.ensures.1 in
    rw (p.1, p.2) ((c.in_ok-note.ensures.row rows c.args.tag k.opens).0, λ other. absurd (other refl))

pub end_row-requires-clause-some : goal.end_row-requires-clause-some
end_row-requires-clause-some c =
    let old = c.args.self.now in
    let k = c.requires.keeps in
    let rows = c.requires.rows in
    let op = c.args.op in
    let row = Note op c.args.tag in
    let may = (c.in_ok-note.ensures.row rows c.args.tag k.opens).0 in
    let after = with_calls (length rows) (rows ++ row ∷ []) k.gone old c.note.new.self
    (noted_kept (length rows) rows k.gone old c.requires.formed op c.args.tag may k.keys) in
    let told = c.in_ok-keep_note.ensures.keys (rows ++ row ∷ []) k.gone (length rows) (note_at rows op c.args.tag old.place k.keys.at) after in
    (rows ++ row ∷ [], k.gone, at_place (length rows) (rows ++ row ∷ []) k.gone c.keep_note.new.self told)

pub end_row-requires-clause-small : goal.end_row-requires-clause-small
end_row-requires-clause-small c =
    let old = c.args.self.now in
    let k = c.requires.keeps in
    let rows = c.requires.rows in
    let op = c.args.op in
    let row = Note op c.args.tag in
    let may = (c.in_ok-note.ensures.row rows c.args.tag k.opens).0 in
    let after = with_calls (length rows) (rows ++ row ∷ []) k.gone old c.note.new.self
    (noted_kept (length rows) rows k.gone old c.requires.formed op c.args.tag may k.keys) in
    let told = c.in_ok-keep_note.ensures.keys (rows ++ row ∷ []) k.gone (length rows) (note_at rows op c.args.tag old.place k.keys.at) after in
    small_place rows (rows ++ row ∷ []) k.gone c.keep_note.new.self c.requires.formed k.few told

pub returns : goal.returns
returns c = λ rows formed k.
    let old = c.args.self.now in
    let op = c.args.op in
    let tag = c.args.tag in
    let row = Note op tag in
    let taken = c.in_ok-note.ensures.row rows tag k.opens in
    let may = taken.0 in
    let after = with_calls (length rows) (rows ++ row ∷ []) k.gone old c.note.new.self
    (noted_kept (length rows) rows k.gone old formed op tag may k.keys) in
    let told = c.in_ok-keep_note.ensures.keys (rows ++ row ∷ []) k.gone (length rows) (note_at rows op tag old.place k.keys.at) after in
    let ended = c.end_row.ensures.keys (rows ++ row ∷ []) k.gone (formed_next rows row formed may)
    (one_longer rows row ∙ ap (λ (n : ℕ). n + 1) (sym told.at))
    (at_place (length rows) (rows ++ row ∷ []) k.gone c.keep_note.new.self told) in
    let noted = c.in_ok-note.ensures.ok in
    let calls : call_count (rows ++ row ∷ []) ≡ call_count rows + 0 = count_push rows row in (
      may,
      kept (rows ++ row ∷ []) ended.0 c.end_row.new.self old.keys.numbers c.note.new.self ended.1
          (c.end_row.ensures.calls ∙ c.keep_note.ensures.calls)
          (c.end_row.ensures.numbers ∙ c.keep_note.ensures.numbers) taken.1
          (begun_noted rows row old.keys.numbers old.keys.numbers old.calls c.note.new.self
          (λ n key e. e) k.begun op noted.0 noted.1.is noted.2)
          (omega (arith, k.few, calls)),
      c.end_row.ensures.give_up ∙ c.keep_note.ensures.give_up,
    )
