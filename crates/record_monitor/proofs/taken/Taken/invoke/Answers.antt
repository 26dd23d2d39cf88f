use Rattle.std.proofs.Common.{ℕ, ◌≡◌, ◌+◌, [], ◌∷◌, ◌++◌, length, ap, sym, ◌∙◌, refl, arith}
use Rattle.std.proofs.lemmas.Result.{err_from_is_err_and}
use Rattle.recorder.specs.declared.row.Row.TheVariants.{Invoke}
use Rattle.recorder.specs.Histories.{call_count}
use Rattle.growing_parts.proofs.Rows.{formed_next}
use Rattle.open_calls.specs.Open.{Open}
use Rattle.record_monitor.specs.declared.taken.Begun.{Begun}
use Rattle.record_monitor.proofs.Calls.{begun_more, begun_now}
use Rattle.record_monitor.proofs.Counting.{count_push, one_longer}
use Rattle.record_monitor.proofs.Finishing.{at_place, kept, small_place}
use Rattle.record_monitor.proofs.Taking.{with_calls}
use Rattle.record_monitor.proofs.taken.Taken.invoke.Goals as goal

pub returns-in_err-begin : goal.returns-in_err-begin
returns-in_err-begin c = λ rows formed k.
    let p = err_from_is_err_and c.from_residual.result c.from_residual.ensures.1 in
    let r = c.in_err-begin.ensures.row rows c.args.key.now formed k.opens in
    rw (p.1, p.2) (r.0, λ other. ap (λ (x : Open Begun). record c.args.self.now { calls = x }) r.1)

pub begin-requires-2-clause-may : goal.begin-requires-2-clause-may
begin-requires-2-clause-may c =
    let old = c.args.self.now in
    let k = c.requires.some.keeps in
    let rows = c.requires.some.rows in
    record {
      rows = rows;
      formed = c.requires.some.formed;
      gone = k.gone;
      keeps = with_calls (length rows) rows k.gone old c.begin.new.self k.keys;
      may = (c.in_ok-begin.ensures.row rows c.args.key.now c.requires.some.formed k.opens).0;
    }

pub begin-requires-2-clause-small : goal.begin-requires-2-clause-small
begin-requires-2-clause-small c =
    let k = c.requires.some.keeps in
    let rows = c.requires.some.rows in
    small_place rows rows k.gone c.args.self.now c.requires.some.formed k.few k.keys

pub returns-in_err-begin-2 : goal.returns-in_err-begin-2
returns-in_err-begin-2 c = λ rows formed k.
    let p = err_from_is_err_and c.from_residual-in_err-begin-2.result c.from_residual-in_err-begin-2.ensures.1 in
    rw (p.1, p.2) ((c.in_ok-begin.ensures.row rows c.args.key.now formed k.opens).0, λ other. absurd (other refl))

pub end_row-requires-clause-some : goal.end_row-requires-clause-some
end_row-requires-clause-some c =
    let old = c.args.self.now in
    let k = c.requires.some.keeps in
    let rows = c.requires.some.rows in
    let row = Invoke c.args.op c.args.client c.args.key.now c.args.action.now in
    let after = c.in_ok-begin-2.ensures.keys rows k.gone c.requires.some.formed
    (c.in_ok-begin.ensures.row rows c.args.key.now c.requires.some.formed k.opens).0
    (with_calls (length rows) rows k.gone old c.begin.new.self k.keys) in
    (rows ++ row ∷ [], k.gone, at_place (length rows) (rows ++ row ∷ []) k.gone c.begin-2.new.self after)

pub end_row-requires-clause-small : goal.end_row-requires-clause-small
end_row-requires-clause-small c =
    let old = c.args.self.now in
    let k = c.requires.some.keeps in
    let rows = c.requires.some.rows in
    let row = Invoke c.args.op c.args.client c.args.key.now c.args.action.now in
    let after = c.in_ok-begin-2.ensures.keys rows k.gone c.requires.some.formed
    (c.in_ok-begin.ensures.row rows c.args.key.now c.requires.some.formed k.opens).0
    (with_calls (length rows) rows k.gone old c.begin.new.self k.keys) in
    small_place rows (rows ++ row ∷ []) k.gone c.begin-2.new.self c.requires.some.formed k.few after

pub returns : goal.returns
returns c = λ rows formed k.
    let old = c.args.self.now in
    let op = c.args.op in
    let key = c.args.key.now in
    let row = Invoke op c.args.client key c.args.action.now in
    let taken = c.in_ok-begin.ensures.row rows key formed k.opens in
    let may = taken.0 in
    let after = c.in_ok-begin-2.ensures.keys rows k.gone formed may
    (with_calls (length rows) rows k.gone old c.begin.new.self k.keys) in
    let ended = c.end_row.ensures.keys (rows ++ row ∷ []) k.gone (formed_next rows row formed may)
    (one_longer rows row ∙ ap (λ (n : ℕ). n + 1) (sym after.at))
    (at_place (length rows) (rows ++ row ∷ []) k.gone c.begin-2.new.self after) in
    let calls : call_count (rows ++ row ∷ []) ≡ call_count rows + 1 = count_push rows row in (
      may,
      kept (rows ++ row ∷ []) ended.0 c.end_row.new.self c.begin-2.new.self.keys.numbers c.begin.new.self ended.1
          (c.end_row.ensures.calls ∙ c.in_ok-begin-2.ensures.calls) c.end_row.ensures.numbers taken.1
          (begun_more rows row old.keys.numbers c.begin-2.new.self.keys.numbers old.calls c.begin.new.self
          c.in_ok-begin-2.ensures.stay k.begun op
          c.args.client _ _ (may.0 ∙ sym k.opens.begun) c.in_ok-begin.ensures.ok
          (begun_now rows c.begin-2.new.self.keys.numbers op c.args.client key c.args.action.now _ k.keys.at refl c.in_ok-begin-2.ensures.here))
          (omega (arith, k.few, calls, may.0, c.call_number-number.type_inv, c.call_number-number.ensures)),
      c.end_row.ensures.give_up ∙ c.in_ok-begin-2.ensures.give_up,
    )
