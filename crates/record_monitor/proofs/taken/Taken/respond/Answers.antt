use Rattle.std.proofs.Common.{ℕ, ◌≡◌, ◌+◌, [], ◌∷◌, ◌++◌, length, ap, sym, ◌∙◌, arith}
use Rattle.recorder.specs.declared.row.Row.TheVariants.{Respond}
use Rattle.recorder.specs.Histories.{call_count}
use Rattle.growing_parts.proofs.Rows.{formed_next}
use Rattle.record_monitor.proofs.Calls.{begun_less}
use Rattle.record_monitor.proofs.Counting.{count_push, one_longer}
use Rattle.record_monitor.proofs.Finishing.{at_place, kept, small_place}
use Rattle.record_monitor.proofs.Taking.{with_calls}
use Rattle.record_monitor.proofs.taken.Taken.respond.Goals as goal

pub end-requires-clause-may : goal.end-requires-clause-may
end-requires-clause-may c =
    let old = c.args.self.now in
    let k = c.requires.keeps in
    let rows = c.requires.rows in (
      record {
        rows = rows;
        formed = c.requires.formed;
        gone = k.gone;
        keeps = with_calls (length rows) rows k.gone old c.answer.new.self k.keys;
        may = (c.in_ok-begun.ensures.row rows k.opens).0;
      },
      k.begun c.args.op c.in_ok-begun.field-0 c.in_ok-begun.ensures.given,
    )

pub end-requires-clause-small : goal.end-requires-clause-small
end-requires-clause-small c =
    let k = c.requires.keeps in
    small_place c.requires.rows c.requires.rows k.gone c.args.self.now c.requires.formed k.few k.keys

pub end_row-requires-clause-some : goal.end_row-requires-clause-some
end_row-requires-clause-some c =
    let old = c.args.self.now in
    let k = c.requires.keeps in
    let rows = c.requires.rows in
    let row = Respond c.args.op c.args.returned.now in
    let after = c.in_ok-end.ensures.keys rows k.gone c.requires.formed (c.in_ok-begun.ensures.row rows k.opens).0
    (k.begun c.args.op c.in_ok-begun.field-0 c.in_ok-begun.ensures.given)
    (with_calls (length rows) rows k.gone old c.answer.new.self k.keys) in
    (rows ++ row ∷ [], k.gone, at_place (length rows) (rows ++ row ∷ []) k.gone c.end.new.self after)

pub end_row-requires-clause-small : goal.end_row-requires-clause-small
end_row-requires-clause-small c =
    let old = c.args.self.now in
    let k = c.requires.keeps in
    let rows = c.requires.rows in
    let row = Respond c.args.op c.args.returned.now in
    let after = c.in_ok-end.ensures.keys rows k.gone c.requires.formed (c.in_ok-begun.ensures.row rows k.opens).0
    (k.begun c.args.op c.in_ok-begun.field-0 c.in_ok-begun.ensures.given)
    (with_calls (length rows) rows k.gone old c.answer.new.self k.keys) in
    small_place rows (rows ++ row ∷ []) k.gone c.end.new.self c.requires.formed k.few after

pub returns : goal.returns
returns c = λ rows formed k.
    let old = c.args.self.now in
    let op = c.args.op in
    let row = Respond op c.args.returned.now in
    let taken = c.in_ok-begun.ensures.row rows k.opens in
    let may = taken.0 in
    let after = c.in_ok-end.ensures.keys rows k.gone formed may (k.begun op c.in_ok-begun.field-0 c.in_ok-begun.ensures.given)
    (with_calls (length rows) rows k.gone old c.answer.new.self k.keys) in
    let ended = c.end_row.ensures.keys (rows ++ row ∷ []) k.gone (formed_next rows row formed may)
    (one_longer rows row ∙ ap (λ (n : ℕ). n + 1) (sym after.at))
    (at_place (length rows) (rows ++ row ∷ []) k.gone c.end.new.self after) in
    let calls : call_count (rows ++ row ∷ []) ≡ call_count rows + 0 = count_push rows row in (
      may,
      kept (rows ++ row ∷ []) ended.0 c.end_row.new.self old.keys.numbers c.answer.new.self ended.1
          (c.end_row.ensures.calls ∙ c.in_ok-end.ensures.calls) (c.end_row.ensures.numbers ∙ c.in_ok-end.ensures.numbers) taken.1
          (begun_less rows row old.keys.numbers old.keys.numbers old.calls c.answer.new.self
          (λ n key e. e) k.begun op c.in_ok-begun.ensures.ok)
          (omega (arith, k.few, calls)),
      c.end_row.ensures.give_up ∙ c.in_ok-end.ensures.give_up,
    )
