use Rattle.std.proofs.Common.{[], sym, ap, ◌∙◌, arith}
use Rattle.std.proofs.lemmas.List.{append-nil}
use Rattle.tag.specs.declared.actions.Returned.{Returned}
use Rattle.tag.specs.declared.actions.Returned.TheVariants.{Value}
use Rattle.recorder.specs.declared.row.Row.TheVariants.{Respond}
use Rattle.recorder.specs.Shown.{answer_of}
use Rattle.recorder.proofs.row_table.keep_answer.Goals as goal

pub returns-in-None-clause-ok : goal.returns-in-None-clause-ok
returns-in-None-clause-ok c = record {
  more = [];
  texts = sym (append-nil c.args.texts.now.items);
  short = omega (arith);
  there = λ keys. tt;
  shown = λ keys. ap (λ (r : Returned). Respond c.args.op r) (sym c.in-None.ensures.done);
  value = record { there = λ span is. absurd (cc); shown = ap answer_of (sym c.in-None.ensures.done) };
}

pub returns-in-Some-None-clause-ok : goal.returns-in-Some-None-clause-ok
returns-in-Some-None-clause-ok c = record {
  more = [];
  texts = sym (append-nil c.args.texts.now.items);
  short = omega (arith);
  there = λ keys. tt;
  shown = λ keys. ap (λ (r : Returned). Respond c.args.op r) (sym (c.in-Some-None.ensures.read ∙ ap Value c.in-Some-None.field-0-is));
  value = record { there = λ span is. absurd (cc); shown = ap answer_of (sym (c.in-Some-None.ensures.read ∙ ap Value c.in-Some-None.field-0-is)) };
}
