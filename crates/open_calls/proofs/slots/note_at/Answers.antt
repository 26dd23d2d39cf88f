use Rattle.std.proofs.Common.{Some, ap, ◌∙◌}
use Rattle.open_calls.specs.Numbered.{noted_call}
use Rattle.open_calls.proofs.slots.note_at.Goals as goal

pub returns-in-Some : goal.returns-in-Some
returns-in-Some g c = record {
  call = c.in-Some.call;
  was = c.in-Some.is ∙ ap (λ n. Some (n, c.in-Some.call)) c.if-own-number.true;
  is = ap (λ n. Some (n, noted_call c.in-Some.call)) c.if-own-number.true;
}
