use Rattle.std.proofs.Common.{ℕ, ◌≡◌, ◌+◌, List, Option, Some, None, false, sym, ◌∙◌}
use Rattle.std.specs.Option.{is_some}
use Rattle.std.proofs.lemmas.Bool.{false≢true}
use Rattle.std.specs.List.{slice_get}
use Rattle.tag.specs.declared.numbers.OpId.{OpId}
use Rattle.recorder.specs.declared.part.Call.{Call}
use Rattle.recorder.specs.Parts.{IsSequence}
use Rattle.tag_check.specs.Least.{IsFirstBefore, IsLeastCall}
use Rattle.tag_check.specs.Rules.{IsLeastWrite}
use Rattle.tag_check.proofs.Calls.{first_here, first_none, first_stays, none_more}
use Rattle.tag_check.proofs.notes.Notes.first_least_write.Goals as goal

-- where none before it is one, the call at an index is the first, or none is up to it
module _ (calls : List Call) (i : ℕ) (call : Call) (at : slice_get calls i ≡ Some call) (least : Option OpId) (none : is_some least ≡ false) (before : IsFirstBefore calls IsLeastWrite i least) where
  least_here : IsSequence calls → IsLeastWrite call → IsLeastCall calls IsLeastWrite call.op
  least_here sequence is = first_here calls sequence IsLeastWrite i call at is (first_none calls IsLeastWrite i least none before)

  least_later : (IsLeastWrite call → ⊥) → IsFirstBefore calls IsLeastWrite (i + 1) None
  least_later other = none_more calls IsLeastWrite i call at other (first_none calls IsLeastWrite i least none before)

pub returns-then-is_some : goal.returns-then-is_some
returns-then-is_some c = first_stays c.args.self.now.part.now IsLeastWrite c.args.i c.args.least (sym c.is_some.ensures ∙ c.if-is_some.true) c.requires.before

pub returns-then-is_least_write : goal.returns-then-is_least_write
returns-then-is_least_write c = least_here c.args.self.now.part.now c.args.i c.call-call.result c.call-call.ensures c.args.least (sym c.is_some.ensures ∙ c.if-is_some.false) c.requires.before
    c.args.self.now.sequence (c.is_least_write.ensures.0 c.if-is_least_write.true)

pub returns-else-is_least_write : goal.returns-else-is_least_write
returns-else-is_least_write c = least_later c.args.self.now.part.now c.args.i c.call-call.result c.call-call.ensures c.args.least (sym c.is_some.ensures ∙ c.if-is_some.false) c.requires.before
    (λ h. false≢true (sym c.if-is_least_write.false ∙ c.is_least_write.ensures.1 h))
