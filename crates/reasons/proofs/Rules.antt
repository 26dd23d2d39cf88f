-- What each rule says of the calls that are found for it, and that a reason refutes sound tags.
use Rattle.std.proofs.Common.{◌≡◌, ◌≢◌, inl, inr, List, Option, Some, None, sym, ◌∙◌, ap, subst, arith}
use Rattle.std.specs.List.{Contains}
use Rattle.std.proofs.lemmas.Option.{none-some}
use Rattle.tag.specs.declared.actions.Action.TheVariants.{Write}
use Rattle.tag.specs.declared.actions.Returned.TheVariants.{Value}
use Rattle.tag.specs.declared.numbers.OpId.{OpId}
use Rattle.tag.specs.Tags.{Tag, IsBelow, least}
use Rattle.recorder.specs.declared.part.Call.{Call}
use Rattle.recorder.specs.Parts.{IsSequence}
use Rattle.recorder.specs.Sound.{TagSound, IsNoted}
use Rattle.recorder.proofs.Sequences.{same_call}
use Rattle.tag_check.specs.Least.{IsLeastCall, IsLeastPair}
use Rattle.tag_check.specs.Rules.{IsNotAbove, IsTooLow, IsOtherValue, IsWriteOf}
use Rattle.reasons.specs.Calls.{IsCallOf, AnswersNot, written_by}
use Rattle.reasons.specs.TagReasons.{BreaksRule, IsWriteOfTag, tag_value}
use Rattle.reasons.specs.declared.tag_reasons.TagReason.{TagReason}
use Rattle.reasons.specs.declared.tag_reasons.TagReason.TheVariants as reason

module _ (part : List Call) (sequence : IsSequence part) where
  -- the call that was found is the one that is spoken of
  one_call : (a b : Call) (op : OpId) → Contains part a → a.op ≡ op → IsCallOf part op b → a ≡ b
  one_call a b op there number found = same_call part sequence a b there found.0 (ap (λ (o : OpId). o.0) (number ∙ sym found.1))

  pub least_found : (P : Call → Type 0) (op : OpId) (call : Call) → IsLeastCall part P op → IsCallOf part op call → P call
  least_found P op call is found = subst P (one_call is.call call op is.recorded is.number found) is.has

  -- two calls that were found break the rule of the two that are spoken of
  pub pair_breaks : (R : Call → Call → Type 0) (a b : OpId) (earlier later : Call) → IsLeastPair part R a b → IsCallOf part a earlier
      → IsCallOf part b later → Contains part earlier × Contains part later × R earlier later
  pair_breaks R a b earlier later is first second =
      let one : is.call ≡ later = one_call is.call later b is.recorded is.number second in
      (first.0, second.0, subst (R earlier) one (least_found (λ (x : Call). R x is.call) a earlier is.partner first))

  -- a read that answers another value than the least tag stands for
  pub absent_found : (read : OpId) (call : Call) → IsOtherValue part read None → IsCallOf part read call → (call.note ≡ Some least) × AnswersNot call None
  absent_found read call is found =
      let same = one_call is.call call read is.recorded is.number found in
      let other = is.other in
      let value : other.response.returned ≡ Value None → ⊥ = λ e. other.other (e ∙ ap Value (sym other.stands.1)) in
      subst (λ (x : Call). (x.note ≡ Some least) × AnswersNot x None) same (other.noted ∙ ap Some other.stands.0, (other.reads, (other.response, other.responds, value)))

  -- and one that answers another value than the write with its tag wrote
  pub write_found : (read op : OpId) (call write : Call) → IsOtherValue part read (Some op) → IsCallOf part read call → IsCallOf part op write
      → ((tag : Tag) × (call.note ≡ Some tag) × (tag ≢ least) × IsWriteOf write tag) × AnswersNot call (written_by write.action)
  write_found read op call write is found wrote =
      let same = one_call is.call call read is.recorded is.number found in
      let other = is.other in
      let with = other.stands.2 in
      let one : with.write ≡ write = one_call with.write write op with.recorded with.number wrote in
      let action : write.action ≡ Write other.stands.1 = cc (with.writes, one) in
      let noted : write.note ≡ Some other.tag = cc (with.noted, one) in
      let value : other.value ≡ written_by write.action = other.stands.3 ∙ sym (ap written_by action) in
      let answer : other.response.returned ≡ Value (written_by write.action) → ⊥ = λ e. other.other (e ∙ ap Value (sym value)) in
      subst (λ (x : Call). ((tag : Tag) × (x.note ≡ Some tag) × (tag ≢ least) × IsWriteOf write tag) × AnswersNot x (written_by write.action)) same
      ((other.tag, other.noted, other.stands.0, ((other.stands.1, action), noted)), (other.reads, (other.response, other.responds, answer)))

-- ---- sound tags have no reason

module _ (part : List Call) (sound : TagSound part) where
  not_above : (a b : Call) → IsNotAbove a b → Contains part a → Contains part b → (s t : Tag) → a.note ≡ Some s → b.note ≡ Some t → IsTooLow b t s → ⊥
  not_above a b broken in_a in_b s t first second (inl below) =
      elim (sound.rising a b s t broken.precedes (record { recorded = in_a; noted = first }) (record { recorded = in_b; noted = second })) [
        | inl h ↦ omega arith
        | inr e ↦ omega (arith, ap (λ (u : Tag). u.number) e, ap (λ (u : Tag). u.writer) e)
      ]
  not_above a b broken in_a in_b s t first second (inr w) =
      let h : IsBelow s t = sound.rising_to_writes a b s t w.0 broken.precedes (record { recorded = in_a; noted = first }) (record { recorded = in_b; noted = second }) in
      omega (arith, ap (λ (u : Tag). u.number) w.1, ap (λ (u : Tag). u.writer) w.1)

  other_value : (read : Call) (write : Option Call) → Contains part read → IsWriteOfTag part read write → AnswersNot read (tag_value write) → ⊥
  other_value read None there noted answers =
      answers.1.2 (sound.absent read answers.1.0 answers.0 (record { recorded = there; noted = noted }) answers.1.1)
  other_value read (Some write) there noted answers =
      let tag = noted.1.0 in
      let right = sound.answers read answers.1.0 tag answers.0 (record { recorded = there; noted = noted.1.1 }) noted.1.2 answers.1.1 in
      let mine : IsNoted part write tag = record { recorded = noted.0; noted = noted.1.3.1 } in
      let same : write ≡ right.0 = sound.distinct write right.0 tag noted.1.3.0 (right.1, right.3) mine right.2 in
      let action : write.action ≡ Write right.1 = cc (right.3, same) in
      answers.1.2 (right.4 ∙ ap Value (sym (ap written_by action)))

  pub no_rule : (reason : TagReason) → BreaksRule part reason → ⊥
  no_rule (reason.NoNote call) breaks =
      let note = sound.noted call breaks.0 breaks.1.0 in
      none-some note.0 (sym breaks.1.1 ∙ note.1)
  no_rule (reason.LeastTag write) breaks =
      let below : IsBelow least least = sound.above write least breaks.1.0 (record { recorded = breaks.0; noted = breaks.1.1 }) in
      omega arith
  no_rule (reason.SameTag earlier later) breaks =
      let shared = breaks.2 in
      let first : IsNoted part earlier shared.0 = record { recorded = breaks.0; noted = shared.2.1 } in
      let second : IsNoted part later shared.0 = record { recorded = breaks.1; noted = shared.3.1 } in
      let same : earlier ≡ later = sound.distinct earlier later shared.0 shared.2.0 shared.3.0 first second in
      let number : earlier.op.0 ≡ later.op.0 = ap (λ (x : Call). x.op.0) same in
      omega (arith, shared.1)
  no_rule (reason.NotAbove earlier later) breaks =
      let broken = breaks.2 in
      not_above earlier later broken breaks.0 breaks.1 broken.s broken.t broken.first broken.second broken.low
  no_rule (reason.NoWrite read unnoted) breaks =
      let broken = breaks.1 in
      let answered = broken.answered in
      let right = sound.answers read answered.1.0 broken.tag answered.0 (record { recorded = breaks.0; noted = answered.2 }) broken.other answered.1.1 in
      broken.unwritten right.0 right.2.recorded ((right.1, right.3), right.2.noted)
  no_rule (reason.OtherValue read write unnoted) breaks = other_value read write breaks.0 breaks.1 breaks.2
