-- A broken rule refutes that the tags are sound.
use Rattle.std.proofs.Common.{◌≡◌, ◌↔◌, inl, inr, List, Option, Some, None, Result, Ok, Err, IfOk, refl, ap, sym, ◌∙◌, arith}
use Rattle.std.specs.List.{Contains}
use Rattle.std.proofs.lemmas.Option.{none-some}
use Rattle.tag.specs.declared.actions.Returned.TheVariants.{Value}
use Rattle.tag.specs.declared.memory.Memory.{Memory}
use Rattle.tag.specs.declared.numbers.OpId.{OpId}
use Rattle.tag.specs.Tags.{Tag, IsBelow, least}
use Rattle.recorder.specs.declared.part.Call.{Call}
use Rattle.recorder.specs.Sound.{TagSound, IsNoted}
use Rattle.tag_check.specs.declared.rule.BrokenRule.{BrokenRule}
use Rattle.tag_check.specs.declared.rule.BrokenRule.TheVariants.{NoNote, LeastTag, SameTag, NotAbove, NoWrite, OtherValue}
use Rattle.tag_check.specs.Rules.{IsNotAbove, IsTooLow, AnswersOther, IsValueOf}
use Rattle.tag_check.specs.Verdicts.{IsBroken, IsTagVerdict}

-- a call that isn't above one that precedes it
low_refuted : (part : List Call) (a b : Call) (s t : Tag) → IsNotAbove a b → TagSound part → IsNoted part a s → IsNoted part b t → IsTooLow b t s → ⊥
low_refuted part a b s t broken sound x y (inl below) =
    elim (sound.rising a b s t broken.precedes x y) [
      | inl h ↦ omega arith
      | inr e ↦
          let number : s.number ≡ t.number = ap (λ (u : Tag). u.number) e in
          let writer : s.writer ≡ t.writer = ap (λ (u : Tag). u.writer) e in
          omega arith
    ]
low_refuted part a b s t broken sound x y (inr w) =
    let h : IsBelow s t = sound.rising_to_writes a b s t w.0 broken.precedes x y in
    let number : s.number ≡ t.number = ap (λ (u : Tag). u.number) w.1 in
    let writer : s.writer ≡ t.writer = ap (λ (u : Tag). u.writer) w.1 in
    omega arith

-- a read that answers another value than its tag stands for
value_refuted : (part : List Call) (call : Call) (write : Option OpId) → (other : AnswersOther part call write) → Contains part call → TagSound part → IsValueOf part other.tag write other.value → ⊥
value_refuted part call None other there sound stands =
    let noted : IsNoted part call least = record { recorded = there; noted = other.noted ∙ ap Some stands.0 } in
    other.other (sound.absent call other.response other.reads noted other.responds ∙ ap Value (sym stands.1))
value_refuted part call (Some op) other there sound stands =
    let noted : IsNoted part call other.tag = record { recorded = there; noted = other.noted } in
    let right = sound.answers call other.response other.tag other.reads noted stands.0 other.responds in
    let with = stands.2 in
    let mine : IsNoted part with.write other.tag = record { recorded = with.recorded; noted = with.noted } in
    let one : with.write ≡ right.0 = sound.distinct with.write right.0 other.tag (stands.1, with.writes) (right.1, right.3) mine right.2 in
    let text : Some stands.1 ≡ Some right.1 = cc (one, with.writes, right.3) in
    other.other (right.4 ∙ ap Value (sym (stands.3 ∙ text)))

pub refuted : (part : List Call) (rule : BrokenRule) → IsBroken part rule → TagSound part → ⊥
refuted part (NoNote call) h sound = let note = sound.noted h.call h.recorded h.has.0 in none-some note.0 (sym h.has.1 ∙ note.1)
refuted part (LeastTag write) h sound =
    let below : IsBelow least least = sound.above h.call least h.has.0 (record { recorded = h.recorded; noted = h.has.1 }) in
    omega arith
refuted part (SameTag earlier later) h sound =
    let second = h.partnered in
    let first = second.has in
    let shared = first.2 in
    let same : first.0 ≡ second.call = sound.distinct first.0 second.call shared.0 shared.2.0 shared.3.0 (record { recorded = first.1; noted = shared.2.1 }) (record { recorded = second.recorded; noted = shared.3.1 }) in
    let number : first.0.op.0 ≡ second.call.op.0 = ap (λ (x : Call). x.op.0) same in
    omega (arith, shared.1)
refuted part (NotAbove earlier later) h sound =
    let second = h.partnered in
    let first = second.has in
    let broken = first.2 in
    low_refuted part first.0 second.call broken.s broken.t broken sound (record { recorded = first.1; noted = broken.first }) (record { recorded = second.recorded; noted = broken.second }) broken.low
refuted part (NoWrite read) h sound =
    let broken = h.has in
    let right = sound.answers h.call broken.answered.1.0 broken.tag broken.answered.0 (record { recorded = h.recorded; noted = broken.answered.2 }) broken.other broken.answered.1.1 in
    broken.unwritten right.0 right.2.recorded ((right.1, right.3), right.2.noted)
refuted part (OtherValue read write) h sound = value_refuted part h.call write h.other h.recorded sound h.other.stands

-- the tags are sound exactly where no rule is broken
pub sound_exactly : (part : List Call) (verdict : Option BrokenRule) → IsTagVerdict part verdict → (verdict ≡ None) ↔ TagSound part
sound_exactly part None h = (λ _. h, λ _. refl)
sound_exactly part (Some rule) h = (λ e. absurd (none-some rule (sym e)), λ sound. absurd (refuted part rule h.1 sound))

pub sound_exactly_ok : (part : List Call) (r : Result (Option BrokenRule) Memory) → IfOk r (IsTagVerdict part) → IfOk r (λ verdict. (verdict ≡ None) ↔ TagSound part)
sound_exactly_ok part (Ok verdict) h = sound_exactly part verdict h
sound_exactly_ok part (Err e) h = tt
