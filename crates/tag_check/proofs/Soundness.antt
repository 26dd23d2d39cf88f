-- Where no rule is broken, the tags are sound.
use Rattle.std.proofs.Common.{ℕ, ◌≡◌, ◌≢◌, ◌⊎◌, inl, inr, List, Option, Some, None, refl, ap, sym, ◌∙◌, arith}
use Rattle.std.specs.List.{Contains}
use Rattle.std.proofs.lemmas.Bool.{cases_lt}
use Rattle.tag.specs.declared.actions.Action.TheVariants.{Write}
use Rattle.tag.specs.declared.actions.Returned.TheVariants.{Value}
use Rattle.tag.specs.Tags.{Tag, least}
use Rattle.recorder.specs.declared.part.Call.{Call}
use Rattle.recorder.specs.declared.part.Response.{Response}
use Rattle.recorder.specs.Parts.{IsSequence}
use Rattle.tag.proofs.Lists.{Contains-slice_get}
use Rattle.recorder.specs.Sound.{TagSound, IsRead, IsNoted}
use Rattle.tag_check.specs.Least.{LacksCall, HasPartner}
use Rattle.tag_check.specs.Rules.{LacksNote, IsLeastWrite, IsNotAbove, AnswersNoWrite, AllAnswerRight}
use Rattle.tag_check.specs.Writes.{HasWriteAt, AreWrites}
use Rattle.recorder.proofs.Sequences.{same_call}
use Rattle.tag_check.proofs.TagOrder.{tag_cases, above_least}
use Rattle.tag_check.proofs.ByTag.{Entry, none_shared_all, write_or_none}
use Rattle.tag_check.proofs.Values.{no_write}

-- an option that isn't none
note_of : (note : Option Tag) → (note ≡ None → ⊥) → (tag : Tag) × (note ≡ Some tag)
note_of None h = absurd (h refl)
note_of (Some tag) h = (tag, refl)

-- what a completed read of a tag answers, where a write with the tag was looked for
answer_of : (calls : List Call) → LacksCall calls (AnswersNoWrite calls) → AllAnswerRight calls → (a : Call) (response : Response) (tag : Tag) → IsRead a → IsNoted calls a tag → tag ≢ least → a.response ≡ Some response
    → ((k : ℕ) × HasWriteAt calls tag k) ⊎ ((k : ℕ) → HasWriteAt calls tag k → ⊥) → (write : Call) × (value : List ℕ) × IsNoted calls write tag × (write.action ≡ Write value) × (response.returned ≡ Value (Some value))
answer_of calls written right a response tag reads x other responds (inr none) = absurd (written a x.recorded (record { tag = tag; answered = (reads, (response, responds), x.noted); other = other; unwritten = no_write calls tag none }))
answer_of calls written right a response tag reads x other responds (inl found) =
    let real = found.1 in
    let write = real.0 in
    let there : Contains calls write = Contains-slice_get calls found.0 write real.1 in
    let text = real.2.0.0 in
    (write, text, record { recorded = there; noted = real.2.1 }, real.2.0.1, right a x.recorded tag (Some write.op) (Some text) response reads x.noted responds (other, text, record { write = write; recorded = there; number = refl; noted = real.2.1; writes = real.2.0.1 }, refl))

pub sound_of_none : (calls : List Call) → IsSequence calls → (noted : List Entry) → AreWrites calls noted → LacksCall calls LacksNote → LacksCall calls IsLeastWrite → LacksCall calls (HasPartner calls IsNotAbove) → LacksCall calls (AnswersNoWrite calls) → AllAnswerRight calls → TagSound calls
sound_of_none calls sequence entries are noted greater above written right = record {
  noted = λ call there completed. note_of call.note (λ none. noted call there (completed, none));
  rising = λ a b s t precedes x y. elim (tag_cases t s) [
    | inl h ↦ absurd (above b y.recorded (a, x.recorded, record { s = s; t = t; precedes = precedes; first = x.noted; second = y.noted; low = inl h }))
    | inr h ↦ h
  ];
  rising_to_writes = λ a b s t write precedes x y. elim (tag_cases s t) [
    | inl h ↦ h
    | inr h ↦ absurd (above b y.recorded (a, x.recorded, record { s = s; t = t; precedes = precedes; first = x.noted; second = y.noted; low = elim h [ inl less ↦ inl less | inr same ↦ inr (write, sym same) ] }))
  ];
  distinct = λ a b tag write_a write_b x y. elim (cases_lt a.op.0 b.op.0) [
    | inl h ↦ absurd (none_shared_all calls are.own b y.recorded (a, x.recorded, (tag, h, (write_a, x.noted), (write_b, y.noted))))
    | inr h ↦ elim (cases_lt b.op.0 a.op.0) [
      | inl g ↦ absurd (none_shared_all calls are.own a x.recorded (b, y.recorded, (tag, g, (write_b, y.noted), (write_a, x.noted))))
      | inr g ↦ same_call calls sequence a b x.recorded y.recorded (omega arith)
    ]
  ];
  above = λ a tag write x. above_least tag (λ same. greater a x.recorded (write, x.noted ∙ ap Some same));
  absent = λ a response reads x responds. right a x.recorded least None None response reads x.noted responds (refl, refl);
  answers = λ a response tag reads x other responds. answer_of calls written right a response tag reads x other responds (write_or_none calls entries are.entries tag);
}
