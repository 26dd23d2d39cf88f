-- The calls that were under way at one place are no fewer than the kept settled families.
use Rattle.std.proofs.Common.{ℕ, ◌≡◌, ◌≤◌, true, inl, inr, List, Option, Some, length, nat_le, ap, sym, ◌∙◌, subst}
use Rattle.std.specs.List.{slice_get}
use Rattle.std.proofs.lemmas.Bool.{and_from, le-leb}
use Rattle.std.proofs.lemmas.Option.{same_Some}
use Rattle.tag.proofs.Lists.{Contains-slice_get, place_of}
use Rattle.recorder.specs.declared.part.Call.{Call}
use Rattle.recorder.specs.declared.part.Response.{Response}
use Rattle.recorder.specs.Parts.{IsSequence}
use Rattle.recorder.specs.Sound.{IsWrite}
use Rattle.value_order.specs.Families.{IsOfFamily}
use Rattle.value_order.specs.Tables.{ReadsBy}
use Rattle.value_order.proofs.CallKinds.{not_both}
use Rattle.kept_families.specs.SoundTables.{AreReads}
use Rattle.kept_families.specs.UnderWay.{AreKeptSettled, IsLatest, ends_from, under_way_count, was_under_way}
use Rattle.kept_families.proofs.Bounds.{under_way}
use Rattle.kept_families.proofs.OwnOnes.{HasOne, no_more}

-- a call that lasted over the place passes the test
counted : (row place : ℕ) (call : Call) (response : Response) → call.response ≡ Some response → call.invoked ≤ place
    → place ≤ response.place → response.place ≤ row → was_under_way row place call ≡ true
counted row place call response responds began lasted by =
    and_from (nat_le call.invoked place) (ends_from row place call.response) (le-leb call.invoked place began)
    (subst (λ (o : Option Response). ends_from row place o ≡ true) (sym responds)
    (and_from (nat_le place response.place) (nat_le response.place row) (le-leb place response.place lasted)
    (le-leb response.place row by)))

module _ (part : List Call) (source : ℕ → Option ℕ) (sequence : IsSequence part) (sound : AreReads part (ReadsBy part source)) where
  -- the call is of the family of the write of that number
  record IsOfNumber (number : ℕ) (call : Call) : Type 0 where
    write : Call
    named : write.op.0 ≡ number
    of : IsOfFamily part (ReadsBy part source) write call

  -- a call is of one family: a write is of its own, and a read has one entry
  one_family : (a b : ℕ) (call : Call) → IsOfNumber a call → IsOfNumber b call → a ≡ b
  one_family a b call x y = sym x.named ∙ (elim x.of.belongs [
    | inl own ↦ elim y.of.belongs [
      | inl same ↦ ap (λ (c : Call). c.op.0) (sym own ∙ same)
      | inr reads ↦ absurd (not_both call (sound.each y.write call reads).writer.answered.reads (subst (λ (c : Call). IsWrite c) (sym own) x.of.writes))
    ]
    | inr reads ↦ elim y.of.belongs [
      | inl own ↦ absurd (not_both call (sound.each x.write call reads).writer.answered.reads (subst (λ (c : Call). IsWrite c) (sym own) y.of.writes))
      | inr other ↦ same_Some x.write.op.0 y.write.op.0 (sym reads.is ∙ other.is)
    ]
  ] ∙ y.named)

  module _ (row place : ℕ) (latest : IsLatest part (ReadsBy part source) row place) (numbers : List ℕ) (are : AreKeptSettled part (ReadsBy part source) row numbers) where
    -- each has a call that was under way
    has_one : (k number : ℕ) → slice_get numbers k ≡ Some number → HasOne IsOfNumber (was_under_way row place) part number
    has_one k number at =
        let w = are.each number (Contains-slice_get numbers k number at) in
        let u = under_way part (ReadsBy part source) sequence sound row place latest w.0 w.2 in
        let p = place_of part u.call u.of.recorded in
        record {
          place = p.0;
          one = u.call;
          at = p.1;
          passes = counted row place u.call u.ended.response u.ended.responds u.began u.lasted u.ended.by;
          of = record { write = w.0; named = w.1; of = u.of };
        }

pub kept_are_few : (part : List Call) (source : ℕ → Option ℕ) (row place : ℕ) (numbers : List ℕ) → IsSequence part
    → AreReads part (ReadsBy part source) → IsLatest part (ReadsBy part source) row place
    → AreKeptSettled part (ReadsBy part source) row numbers → length numbers ≤ under_way_count part row place
kept_are_few part source row place numbers sequence sound latest are =
    no_more (IsOfNumber part source sequence sound) (was_under_way row place) (one_family part source sequence sound) numbers part are.once
    (has_one part source sequence sound row place latest numbers are)
