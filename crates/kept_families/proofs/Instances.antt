-- Sound tables there are.
use Rattle.std.proofs.Common.{ℕ, ◌≡◌, Option, Some, None, Bool, true, false, inl, List, nat_eq, sym, subst, refl, arith, eq-eqb}
use Rattle.std.specs.List.{Contains}
use Rattle.std.proofs.lemmas.Bool.Decides.{nat_tests}
use Rattle.std.proofs.lemmas.Option.{same_Some, none-some}
use Rattle.recorder.specs.declared.part.Call.{Call}
use Rattle.recorder.specs.Parts.{IsSequence}
use Rattle.recorder.proofs.Sequences.{same_call}
use Rattle.value_order.specs.Tables.{ReadsBy}
use Rattle.value_order.specs.Writers.{IsOnlyWriter}
use Rattle.kept_families.specs.SoundTables.{AreReads}

pub only_sound : (part : List Call) (source : ℕ → Option ℕ) → ((write read : Call) → ReadsBy part source write read → IsOnlyWriter part write read) → AreReads part (ReadsBy part source)
only_sound part source only = record {
  recorded = λ write read reads. reads.recorded;
  each = λ write read reads. (let o = only write read reads in record { writer = o.writer; passed = λ other is. inl (o.only other is) });
}

-- the table with one entry
entry_by : Bool → ℕ → Option ℕ
entry_by true target = Some target
entry_by false target = None

entry : ℕ → ℕ → ℕ → Option ℕ
entry number target n = entry_by (nat_eq n number) target

entry_is : (b : Bool) (target t : ℕ) → entry_by b target ≡ Some t → (b ≡ true) × (target ≡ t)
unfolding entry_by
entry_is true target t e = (refl, same_Some target t e)
entry_is false target t e = absurd (none-some t e)

entry_has : (b : Bool) (target : ℕ) → b ≡ true → entry_by b target ≡ Some target
unfolding entry_by
entry_has true target e = refl
entry_has false target e = absurd (cc)

same_number : (n number : ℕ) → nat_eq n number ≡ true → n ≡ number
same_number n number e = grind (arith, nat_tests)

pub one_entry : (part : List Call) (write read : Call) → IsSequence part → Contains part read → IsOnlyWriter part write read → (source : ℕ → Option ℕ) × AreReads part (ReadsBy part source) × ReadsBy part source write read
unfolding entry
one_entry part write read sequence there only =
    let source = entry read.op.0 write.op.0 in (
      source,
      only_sound part source (λ w r reads.
          let e = entry_is (nat_eq r.op.0 read.op.0) write.op.0 w.op.0 reads.is in
          let of_r : read ≡ r = same_call part sequence read r there reads.recorded (sym (same_number r.op.0 read.op.0 e.0)) in
          let of_w : write ≡ w = same_call part sequence write w only.writer.recorded reads.written e.1 in
          subst (IsOnlyWriter part w) of_r (subst (λ (k : Call). IsOnlyWriter part k read) of_w only)),
      record { written = only.writer.recorded; recorded = there; is = entry_has (nat_eq read.op.0 read.op.0) write.op.0 (eq-eqb read.op.0 read.op.0 refl) },
    )
