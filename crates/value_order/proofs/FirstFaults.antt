-- What a fault says of the source of its read.
use Rattle.std.proofs.Common.{ℕ, ◌≡◌, ◌≢◌, ◌≤◌, inl, inr, List, Some, sym, ◌∙◌, ap, subst, refl, arith}
use Rattle.std.specs.List.{slice_get, Contains}
use Rattle.std.proofs.lemmas.Bool.{cases_lt}
use Rattle.std.proofs.lemmas.Option.{same_Some}
use Rattle.tag.specs.declared.numbers.OpId.{OpId}
use Rattle.tag.proofs.Lists.{place_of, Contains-slice_get}
use Rattle.tag_check.specs.Least.{IsLeastCall, IsLeastPair, HasPartner}
use Rattle.tag_check.proofs.Calls.{NoneBelow, first_here}
use Rattle.recorder.specs.declared.part.Call.{Call}
use Rattle.recorder.specs.Parts.{IsSequence}
use Rattle.value_order.specs.declared.decision.Doubt.{Doubt}
use Rattle.value_order.specs.declared.sources.Source.{Source}
use Rattle.value_order.specs.declared.sources.Source.TheVariants as source
use Rattle.value_order.specs.Doubts.{AreNamed, IsDoubtOf, IsLeastDoubt}
use Rattle.value_order.specs.Faults.{AnswersUnwritten, EndsTooEarly}
use Rattle.value_order.specs.Sources.{HasLeastWriters, EndsBefore, IsSource}
use Rattle.value_order.specs.Writers.{IsWriter, IsOnlyWriter, IsInDoubt}
use Rattle.value_order.proofs.CallKinds.{not_both, not_answered, nothing_no_value, nothing_not_unwritten, written_not_unwritten, doubt_not_only}
use Rattle.value_order.proofs.Members.{two_writers}

-- 1
pub unwritten_is : (part : List Call) (call : Call) (from : Source) → IsSource part call from → AnswersUnwritten part call → from ≡ source.Unwritten
unwritten_is part call source.Write is u = absurd (not_both call u.reads is)
unwritten_is part call (source.Only k) is u = absurd (written_not_unwritten part is.write call is.is.writer.value is.is.writer.recorded is.is.writer.writes is.is.writer.answered u)
unwritten_is part call (source.Doubt k m) is u = absurd (written_not_unwritten part is.one call is.first.value is.first.recorded is.first.writes is.first.answered u)
unwritten_is part call (source.Early k) is u = absurd (written_not_unwritten part is.write call is.is.value (Contains-slice_get part k is.write is.at) is.is.writes is.is.answered u)
unwritten_is part call source.Unwritten is u = refl
unwritten_is part call source.Nothing is u = absurd (nothing_not_unwritten part call is u)
unwritten_is part call source.Pending is u = absurd (not_answered call u.response is.1 u.responds)

-- 2
pub early_is : (part : List Call) (write call : Call) (from : Source) → Contains part write → IsSource part call from → EndsTooEarly part write call → (k : ℕ) × (from ≡ source.Early k)
early_is part write call source.Write there is e = absurd (not_both call e.answered.reads is)
early_is part write call (source.Only k) there is e = absurd (e.early is.write is.is.writer)
early_is part write call (source.Doubt k m) there is e = absurd (e.early is.one is.first)
early_is part write call (source.Early k) there is e = (k, refl)
early_is part write call source.Unwritten there is e = absurd (written_not_unwritten part write call e.value there e.writes e.answered is)
early_is part write call source.Nothing there is e = absurd (nothing_no_value call e.value is e.answered)
early_is part write call source.Pending there is e = absurd (not_answered call e.answered.response is.1 e.answered.responds)

-- two writers
pub doubt_is : (part : List Call) (call : Call) (from : Source) → IsSource part call from → IsInDoubt part call → (k : ℕ) × (m : ℕ) × (from ≡ source.Doubt k m)
doubt_is part call source.Write is d = absurd (not_both call d.first.answered.reads is)
doubt_is part call (source.Only k) is d = absurd (doubt_not_only part is.write call d is.is)
doubt_is part call (source.Doubt k m) is d = (k, m, refl)
doubt_is part call (source.Early k) is d = absurd (is.is.early d.one d.first)
doubt_is part call source.Unwritten is d = absurd (written_not_unwritten part d.one call d.first.value d.first.recorded d.first.writes d.first.answered is)
doubt_is part call source.Nothing is d = absurd (nothing_no_value call d.first.value is d.first.answered)
doubt_is part call source.Pending is d = absurd (not_answered call d.first.answered.response is.1 d.first.answered.responds)

-- a call at a lower index has a lower number
pub lower_number : (part : List Call) → IsSequence part → (i j : ℕ) (a b : Call) → i ≤ j → slice_get part i ≡ Some a → slice_get part j ≡ Some b → a.op.0 ≤ b.op.0
lower_number part sequence i j a b le at_i at_j = elim (cases_lt i j) [
  | inl h ↦ (let up = sequence.numbers i j a b h at_i at_j in omega arith)
  | inr h ↦
      let here : i ≡ j = omega arith in
      let same : a ≡ b = same_Some a b (sym at_i ∙ (ap (slice_get part) here ∙ at_j)) in
      let op : a.op.0 ≡ b.op.0 = ap (λ (c : Call). c.op.0) same in
      omega arith
]

-- the least pair of 2
pub early_here : (part : List Call) → IsSequence part → (i k : ℕ) (call : Call) → slice_get part i ≡ Some call → (e : EndsBefore part call k) → NoneBelow part (HasPartner part (EndsTooEarly part)) i → IsLeastPair part (EndsTooEarly part) e.write.op call.op
early_here part sequence i k call at e none =
    let there = Contains-slice_get part k e.write e.at in
    record {
      call = call;
      recorded = Contains-slice_get part i call at;
      number = refl;
      partnered = first_here part sequence (HasPartner part (EndsTooEarly part)) i call at (e.write, there, e.is) none;
      partner = record {
        call = e.write;
        recorded = there;
        number = refl;
        has = e.is;
        least = λ other in_part has.
            let j = place_of part other in_part in
            lower_number part sequence k j.0 e.write other (e.least j.0 other j.1 has) e.at j.1;
      };
    }

-- the two least writers of a read
pub doubt_of : (part : List Call) → IsSequence part → (i k m : ℕ) (call : Call) (doubt : Doubt) → slice_get part i ≡ Some call → (h : HasLeastWriters part call k m) → call.op ≡ doubt.read → h.one.op ≡ doubt.first → h.two.op ≡ doubt.second → IsDoubtOf part doubt call
doubt_of part sequence i k m call doubt at h is_read is_first is_second = record {
  recorded = Contains-slice_get part i call at;
  number = is_read;
  first = record {
    call = h.one;
    recorded = h.first.recorded;
    number = is_first;
    has = h.first;
    least = λ other there w. (let low = least_one other there w in let same : h.one.op.0 ≡ doubt.first.0 = ap (λ (o : OpId). o.0) is_first in omega arith);
  };
  second = record {
    call = h.two;
    recorded = h.second.recorded;
    number = is_second;
    has = (h.second, λ e. two_apart (is_first ∙ sym e));
    least = λ other there w. (let low = least_two other there w.0 w.1 in let same : h.two.op.0 ≡ doubt.second.0 = ap (λ (o : OpId). o.0) is_second in omega arith);
  };
}
  where
    least_one : (other : Call) → Contains part other → IsWriter part other call → h.one.op.0 ≤ other.op.0
    least_one other there w =
        let j = place_of part other there in
        elim (h.least j.0 other j.1 w) [
          | inl same ↦ lower_number part sequence k j.0 h.one other (omega arith) h.at_one j.1
          | inr later ↦ lower_number part sequence k j.0 h.one other (omega (arith, h.less)) h.at_one j.1
        ]

    two_apart : h.one.op ≡ h.two.op → ⊥
    two_apart same = (let up = sequence.numbers k m h.one h.two h.less h.at_one h.at_two in let number : h.one.op.0 ≡ h.two.op.0 = ap (λ (o : OpId). o.0) same in omega arith)

    least_two : (other : Call) → Contains part other → IsWriter part other call → other.op ≢ doubt.first → h.two.op.0 ≤ other.op.0
    least_two other there w apart =
        let j = place_of part other there in
        elim (h.least j.0 other j.1 w) [
          | inl same ↦ absurd (apart (ap (λ (c : Call). c.op) (same_Some other h.one (sym j.1 ∙ (ap (slice_get part) same ∙ h.at_one))) ∙ is_first))
          | inr later ↦ lower_number part sequence m j.0 h.two other later h.at_two j.1
        ]

-- a read of one writer
pub only_is : (part : List Call) (sequence : IsSequence part) (write call : Call) (from : Source) → IsSource part call from → IsOnlyWriter part write call → (k : ℕ) × (from ≡ source.Only k)
only_is part sequence write call source.Write is o = absurd (not_both call o.writer.answered.reads is)
only_is part sequence write call (source.Only k) is o = (k, refl)
only_is part sequence write call (source.Doubt k m) is o = absurd (doubt_not_only part write call (two_writers part sequence call k m is) o)
only_is part sequence write call (source.Early k) is o = absurd (is.is.early write o.writer)
only_is part sequence write call source.Unwritten is o = absurd (written_not_unwritten part write call o.writer.value o.writer.recorded o.writer.writes o.writer.answered is)
only_is part sequence write call source.Nothing is o = absurd (nothing_no_value call o.writer.value is o.writer.answered)
only_is part sequence write call source.Pending is o = absurd (not_answered call o.writer.answered.response is.1 o.writer.answered.responds)

-- the doubt of a read, which is the first with a property
pub least_doubt : (part : List Call) (sequence : IsSequence part) (P : Call → Type 0) (i k m : ℕ) (call : Call) (doubt : Doubt) → slice_get part i ≡ Some call → HasLeastWriters part call k m → AreNamed part i k m doubt → P call → NoneBelow part P i → IsLeastDoubt part P doubt
least_doubt part sequence P i k m call doubt at h named has none =
    let n = named call h.one h.two at h.at_one h.at_two in
    record {
      least = subst (λ (o : OpId). IsLeastCall part P o) n.0 (first_here part sequence P i call at has none);
      read = call;
      is = doubt_of part sequence i k m call doubt at h n.0 n.1 n.2;
    }

pub named : (part : List Call) (i k m : ℕ) (doubt : Doubt) (a b c : Call) → slice_get part i ≡ Some a → slice_get part k ≡ Some b → slice_get part m ≡ Some c → doubt.read ≡ a.op → doubt.first ≡ b.op → doubt.second ≡ c.op → AreNamed part i k m doubt
named part i k m doubt a b c at_a at_b at_c p q r read one two at_i at_k at_m =
    (ap (λ (x : Call). x.op) (same_Some read a (sym at_i ∙ at_a)) ∙ sym p, ap (λ (x : Call). x.op) (same_Some one b (sym at_k ∙ at_b)) ∙ sym q, ap (λ (x : Call). x.op) (same_Some two c (sym at_m ∙ at_c)) ∙ sym r)
