-- The first read in doubt that is stale.
use Rattle.std.proofs.Common.{ℕ, ◌≡◌, List, Some, sym, ◌∙◌, ap, subst, refl}
use Rattle.std.specs.List.{slice_get}
use Rattle.tag.specs.declared.numbers.OpId.{OpId}
use Rattle.tag.proofs.Lists.{Contains-slice_get}
use Rattle.tag_check.specs.Least.{IsLeastCall}
use Rattle.tag_check.proofs.Calls.{NoneBelow, first_here}
use Rattle.recorder.specs.declared.part.Call.{Call}
use Rattle.recorder.specs.Parts.{IsSequence}
use Rattle.value_order.specs.declared.decision.Doubt.{Doubt}
use Rattle.value_order.specs.Doubts.{AreNamed}
use Rattle.value_order.specs.Faults.{IsStaleDoubt}
use Rattle.value_order.specs.Sources.{HasLeastWriters}
use Rattle.value_order.specs.Stales.{IsOverwrittenBy, IsOverwrittenAt, IsLeastOverwritten}
use Rattle.value_order.proofs.CallKinds.{call_at}
use Rattle.value_order.proofs.FirstFaults.{doubt_of}
use Rattle.value_order.proofs.Members.{two_writers}
use Rattle.value_order.proofs.StaleReads.{stale_from}

pub overwritten_at : (part : List Call) → IsSequence part → (i k m between : ℕ) (call : Call) (doubt : Doubt) (op : OpId) → slice_get part i ≡ Some call → HasLeastWriters part call k m → AreNamed part i k m doubt → IsOverwrittenBy part call between → (other : Call) × (slice_get part between ≡ Some other) × (op ≡ other.op) → IsOverwrittenAt part i doubt op
overwritten_at part sequence i k m between call doubt op at h named o is_op =
    let n = named call h.one h.two at h.at_one h.at_two in
    record {
      read = call;
      at = at;
      stale = (two_writers part sequence call k m h, stale_from part call between o);
      is = doubt_of part sequence i k m call doubt at h n.0 n.1 n.2;
      call = o.between;
      recorded = Contains-slice_get part between o.between o.at;
      number = ap (λ (c : Call). c.op) (call_at part between between o.between is_op.0 o.at is_op.1 refl) ∙ sym is_op.2;
      each = o.each;
    }

pub least_overwritten : (part : List Call) → IsSequence part → (i : ℕ) (doubt : Doubt) (op : OpId) → IsOverwrittenAt part i doubt op → NoneBelow part (IsStaleDoubt part) i → IsLeastOverwritten part doubt op
least_overwritten part sequence i doubt op o none = record {
  least = record {
    least = subst (λ (x : OpId). IsLeastCall part (IsStaleDoubt part) x) o.is.number (first_here part sequence (IsStaleDoubt part) i o.read o.at o.stale none);
    read = o.read;
    is = o.is;
  };
  call = o.call;
  recorded = o.recorded;
  number = o.number;
  each = o.each;
}
