-- What is decided is so.
use Rattle.std.proofs.Common.{ℕ, ◌≡◌, inl, inr, List, Some, Result, Ok, Err, IfOk, subst, refl, arith}
use Rattle.std.specs.List.{slice_get, Contains}
use Rattle.std.proofs.lemmas.Option.{slice_get_within}
use Rattle.tag.specs.declared.memory.Memory.{Memory}
use Rattle.tag.specs.declared.numbers.OpId.{OpId}
use Rattle.tag.proofs.Lists.{place_of, Contains-slice_get, get_at}
use Rattle.tag_check.specs.Least.{LacksCall}
use Rattle.recorder.specs.declared.part.Call.{Call}
use Rattle.recorder.specs.Orders.{IsLinearizable}
use Rattle.recorder.specs.Parts.{IsSequence, IsCompleted}
use Rattle.value_order.specs.declared.decision.Decision.{Decision}
use Rattle.value_order.specs.declared.decision.Decision.TheVariants as decision
use Rattle.value_order.specs.declared.decision.ValueFault.{ValueFault}
use Rattle.value_order.specs.declared.decision.ValueFault.TheVariants as fault
use Rattle.value_order.specs.declared.decide.Families.{Families}
use Rattle.value_order.specs.declared.decision.ValueVerdict.{ValueVerdict}
use Rattle.value_order.specs.declared.decision.ValueVerdict.TheVariants as verdict
use Rattle.value_order.specs.declared.sources.Source.{Source}
use Rattle.value_order.specs.declared.sources.Source.TheVariants as source
use Rattle.value_order.specs.declared.zones.Zone.{Zone}
use Rattle.value_order.specs.Decisions.{IsFault, LacksReadFaults, IsDecision, IsExact, IsVerdict, IsExactVerdict}
use Rattle.value_order.specs.Families.{IsOfFamily, IsAnsweredBy, HasNoneOpposed}
use Rattle.value_order.specs.FamilyOrders.{IsFamilyOrder}
use Rattle.value_order.specs.Found.{AreApart}
use Rattle.value_order.specs.Keys.{IsListed, IsByFamilies}
use Rattle.value_order.specs.SortKeys.{HaveZones}
use Rattle.value_order.specs.Sources.{IsSource, AreSources}
use Rattle.value_order.specs.Writers.{IsWriter, IsOnlyWriter, IsInDoubt}
use Rattle.value_order.specs.Zones.{IsLastRow, AreZones, NoneCross}
use Rattle.value_order.proofs.ByFamilies.{order_by_families, needed}
use Rattle.value_order.proofs.CallKinds.{not_answered}
use Rattle.value_order.proofs.Members.{two_writers, source_family}
use Rattle.value_order.proofs.Places.{only_answered}
use Rattle.value_order.proofs.SomeOrder.{some_order}
use Rattle.value_order.proofs.Refutations.{unwritten_refutes, early_refutes, late_refutes, stale_refutes, opposed_refutes}
use Rattle.value_order.proofs.ZoneRows.{opposed_by_row, opposed_by_last, first_at_most}
use Rattle.value_order.proofs.LeastRows.{none_opposed_by}

only_writer : (part : List Call) (write read : Call) → IsOnlyWriter part write read → IsWriter part write read
only_writer part write read o = o.writer

-- ---- a fault refutes

pub fault_refutes : (part : List Call) → IsSequence part → (f : ValueFault) → IsFault part f → IsLinearizable part → ⊥
fault_refutes part sequence (fault.NoWrite read) h = unwritten_refutes part h.call h.recorded h.has
fault_refutes part sequence (fault.Early read write) h = (let p = h.partnered.has in early_refutes part p.0 h.partnered.call h.partnered.recorded p.2)
fault_refutes part sequence (fault.LateNothing read call) h = late_refutes part h.earlier h.later sequence h.earlier_recorded h.later_recorded h.late
fault_refutes part sequence (fault.Opposed a b) h = opposed_refutes part h.x h.y sequence (opposed_by_row part (IsOnlyWriter part) h.row h.x h.y h.pair.opposed)
fault_refutes part sequence (fault.Overwritten doubt between) h = (let l = h.least.least in stale_refutes part l.call sequence l.recorded (inl l.has.1))

pub exact : (part : List Call) → IsSequence part → (d : Decision) → IsDecision part d → IsExact part d
exact part sequence (decision.Atomic order) h one = (λ yes. (order, h.0), λ l. tt)
exact part sequence (decision.NotAtomic f) h one = (λ no. absurd no, λ l. fault_refutes part sequence f h.0 l)
exact part sequence (decision.Undecided doubt) h one = (λ no. absurd no, λ l. (let d = h.0.least in d.has.apart (one d.has.one d.has.two d.call d.recorded d.has.first d.has.second)))

pub exact_ok : (part : List Call) → IsSequence part → (r : Result Decision Memory) → IfOk r (IsDecision part) → IfOk r (IsExact part)
exact_ok part sequence (Ok d) h = exact part sequence d h
exact_ok part sequence (Err e) h = tt

-- ---- by families

module _ (part : List Call) (sequence : IsSequence part) (sources : List Source) (are_sources : AreSources part sources) (row : ℕ) (last : IsLastRow part row) (zones : List Zone) (are : AreZones part (IsOnlyWriter part) row zones) where
  -- no two families are opposed
  pub none_opposed : NoneCross zones → HasNoneOpposed part (IsOnlyWriter part)
  none_opposed free x y o = none_opposed_by part row zones are free x y (opposed_by_last part (IsOnlyWriter part) (only_answered part) row last x y o)

  -- a family one of whose calls has a response is listed
  listed_by : (k : ℕ) (write call : Call) → slice_get part k ≡ Some write → IsOfFamily part (IsOnlyWriter part) write call → IsCompleted call → IsListed part (IsOnlyWriter part) zones call
  listed_by k write call at of done =
      let zone = get_at zones k (omega (arith, slice_get_within part k write at, are.all)) in
      let z = are.writes k write zone.0 at of.writes zone.1 in
      let ended : IsAnsweredBy row call = record { response = done.0; responds = done.1; by = last call done.0 of.recorded done.1 } in
      let e = first_at_most part (IsOnlyWriter part) row write zone.0.first_end z.first done.0.place (record { call = call; of = of; ended = ended; at = refl }) in
      inr (k, write, zone.0, e.0, at, zone.1, e.1, of)

  listed_from : LacksReadFaults part → LacksCall part (IsInDoubt part) → (i : ℕ) (call : Call) (from : Source) → slice_get part i ≡ Some call → IsSource part call from → IsCompleted call → IsListed part (IsOnlyWriter part) zones call
  listed_from lacks sure i call source.Write at is done = listed_by i call call at (record { recorded = Contains-slice_get part i call at; writes = is; belongs = inl refl }) done
  listed_from lacks sure i call (source.Only k) at is done = listed_by k is.write call is.at (record { recorded = Contains-slice_get part i call at; writes = (is.is.writer.value, is.is.writer.writes); belongs = inr is.is }) done
  listed_from lacks sure i call (source.Doubt k m) at is done = absurd (sure call (Contains-slice_get part i call at) (two_writers part sequence call k m is))
  listed_from lacks sure i call (source.Early k) at is done = absurd (lacks.early call (Contains-slice_get part i call at) (is.write, Contains-slice_get part k is.write is.at, is.is))
  listed_from lacks sure i call source.Unwritten at is done = absurd (lacks.unwritten call (Contains-slice_get part i call at) is)
  listed_from lacks sure i call source.Nothing at is done = inl is
  listed_from lacks sure i call source.Pending at is done = absurd (not_answered call done.0 is.1 done.1)

  all_listed : LacksReadFaults part → LacksCall part (IsInDoubt part) → (call : Call) → Contains part call → IsCompleted call → IsListed part (IsOnlyWriter part) zones call
  all_listed lacks sure call there done =
      let i = place_of part call there in
      let from = get_at sources i.0 (omega (arith, slice_get_within part i.0 call i.1, are_sources.all)) in
      listed_from lacks sure i.0 call from.0 i.1 (are_sources.each i.0 call from.0 i.1 from.1) done

  pub atomic : NoneCross zones → LacksReadFaults part → LacksCall part (IsInDoubt part) → (order : List OpId) → IsByFamilies part (IsOnlyWriter part) zones order → IsDecision part (decision.Atomic order)
  atomic free lacks sure order by = (
    order_by_families part sequence (IsOnlyWriter part) (only_writer part) row last zones are free lacks.late order by (all_listed lacks sure),
    needed part sequence (IsOnlyWriter part) (only_writer part) row last zones are free lacks.late order by (all_listed lacks sure),
  )

-- each family has a zone
pub have_zones : (part : List Call) (sources : List Source) → AreSources part sources → (row : ℕ) (zones : List Zone) → AreZones part (IsOnlyWriter part) row zones → HaveZones sources zones
have_zones part sources of row zones are i k from at family =
    let call = get_at part i (omega (arith, slice_get_within sources i from at, of.all)) in
    let w = source_family part i k call.0 from call.1 (of.each i call.0 from call.1 at) family in
    omega (arith, slice_get_within part k w.0 w.1, are.all)

-- ---- what was found

-- families that are apart have an order
pub apart_ordered : (part : List Call) → IsSequence part → (families : Families) → AreApart part families → IsLinearizable part
apart_ordered part sequence families are =
    let have = have_zones part families.sources.items are.sources are.row families.zones.items are.zones in
    let order = some_order part sequence families.sources.items are.sources families.zones.items have in
    (order.0, (atomic part sequence families.sources.items are.sources are.row are.last families.zones.items are.zones are.free are.reads are.sure order.0 order.1).0)

-- and the calls by their families are one
pub apart_decision : (part : List Call) → IsSequence part → (families : Families) → AreApart part families → (order : List OpId) → IsByFamilies families.part (IsOnlyWriter families.part) families.zones.items order → IsDecision part (decision.Atomic order)
apart_decision part sequence families are order by =
    atomic part sequence families.sources.items are.sources are.row are.last families.zones.items are.zones are.free are.reads are.sure order
    (subst (λ (calls : List Call). IsByFamilies calls (IsOnlyWriter calls) families.zones.items order) are.is by)

-- and they are sorted by their families
pub family_order : (part : List Call) → (families : Families) → AreApart part families → (order : List OpId) → IsByFamilies families.part (IsOnlyWriter families.part) families.zones.items order → IsFamilyOrder part order
family_order part families are order by = record {
  sure = are.sure;
  row = are.row;
  last = are.last;
  zones = families.zones.items;
  are_zones = are.zones;
  sorted = subst (λ (calls : List Call). IsByFamilies calls (IsOnlyWriter calls) families.zones.items order) are.is by;
}

pub exact_verdict : (part : List Call) → IsSequence part → (v : ValueVerdict) → IsVerdict part v → IsExactVerdict part v
exact_verdict part sequence verdict.Atomic h one = (λ yes. h, λ l. tt)
exact_verdict part sequence (verdict.NotAtomic f) h one = (λ no. absurd no, λ l. fault_refutes part sequence f h.0 l)
exact_verdict part sequence (verdict.Undecided doubt) h one = (λ no. absurd no, λ l. (let d = h.0.least in d.has.apart (one d.has.one d.has.two d.call d.recorded d.has.first d.has.second)))
