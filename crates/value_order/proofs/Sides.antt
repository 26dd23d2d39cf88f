-- What a family has by a row.
use Rattle.std.proofs.Common.{ℕ, ◌≡◌, ◌<◌, ◌≤◌, ◌+◌, inl, inr, List, Some, length, sym, ◌∙◌, ap, subst, refl, arith}
use Rattle.std.specs.List.{slice_get, Contains}
use Rattle.std.proofs.lemmas.Option.{same_Some, slice_get_within}
use Rattle.std.proofs.lemmas.Bool.{cases_lt}
use Rattle.tag.specs.declared.numbers.OpId.{OpId}
use Rattle.tag.proofs.Lists.{place_of, Contains-slice_get}
use Rattle.recorder.specs.declared.part.Call.{Call}
use Rattle.recorder.specs.Parts.{IsSequence}
use Rattle.value_order.specs.declared.decision.Side.{Side}
use Rattle.value_order.specs.declared.zones.Zone.{Zone}
use Rattle.value_order.specs.Families.{IsOfFamily, IsMemberBy}
use Rattle.value_order.specs.declared.sources.Source.{Source}
use Rattle.value_order.specs.Sources.{IsSource, family_of}
use Rattle.value_order.specs.Writers.{IsOnlyWriter}
use Rattle.value_order.proofs.Members.{source_family}
use Rattle.value_order.specs.Rows.{EndedAt, HasMember, IsMember, HasSide, IsSideOf}
use Rattle.value_order.specs.Zones.{IsZone, AreZones}
use Rattle.value_order.proofs.CallKinds.{call_at}
use Rattle.value_order.proofs.ZoneRows.{first_ends, zone_write}

-- a call of the part with that place of invocation is one
pub one_begun : (part : List Call) → IsSequence part → (a b : Call) → Contains part a → Contains part b → a.invoked ≡ b.invoked → a ≡ b
one_begun part sequence a b in_a in_b same =
    let i = place_of part a in_a in
    let j = place_of part b in_b in
    by i.0 j.0 i.1 j.1
  where
    by : (i j : ℕ) → slice_get part i ≡ Some a → slice_get part j ≡ Some b → a ≡ b
    by i j at_i at_j = elim (cases_lt i j) [
      | inl h ↦ absurd (let up = sequence.places i j a b h at_i at_j in omega arith)
      | inr h ↦ elim (cases_lt j i) [
        | inl g ↦ absurd (let up = sequence.places j i b a g at_j at_i in omega arith)
        | inr g ↦ call_at part i j a b at_i at_j (omega arith)
      ]
    ]

module _ (part : List Call) (k : ℕ) (zones : List Zone) where
  -- the family has the calls that its zone speaks of
  pub has_ended : (zone : Zone) (end : ℕ) → slice_get zones k ≡ Some zone → zone.first_end ≡ Some end → HasSide part zones k → HasMember part k (λ call. EndedAt call end)
  has_ended zone end at ends h =
      let same : h.2 ≡ zone = same_Some h.2 zone (sym h.5 ∙ at) in
      let e = (first_ends part (IsOnlyWriter part) h.0 h.1 h.2.first_end end (ap (λ (z : Zone). z.first_end) same ∙ ends) h.7.first).0 in
      (h.1, e.call, h.4, e.of, (e.ended.response, e.ended.responds, e.at))

  pub has_begun : (zone : Zone) → slice_get zones k ≡ Some zone → HasSide part zones k → HasMember part k (λ call. call.invoked ≡ zone.last_begin)
  has_begun zone at h =
      let same : h.2 ≡ zone = same_Some h.2 zone (sym h.5 ∙ at) in
      let b = h.7.last.0 in
      (h.1, b.call, h.4, b.member.of, b.at ∙ ap (λ (z : Zone). z.last_begin) same)

  pub side_of : IsSequence part → (row : ℕ) → AreZones part (IsOnlyWriter part) row zones → (zone : Zone) (end : ℕ) (write : Call) (side : Side) → slice_get zones k ≡ Some zone → zone.first_end ≡ Some end → slice_get part k ≡ Some write → write.op ≡ side.write
      → IsMember part k (λ call. EndedAt call end) side.first_ended → IsMember part k (λ call. call.invoked ≡ zone.last_begin) side.last_begun → IsSideOf part row write side
  side_of sequence row are zone end write side at ends at_k number f l =
      let w = zone_write part (IsOnlyWriter part) row zones are k zone end at ends in
      let own : w.0 ≡ write = call_at part k k w.0 write w.1 at_k refl in
      let z : IsZone part (IsOnlyWriter part) row write zone = subst (λ (c : Call). IsZone part (IsOnlyWriter part) row c zone) own w.3 in
      let e = first_ends part (IsOnlyWriter part) row write zone.first_end end ends z.first in
      let own_f : f.0 ≡ write = call_at part k k f.0 write f.2 at_k refl in
      let own_l : l.0 ≡ write = call_at part k k l.0 write l.2 at_k refl in
      let of_f : IsOfFamily part (IsOnlyWriter part) write f.1 = subst (λ (c : Call). IsOfFamily part (IsOnlyWriter part) c f.1) own_f f.3 in
      let of_l : IsOfFamily part (IsOnlyWriter part) write l.1 = subst (λ (c : Call). IsOfFamily part (IsOnlyWriter part) c l.1) own_l l.3 in
      let b = z.last.0 in
      let same : b.call ≡ l.1 = one_begun part sequence b.call l.1 b.member.of.recorded of_l.recorded (b.at ∙ sym l.4) in
      record {
        recorded = Contains-slice_get part k write at_k;
        number = number;
        first = f.1;
        first_number = f.5;
        first_ended = record {
          of = of_f;
          ended = record { response = f.4.0; responds = f.4.1; by = omega (arith, f.4.2, e.0.at, e.0.ended.by) };
          first = λ other of a. (let low = e.1 a.response.place (record { call = other; of = of; ended = a; at = refl }) in omega (arith, f.4.2));
        };
        last = l.1;
        last_number = l.5;
        last_begun = record {
          member = subst (λ (c : Call). IsMemberBy part (IsOnlyWriter part) row write c) same b.member;
          last = λ other m. (let low = z.last.1 other.invoked (record { call = other; member = m; at = refl }) in omega (arith, l.4));
        };
      }

-- no call below index i is of the family and has the property
abbrev pub NoMemberBelow : List Call → ℕ → (Call → Type 0) → ℕ → Type 0
NoMemberBelow part k P i = (j : ℕ) (call write : Call) → j < i → slice_get part j ≡ Some call → slice_get part k ≡ Some write → IsOfFamily part (IsOnlyWriter part) write call → P call → ⊥

pub member_more : (part : List Call) (k : ℕ) (P : Call → Type 0) (i : ℕ) (call : Call) → slice_get part i ≡ Some call → ((write : Call) → slice_get part k ≡ Some write → IsOfFamily part (IsOnlyWriter part) write call → P call → ⊥) → NoMemberBelow part k P i → NoMemberBelow part k P (i + 1)
member_more part k P i call at none was j other write less at_j at_k of has = elim (cases_lt j i) [
  | inl h ↦ was j other write h at_j at_k of has
  | inr h ↦
      let same : other ≡ call = call_at part j i other call at_j at (omega arith) in
      none write at_k (subst (λ (c : Call). IsOfFamily part (IsOnlyWriter part) write c) same of) (subst P same has)
]

pub member_found : (part : List Call) (k : ℕ) (P : Call → Type 0) (i : ℕ) → length part ≤ i → NoMemberBelow part k P i → HasMember part k P → ⊥
member_found part k P i past none h =
    let j = place_of part h.1 h.3.recorded in
    none j.0 h.1 h.0 (omega (arith, slice_get_within part j.0 h.1 j.1)) j.1 h.2 h.3 h.4

pub member_here : (part : List Call) (i k : ℕ) (P : Call → Type 0) (call : Call) (from : Source) (op : OpId) → slice_get part i ≡ Some call → IsSource part call from → family_of i from ≡ Some k → P call → op ≡ call.op → IsMember part k P op
member_here part i k P call from op at is family has same =
    let w = source_family part i k call from at is family in
    (w.0, call, w.1, w.2, has, sym same)
