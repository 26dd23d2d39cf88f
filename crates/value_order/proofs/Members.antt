-- Sources: which family a call is of.
use Rattle.std.proofs.Common.{ℕ, ◌≡◌, inl, inr, List, [], ◌∷◌, ◌++◌, length, Some, None, sym, ◌∙◌, ap, subst, refl, arith}
use Rattle.std.specs.List.{slice_get}
use Rattle.std.proofs.lemmas.Option.{same_Some, none-some}
use Rattle.tag.proofs.Lists.{Contains-slice_get, push_cases}
use Rattle.recorder.specs.declared.part.Call.{Call}
use Rattle.recorder.specs.Parts.{IsSequence}
use Rattle.recorder.specs.Sound.{IsRead, IsWrite}
use Rattle.value_order.specs.declared.sources.Source.{Source}
use Rattle.value_order.specs.declared.sources.Source.TheVariants as source
use Rattle.value_order.specs.Writers.{IsOnlyWriter, IsInDoubt}
use Rattle.value_order.specs.Families.{IsOfFamily}
use Rattle.value_order.specs.Sources.{HasLeastWriters, IsSource, family_of}
use Rattle.value_order.proofs.CallKinds.{not_both, not_answered, index_of, nothing_no_value, written_not_unwritten}

-- the first two writers of a read are two
pub two_writers : (part : List Call) → IsSequence part → (read : Call) (k m : ℕ) → HasLeastWriters part read k m → IsInDoubt part read
two_writers part sequence read k m h = record {
  one = h.one;
  two = h.two;
  first = h.first;
  second = h.second;
  apart = λ same. (let here = index_of part sequence k m h.one h.two h.at_one h.at_two same in omega (arith, h.less));
}

-- the family that a source names
pub source_family : (part : List Call) (i k : ℕ) (call : Call) (from : Source) → slice_get part i ≡ Some call → IsSource part call from → family_of i from ≡ Some k → (write : Call) × (slice_get part k ≡ Some write) × IsOfFamily part (IsOnlyWriter part) write call
source_family part i k call source.Write at is e =
    let here : i ≡ k = same_Some i k e in
    (call, ap (slice_get part) (sym here) ∙ at, record { recorded = Contains-slice_get part i call at; writes = is; belongs = inl refl })
source_family part i k call (source.Only m) at is e =
    let here : m ≡ k = same_Some m k e in
    (is.write, ap (slice_get part) (sym here) ∙ is.at, record { recorded = Contains-slice_get part i call at; writes = (is.is.writer.value, is.is.writer.writes); belongs = inr is.is })
source_family part i k call (source.Doubt m n) at is e = absurd (none-some k e)
source_family part i k call (source.Early m) at is e = absurd (none-some k e)
source_family part i k call source.Unwritten at is e = absurd (none-some k e)
source_family part i k call source.Nothing at is e = absurd (none-some k e)
source_family part i k call source.Pending at is e = absurd (none-some k e)

-- a call whose source names none is of none
no_write : (part : List Call) (write call : Call) → IsRead call → (IsOnlyWriter part write call → ⊥) → IsOfFamily part (IsOnlyWriter part) write call → ⊥
no_write part write call read other of = elim of.belongs [
  | inl same ↦ not_both call read (subst IsWrite (sym same) of.writes)
  | inr reads ↦ other reads
]

pub no_family : (part : List Call) → IsSequence part → (i : ℕ) (write call : Call) (from : Source) → IsSource part call from → family_of i from ≡ None → IsOfFamily part (IsOnlyWriter part) write call → ⊥
no_family part sequence i write call source.Write is e of = none-some i (sym e)
no_family part sequence i write call (source.Only m) is e of = none-some m (sym e)
no_family part sequence i write call (source.Doubt m n) is e of =
    let d = two_writers part sequence call m n is in
    no_write part write call is.first.answered.reads (λ o. d.apart (o.only d.one d.first ∙ sym (o.only d.two d.second))) of
no_family part sequence i write call (source.Early m) is e of = no_write part write call is.is.answered.reads (λ o. is.is.early write o.writer) of
no_family part sequence i write call source.Unwritten is e of = no_write part write call is.reads (λ o. written_not_unwritten part write call o.writer.value o.writer.recorded o.writer.writes o.writer.answered is) of
no_family part sequence i write call source.Nothing is e of = no_write part write call is.reads (λ o. nothing_no_value call o.writer.value is o.writer.answered) of
no_family part sequence i write call source.Pending is e of = no_write part write call is.0 (λ o. not_answered call o.writer.answered.response is.1 o.writer.answered.responds) of

-- one source more
pub sources_more : (part : List Call) (sources : List Source) (i : ℕ) (from : Source) → length sources ≡ i → (call : Call) × (slice_get part i ≡ Some call) × IsSource part call from → ((k : ℕ) (call : Call) (other : Source) → slice_get part k ≡ Some call → slice_get sources k ≡ Some other → IsSource part call other) → (k : ℕ) (call : Call) (other : Source) → slice_get part k ≡ Some call → slice_get (sources ++ from ∷ []) k ≡ Some other → IsSource part call other
sources_more part sources i from count here was k call other at_k there = elim (push_cases sources from k other there) [
  | inl h ↦ was k call other at_k h
  | inr h ↦
      let place : k ≡ i = omega (arith, h.0) in
      let same : here.0 ≡ call = same_Some here.0 call (sym here.1 ∙ (ap (slice_get part) (sym place) ∙ at_k)) in
      subst (λ (s : Source). IsSource part call s) h.1 (subst (λ (c : Call). IsSource part c from) same here.2)
]
