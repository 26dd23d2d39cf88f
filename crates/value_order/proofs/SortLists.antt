-- The listed calls, by their sorted keys.
use Rattle.std.proofs.Common.{ℕ, ◌≡◌, ◌<◌, ◌≤◌, ◌+◌, inl, inr, List, [], ◌∷◌, ◌++◌, Option, Some, None, IsPermutation, IsSorted, length, length-append, sym, ◌∙◌, ap, subst, refl, arith}
use Rattle.std.specs.List.{slice_get}
use Rattle.std.proofs.lemmas.Bool.{cases_lt}
use Rattle.std.proofs.lemmas.Option.{same_Some, slice_get_within, none-some}
use Rattle.tag.proofs.Lists.{get_at, push_cases, slice_get-push_left, slice_get-push_last}
use Rattle.tag.specs.declared.numbers.OpId.{OpId}
use Rattle.recorder.specs.declared.part.Call.{Call}
use Rattle.recorder.specs.Parts.{IsSequence}
use Rattle.value_order.specs.declared.keys.SortKey.{SortKey}
use Rattle.value_order.specs.declared.sources.Source.{Source}
use Rattle.value_order.specs.declared.sources.Source.TheVariants as source
use Rattle.value_order.specs.declared.zones.Zone.{Zone}
use Rattle.value_order.specs.Writers.{AnswersNothing, IsOnlyWriter}
use Rattle.value_order.specs.Families.{IsOfFamily}
use Rattle.value_order.specs.Keys.{key_cmp, IsMemberKey, IsCallKey, IsListed, IsByFamilies}
use Rattle.value_order.specs.SortKeys.{IsKept, IsFamilyKey, IsKeyAt, AreSortKeys, AreKeysSorted, AreNumbersOf}
use Rattle.value_order.specs.Sources.{IsSource, AreSources, family_of}
use Rattle.value_order.proofs.CallKinds.{not_both, not_answered, nothing_no_value, nothing_not_unwritten, only_reads, one_family, index_of, call_at}
use Rattle.value_order.proofs.KeyOrder.{are_sorted}
use Rattle.value_order.proofs.Members.{source_family, no_family}

-- a call that answers nothing has that source
pub source_nothing : (part : List Call) (call : Call) (from : Source) → IsSource part call from → AnswersNothing call → from ≡ source.Nothing
source_nothing part call source.Write is n = absurd (not_both call n.reads is)
source_nothing part call (source.Only k) is n = absurd (nothing_no_value call is.is.writer.value n is.is.writer.answered)
source_nothing part call (source.Doubt k m) is n = absurd (nothing_no_value call is.first.value n is.first.answered)
source_nothing part call (source.Early k) is n = absurd (nothing_no_value call is.is.value n is.is.answered)
source_nothing part call source.Unwritten is n = absurd (nothing_not_unwritten part call n is)
source_nothing part call source.Nothing is n = refl
source_nothing part call source.Pending is n = absurd (not_answered call n.response is.1 n.responds)

-- a call of a family has the source that names it
pub family_is : (part : List Call) → IsSequence part → (i k : ℕ) (call write : Call) (from : Source) → slice_get part i ≡ Some call → slice_get part k ≡ Some write → IsSource part call from → IsOfFamily part (IsOnlyWriter part) write call → family_of i from ≡ Some k
family_is part sequence i k call write from at at_k is of = by (family_of i from) refl
  where
    by : (o : Option ℕ) → family_of i from ≡ o → o ≡ Some k
    by None e = absurd (no_family part sequence i write call from is e of)
    by (Some m) e =
        let w = source_family part i m call from at is e in
        ap Some (index_of part sequence m k w.0 write w.1 at_k (one_family part w.0 write call w.2 of))

-- no key yet
pub keys_none : (zones : List Zone) (sources : List Source) (keys : List SortKey) → keys ≡ [] → AreSortKeys zones sources 0 keys
keys_none zones sources keys none =
    let empty : (p : ℕ) (key : SortKey) → slice_get keys p ≡ Some key → ⊥ = λ p key at. (let at : slice_get [] p ≡ Some key = subst (λ (l : List SortKey). slice_get l p ≡ Some key) none at in none-some key at) in
    record {
      each = λ p key at. absurd (empty p key at);
      below = λ p key at. absurd (empty p key at);
      all = λ i from less at kept. absurd (omega arith);
      rise = λ p q a b less at_p at_q. absurd (empty p a at_p);
    }

module _ (zones : List Zone) (sources : List Source) (n : ℕ) (from : Source) (at : slice_get sources n ≡ Some from) (keys : List SortKey) (are : AreSortKeys zones sources n keys) where
  same_source : (i : ℕ) (other : Source) → i ≡ n → slice_get sources i ≡ Some other → from ≡ other
  same_source i other here there = same_Some from other (sym at ∙ (ap (slice_get sources) (sym here) ∙ there))

  -- a call that isn't listed
  pub keys_same : (IsKept zones n from → ⊥) → AreSortKeys zones sources (n + 1) keys
  keys_same not = record {
    each = are.each;
    below = λ p key here. (let less : key.index < n = are.below p key here in omega arith);
    all = λ i other less there kept. elim (cases_lt i n) [
      | inl h ↦ are.all i other h there kept
      | inr h ↦
          let here : i ≡ n = omega arith in
          let same = same_source i other here there in
          absurd (not (subst (λ (j : ℕ). IsKept zones j from) here (subst (λ (s : Source). IsKept zones i s) (sym same) kept)))
    ];
    rise = are.rise;
  }

  -- one that is
  module _ (key : SortKey) (is : IsKeyAt zones n from key) where
    old_place : (p q : ℕ) (a : SortKey) → p < q → slice_get (keys ++ key ∷ []) p ≡ Some a → q ≤ length keys → slice_get keys p ≡ Some a
    old_place p q a less here past = elim (push_cases keys key p a here) [ inl h ↦ h | inr h ↦ absurd (omega (arith, h.0)) ]

    own : (from : Source) × (slice_get sources key.index ≡ Some from) × IsKeyAt zones key.index from key
    own = (from, ap (slice_get sources) is.0 ∙ at, subst (λ (j : ℕ). IsKeyAt zones j from key) (sym is.0) is)

    pub keys_more : AreSortKeys zones sources (n + 1) (keys ++ key ∷ [])
    keys_more = record {
      each = λ p k here. elim (push_cases keys key p k here) [
        | inl h ↦ are.each p k h
        | inr h ↦ subst (λ (x : SortKey). (s : Source) × (slice_get sources x.index ≡ Some s) × IsKeyAt zones x.index s x) h.1 own
      ];
      below = λ p k here. elim (push_cases keys key p k here) [
        | inl h ↦ (let less : k.index < n = are.below p k h in omega arith)
        | inr h ↦ (let same : key.index ≡ k.index = ap (λ (x : SortKey). x.index) h.1 in omega (arith, is.0))
      ];
      all = λ i other less there kept. elim (cases_lt i n) [
        | inl h ↦ (let a = are.all i other h there kept in (a.0, a.1, slice_get-push_left keys key a.0 a.1 a.2, a.3))
        | inr h ↦ (length keys, key, slice_get-push_last keys key, omega (arith, is.0))
      ];
      rise = λ p q a b less at_p at_q. elim (push_cases keys key q b at_q) [
        | inl h ↦ are.rise p q a b less (old_place p q a less at_p (let small = slice_get_within keys q b h in omega arith)) h
        | inr h ↦
            let same : key.index ≡ b.index = ap (λ (x : SortKey). x.index) h.1 in
            let low : a.index < n = are.below p a (old_place p q a less at_p (omega (arith, h.0))) in
            omega (arith, is.0)
      ];
    }

-- sorted, they are the calls by their families
module _ (part : List Call) (sequence : IsSequence part) (sources : List Source) (from_source : AreSources part sources) (zones : List Zone) where
  member_key : (call : Call) (key : SortKey) (from : Source) → slice_get part key.index ≡ Some call → IsSource part call from → IsFamilyKey zones key.index from key → IsMemberKey part (IsOnlyWriter part) zones call key
  member_key call key from at is f =
      let w = source_family part key.index key.family call from at is f.family in
      record {
        write = w.0;
        at = w.1;
        of = w.2;
        ranked = f.ranked;
        reads = λ e. elim w.2.belongs [
          | inl same ↦ absurd (f.reads e (index_of part sequence key.family key.index w.0 call w.1 at (sym same)))
          | inr reads ↦ only_reads part w.0 call reads
        ];
        writes = λ e. call_at part key.index key.family call w.0 at w.1 (sym (f.writes e));
      }

  call_key : (key : SortKey) → (from : Source) × (slice_get sources key.index ≡ Some from) × IsKeyAt zones key.index from key → IsCallKey part (IsOnlyWriter part) zones key
  call_key key f =
      let c = get_at part key.index (omega (arith, slice_get_within sources key.index f.0 f.1, from_source.all)) in
      let is = from_source.each key.index c.0 f.0 c.1 f.1 in (
        c.0,
        c.1,
        elim f.2.1 [
          | inl n ↦ inl (record { nothing = subst (IsSource part c.0) n.0 is; rank = n.1.rank; family = n.1.family; reads = n.1.reads })
          | inr m ↦ inr (member_key c.0 key f.0 c.1 is m)
        ],
      )

  kept_from : (i : ℕ) (call : Call) (from : Source) → slice_get part i ≡ Some call → IsSource part call from → IsListed part (IsOnlyWriter part) zones call → IsKept zones i from
  kept_from i call from at is (inl n) = inl (source_nothing part call from is n)
  kept_from i call from at is (inr l) = inr (l.0, l.2, l.3, family_is part sequence i l.0 call l.1 from at l.4 is l.7, l.5, l.6)

  module _ (made keys : List SortKey) (n : ℕ) (past : length sources ≤ n) (are : AreSortKeys zones sources n made) (moved : IsPermutation made keys) (up : IsSorted key_cmp keys) where
    listed_key : (i : ℕ) (call : Call) → slice_get part i ≡ Some call → IsListed part (IsOnlyWriter part) zones call → (p : ℕ) × (key : SortKey) × (slice_get keys p ≡ Some key) × (key.index ≡ i)
    listed_key i call at l =
        let f = get_at sources i (omega (arith, slice_get_within part i call at, from_source.all)) in
        let is = from_source.each i call f.0 at f.1 in
        let a = are.all i f.0 (omega (arith, slice_get_within sources i f.0 f.1)) f.1 (kept_from i call f.0 at is l) in
        let p = (are_sorted made keys are.rise moved up).all a.0 a.1 a.2 in
        (p.0, a.1, p.1, a.3)

    pub by_families : (order : List OpId) → length order ≡ length keys → ((p : ℕ) (key : SortKey) (call : Call) → slice_get keys p ≡ Some key → slice_get part key.index ≡ Some call → slice_get order p ≡ Some call.op) → IsByFamilies part (IsOnlyWriter part) zones order
    by_families order count numbers =
        let sorted = are_sorted made keys are.rise moved up in
        record {
          keys = keys;
          each = λ p key at. (let k = sorted.each p key at in call_key key (are.each k.0 key k.1));
          all = listed_key;
          rises = sorted.rises;
          apart = sorted.apart;
          count = count;
          numbers = numbers;
        }

-- the calls of sorted keys
pub index_within : (part : List Call) (sources : List Source) (zones : List Zone) (keys : List SortKey) → AreSources part sources → AreKeysSorted zones sources keys → (p : ℕ) (key : SortKey) → slice_get keys p ≡ Some key → key.index < length part
index_within part sources zones keys of are p key at =
    let k = (are_sorted are.made keys are.are.rise are.moved are.sorted).each p key at in
    let f = are.are.each k.0 key k.1 in
    omega (arith, slice_get_within sources key.index f.0 f.1, of.all)

-- no number yet, and one more
pub numbers_none : (part : List Call) (keys : List SortKey) (ops : List OpId) → ops ≡ [] → AreNumbersOf part keys 0 ops
numbers_none part keys ops none = record { count = ap (λ (l : List OpId). length l) none; each = λ p key call less. absurd (omega arith) }

pub numbers_more : (part : List Call) (keys : List SortKey) (n : ℕ) (ops : List OpId) (key : SortKey) (op : OpId) → slice_get keys n ≡ Some key → (call : Call) × (slice_get part key.index ≡ Some call) × (op ≡ call.op) → AreNumbersOf part keys n ops → AreNumbersOf part keys (n + 1) (ops ++ op ∷ [])
numbers_more part keys n ops key op at here are = record {
  count = simp length-append (omega (arith, are.count));
  each = λ p other call less at_p at_call. elim (cases_lt p n) [
    | inl h ↦ slice_get-push_left ops op p call.op (are.each p other call h at_p at_call)
    | inr h ↦
        let place : p ≡ n = omega arith in
        let same : other ≡ key = same_Some other key (sym at_p ∙ (ap (slice_get keys) place ∙ at)) in
        let index : other.index ≡ key.index = ap (λ (k : SortKey). k.index) same in
        let one : here.0 ≡ call = same_Some here.0 call (sym here.1 ∙ (ap (slice_get part) (sym index) ∙ at_call)) in
        let last : p ≡ length ops = omega (arith, are.count) in
        ap (slice_get (ops ++ op ∷ [])) last ∙ (slice_get-push_last ops op ∙ ap Some (here.2 ∙ ap (λ (c : Call). c.op) one))
  ];
}

pub numbers_all : (part : List Call) (sequence : IsSequence part) (sources : List Source) (zones : List Zone) (keys : List SortKey) (ops : List OpId) → AreSources part sources → AreKeysSorted zones sources keys → AreNumbersOf part keys (length keys) ops → IsByFamilies part (IsOnlyWriter part) zones ops
numbers_all part sequence sources zones keys ops of are numbers =
    by_families part sequence sources of zones are.made keys (length sources) (omega arith) are.are are.moved are.sorted ops numbers.count
    (λ p key call at at_call. numbers.each p key call (slice_get_within keys p key at) at at_call)
