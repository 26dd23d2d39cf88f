-- The tag order of a part by the keys of its calls.
use Rattle.std.proofs.Common.{ℕ, ◌≡◌, ◌<◌, ◌⊎◌, inl, inr, List, Some, Bool, true, false, length, map, sym, ◌∙◌, ap, subst, refl, arith}
use Rattle.std.specs.List.{slice_get, Contains}
use Rattle.tag.specs.declared.numbers.OpId.{OpId}
use Rattle.tag.specs.Tags.{Tag}
use Rattle.recorder.specs.declared.part.Call.{Call}
use Rattle.recorder.specs.Parts.{IsSequence}
use Rattle.recorder.specs.Orders.{StandsAt}
use Rattle.recorder.specs.Sound.{IsRead, IsWrite, IsSettled, ComesBefore, IsByTag}
use Rattle.witness_order.specs.declared.sort_key.SortKey.{SortKey}
use Rattle.witness_order.specs.Keys.{key_of}
use Rattle.witness_order.specs.Notes.{IsNotedCall, AllNoted}
use Rattle.tag.proofs.Lists.{get_at, slice_get-map_back, slice_get-map_at}
use Rattle.witness_order.proofs.Lists.{In}
use Rattle.recorder.proofs.Sequences.{same_call, invoked_first}
use Rattle.witness_order.proofs.CallKeys.{IsKeyOf, key_is, has_key}
use Rattle.witness_order.proofs.KeyOrder.{IsFirst, ComesFirst, in_words}

-- the keys of a part's calls, sorted
pub record AreSorted (part : List Call) (keys : List SortKey) : Type 0 where
  pub each : (i : ℕ) (key : SortKey) → slice_get keys i ≡ Some key → (call : Call) × Contains part call × (key_of call ≡ Some key)
  pub all : (call : Call) (key : SortKey) → Contains part call → key_of call ≡ Some key → In keys key
  pub rises : (i j : ℕ) (a b : SortKey) → i < j → slice_get keys i ≡ Some a → slice_get keys j ≡ Some b → IsFirst a b

-- a settled call of a part in which each completed call has a note has one
pub settled_noted : (part : List Call) → AllNoted part → (call : Call) → Contains part call → IsSettled call → IsNotedCall call
settled_noted part noted call h (inl done) = noted call h done
settled_noted part noted call h (inr write) = write.1

abbrev pub ops_of : List SortKey → List OpId
ops_of = map (λ (key : SortKey). key.op)

module _ (part : List Call) (sequence : IsSequence part) (noted : AllNoted part) (keys : List SortKey) (sorted : AreSorted part keys) where
  -- the key at the place of a call is the call's
  key_at : (i : ℕ) (call : Call) → StandsAt part (ops_of keys) i call → (key : SortKey) × (slice_get keys i ≡ Some key) × IsKeyOf call key
  key_at i call stands =
      let k = slice_get-map_back (λ (key : SortKey). key.op) keys i call.op stands.listed in
      let c = sorted.each i k.0 k.1 in
      let is = key_is c.0 k.0 c.2 in
      let same : c.0 ≡ call = same_call part sequence c.0 call c.1 stands.recorded (ap (λ (o : OpId). o.0) (sym is.number ∙ k.2)) in
      (k.0, k.1, subst (λ (x : Call). IsKeyOf x k.0) same is)

  -- and each key stands for its call
  stands_at : (i : ℕ) (key : SortKey) (call : Call) → slice_get keys i ≡ Some key → Contains part call → key_of call ≡ Some key → StandsAt part (ops_of keys) i call
  stands_at i key call at h is = record {
    listed = slice_get-map_at (λ (k : SortKey). k.op) keys i key at ∙ ap Some (key_is call key is).number;
    recorded = h;
  }

  known : (i : ℕ) → i < length (ops_of keys) → (call : Call) × StandsAt part (ops_of keys) i call × IsSettled call
  known i within =
      let o = get_at (ops_of keys) i within in
      let k = slice_get-map_back (λ (key : SortKey). key.op) keys i o.0 o.1 in
      let c = sorted.each i k.0 k.1 in
      (c.0, stands_at i k.0 c.0 k.1 c.1 c.2, (key_is c.0 k.0 c.2).settled)

  all : (call : Call) → Contains part call → IsSettled call → (i : ℕ) × StandsAt part (ops_of keys) i call
  all call h settled =
      let n = settled_noted part noted call h settled in
      let k = has_key call n.0 settled n.1 in
      let i = sorted.all call k.0 h k.1 in
      (i.0, stands_at i.0 k.0 call i.1 h k.1)

  -- the order of the keys is that of their calls
  ordered : (a b : Call) (k l : SortKey) → Contains part a → Contains part b → IsKeyOf a k → IsKeyOf b l → ComesFirst k l → ComesBefore a k.tag b l.tag
  ordered a b k l in_a in_b x y (inl below) = inl below
  ordered a b k l in_a in_b x y (inr (tags, inl (write, read))) = inr (tags, inl (x.writes write, y.reads read))
  ordered a b k l in_a in_b x y (inr (tags, inr (same, less))) =
      let first : a.invoked < b.invoked = invoked_first part sequence a b in_a in_b (let p = ap (λ (o : OpId). o.0) x.number in let q = ap (λ (o : OpId). o.0) y.number in omega arith) in
      inr (tags, inr (kinds k.is_read l.is_read refl refl, first))
    where
      kinds : (r s : Bool) → k.is_read ≡ r → l.is_read ≡ s → (IsRead a × IsRead b) ⊎ (IsWrite a × IsWrite b)
      kinds true true er es = inl (x.reads er, y.reads es)
      kinds false false er es = inr (x.writes er, y.writes es)
      kinds true false er es = absurd (cc)
      kinds false true er es = absurd (cc)

  in_order : (i j : ℕ) (a b : Call) (s t : Tag) → i < j → StandsAt part (ops_of keys) i a → StandsAt part (ops_of keys) j b → a.note ≡ Some s → b.note ≡ Some t → ComesBefore a s b t
  in_order i j a b s t less at_a at_b es et =
      let k = key_at i a at_a in
      let l = key_at j b at_b in
      let left : k.0.tag ≡ s = cc (es, k.2.noted) in
      let right : l.0.tag ≡ t = cc (et, l.2.noted) in
      let first = in_words k.0 l.0 (sorted.rises i j k.0 l.0 less k.1 l.1) in
      subst (λ (x : Tag). ComesBefore a x b t) left (subst (λ (y : Tag). ComesBefore a k.0.tag b y) right (ordered a b k.0 l.0 at_a.recorded at_b.recorded k.2 l.2 first))

  pub IsByTag-keys : IsByTag part (ops_of keys)
  IsByTag-keys = record {
    known = known;
    noted = λ i call stands. let k = key_at i call stands in (k.0.tag, k.2.noted);
    all = all;
    sorted = in_order;
  }
