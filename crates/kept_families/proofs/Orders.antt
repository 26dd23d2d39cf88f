-- A part has an order, if each read has read a write, no two families are opposed, and no read of nothing is late.
use Rattle.std.proofs.Common.{ℕ, zero, suc, ◌≡◌, ◌<◌, ◌≤◌, ◌+◌, ◌⊎◌, inl, inr, true, false, List, [], ◌∷◌, ◌++◌, Option, Some, None, length, add-one, ap, sym, ◌∙◌, subst, refl, arith}
use Rattle.std.specs.List.{slice_get, Contains}
use Rattle.std.proofs.lemmas.Bool.{cases_lt}
use Rattle.std.proofs.lemmas.List.Sorted.{ranks_by}
use Rattle.std.proofs.lemmas.Option.{same_Some, none-some, slice_get_within}
use Rattle.std.specs.Ordering.{is_lt}
use Rattle.tag.proofs.Lists.{place_of, Contains-slice_get, get_at, push_cases, slice_get-push_left, slice_get-push_last}
use Rattle.tag.specs.declared.numbers.OpId.{OpId}
use Rattle.tag_check.specs.Least.{HasNoPair}
use Rattle.recorder.specs.declared.part.Call.{Call}
use Rattle.recorder.specs.declared.part.Response.{Response}
use Rattle.recorder.specs.Orders.{IsLinearizable}
use Rattle.recorder.specs.Parts.{IsSequence, IsCompleted}
use Rattle.recorder.specs.Sound.{IsRead, IsWrite}
use Rattle.value_order.specs.Families.{IsOfFamily, IsAnsweredBy}
use Rattle.value_order.specs.Faults.{IsLateNothing}
use Rattle.value_order.specs.Keys.{ComesFirst, key_cmp, IsNothingKey, IsMemberKey, IsCallKey, IsListed, IsByFamilies}
use Rattle.value_order.specs.Tables.{ReadsBy}
use Rattle.value_order.specs.Zones.{rank_of, AreZones, NoneCross, IsLastRow}
use Rattle.value_order.proofs.ByFamilies.{order_by_families}
use Rattle.value_order.proofs.CallKinds.{read_or_write, not_both, not_answered, index_of}
use Rattle.value_order.proofs.KeyOrder.{key_cmp_total, NumbersRise, are_sorted}
use Rattle.value_order.proofs.ZoneRows.{opposed_from_cross, first_at_most}
use Rattle.kept_families.specs.Oppositions.{IsFree}
use Rattle.kept_families.specs.SoundTables.{AreReads, AreAllRead}
use Rattle.kept_families.proofs.Sorting.{sorted_list}
use Rattle.kept_families.proofs.ZonesExist.{Kind, Zone, beside, zones_exist}

-- sort keys, which have no name outside their crate
abbrev pub SortKey : Type 0
SortKey = Kind ComesFirst

module _ (part : List Call) (source : ℕ → Option ℕ) (sequence : IsSequence part) (sound : AreReads part (ReadsBy part source)) (all : AreAllRead part (ReadsBy part source)) (row : ℕ) (last : IsLastRow part row) (zones : List Zone) (are : AreZones part (ReadsBy part source) row zones) where
  abbrev Listed : Call → Type 0
  Listed call = IsListed part (ReadsBy part source) zones call

  -- the key of the call at an index
  record KeyAt (i : ℕ) (call : Call) (key : SortKey) : Type 0 where
    own : key.index ≡ i
    is : IsNothingKey part (ReadsBy part source) zones call key ⊎ IsMemberKey part (ReadsBy part source) zones call key

  abbrev KeyOr : ℕ → Call → Type 0
  KeyOr i call = ((key : SortKey) × KeyAt i call key) ⊎ (Listed call → ⊥)

  zone_at : (k : ℕ) (write : Call) → slice_get part k ≡ Some write → (zone : Zone) × (slice_get zones k ≡ Some zone)
  zone_at k write at = get_at zones k (omega (arith, slice_get_within part k write at, are.all))

  -- a write whose family has no end isn't listed
  write_by : (i : ℕ) (call : Call) → slice_get part i ≡ Some call → IsWrite call → (zone : Zone) → slice_get zones i ≡ Some zone → (o : Option ℕ) → zone.first_end ≡ o → KeyOr i call
  write_by i call at write zone here None e = inr (λ listed. elim listed [
    | inl n ↦ not_both call n.reads write
    | inr f ↦ elim f.7.belongs [
      | inl same ↦
          let index = index_of part sequence f.0 i f.1 call f.4 at (sym same) in
          let zones_same : f.2 ≡ zone = same_Some f.2 zone (sym f.5 ∙ (ap (slice_get zones) index ∙ here)) in
          none-some f.3 (sym e ∙ (ap (λ (z : Zone). z.first_end) (sym zones_same) ∙ f.6))
      | inr reads ↦ not_both call (sound.each f.1 call reads).writer.answered.reads write
    ]
  ])
  write_by i call at write zone here (Some end) e = inl (
    record { rank = rank_of end zone.last_begin; family = i; is_read = false; index = i },
    record {
      own = refl;
      is = inr (record {
        write = call;
        at = at;
        of = record { recorded = Contains-slice_get part i call at; writes = write; belongs = inl refl };
        ranked = record { zone = zone; end = end; at = here; ends = e; rank = refl };
        reads = λ b. absurd (cc);
        writes = λ b. refl;
      });
    },
  )

  -- a pending read isn't listed
  pending_read : (call : Call) → IsRead call → call.response ≡ None → Listed call → ⊥
  pending_read call read pending (inl n) = not_answered call n.response pending n.responds
  pending_read call read pending (inr f) = elim f.7.belongs [
    | inl same ↦ not_both call read (subst IsWrite (sym same) f.7.writes)
    | inr reads ↦ (let a = (sound.each f.1 call reads).writer.answered in not_answered call a.response pending a.responds)
  ]

  -- what a read has read has an end
  read_key : (i : ℕ) (call : Call) (response : Response) → slice_get part i ≡ Some call → call.response ≡ Some response → (write : Call) → ReadsBy part source write call → (key : SortKey) × KeyAt i call key
  read_key i call response at responds write reads =
      let w = (sound.each write call reads).writer in
      let k = place_of part write reads.written in
      let z = zone_at k.0 write k.1 in
      let of : IsOfFamily part (ReadsBy part source) write call = record { recorded = reads.recorded; writes = (w.value, w.writes); belongs = inr reads } in
      let is = are.writes k.0 write z.0 k.1 (w.value, w.writes) z.1 in
      let ended : IsAnsweredBy row call = record { response = response; responds = responds; by = last call response reads.recorded responds } in
      let f = first_at_most part (ReadsBy part source) row write z.0.first_end is.first response.place (record { call = call; of = of; ended = ended; at = refl }) in (
        record { rank = rank_of f.0 z.0.last_begin; family = k.0; is_read = true; index = i },
        record {
          own = refl;
          is = inr (record {
            write = write;
            at = k.1;
            of = of;
            ranked = record { zone = z.0; end = f.0; at = z.1; ends = f.1; rank = refl };
            reads = λ b. w.answered.reads;
            writes = λ b. absurd (cc);
          });
        },
      )

  read_by : (i : ℕ) (call : Call) → slice_get part i ≡ Some call → IsRead call → (o : Option Response) → call.response ≡ o → KeyOr i call
  read_by i call at read None e = inr (pending_read call read e)
  read_by i call at read (Some r) e = elim (all call (Contains-slice_get part i call at) read (r, e)) [
    | inl n ↦ inl (record { rank = 0; family = 0; is_read = true; index = i }, record { own = refl; is = inl (record { nothing = n; rank = refl; family = refl; reads = refl }) })
    | inr w ↦ inl (read_key i call r at e w.0 w.1)
  ]

  key_or : (i : ℕ) (call : Call) → slice_get part i ≡ Some call → KeyOr i call
  key_or i call at = elim (read_or_write call) [
    | inl read ↦ read_by i call at read call.response refl
    | inr write ↦ (let z = zone_at i call at in write_by i call at write z.0 z.1 z.0.first_end refl)
  ]

  -- the keys of the listed calls below an index
  record Made (n : ℕ) : Type 0 where
    keys : List SortKey
    each : (p : ℕ) (key : SortKey) → slice_get keys p ≡ Some key → (key.index < n) × IsCallKey part (ReadsBy part source) zones key
    made : (i : ℕ) (call : Call) → i < n → slice_get part i ≡ Some call → Listed call → (p : ℕ) × (key : SortKey) × (slice_get keys p ≡ Some key) × (key.index ≡ i)
    rise : NumbersRise keys

  made_none : Made 0
  made_none = record {
    keys = [];
    each = λ p key at. absurd (none-some key at);
    made = λ i call less at listed. absurd (omega arith);
    rise = λ i j a b less at_i at_j. absurd (none-some a at_i);
  }

  module _ (n : ℕ) (call : Call) (at : slice_get part n ≡ Some call) (m : Made n) where
    same_call_at : (i : ℕ) (other : Call) → i ≡ n → slice_get part i ≡ Some other → call ≡ other
    same_call_at i other here at_i = same_Some call other (sym at ∙ (ap (slice_get part) (sym here) ∙ at_i))

    made_same : (Listed call → ⊥) → Made (n + 1)
    made_same never = record {
      keys = m.keys;
      each = λ p key here. (let e = m.each p key here in (omega (arith, e.0), e.1));
      made = λ i other less at_i listed. elim (cases_lt i n) [
        | inl h ↦ m.made i other h at_i listed
        | inr h ↦ absurd (never (subst Listed (sym (same_call_at i other (omega arith) at_i)) listed))
      ];
      rise = m.rise;
    }

    made_more : (key : SortKey) → KeyAt n call key → Made (n + 1)
    made_more key k = record {
      keys = m.keys ++ key ∷ [];
      each = λ p x here. elim (push_cases m.keys key p x here) [
        | inl h ↦ (let e = m.each p x h in (omega (arith, e.0), e.1))
        | inr h ↦ subst (λ (y : SortKey). (y.index < n + 1) × IsCallKey part (ReadsBy part source) zones y) h.1 (omega (arith, k.own), (call, ap (slice_get part) k.own ∙ at, k.is))
      ];
      made = λ i other less at_i listed. elim (cases_lt i n) [
        | inl h ↦ (let e = m.made i other h at_i listed in (e.0, e.1, slice_get-push_left m.keys key e.0 e.1 e.2, e.3))
        | inr h ↦ (length m.keys, key, slice_get-push_last m.keys key, (let own = k.own in omega arith))
      ];
      rise = λ i j a b less at_i at_j. elim (push_cases m.keys key j b at_j) [
        | inl h ↦ elim (push_cases m.keys key i a at_i) [
          | inl g ↦ m.rise i j a b less g h
          | inr g ↦ absurd (let small = slice_get_within m.keys j b h in omega (arith, g.0))
        ]
        | inr h ↦ elim (push_cases m.keys key i a at_i) [
          | inl g ↦
              let low = (m.each i a g).0 in
              let same : key.index ≡ b.index = ap (λ (x : SortKey). x.index) h.1 in
              omega (arith, k.own)
          | inr g ↦ absurd (omega (arith, g.0, h.0))
        ]
      ];
    }

  made_next : (n : ℕ) → n < length part → Made n → Made (n + 1)
  made_next n within m =
      let c = get_at part n within in
      elim (key_or n c.0 c.1) [ inl k ↦ made_more n c.0 c.1 m k.0 k.1 | inr never ↦ made_same n c.0 c.1 m never ]

  made_all : (n : ℕ) → n ≤ length part → Made n
  made_all zero within = made_none
  made_all (suc n) within = rw (← add-one) (made_next n (omega arith) (made_all n (omega arith)))

  listed_by : (call : Call) → Contains part call → (o : Option Response) → call.response ≡ o → IsCompleted call → Listed call
  listed_by call there None e done = absurd (not_answered call done.0 e done.1)
  listed_by call there (Some r) e done =
      let i = place_of part call there in
      elim (key_or i.0 call i.1) [
        | inl k ↦ elim k.1.is [
          | inl n ↦ inl n.nothing
          | inr m ↦ inr (k.0.family, m.write, m.ranked.zone, m.ranked.end, m.at, m.ranked.at, m.ranked.ends, m.of)
        ]
        | inr never ↦ absurd (never (elim (read_or_write call) [
          | inl read ↦ elim (all call there read (r, e)) [
            | inl n ↦ inl n
            | inr w ↦ (let k = read_key i.0 call r i.1 e w.0 w.1 in elim k.1.is [
              | inl n ↦ inl n.nothing
              | inr m ↦ inr (k.0.family, m.write, m.ranked.zone, m.ranked.end, m.at, m.ranked.at, m.ranked.ends, m.of)
            ])
          ]
          | inr write ↦
              let z = zone_at i.0 call i.1 in
              let is = are.writes i.0 call z.0 i.1 write z.1 in
              let of : IsOfFamily part (ReadsBy part source) call call = record { recorded = there; writes = write; belongs = inl refl } in
              let ended : IsAnsweredBy row call = record { response = r; responds = e; by = last call r there e } in
              let f = first_at_most part (ReadsBy part source) row call z.0.first_end is.first r.place (record { call = call; of = of; ended = ended; at = refl }) in
              inr (i.0, call, z.0, f.0, i.1, z.1, f.1, of)
        ]))
      ]

  free_of_crossing : IsFree part (ReadsBy part source) row → NoneCross zones
  free_of_crossing free k m c = (let o = opposed_from_cross part (ReadsBy part source) row zones are sequence k m c in free (o.0, o.1, o.4))

  -- the number of the call at a key's index
  OpAt : SortKey → OpId → Type 0
  OpAt key op = (call : Call) × (slice_get part key.index ≡ Some call) × (op ≡ call.op)

  pub sorted_by_families : (order : List OpId) × IsByFamilies part (ReadsBy part source) zones order
  unfolding OpAt
  sorted_by_families =
      let m = made_all (length part) (omega arith) in
      let s = sorted_list (λ (x y : SortKey). is_lt (key_cmp x y)) (ranks_by key_cmp_total (λ (k : SortKey). k)) m.keys in
      let a = are_sorted m.keys s.0 m.rise s.1 s.2 in
      let is : (key : SortKey) → Contains s.0 key → IsCallKey part (ReadsBy part source) zones key = λ key there.
      let p = place_of s.0 key there in
      let q = a.each p.0 key p.1 in
      (m.each q.0 key q.1).1 in
      let ops = beside OpAt s.0 (λ key there. (let c = is key there in (c.0.op, (c.0, c.1, refl)))) in (
        ops.ys,
        record {
          keys = s.0;
          each = λ p key at. is key (Contains-slice_get s.0 p key at);
          all = λ i call at listed.
              let e = m.made i call (slice_get_within part i call at) at listed in
              let q = a.all e.0 e.1 e.2 in
              (q.0, e.1, q.1, e.3);
          rises = a.rises;
          apart = a.apart;
          count = ops.all;
          numbers = λ p key call at here.
              let o = get_at ops.ys p (omega (arith, ops.all, slice_get_within s.0 p key at)) in
              let c = ops.each p key o.0 at o.1 in
              let same : c.0 ≡ call = same_Some c.0 call (sym c.1 ∙ here) in
              o.1 ∙ ap Some (c.2 ∙ ap (λ (x : Call). x.op) same);
        },
      )

pub free_is_linearizable : (part : List Call) (source : ℕ → Option ℕ) (row : ℕ) → IsSequence part → IsLastRow part row → AreReads part (ReadsBy part source) → AreAllRead part (ReadsBy part source) → IsFree part (ReadsBy part source) row → HasNoPair part IsLateNothing → IsLinearizable part
free_is_linearizable part source row sequence last sound all free late =
    let z = zones_exist part source sequence sound row last in
    let o = sorted_by_families part source sequence sound all row last z.0 z.1 in
    (o.0, order_by_families part sequence (ReadsBy part source) (λ write read reads. (sound.each write read reads).writer) row last z.0 z.1 (free_of_crossing part source sequence sound all row last z.0 z.1 free) late o.0 o.1 (λ call there done. listed_by part source sequence sound all row last z.0 z.1 call there call.response refl done))
