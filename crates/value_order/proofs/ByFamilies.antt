-- Calls sorted by their families are an order, if no two families cross and no read of nothing is late.
use Rattle.std.proofs.Common.{ℕ, ◌≡◌, ◌≢◌, ◌<◌, ◌≤◌, ◌+◌, ◌*◌, ◌⊎◌, inl, inr, min, List, Option, Some, None, Bool, true, false, true≢false, length, sym, ◌∙◌, ap, subst, refl, arith}
use Rattle.std.specs.List.{slice_get, Contains}
use Rattle.std.proofs.lemmas.Bool.{cases_lt, cases_eq}
use Rattle.std.proofs.lemmas.Option.{same_Some, slice_get_within}
use Rattle.tag.specs.declared.actions.Action.TheVariants.{Read}
use Rattle.tag.specs.declared.numbers.OpId.{OpId}
use Rattle.tag.proofs.Lists.{place_of, Contains-slice_get, get_at}
use Rattle.tag_check.specs.Least.{HasNoPair}
use Rattle.recorder.specs.declared.part.Call.{Call}
use Rattle.recorder.specs.declared.part.Response.{Response}
use Rattle.recorder.specs.Parts.{IsSequence, IsCompleted, IsPending, Precedes}
use Rattle.recorder.specs.Orders.{StandsAt, NoWriteFrom, IsLegal, IsOrder}
use Rattle.recorder.specs.Sound.{IsWrite}
use Rattle.recorder.proofs.Sequences.{same_call}
use Rattle.value_order.specs.declared.keys.SortKey.{SortKey}
use Rattle.value_order.specs.declared.zones.Zone.{Zone}
use Rattle.value_order.specs.Writers.{IsWriter}
use Rattle.value_order.specs.Families.{IsOfFamily, IsAnsweredBy, IsMemberBy}
use Rattle.value_order.specs.Faults.{ShowsValue, IsLateNothing}
use Rattle.value_order.specs.Keys.{ComesFirst, HasRank, IsNothingKey, IsMemberKey, IsListed, IsByFamilies}
use Rattle.value_order.specs.Zones.{rank_of, AreZones, NoneCross, IsLastRow}
use Rattle.value_order.proofs.Crosses.{cross_by_rank}
use Rattle.value_order.proofs.KeyOrder.{rank_at_most}
use Rattle.value_order.proofs.CallKinds.{not_both, not_answered, index_of, call_at}
use Rattle.value_order.proofs.ZoneRows.{first_ends}

-- of keys of one rank
pub family_at_most : (a b : SortKey) → ComesFirst a b → a.rank ≡ b.rank → a.family ≤ b.family
family_at_most a b (inl h) same = absurd (omega arith)
family_at_most a b (inr (e, inl h)) same = omega arith
family_at_most a b (inr (e, inr h)) same = let f : a.family ≡ b.family = h.0 in omega arith

-- of keys of one family
in_family : (a b : SortKey) → ComesFirst a b → a.rank ≡ b.rank → a.family ≡ b.family → ((a.is_read ≡ false) × (b.is_read ≡ true)) ⊎ ((a.is_read ≡ b.is_read) × (a.index < b.index))
in_family a b (inl h) rank family = absurd (omega arith)
in_family a b (inr (e, inl h)) rank family = absurd (omega arith)
in_family a b (inr (e, inr h)) rank family = h.1

-- two keys of families, of one family, have one rank
same_rank : (zones : List Zone) (a b : SortKey) → HasRank zones a → HasRank zones b → a.family ≡ b.family → a.rank ≡ b.rank
same_rank zones a b x y same =
    let zone : x.zone ≡ y.zone = same_Some x.zone y.zone (sym x.at ∙ (ap (slice_get zones) same ∙ y.at)) in
    let end : x.end ≡ y.end = same_Some x.end y.end (sym x.ends ∙ (ap (λ (z : Zone). z.first_end) zone ∙ y.ends)) in
    let last : x.zone.last_begin ≡ y.zone.last_begin = ap (λ (z : Zone). z.last_begin) zone in
    let left : a.rank ≡ min (2 * x.zone.last_begin + 1) (2 * x.end + 2) = x.rank in
    let right : b.rank ≡ min (2 * y.zone.last_begin + 1) (2 * y.end + 2) = y.rank in
    omega arith

-- a family ranks above nothing
rank_positive : (zones : List Zone) (key : SortKey) → HasRank zones key → 1 ≤ key.rank
rank_positive zones key x =
    let is : key.rank ≡ min (2 * x.zone.last_begin + 1) (2 * x.end + 2) = x.rank in
    omega arith

-- a read of the last end
reads_by : (b : Bool) → (b ≡ false → ⊥) → b ≡ true
reads_by true h = refl
reads_by false h = absurd (h refl)

writes_by : (b : Bool) → (b ≡ true → ⊥) → b ≡ false
writes_by true h = absurd (h refl)
writes_by false h = refl

module _ (part : List Call) (sequence : IsSequence part) (Reads : Call → Call → Type 0) (writer : (write read : Call) → Reads write read → IsWriter part write read)
    (row : ℕ) (last : IsLastRow part row) (zones : List Zone) (are : AreZones part Reads row zones) (free : NoneCross zones) (late : HasNoPair part IsLateNothing)
    (order : List OpId) (by : IsByFamilies part Reads zones order) (listed : (call : Call) → Contains part call → IsCompleted call → IsListed part Reads zones call) where
  -- a call with its key
  pub record Keyed (p : ℕ) (call : Call) : Type 0 where
    pub key : SortKey
    pub here : slice_get by.keys p ≡ Some key
    pub at : slice_get part key.index ≡ Some call
    pub is : IsNothingKey part Reads zones call key ⊎ IsMemberKey part Reads zones call key

  -- the key at a place, and the call that stands there
  stands_by : (p : ℕ) (key : SortKey) (call : Call) → slice_get by.keys p ≡ Some key → slice_get part key.index ≡ Some call → StandsAt part order p call
  stands_by p key call here at = record { listed = by.numbers p key call here at; recorded = Contains-slice_get part key.index call at }

  pub keyed : (p : ℕ) (call : Call) → StandsAt part order p call → Keyed p call
  keyed p call stands =
      let k = get_at by.keys p (omega (arith, by.count, slice_get_within order p call.op stands.listed)) in
      let c = by.each p k.0 k.1 in
      let op : c.0.op ≡ call.op = same_Some c.0.op call.op (sym (by.numbers p k.0 c.0 k.1 c.1) ∙ stands.listed) in
      let same : c.0 ≡ call = same_call part sequence c.0 call (Contains-slice_get part k.0.index c.0 c.1) stands.recorded (ap (λ (o : OpId). o.0) op) in
      record {
        key = k.0;
        here = k.1;
        at = subst (λ (x : Call). slice_get part k.0.index ≡ Some x) same c.1;
        is = subst (λ (x : Call). IsNothingKey part Reads zones x k.0 ⊎ IsMemberKey part Reads zones x k.0) same c.2;
      }

  known : (p : ℕ) → p < length order → (call : Call) × StandsAt part order p call
  known p within =
      let k = get_at by.keys p (omega (arith, by.count)) in
      let c = by.each p k.0 k.1 in
      (c.0, stands_by p k.0 c.0 k.1 c.1)

  once : (p q : ℕ) → p < q → q < length order → slice_get order p ≢ slice_get order q
  once p q less within same =
      let b = known q within in
      let there : StandsAt part order p b.0 = record { listed = same ∙ b.1.listed; recorded = b.1.recorded } in
      let x = keyed p b.0 there in
      let y = keyed q b.0 b.1 in
      by.apart p q x.key y.key less x.here y.here (index_of part sequence x.key.index y.key.index b.0 b.0 x.at y.at refl)

  complete : (call : Call) → Contains part call → IsCompleted call → (p : ℕ) × StandsAt part order p call
  complete call there done =
      let i = place_of part call there in
      let p = by.all i.0 call i.1 (listed call there done) in
      (p.0, stands_by p.0 p.1 call p.2 (ap (slice_get part) p.3 ∙ i.1))

  -- a write's key is its own family's
  record OwnKey (call : Call) (key : SortKey) : Type 0 where
    own : key.index ≡ key.family
    ranked : HasRank zones key
    kind : key.is_read ≡ false

  own_key : (p : ℕ) (call : Call) → IsWrite call → (x : Keyed p call) → OwnKey call x.key
  own_key p call write x = elim x.is [
    | inl n ↦ absurd (not_both call n.nothing.reads write)
    | inr m ↦
        let kind : x.key.is_read ≡ false = writes_by x.key.is_read (λ e. not_both call (m.reads e) write) in
        record {
          own = index_of part sequence x.key.index x.key.family call m.write x.at m.at (m.writes kind);
          ranked = m.ranked;
          kind = kind;
        }
  ]

  pending_is_no_read : (p : ℕ) (call : Call) → StandsAt part order p call → IsPending call → call.action ≢ Read
  pending_is_no_read p call stands pending read = elim (keyed p call stands).is [
    | inl n ↦ not_answered call n.nothing.response pending n.nothing.responds
    | inr m ↦ elim m.of.belongs [
      | inl same ↦ not_both call read (subst IsWrite (sym same) m.of.writes)
      | inr reads ↦ (let a = (writer m.write call reads).answered in not_answered call a.response pending a.responds)
    ]
  ]

  -- no write stands before a read of nothing
  none_before : (p : ℕ) (call : Call) (x : Keyed p call) → IsNothingKey part Reads zones call x.key → NoWriteFrom part order 0 p
  none_before p call x n k value low less w =
      let u = keyed k w.0 w.1 in
      let o = own_key k w.0 (value, w.2) u in
      let high = rank_positive zones u.key o.ranked in
      let first = rank_at_most u.key x.key (by.rises k p u.key x.key less u.here x.here) in
      omega (arith, n.rank)

  -- the key of the write of a read's family
  record WriteKey (write : Call) (key : SortKey) : Type 0 where
    p : ℕ
    at : Keyed p write
    stands : StandsAt part order p write
    kind : at.key.is_read ≡ false
    rank : at.key.rank ≡ key.rank
    family : at.key.family ≡ key.family

  write_key : (call : Call) (key : SortKey) (m : IsMemberKey part Reads zones call key) → WriteKey m.write key
  write_key call key m =
      let there = Contains-slice_get part key.family m.write m.at in
      let self : IsOfFamily part Reads m.write m.write = record { recorded = there; writes = m.of.writes; belongs = inl refl } in
      let p = by.all key.family m.write m.at (inr (key.family, m.write, m.ranked.zone, m.ranked.end, m.at, m.ranked.at, m.ranked.ends, self)) in
      let stands = stands_by p.0 p.1 m.write p.2 (ap (slice_get part) p.3 ∙ m.at) in
      let x = keyed p.0 m.write stands in
      let o = own_key p.0 m.write m.of.writes x in
      let index : x.key.index ≡ key.family = index_of part sequence x.key.index key.family m.write m.write x.at m.at refl in
      let family : x.key.family ≡ key.family = sym o.own ∙ index in
      record { p = p.0; at = x; stands = stands; kind = o.kind; rank = same_rank zones x.key key o.ranked m.ranked family; family = family }

  -- it stands before the read
  before_read : (p : ℕ) (call : Call) (x : Keyed p call) (m : IsMemberKey part Reads zones call x.key) → x.key.is_read ≡ true → (w : WriteKey m.write x.key) → w.p < p
  before_read p call x m reads w =
      elim (cases_lt w.p p) [
        | inl h ↦ h
        | inr h ↦ elim (cases_lt p w.p) [
          | inl g ↦ elim (in_family x.key w.at.key (by.rises p w.p x.key w.at.key g x.here w.at.here) (sym w.rank) (sym w.family)) [
            | inl f ↦ absurd (true≢false (sym reads ∙ f.0))
            | inr f ↦ absurd (true≢false (sym reads ∙ (f.0 ∙ w.kind)))
          ]
          | inr g ↦
              let here : w.p ≡ p = omega arith in
              let same : w.at.key ≡ x.key = same_Some w.at.key x.key (sym w.at.here ∙ (ap (slice_get by.keys) here ∙ x.here)) in
              absurd (true≢false (sym reads ∙ (ap (λ (k : SortKey). k.is_read) (sym same) ∙ w.kind)))
        ]
      ]

  -- and no write stands between
  none_between : (p : ℕ) (call : Call) (x : Keyed p call) (m : IsMemberKey part Reads zones call x.key) → (w : WriteKey m.write x.key) → NoWriteFrom part order (w.p + 1) p
  none_between p call x m w k value low less other =
      let u = keyed k other.0 other.1 in
      let o = own_key k other.0 (value, other.2) u in
      let left = by.rises w.p k w.at.key u.key (omega arith) w.at.here u.here in
      let right = by.rises k p u.key x.key less u.here x.here in
      let rank_l : w.at.key.rank ≤ u.key.rank = rank_at_most w.at.key u.key left in
      let rank_r : u.key.rank ≤ x.key.rank = rank_at_most u.key x.key right in
      let same : w.at.key.rank ≡ x.key.rank = w.rank in
      let one_l : w.at.key.rank ≡ u.key.rank = omega arith in
      let one_r : u.key.rank ≡ x.key.rank = omega arith in
      let family_l : w.at.key.family ≤ u.key.family = family_at_most w.at.key u.key left one_l in
      let family_r : u.key.family ≤ x.key.family = family_at_most u.key x.key right one_r in
      let family : w.at.key.family ≡ x.key.family = w.family in
      let one : u.key.family ≡ w.at.key.family = omega arith in
      let own = own_key w.p m.write m.of.writes w.at in
      by.apart w.p k w.at.key u.key (omega arith) w.at.here u.here (own.own ∙ (sym one ∙ sym o.own))

  legal : IsLegal part order
  legal p call response stands read answered =
      let x = keyed p call stands in
      elim x.is [
        | inl n ↦
            let same : n.nothing.response ≡ response = same_Some n.nothing.response response (sym n.nothing.responds ∙ answered) in
            (None, ap (λ (r : Response). r.returned) (sym same) ∙ n.nothing.answers, none_before p call x n)
        | inr m ↦ elim m.of.belongs [
          | inl own ↦ absurd (not_both call read (subst IsWrite (sym own) m.of.writes))
          | inr reads ↦
              let wr = writer m.write call reads in
              let a = wr.answered in
              let same : a.response ≡ response = same_Some a.response response (sym a.responds ∙ answered) in
              let w = write_key call x.key m in
              let kind : x.key.is_read ≡ true = reads_by x.key.is_read (λ e. not_both call read (subst IsWrite (sym (m.writes e)) m.of.writes)) in
              (Some wr.value, ap (λ (r : Response). r.returned) (sym same) ∙ a.answers, (w.p, before_read p call x m kind w, (m.write, w.stands, wr.writes), none_between p call x m w))
        ]
      ]

  -- a call of a lower index doesn't come after one that precedes it
  by_index : (a b : Call) (i j : ℕ) → slice_get part i ≡ Some a → slice_get part j ≡ Some b → i < j → Precedes b a → ⊥
  by_index a b i j at_i at_j less before =
      let up = sequence.places i j a b less at_i at_j in
      let later = sequence.responses b before.0 (Contains-slice_get part j b at_j) before.1 in
      omega (arith, before.2)

  shows : (b : Call) (y : SortKey) → IsMemberKey part Reads zones b y → ShowsValue b
  shows b y m = elim m.of.belongs [
    | inl same ↦ inl (subst IsWrite (sym same) m.of.writes)
    | inr reads ↦ (let wr = writer m.write b reads in inr (wr.value, wr.answered))
  ]

  is_member : (a : Call) (x : SortKey) (m : IsMemberKey part Reads zones a x) → IsMemberBy part Reads row m.write a
  is_member a x m = record {
    of = m.of;
    there = elim m.of.belongs [
      | inl same ↦ inl same
      | inr reads ↦
          let r = (writer m.write a reads).answered in
          inr (record { response = r.response; responds = r.responds; by = last a r.response m.of.recorded r.responds })
    ];
  }

  -- of two families the one that ranks no lower doesn't precede the other
  apart_families : (a b : Call) (x y : SortKey) → IsMemberKey part Reads zones a x → IsMemberKey part Reads zones b y → x.rank ≤ y.rank → (x.family ≡ y.family → ⊥) → Precedes b a → ⊥
  apart_families a b x y m n low other before =
      let zone_x = are.writes x.family m.write m.ranked.zone m.at m.of.writes m.ranked.at in
      let zone_y = are.writes y.family n.write n.ranked.zone n.at n.of.writes n.ranked.at in
      let begins : a.invoked ≤ m.ranked.zone.last_begin = zone_x.last.1 a.invoked (record { call = a; member = is_member a x m; at = refl }) in
      let by_last : IsAnsweredBy row b = record { response = before.0; responds = before.1; by = last b before.0 n.of.recorded before.1 } in
      let ends : n.ranked.end ≤ before.0.place = (first_ends part Reads row n.write n.ranked.zone.first_end n.ranked.end n.ranked.ends zone_y.first).1 before.0.place (record { call = b; of = n.of; ended = by_last; at = refl }) in
      let back : n.ranked.end < m.ranked.zone.last_begin = omega (arith, before.2) in
      let low : rank_of m.ranked.end m.ranked.zone.last_begin ≤ rank_of n.ranked.end n.ranked.zone.last_begin = subst (λ (q : ℕ). q ≤ rank_of n.ranked.end n.ranked.zone.last_begin) m.ranked.rank (subst (λ (q : ℕ). x.rank ≤ q) n.ranked.rank low) in
      free x.family y.family (record {
        a = m.ranked.zone;
        b = n.ranked.zone;
        end_a = m.ranked.end;
        end_b = n.ranked.end;
        apart = other;
        at_a = m.ranked.at;
        at_b = n.ranked.at;
        ends_a = m.ranked.ends;
        ends_b = n.ranked.ends;
        there = cross_by_rank m.ranked.end m.ranked.zone.last_begin n.ranked.end n.ranked.zone.last_begin low back;
        back = back;
      })

  -- and in a family none precedes one before it
  one_family : (a b : Call) (x y : SortKey) → slice_get part x.index ≡ Some a → slice_get part y.index ≡ Some b → IsMemberKey part Reads zones a x → IsMemberKey part Reads zones b y → ComesFirst x y → x.family ≡ y.family → Precedes b a → ⊥
  one_family a b x y at_a at_b m n first family before =
      elim (in_family x y first (same_rank zones x y m.ranked n.ranked family) family) [
        | inr h ↦ by_index a b x.index y.index at_a at_b h.1 before
        | inl h ↦ elim n.of.belongs [
          | inl same ↦ not_both b (n.reads h.1) (subst IsWrite (sym same) n.of.writes)
          | inr reads ↦
              let wr = writer n.write b reads in
              let own : a ≡ n.write = m.writes h.0 ∙ call_at part x.family y.family m.write n.write m.at n.at family in
              let begun : a.invoked ≡ n.write.invoked = ap (λ (c : Call). c.invoked) own in
              let end : wr.answered.response.place ≡ before.0.place = ap (λ (r : Response). r.place) (same_Some wr.answered.response before.0 (sym wr.answered.responds ∙ before.1)) in
              omega (arith, wr.began, before.2)
        ]
      ]

  precedence : (p q : ℕ) (a b : Call) → p < q → StandsAt part order p a → StandsAt part order q b → Precedes b a → ⊥
  precedence p q a b less at_a at_b before =
      let x = keyed p a at_a in
      let y = keyed q b at_b in
      let first = by.rises p q x.key y.key less x.here y.here in
      let low : x.key.rank ≤ y.key.rank = rank_at_most x.key y.key first in
      elim x.is [
        | inl m ↦ elim y.is [
          | inl n ↦ elim (in_family x.key y.key first (m.rank ∙ sym n.rank) (m.family ∙ sym n.family)) [
            | inl h ↦ true≢false (sym m.reads ∙ h.0)
            | inr h ↦ by_index a b x.key.index y.key.index x.at y.at h.1 before
          ]
          | inr n ↦ late a at_a.recorded (b, at_b.recorded, record { shows = shows b y.key n; nothing = m.nothing; precedes = before })
        ]
        | inr m ↦ elim y.is [
          | inl n ↦ (let high = rank_positive zones x.key m.ranked in omega (arith, n.rank))
          | inr n ↦ elim (cases_eq x.key.family y.key.family) [
            | inl same ↦ one_family a b x.key y.key x.at y.at m n first same before
            | inr other ↦ apart_families a b x.key y.key m n low other before
          ]
        ]
      ]

  pub order_by_families : IsOrder part order
  order_by_families = record {
    known = known;
    once = once;
    complete = complete;
    writes = pending_is_no_read;
    legal = legal;
    precedence = precedence;
  }

  -- each call that is listed is completed, or is a pending write with a read of its own
  pub needed : (p : ℕ) (call : Call) → StandsAt part order p call → IsCompleted call ⊎ ((read : Call) × Contains part read × Reads call read)
  needed p call stands = by_response call.response refl
    where
      x : Keyed p call
      x = keyed p call stands

      pending_write : IsPending call → (m : IsMemberKey part Reads zones call x.key) → (call ≡ m.write) → (read : Call) × Contains part read × Reads call read
      pending_write pending m same =
          let z = are.writes x.key.family m.write m.ranked.zone m.at m.of.writes m.ranked.at in
          let e = (first_ends part Reads row m.write m.ranked.zone.first_end m.ranked.end m.ranked.ends z.first).0 in
          elim e.of.belongs [
            | inl own ↦ absurd (not_answered call e.ended.response pending (ap (λ (c : Call). c.response) (same ∙ sym own) ∙ e.ended.responds))
            | inr reads ↦ (e.call, e.of.recorded, subst (λ (c : Call). Reads c e.call) (sym same) reads)
          ]

      by_response : (response : Option Response) → call.response ≡ response → IsCompleted call ⊎ ((read : Call) × Contains part read × Reads call read)
      by_response (Some r) e = inl (r, e)
      by_response None e = elim x.is [
        | inl n ↦ absurd (not_answered call n.nothing.response e n.nothing.responds)
        | inr m ↦ elim m.of.belongs [
          | inl same ↦ inr (pending_write e m same)
          | inr reads ↦ (let a = (writer m.write call reads).answered in absurd (not_answered call a.response e a.responds))
        ]
      ]
