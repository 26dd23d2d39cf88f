-- The first writes of values, once a call more is known.
use Rattle.std.proofs.Common.{ℕ, ◌≡◌, ◌≢◌, ◌<◌, ◌+◌, ◌⊎◌, inl, inr, List, [], Option, replicate, Some, None, Bool, true, false, cond, length, length-set, set, sym, ◌∙◌, ap, subst, refl, arith}
use Rattle.std.specs.List.{slice_get}
use Rattle.std.specs.Borrow.{Bor}
use Rattle.std.specs.BTreeMap.{BTreeMap, get_by, is_at}
use Rattle.std.specs.Cmp.Lexicographic.{slice_cmp}
use Rattle.std.specs.Map.{update, lookup}
use Rattle.std.specs.Option.{option_copied}
use Rattle.std.specs.Ordering.{nat_cmp}
use Rattle.std.specs.Str.{bytes_eq}
use Rattle.std.proofs.lemmas.Bool.{cases_lt, false≢true}
use Rattle.std.proofs.lemmas.Slice.Eq.{bytes_eq-Decides}
use Rattle.std.proofs.lemmas.List.{get_or-replicate, length-replicate}
use Rattle.std.proofs.lemmas.Option.{same_Some, slice_get_within, none-some, get_or_from_slice_get}
use Rattle.tag.proofs.Lists.{slice_get-set}
use Rattle.recorder.specs.declared.part.Call.{Call}
use Rattle.recorder.specs.Sound.{IsRead}
use Rattle.value_order.specs.declared.firsts.Slot.{Slot}
use Rattle.value_order.specs.Classes.{IsFirstWrite, IsFirstBelow}
use Rattle.value_order.specs.Firsts.{mark_of, WritesAt, AreTaken, IsFree, Stands, StandsNowhere, Has, AreFirsts}
use Rattle.value_order.proofs.CallKinds.{not_both, one_written}
use Rattle.value_order.proofs.Slots.{not_taken, still_taken, still_stands, new_stands}

-- a mark isn't 0
pub marked : (value : List ℕ) → mark_of value ≢ 0
marked value e = omega (arith, e)

-- a call writes one value
pub one_value_at : (part : List Call) (i : ℕ) (v w : List ℕ) → WritesAt part i v → WritesAt part i w → v ≡ w
one_value_at part i v w a b =
    let same : a.0 ≡ b.0 = same_Some a.0 b.0 (sym a.1 ∙ b.1) in
    one_written b.0 v w (sym (ap (λ (c : Call). c.action) same) ∙ a.2) b.2

-- a first write is one of that value alone
pub first_value : (part : List Call) (v w : List ℕ) (k : ℕ) → IsFirstWrite part v k → WritesAt part k w → IsFirstWrite part w k
first_value part v w k first writes = subst (λ (x : List ℕ). IsFirstWrite part x k) (one_value_at part k v w (first.write, first.at, first.writes) writes) first

-- where none stands before it, a write is the first
pub first_itself : (part : List Call) (n : ℕ) (value : List ℕ) → WritesAt part n value → IsFirstBelow part value n None → IsFirstWrite part value n
first_itself part n value w none = record {
  write = w.0;
  at = w.1;
  writes = w.2;
  least = λ j other at wrote. elim (cases_lt j n) [ inl h ↦ absurd (none j other h at wrote) | inr h ↦ h ];
}

module _ (part : List Call) (n : ℕ) (slots : List Slot) (others : BTreeMap (Bor (List ℕ)) ℕ) (are : AreFirsts part n slots others) (value : List ℕ) where
  -- a value that neither stands there nor is among the others wasn't written
  pub none_below : StandsNowhere part slots (mark_of value) value → ((k : ℕ) → Has others value k → ⊥) → IsFirstBelow part value n None
  none_below nowhere none j call less at wrote =
      let f = are.found j value less (call, at, wrote) in
      elim f.2 [ inl stands ↦ nowhere f.0 f.1 stands | inr has ↦ none f.0 has ]

  -- nor is it among the others where a place of its mark is free
  pub none_free : (place : ℕ) → IsFree slots (mark_of value) place → StandsNowhere part slots (mark_of value) value → IsFirstBelow part value n None
  none_free place free nowhere = none_below nowhere (λ k has. not_taken slots (mark_of value) place free (are.right value k has).1)

  -- what is found among the others, where it doesn't stand in the table
  pub found_among : StandsNowhere part slots (mark_of value) value → (o : Option ℕ) → o ≡ get_by (λ text. slice_cmp nat_cmp value text.now) others → IsFirstBelow part value n o
  found_among nowhere None e = none_below nowhere (λ k has. none-some k (e ∙ has))
  found_among nowhere (Some k) e = (are.right value k (sym e)).0

  module _ (writes : WritesAt part n value) where
    found_more : (k : ℕ) → IsFirstWrite part value k → (new : List Slot) (now : BTreeMap (Bor (List ℕ)) ℕ)
        → ((mark index : ℕ) → Stands slots mark index → Stands new mark index) → ((v : List ℕ) (m : ℕ) → Has others v m → Has now v m)
        → Stands new (mark_of value) k ⊎ Has now value k
        → (i : ℕ) (v : List ℕ) → i < n + 1 → WritesAt part i v → (m : ℕ) × IsFirstWrite part v m × (Stands new (mark_of v) m ⊎ Has now v m)
    found_more k first new now still kept here i v less wrote = elim (cases_lt i n) [
      | inl h ↦ (let f = are.found i v h wrote in (f.0, f.1, elim f.2 [ inl s ↦ inl (still (mark_of v) f.0 s) | inr has ↦ inr (kept v f.0 has) ]))
      | inr h ↦
          let place : i ≡ n = omega arith in
          let same : value ≡ v = one_value_at part n value v writes (subst (λ (x : ℕ). WritesAt part x v) place wrote) in
          subst (λ (x : List ℕ). (m : ℕ) × IsFirstWrite part x m × (Stands new (mark_of x) m ⊎ Has now x m)) same (k, first, here)
    ]

    -- a value that is known
    pub firsts_known : (k : ℕ) → IsFirstWrite part value k → Stands slots (mark_of value) k ⊎ Has others value k → AreFirsts part (n + 1) slots others
    firsts_known k first here = record {
      room = are.room;
      known = are.known;
      right = are.right;
      found = found_more k first slots others (λ mark index s. s) (λ v m has. has) here;
    }

    -- a new one, at a free place
    pub firsts_placed : (place : ℕ) → IsFree slots (mark_of value) place → StandsNowhere part slots (mark_of value) value → AreFirsts part (n + 1) (set slots place (record { mark = mark_of value; index = n })) others
    firsts_placed place free nowhere =
        let slot : Slot = record { mark = mark_of value; index = n } in
        let first = first_itself part n value writes (none_free place free nowhere) in
        let small = slice_get_within slots place free.slot free.here in
        record {
          room = rw (length-set slots place slot) are.room;
          known = λ at there is taken. elim (slice_get-set slots place at slot small) [
            | inl w ↦ (value, subst (IsFirstWrite part value) (ap (λ (s : Slot). s.index) (same_Some slot there (sym w.1 ∙ is))) first)
            | inr w ↦ are.known at there (sym w.1 ∙ is) taken
          ];
          right = λ v k has. (let r = are.right v k has in (r.0, still_taken slots (mark_of value) place free slot (mark_of v) 16 r.1));
          found = found_more n first (set slots place slot) others (still_stands slots (mark_of value) place free slot) (λ v m has. has) (inl (new_stands slots (mark_of value) n place (marked value) free));
        }

    -- a new one, among the others
    pub firsts_other : (now : BTreeMap (Bor (List ℕ)) ℕ) → ((k : ℕ) → Has others value k → ⊥) → AreTaken slots (mark_of value) 16 → StandsNowhere part slots (mark_of value) value
        → ((v : List ℕ) → get_by (λ text. slice_cmp nat_cmp v text.now) now ≡ update bytes_eq (λ ds. get_by (λ text. slice_cmp nat_cmp ds text.now) others) value (Some n) v)
        → AreFirsts part (n + 1) slots now
    firsts_other now none full nowhere updates =
        let first = first_itself part n value writes (none_below nowhere none) in
        record {
          room = are.room;
          known = are.known;
          right = λ v k has. by_test v k (bytes_eq value v) refl first has;
          found = found_more n first slots now (λ mark index s. s) (λ v m has. kept v m (bytes_eq value v) refl has) (inr (here (bytes_eq value value) refl));
        }
      where
        here : (b : Bool) → bytes_eq value value ≡ b → Has now value n
        here true e = updates value ∙ ap (λ (b : Bool). cond b (Some n) (get_by (λ text. slice_cmp nat_cmp value text.now) others)) e
        here false e = absurd (false≢true (sym e ∙ (bytes_eq-Decides value value).1 refl))

        kept : (v : List ℕ) (m : ℕ) (b : Bool) → bytes_eq value v ≡ b → Has others v m → Has now v m
        kept v m true e has = absurd (none m (subst (λ (x : List ℕ). Has others x m) (sym ((bytes_eq-Decides value v).0 e)) has))
        kept v m false e has = updates v ∙ (ap (λ (b : Bool). cond b (Some n) (get_by (λ text. slice_cmp nat_cmp v text.now) others)) e ∙ has)

        by_test : (v : List ℕ) (k : ℕ) (b : Bool) → bytes_eq value v ≡ b → IsFirstWrite part value n → Has now v k → IsFirstWrite part v k × AreTaken slots (mark_of v) 16
        by_test v k true e first has =
            let same : value ≡ v = (bytes_eq-Decides value v).0 e in
            let index : n ≡ k = same_Some n k (sym (updates v ∙ ap (λ (b : Bool). cond b (Some n) (get_by (λ text. slice_cmp nat_cmp v text.now) others)) e) ∙ has) in
            (subst (IsFirstWrite part v) index (subst (λ (x : List ℕ). IsFirstWrite part x n) same first), subst (λ (x : List ℕ). AreTaken slots (mark_of x) 16) same full)
        by_test v k false e first has = are.right v k (sym (updates v ∙ ap (λ (b : Bool). cond b (Some n) (get_by (λ text. slice_cmp nat_cmp v text.now) others)) e) ∙ has)

-- none is known yet
pub firsts_none : (part : List Call) (slots : List Slot) (others : BTreeMap (Bor (List ℕ)) ℕ) → 0 < length slots → ((at : ℕ) (slot : Slot) → slice_get slots at ≡ Some slot → slot.mark ≡ 0) → others.entries ≡ [] → AreFirsts part 0 slots others
firsts_none part slots others room free empty = record {
  room = room;
  known = λ at slot is taken. absurd (taken (free at slot is));
  right = λ value k has. absurd (none-some k (sym (ap (lookup (is_at (λ text. slice_cmp nat_cmp value text.now))) empty) ∙ has));
  found = λ i value less writes. absurd (omega arith);
}

pub all_free : (n : ℕ) (free : Slot) (at : ℕ) (slot : Slot) → slice_get (replicate n free) at ≡ Some slot → slot ≡ free
all_free n free at slot is =
    let small : at < n = omega (arith, slice_get_within (replicate n free) at slot is, length-replicate n free) in
    sym (get_or_from_slice_get (replicate n free) at slot slot is) ∙ get_or-replicate n at free slot small

-- what wasn't found isn't there
pub not_copied : (o : Option (Bor ℕ)) → ((first : Bor ℕ) → o ≡ Some first → ⊥) → (k : ℕ) → option_copied o ≡ Some k → ⊥
not_copied None none k e = none-some k e
not_copied (Some first) none k e = none first refl

-- a read writes no value
pub firsts_read : (part : List Call) (n : ℕ) (slots : List Slot) (others : BTreeMap (Bor (List ℕ)) ℕ) → AreFirsts part n slots others → (call : Call) → slice_get part n ≡ Some call → IsRead call → AreFirsts part (n + 1) slots others
firsts_read part n slots others are call at reads = record {
  room = are.room;
  known = are.known;
  right = are.right;
  found = λ i value less writes. elim (cases_lt i n) [
    | inl h ↦ are.found i value h writes
    | inr h ↦
        let place : i ≡ n = omega arith in
        let same : writes.0 ≡ call = same_Some writes.0 call (sym writes.1 ∙ (ap (slice_get part) place ∙ at)) in
        absurd (not_both call reads (value, ap (λ (c : Call). c.action) (sym same) ∙ writes.2))
  ];
}
