-- The keys of a history, in the order in which they are first seen, are one list.
use Rattle.std.proofs.Common.{ℕ, zero, suc, ◌≡◌, ◌<◌, inl, inr, List, Some, sym, ◌∙◌, ap, subst, arith}
use Rattle.std.specs.List.{slice_get}
use Rattle.std.proofs.lemmas.Bool.{cases_lt}
use Rattle.std.proofs.lemmas.Option.{same_Some, slice_get_within}
use Rattle.tag.specs.declared.numbers.OpId.{OpId}
use Rattle.tag.proofs.Below.{below_or_last}
use Rattle.tag.proofs.Lists.{get_at, place_of}
use Rattle.recorder.specs.declared.row.Row.{Row}
use Rattle.recorder.specs.Records.{AreFirstSeen, IsFirstSeen}
use Rattle.split_rows.specs.Pieces.{IsKeyOf, IsPiece}
use Rattle.split_rows.proofs.Dealt.{one_number_of_key, piece_as}
use Rattle.split_rows.proofs.FirstSeen.{first_once}

module _ (rows : List Row) (keys later : List (List ℕ)) (a : AreFirstSeen rows keys) (b : AreFirstSeen rows later) where
  -- of the keys that are first seen before one, each has the lower number
  lower_number : (i j : ℕ) (k l : List ℕ) (m n : ℕ) → slice_get keys i ≡ Some k → slice_get keys j ≡ Some l → IsFirstSeen rows k m
      → IsFirstSeen rows l n → m < n → i < j
  lower_number i j k l m n at_i at_j f g less =
      elim (cases_lt i j) [
        | inl h ↦ h
        | inr h ↦ elim (cases_lt j i) [
          | inl w ↦ absurd (omega (arith, less, a.ordered j i l k n m w at_j at_i g f))
          | inr w ↦
              let same : i ≡ j = omega (arith, h, w) in
              let key : k ≡ l = same_Some k l (sym at_i ∙ (ap (slice_get keys) same ∙ at_j)) in
              let place = first_once rows l m n (subst (λ (x : List ℕ). IsFirstSeen rows x m) key f) g in
              absurd (omega (arith, less, place))
        ]
      ]

  -- the next key is the same
  next_key : (n : ℕ) → ((j : ℕ) (key : List ℕ) → j < n → slice_get keys j ≡ Some key → slice_get later j ≡ Some key) → (key : List ℕ)
      → slice_get keys n ≡ Some key → slice_get later n ≡ Some key
  next_key n before key at =
      let s = a.seen n key at in
      let m = place_of later key (b.all key s.0 s.1.begins) in
      elim (cases_lt m.0 n) [
        | inl h ↦
            let within = slice_get_within keys n key at in
            let x = get_at keys m.0 (omega (arith, h, within)) in
            let same : x.0 ≡ key = same_Some x.0 key (sym (before m.0 x.0 h x.1) ∙ m.1) in
            absurd (omega (arith, h, one_number_of_key rows keys a m.0 n key (x.1 ∙ ap Some same) at))
        | inr h ↦ elim (cases_lt n m.0) [
          | inl w ↦
              let within = slice_get_within later m.0 key m.1 in
              let x = get_at later n (omega (arith, w, within)) in
              let t = b.seen n x.0 x.1 in
              let up = b.ordered n m.0 x.0 key t.0 s.0 w x.1 m.1 t.1 s.1 in
              let j = place_of keys x.0 (a.all x.0 t.0 t.1.begins) in
              let less = lower_number j.0 n x.0 key t.0 s.0 j.1 at t.1 s.1 up in
              absurd (omega (arith, less, one_number_of_key rows later b j.0 n x.0 (before j.0 x.0 less j.1) x.1))
          | inr w ↦
              let same : n ≡ m.0 = omega (arith, h, w) in
              ap (slice_get later) same ∙ m.1
        ]
      ]

  first_keys : (n j : ℕ) (key : List ℕ) → j < n → slice_get keys j ≡ Some key → slice_get later j ≡ Some key
  first_keys zero j key less at = absurd (omega (arith, less))
  first_keys (suc n) j key less at = elim (below_or_last j n less) [
    | inl w ↦ first_keys n j key w at
    | inr w ↦ ap (slice_get later) w ∙ next_key n (λ i k h e. first_keys n i k h e) key (ap (slice_get keys) (sym w) ∙ at)
  ]

  pub same_key : (n : ℕ) (key : List ℕ) → slice_get keys n ≡ Some key → slice_get later n ≡ Some key
  same_key n key at = first_keys (suc n) n key (omega arith) at

-- so each piece has the same keys by both
pub piece_by : (parts : ℕ) (rows : List Row) (keys later : List (List ℕ)) → AreFirstSeen rows keys → AreFirstSeen rows later → (p : ℕ)
    (number : OpId → OpId) (piece : List Row) → IsPiece rows (IsKeyOf parts keys p) number piece → IsPiece rows (IsKeyOf parts later p) number
    piece
piece_by parts rows keys later a b p number piece is = piece_as rows (IsKeyOf parts keys p) (IsKeyOf parts later p)
    (λ key place begins x. (x.0, same_key rows keys later a b x.0 key x.1, x.2))
    (λ key place begins x. (x.0, same_key rows later keys b a x.0 key x.1, x.2)) number piece is
