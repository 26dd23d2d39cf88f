-- Pieces that are joined one after another.
use Rattle.std.proofs.Common.{ℕ, suc, ◌≡◌, ◌<◌, inl, inr, List, [], ◌∷◌, ◌++◌, Some, Bool}
use Rattle.std.proofs.Common.{true, false, cond, length, map, filter, set, sym, ◌∙◌, ap, subst}
use Rattle.std.proofs.Common.{refl, append-nil, bytes_eq, lt_irrefl, lt_trans, le_antisymm}
use Rattle.std.proofs.Common.{ne_of_lt}
use Rattle.std.specs.List.{slice_get, flat_map}
use Rattle.std.specs.Cmp.Lexicographic.{bytes_decides}
use Rattle.std.proofs.lemmas.Bool.{cases_lt, true≢false}
use Rattle.std.proofs.lemmas.Option.{same_Some, slice_get_within}
use Rattle.std.proofs.lemmas.List.{map-set, map-append}
use Rattle.std.proofs.lemmas.List.Elements.{filter-append}
use Rattle.std.proofs.lemmas.Grind.{flat_map-append}
use Rattle.tag.proofs.Lists.{slice_get-push_left, slice_get-push_last, push_cases, slice_get-set}
use Rattle.tag.proofs.Lists.{set_same, slice_get-map_back, slice_get-map_at}
use Rattle.tag.specs.declared.numbers.OpId.{OpId}
use Rattle.recorder.specs.declared.order.KeyOrder.{KeyOrder}
use Rattle.file_format.specs.OrderFormat.{key_in, order_in, order_on, IsFirstAt, AreFirsts}
use Rattle.file_format.specs.OrderFormat.{AreJoined}
use Rattle.file_format.specs.Joins.{Joins}

wide : (names : List (List ℕ)) (more name : List ℕ) (place : ℕ) → IsFirstAt names name place
    → IsFirstAt (names ++ more ∷ []) name place
wide names more name place h = record {
  here = slice_get-push_left names more place name h.here;
  before = λ earlier lt e. elim (push_cases names more earlier name e) [
    | inl w ↦ h.before earlier lt w
    | inr w ↦ ne_of_lt (lt_trans lt (slice_get_within names place name h.here)) w.0
  ];
}

-- a name has one first place
first_same : (names : List (List ℕ)) (more name : List ℕ) (m n : ℕ) → IsFirstAt names name m
    → IsFirstAt (names ++ more ∷ []) name n → n ≡ m
first_same names more name m n h k =
    let w = wide names more name m h in
    elim (cases_lt m n) [
      | inl lt ↦ absurd (k.before m lt w.here)
      | inr ge ↦ elim (cases_lt n m) [
        | inl lt ↦ absurd (w.before n lt k.here)
        | inr le ↦ le_antisymm
            ge le
      ]
    ]

-- what holds of two numbers in order holds of those that are the same
lt_same : {a b c d : ℕ} → a ≡ c → b ≡ d → c < d → a < b
lt_same {b = b} {c = c} first last lt =
    subst (λ (n : ℕ). n < b) (sym first) (subst (λ (n : ℕ). c < n) (sym last) lt)

-- a name that was met before
firsts_same : (names keys : List (List ℕ)) (key : List ℕ) (slot : ℕ) → AreFirsts names keys
    → slice_get keys slot ≡ Some key → AreFirsts (names ++ key ∷ []) keys
firsts_same names keys key slot h at = record {
  each = λ i k e. let f = h.each i k e in (f.0, wide names key k f.0 f.1);
  all = λ place name e. elim (push_cases names key place name e) [
    | inl w ↦ h.all place name w
    | inr
        w ↦ (slot, at ∙ ap Some w.1)
  ];
  ordered = λ i j a b m n lt ea eb fa fb.
      let p = h.each i a ea in
      let q = h.each j b eb in
      lt_same (first_same names key a p.0 m p.1 fa) (first_same names key b q.0 n q.1 fb)
      (h.ordered i j a b p.0 q.0 lt ea eb p.1 q.1);
}

first_here : (names keys : List (List ℕ)) (key : List ℕ) → AreFirsts names keys
    → ((i : ℕ) → slice_get keys i ≡ Some key → ⊥) → IsFirstAt (names ++ key ∷ []) key (length names)
first_here names keys key h none = record {
  here = slice_get-push_last names key;
  before = λ earlier lt e. elim (push_cases names key earlier key e) [
    | inl w ↦ let f = h.all earlier key w in none f.0 f.1
    | inr w ↦ ne_of_lt lt w.0
  ];
}

-- a name that is met for the first time
firsts_new : (names keys : List (List ℕ)) (key : List ℕ) → AreFirsts names keys
    → ((i : ℕ) → slice_get keys i ≡ Some key → ⊥) → AreFirsts (names ++ key ∷ []) (keys ++ key ∷ [])
firsts_new names keys key h none = record {
  each = λ i k e. elim (push_cases keys key i k e) [
    | inl w ↦ let f = h.each i k w in (f.0, wide names key k f.0 f.1)
    | inr w ↦ let P : List ℕ → Type 0 = λ x. IsFirstAt (names ++ key ∷ []) x (length names) in
        (length names, subst P w.1 (first_here names keys key h none))
  ];
  all = λ place name e. elim (push_cases names key place name e) [
    | inl w ↦ let f = h.all place name w in (f.0, slice_get-push_left keys key f.0 name f.1)
    | inr w ↦ (length keys, slice_get-push_last keys key ∙ ap Some w.1)
  ];
  ordered = λ i j a b m n lt ea eb fa fb.
      elim (push_cases keys key i a ea) [
        | inr w ↦ elim (push_cases keys key j b eb) [
          | inl v ↦ absurd (ne_of_lt (lt_trans lt (slice_get_within keys j b v)) w.0)
          | inr v ↦ absurd (ne_of_lt lt (w.0 ∙ sym v.0))
        ]
        | inl w ↦
            let p = h.each i a w in
            let same = first_same names key a p.0 m p.1 fa in
            let below = slice_get_within names p.0 a p.1.here in
            elim (push_cases keys key j b eb) [
              | inl v ↦ let q = h.each j b v in
                  lt_same same (first_same names key b q.0 n q.1 fb)
                  (h.ordered i j a b p.0 q.0 lt w v p.1 q.1)
              | inr v ↦
                  let P : List ℕ → Type 0 = λ x. IsFirstAt (names ++ key ∷ []) x n in
                  let last : IsFirstAt (names ++ key ∷ []) key n = subst P (sym v.1) fb in
                  elim (push_cases names key n key last.here) [
                    | inl u ↦ let f = h.all n key u in absurd (none f.0 f.1)
                    | inr u ↦ lt_same same u.0 below
                  ]
            ]
      ];
}

-- the order of a key, after one piece more
only_here : (b : Bool) (piece : KeyOrder) → flat_map order_in (cond b (piece ∷ []) [])
    ≡ cond b piece.order []
only_here true piece = append-nil piece.order
only_here false piece = refl

order_on-push : (key : List ℕ) (pieces : List KeyOrder) (piece : KeyOrder)
    → order_on key (pieces ++ piece ∷ []) ≡ order_on key pieces
    ++ cond (bytes_eq piece.key key) piece.order []
order_on-push key pieces piece =
    let test : KeyOrder → Bool = λ p. bytes_eq p.key key in
    ap (flat_map order_in) (filter-append test pieces (piece ∷ []))
    ∙ flat_map-append order_in (filter test pieces) (filter test (piece ∷ []))
    ∙ ap (λ (l : List OpId). flat_map order_in (filter test pieces)
    ++ l) (only_here (bytes_eq piece.key key) piece)

order_on-same : (key : List ℕ) (pieces : List KeyOrder) (piece : KeyOrder) → piece.key ≡ key
    → order_on key (pieces ++ piece ∷ []) ≡ order_on key pieces ++ piece.order
order_on-same key pieces piece e = order_on-push key pieces piece
    ∙ ap (λ (b : Bool). order_on key pieces
    ++ cond b piece.order []) ((bytes_decides piece.key key).1 e)

not_equal : (b : Bool) (a c : List ℕ) → bytes_eq a c ≡ b → (a ≡ c → ⊥) → b ≡ false
not_equal true a c e other = absurd (other ((bytes_decides a c).0 e))
not_equal false a c e other = refl

order_on-other : (key : List ℕ) (pieces : List KeyOrder) (piece : KeyOrder) → (piece.key ≡ key → ⊥)
    → order_on key (pieces ++ piece ∷ []) ≡ order_on key pieces
order_on-other key pieces piece other = order_on-push key pieces piece
    ∙ ap (λ (b : Bool). order_on key pieces
    ++ cond b piece.order []) (not_equal (bytes_eq piece.key key) piece.key key refl other)
    ∙ append-nil (order_on key pieces)

-- a key that no piece has
order_on-none : (key : List ℕ) (pieces : List KeyOrder)
    → ((place : ℕ) (piece : KeyOrder) → slice_get pieces place ≡ Some piece → piece.key ≡ key → ⊥)
    → order_on key pieces ≡ []
order_on-none key [] none = refl
order_on-none key (piece ∷ pieces) none =
    step (bytes_eq piece.key key) (not_equal (bytes_eq piece.key key) piece.key key refl
    (none 0 piece refl)) (order_on-none key pieces (λ place p e. none (suc place) p e))
  where
    step : (b : Bool) → b ≡ false → flat_map order_in (filter (λ (p : KeyOrder). bytes_eq p.key key)
        pieces) ≡ [] → flat_map order_in (cond b (piece ∷ filter (λ (p : KeyOrder). bytes_eq p.key
        key) pieces) (filter (λ (p : KeyOrder). bytes_eq p.key key) pieces)) ≡ []
    step true e h = absurd (true≢false e)
    step false e h = h

-- each key stands once
key_once : (names keys : List (List ℕ)) (key : List ℕ) (i j : ℕ) → AreFirsts names keys
    → slice_get keys i ≡ Some key → slice_get keys j ≡ Some key → i ≡ j
key_once names keys key i j h ei ej =
    let f = h.each i key ei in
    elim (cases_lt i j) [
      | inl lt ↦ absurd (lt_irrefl f.0 (h.ordered i j key key f.0 f.0 lt ei ej f.1 f.1))
      | inr ge ↦ elim (cases_lt j i) [
        | inl lt ↦ absurd (lt_irrefl f.0 (h.ordered j i key key f.0 f.0 lt ej ei f.1 f.1))
        | inr le ↦ le_antisymm le ge
      ]
    ]

keys_push : (pieces : List KeyOrder) (piece : KeyOrder) → map key_in (pieces ++ piece ∷ [])
    ≡ map key_in pieces ++ piece.key ∷ []
keys_push pieces piece = map-append key_in pieces (piece ∷ [])

-- a piece at the end of an order
pub joined_extended : (pieces orders : List KeyOrder) (piece : KeyOrder) (slot : ℕ)
    (order : List OpId) → AreJoined pieces orders → slice_get orders slot
    ≡ Some (record { key = piece.key; order = order })
    → AreJoined (pieces ++ piece ∷ []) (set orders slot (record {
      key = piece.key;
      order = order ++
          piece.order;
    }))
joined_extended pieces orders piece slot order h at =
    let made : KeyOrder = record { key = piece.key; order = order ++ piece.order } in
    let here : slice_get (map key_in orders) slot ≡ Some piece.key =
    slice_get-map_at key_in orders slot (record { key = piece.key; order = order }) at in
    let same : map key_in (set orders slot made) ≡ map key_in orders =
    map-set key_in orders slot made ∙ set_same (map key_in orders) slot piece.key here in
    let Keys : List (List ℕ) → Type 0 = λ ks. AreFirsts (map key_in (pieces ++ piece ∷ [])) ks in
    let Names : List (List ℕ) → Type 0 = λ ns. AreFirsts ns (map key_in orders) in
    record {
      keys = subst Keys (sym same) (subst Names (sym (keys_push pieces piece))
          (firsts_same (map key_in pieces) (map key_in orders) piece.key slot h.keys here));
      each = λ i o e. elim (slice_get-set orders slot i made (slice_get_within orders slot _ at)) [
        | inl w ↦ extended_here pieces piece order o (h.each slot (record {
          key = piece.key;
          order = order;
        }) at) (same_Some made o (sym w.1 ∙ e))
        | inr w ↦
            let old : slice_get orders i ≡ Some o = sym w.1 ∙ e in
            h.each i o old ∙ sym (order_on-other o.key pieces piece (λ equal. w.0 (key_once (map
            key_in pieces) (map key_in orders) o.key i slot h.keys
            (slice_get-map_at key_in orders i o old) (here ∙ ap Some equal))))
      ];
    }
  where
    extended_here : (pieces : List KeyOrder) (piece : KeyOrder) (order : List OpId) (o : KeyOrder)
        → order ≡ order_on piece.key pieces
        → record { key = piece.key; order = order ++ piece.order } ≡ o → o.order
        ≡ order_on o.key (pieces ++ piece ∷ [])
    extended_here pieces piece order o had made =
        let P : KeyOrder → Type 0 = λ x. x.order ≡ order_on x.key (pieces ++ piece ∷ []) in
        subst P made (ap (λ (l : List OpId). l ++ piece.order) had
        ∙ sym (order_on-same piece.key pieces piece refl))

-- the first piece of a key
pub joined_begun : (pieces orders : List KeyOrder) (piece : KeyOrder) → AreJoined pieces orders
    → ((i : ℕ) → slice_get (map key_in orders) i ≡ Some piece.key → ⊥)
    → AreJoined (pieces ++ piece ∷ []) (orders ++ piece ∷ [])
joined_begun pieces orders piece h none =
    let Keys : List (List ℕ) → Type 0 = λ ks. AreFirsts (map key_in (pieces ++ piece ∷ [])) ks in
    let Names : List (List ℕ) → Type 0 = λ ns. AreFirsts ns (map key_in orders ++ piece.key ∷ []) in
    record {
      keys = subst Keys (sym (keys_push orders piece))
          (subst Names (sym (keys_push pieces piece))
          (firsts_new (map key_in pieces) (map key_in orders) piece.key h.keys none));
      each = λ i o e. elim (push_cases orders piece i o e) [
        | inl w ↦ h.each i o w ∙ sym (order_on-other o.key pieces piece (λ equal. none i (slice_get-map_at
            key_in orders i o w ∙ ap Some (sym equal))))
        | inr w ↦
            let P : KeyOrder → Type 0 = λ x. x.order ≡ order_on x.key (pieces ++ piece ∷ []) in
            let empty : order_on piece.key pieces ≡ [] =
            order_on-none piece.key pieces (λ place p at equal. let f =
            h.keys.all place piece.key (slice_get-map_at key_in pieces place p at ∙ ap Some equal) in
            none f.0 f.1) in
            subst P w.1 (ap (λ (l : List OpId). l ++ piece.order) (sym empty)
            ∙ sym (order_on-same piece.key pieces piece refl))
      ];
    }

-- a piece more
pub joined_more : (pieces : List KeyOrder) (piece : KeyOrder) (old new : List KeyOrder)
    → AreJoined pieces old → Joins old piece new → AreJoined (pieces ++ piece ∷ []) new
joined_more pieces piece old new h (inl w) =
    let Orders : List KeyOrder → Type 0 = λ os. AreJoined (pieces ++ piece ∷ []) os in
    subst Orders (sym w.has) (joined_extended pieces old piece w.slot w.order h w.had)
joined_more pieces piece old new h (inr w) =
    let Orders : List KeyOrder → Type 0 = λ os. AreJoined (pieces ++ piece ∷ []) os in
    subst Orders (sym w.has) (joined_begun pieces old piece h (λ i at. let o =
    slice_get-map_back key_in old i piece.key at in w.new_key i o.0 o.1 o.2))
