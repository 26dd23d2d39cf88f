-- The keys that have their orders so far.
use Rattle.std.proofs.Common.{ℕ, ap₂, add-one, ◌≡◌, ◌<◌, ◌+◌, List, [], ◌∷◌, ◌++◌, Some, length, map, take, drop, get_or, inl, inr, refl, sym, ap, subst, ◌∙◌, append_assoc, append-nil, arith, length-append}
use Rattle.std.proofs.lemmas.List.{map-append, take-append-drop}
use Rattle.std.specs.List.{slice_get}
use Rattle.std.proofs.lemmas.Option.{get_or_from_slice_get, slice_get_within}
use Rattle.std.proofs.Math.Seq.{drop-cons}
use Rattle.recorder.specs.declared.order.KeyOrder.{KeyOrder}
use Rattle.tag.proofs.Lists.{push_cases}
use Rattle.parallel_keys.specs.CheckedKeys.{KeyParts, all_parts}
use Rattle.parallel_keys.proofs.Fronts.{front_more}
use Rattle.cli.specs.declared.noted_orders.Unjustified.{Unjustified}
use Rattle.cli.specs.Justifications.{KeyPart, AreJustified, IsFirstUnjustified, IsJustifiedOrder, IsUnjustified}

-- the parts before and some of these have the orders, and the others are left
pub record JustifiedSoFar (before parts left : List KeyPart) (orders : List KeyOrder) : Type 0 where
  pub done : List KeyPart
  pub split : parts ≡ done ++ left
  pub justified : AreJustified (before ++ done) orders

pub justified_none : (before parts left : List KeyPart) (orders : List KeyOrder) → left ≡ parts → AreJustified before orders → JustifiedSoFar before parts left orders
justified_none before parts left orders same justified = record {
  done = [];
  split = sym same;
  justified = subst (λ (l : List KeyPart). AreJustified l orders) (sym (append-nil before)) justified;
}

-- of what is left, the next is the entry at that place
pub dropped_more : (parts : List KeyPart) (i : ℕ) (entry : KeyPart) → slice_get parts i ≡ Some entry → drop i parts ≡ entry ∷ drop (i + 1) parts
dropped_more parts i entry at =
    drop-cons parts i entry (slice_get_within parts i entry at)
    ∙ ap₂ (λ (e : KeyPart) (n : ℕ). e ∷ drop n parts) (get_or_from_slice_get parts i entry entry at) (sym (add-one i))

-- no key has no order
pub justified_nothing : AreJustified [] []
justified_nothing = record { all = refl; each = λ i entry order h g. absurd (cc) }

-- one key more has its order
one_more : (done : List KeyPart) (orders : List KeyOrder) (entry : KeyPart) (order : KeyOrder) → AreJustified done orders → IsJustifiedOrder entry order → AreJustified (done ++ entry ∷ []) (orders ++ order ∷ [])
one_more done orders entry order so_far here = record {
  all = omega (arith, length-append done (entry ∷ []), length-append orders (order ∷ []), so_far.all);
  each = λ i e o at_e at_o. elim (push_cases done entry i e at_e) [
    | inl w ↦ elim (push_cases orders order i o at_o) [
      | inl v ↦ so_far.each i e o w v
      | inr v ↦ absurd (omega (arith, slice_get_within done i e w, v.0, so_far.all))
    ]
    | inr w ↦ elim (push_cases orders order i o at_o) [
      | inl v ↦ absurd (omega (arith, slice_get_within orders i o v, w.0, so_far.all))
      | inr v ↦ subst (λ (x : KeyPart). IsJustifiedOrder x o) w.1 (subst (λ (y : KeyOrder). IsJustifiedOrder entry y) v.1 here)
    ]
  ];
}

pub justified_more : (before parts left rest : List KeyPart) (orders new : List KeyOrder) (entry : KeyPart) (order : KeyOrder) → rest ≡ entry ∷ left → new ≡ orders ++ order ∷ []
    → JustifiedSoFar before parts rest orders → IsJustifiedOrder entry order → JustifiedSoFar before parts left new
justified_more before parts left rest orders new entry order is grown so_far here =
    let done = so_far.done in
    let more : AreJustified ((before ++ done) ++ entry ∷ []) (orders ++ order ∷ []) = one_more (before ++ done) orders entry order so_far.justified here in
    record {
      done = done ++ entry ∷ [];
      split = so_far.split ∙ ap (λ (l : List KeyPart). done ++ l) is ∙ sym (append_assoc done (entry ∷ []) left);
      justified = subst (λ (l : List KeyPart). AreJustified l new) (append_assoc before done (entry ∷ [])) (subst (λ (l : List KeyOrder). AreJustified ((before ++ done) ++ entry ∷ []) l) (sym grown) more);
    }

-- the first key without one, whatever parts come after these
pub first_unjustified : (before parts behind left rest : List KeyPart) (orders : List KeyOrder) (entry : KeyPart) (refusal : Unjustified) → rest ≡ entry ∷ left
    → JustifiedSoFar before parts rest orders → IsUnjustified entry refusal → IsFirstUnjustified (before ++ (parts ++ behind)) refusal
first_unjustified before parts behind left rest orders entry refusal is so_far refused =
    let done = so_far.done in
    record {
      before = before ++ done;
      entry = entry;
      behind = left ++ behind;
      split = ap (λ (l : List KeyPart). before ++ (l ++ behind)) (so_far.split ∙ ap (λ (l : List KeyPart). done ++ l) is)
          ∙ ap (λ (l : List KeyPart). before ++ l) (append_assoc done (entry ∷ left) behind) ∙ sym (append_assoc before done (entry ∷ (left ++ behind)));
      orders = orders;
      justified = so_far.justified;
      refused = refused;
    }

-- none is left
pub justified_all : (before parts left : List KeyPart) (orders : List KeyOrder) → left ≡ [] → JustifiedSoFar before parts left orders → AreJustified (before ++ parts) orders
justified_all before parts left orders none so_far =
    subst (λ (l : List KeyPart). AreJustified (before ++ l) orders) (sym (so_far.split ∙ ap (λ (l : List KeyPart). so_far.done ++ l) none ∙ append-nil so_far.done)) so_far.justified

-- the parts of two rows of halls
all_parts-append : (xs ys : List KeyParts) → all_parts (xs ++ ys) ≡ all_parts xs ++ all_parts ys
all_parts-append [] ys = refl
all_parts-append (x ∷ xs) ys = ap (λ (l : KeyParts). x ++ l) (all_parts-append xs ys) ∙ sym (append_assoc x (all_parts xs) (all_parts ys))

module _ {X : Type 0} (parts_in : X → KeyParts) (maps : List X) (i : ℕ) (own : X) (below : i < length maps) (is : own ≡ get_or maps i own) where
  -- the parts up to a hall, and with it
  abbrev Earlier : KeyParts
  Earlier = all_parts (map parts_in (take i maps))

  abbrev Later : KeyParts
  Later = all_parts (map parts_in (drop (i + 1) maps))

  one_hall : (before behind : List X) → all_parts (map parts_in (before ++ own ∷ behind)) ≡ all_parts (map parts_in before) ++ (parts_in own ++ all_parts (map parts_in behind))
  one_hall before behind = ap all_parts (map-append parts_in before (own ∷ behind)) ∙ all_parts-append (map parts_in before) (parts_in own ∷ map parts_in behind)

  pub halls_more : all_parts (map parts_in (take (i + 1) maps)) ≡ Earlier ++ parts_in own
  halls_more =
      ap (λ (l : List X). all_parts (map parts_in l)) (front_more maps i own below is) ∙ one_hall (take i maps) [] ∙ ap (λ (l : KeyParts). Earlier ++ l) (append-nil (parts_in own))

  pub halls_parted : all_parts (map parts_in maps) ≡ Earlier ++ (parts_in own ++ Later)
  halls_parted =
      let whole : maps ≡ take i maps ++ own ∷ drop (i + 1) maps =
      sym (take-append-drop (i + 1) maps) ∙ ap (λ (l : List X). l ++ drop (i + 1) maps) (front_more maps i own below is) ∙ append_assoc (take i maps) (own ∷ []) (drop (i + 1) maps) in
      ap (λ (l : List X). all_parts (map parts_in l)) whole ∙ one_hall (take i maps) (drop (i + 1) maps)

  -- the keys of a hall more have their orders
  pub hall_justified : (orders : List KeyOrder) → AreJustified (Earlier ++ parts_in own) orders → AreJustified (all_parts (map parts_in (take (i + 1) maps))) orders
  hall_justified orders h = subst (λ (l : List KeyPart). AreJustified l orders) (sym halls_more) h

  -- a key of the hall has none
  pub hall_unjustified : (refusal : Unjustified) → IsFirstUnjustified (Earlier ++ (parts_in own ++ Later)) refusal → IsFirstUnjustified (all_parts (map parts_in maps)) refusal
  hall_unjustified refusal h = subst (λ (l : List KeyPart). IsFirstUnjustified l refusal) (sym halls_parted) h
