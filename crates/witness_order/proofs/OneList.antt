-- A part has at most one tag order.
use Rattle.std.proofs.Common.{ℕ, zero, suc, ◌≡◌, ◌<◌, ◌⊎◌, inl, inr, List, [], ◌∷◌, Some, ap, subst, refl, sym, ◌∙◌, arith}
use Rattle.std.specs.List.{slice_get, Contains}
use Rattle.std.proofs.lemmas.Option.{slice_get_within}
use Rattle.tag.specs.declared.numbers.OpId.{OpId}
use Rattle.tag.specs.Tags.{Tag}
use Rattle.recorder.specs.declared.part.Call.{Call}
use Rattle.recorder.specs.Parts.{IsSequence}
use Rattle.recorder.specs.Sound.{IsRead, IsWrite, ComesBefore, IsByTag}
use Rattle.witness_order.proofs.Lists.{In}
use Rattle.recorder.proofs.Sequences.{same_call}
use Rattle.witness_order.proofs.Tags.{not_below, not_both}

-- a call isn't both
pub read_or_write : (a : Call) → IsRead a → IsWrite a → ⊥
read_or_write a read write = let wrote = write.1 in cc

-- of two calls, each with its note, at most one comes before the other
pub not_both_before : (a b : Call) (s t : Tag) → ComesBefore a s b t → ComesBefore b t a s → ⊥
not_both_before a b s t (inl p) (inl q) = not_both s t p q
not_both_before a b s t (inl p) (inr q) = not_below s t (sym q.0) p
not_both_before a b s t (inr p) (inl q) = not_below t s (sym p.0) q
not_both_before a b s t (inr p) (inr q) = kinds p.1 q.1
  where
    kinds : (IsWrite a × IsRead b) ⊎ (((IsRead a × IsRead b) ⊎ (IsWrite a × IsWrite b)) × (a.invoked < b.invoked)) → (IsWrite b × IsRead a) ⊎ (((IsRead b × IsRead a) ⊎ (IsWrite b × IsWrite a)) × (b.invoked < a.invoked)) → ⊥
    kinds (inl x) (inl y) = read_or_write a y.1 x.0
    kinds (inl x) (inr (inl y, less)) = read_or_write a y.1 x.0
    kinds (inl x) (inr (inr y, less)) = read_or_write b x.1 y.0
    kinds (inr (inl x, less)) (inl y) = read_or_write b x.1 y.0
    kinds (inr (inr x, less)) (inl y) = read_or_write a y.1 x.0
    kinds (inr x) (inr y) = omega (arith, x.1, y.1)

-- the numbers of two calls of the part of which the first comes before the second
record Follows (part : List Call) (x y : OpId) : Type 0 where
  a : Call
  b : Call
  s : Tag
  t : Tag
  in_a : Contains part a
  in_b : Contains part b
  is_a : a.op ≡ x
  is_b : b.op ≡ y
  noted_a : a.note ≡ Some s
  noted_b : b.note ≡ Some t
  before : ComesBefore a s b t

not_both_follow : (part : List Call) → IsSequence part → (x y : OpId) → Follows part x y → Follows part y x → ⊥
not_both_follow part sequence x y p q =
    let left : q.b ≡ p.a = same_call part sequence q.b p.a q.in_b p.in_a (ap (λ (o : OpId). o.0) (q.is_b ∙ sym p.is_a)) in
    let right : q.a ≡ p.b = same_call part sequence q.a p.b q.in_a p.in_b (ap (λ (o : OpId). o.0) (q.is_a ∙ sym p.is_b)) in
    let s : q.t ≡ p.s = cc (q.noted_b, p.noted_a, ap (λ (c : Call). c.note) left) in
    let t : q.s ≡ p.t = cc (q.noted_a, p.noted_b, ap (λ (c : Call). c.note) right) in
    let back : ComesBefore p.b p.t p.a p.s =
    subst (λ (u : Tag). ComesBefore p.b p.t p.a u) s (subst (λ (u : Tag). ComesBefore p.b u p.a q.t) t (subst (λ (c : Call). ComesBefore p.b q.s c q.t) left (subst (λ (c : Call). ComesBefore c q.s q.b q.t) right q.before))) in
    not_both_before p.a p.b p.s p.t p.before back

-- two lists with the same elements, in which each element follows those before it, are one
module _ (X : Type 0) (Less : X → X → Type 0) (one_way : (x y : X) → Less x y → Less y x → ⊥) where
  abbrev Sorted : List X → Type 0
  Sorted xs = (i j : ℕ) (a b : X) → i < j → slice_get xs i ≡ Some a → slice_get xs j ≡ Some b → Less a b

  tail : (x : X) (xs : List X) → Sorted (x ∷ xs) → Sorted xs
  tail x xs sorted i j a b less p q = sorted (suc i) (suc j) a b (omega arith) p q

  head_or_later : (x : X) (xs : List X) → Sorted (x ∷ xs) → (c : X) → In (x ∷ xs) c → (x ≡ c) ⊎ (In xs c × Less x c)
  head_or_later x xs sorted c (zero, e) = inl cc
  head_or_later x xs sorted c (suc i, e) = inr ((i, e), sorted 0 (suc i) x c (omega arith) refl e)

  same_head : (x y : X) (P Q : Type 0) → (x ≡ y) ⊎ (P × Less x y) → (y ≡ x) ⊎ (Q × Less y x) → x ≡ y
  same_head x y P Q (inl e) q = e
  same_head x y P Q (inr p) (inl e) = sym e
  same_head x y P Q (inr p) (inr q) = absurd (one_way x y p.1 q.1)

  later_in : (x y : X) (xs ys : List X) → x ≡ y → Sorted (x ∷ xs) → Sorted (y ∷ ys) → ((c : X) → In (x ∷ xs) c → In (y ∷ ys) c) → (c : X) → In xs c → In ys c
  later_in x y xs ys same sx sy into c (i, e) =
      elim (head_or_later y ys sy c (into c (suc i, e))) [
        | inl here ↦
            let first : Less c c = subst (λ (z : X). Less z c) (same ∙ here) (sx 0 (suc i) x c (omega arith) refl e) in
            absurd (one_way c c first first)
        | inr h ↦ h.0
      ]

  same_lists : (xs ys : List X) → Sorted xs → Sorted ys → ((c : X) → In xs c → In ys c) → ((c : X) → In ys c → In xs c) → xs ≡ ys
  same_lists [] [] sx sy f g = refl
  same_lists [] (y ∷ ys) sx sy f g = let h = (g y (0, refl)).1 in absurd (cc)
  same_lists (x ∷ xs) [] sx sy f g = let h = (f x (0, refl)).1 in absurd (cc)
  same_lists (x ∷ xs) (y ∷ ys) sx sy f g =
      let e : x ≡ y = same_head x y (In xs y) (In ys x) (head_or_later x xs sx y (g y (0, refl))) (head_or_later y ys sy x (f x (0, refl))) in
      let rest : xs ≡ ys = same_lists xs ys (tail x xs sx) (tail y ys sy) (later_in x y xs ys e sx sy f) (later_in y x ys xs (sym e) sy sx g) in
      cc

module _ (part : List Call) (sequence : IsSequence part) (left right : List OpId) where
  members : IsByTag part left → IsByTag part right → (x : OpId) → In left x → In right x
  members p q x h =
      let c = p.known h.0 (slice_get_within left h.0 x h.1) in
      let j = q.all c.0 c.1.recorded c.2 in
      let same : c.0.op ≡ x = cc (c.1.listed, h.1) in
      (j.0, j.1.listed ∙ ap Some same)

  follows : IsByTag part left → (i j : ℕ) (x y : OpId) → i < j → slice_get left i ≡ Some x → slice_get left j ≡ Some y → Follows part x y
  follows p i j x y less at_x at_y =
      let a = p.known i (slice_get_within left i x at_x) in
      let b = p.known j (slice_get_within left j y at_y) in
      let s = p.noted i a.0 a.1 in
      let t = p.noted j b.0 b.1 in
      record {
        a = a.0;
        b = b.0;
        s = s.0;
        t = t.0;
        in_a = a.1.recorded;
        in_b = b.1.recorded;
        is_a = cc (a.1.listed, at_x);
        is_b = cc (b.1.listed, at_y);
        noted_a = s.1;
        noted_b = t.1;
        before = p.sorted i j a.0 b.0 s.0 t.0 less a.1 b.1 s.1 t.1;
      }

pub one_tag_order : (part : List Call) (left right : List OpId) → IsSequence part → IsByTag part left → IsByTag part right → left ≡ right
one_tag_order part left right sequence p q =
    same_lists OpId (Follows part) (not_both_follow part sequence) left right (follows part sequence left right p) (follows part sequence right left q) (members part sequence left right p q) (members part sequence right left q p)
