-- Two parts with the same calls under other numbers have the same orders, renumbered.
use Rattle.std.proofs.Common.{ℕ, zero, suc, ◌≡◌, ◌+◌, ◌↔◌, List, [], ◌∷◌, Option, Some, None, map, length}
use Rattle.std.proofs.Common.{sym, ◌∙◌, ap, ap₂, subst, refl, arith}
use Rattle.std.specs.List.{slice_get, Contains}
use Rattle.std.proofs.lemmas.List.{length-map}
use Rattle.std.proofs.lemmas.Option.{same_Some, none-some, slice_get_within}
use Rattle.tag.specs.declared.numbers.OpId.{OpId}
use Rattle.tag.proofs.Lists.{get_at, place_of, Contains-slice_get, slice_get-map_at, slice_get-map_back}
use Rattle.recorder.specs.declared.part.Call.{Call}
use Rattle.recorder.specs.declared.part.Response.{Response}
use Rattle.recorder.specs.Orders.{StandsAt, WritesAt, NoWriteFrom, IsLastWritten, IsOrder, IsLinearizable}
use Rattle.recorder.specs.Parts.{Precedes}
use Rattle.split_rows.specs.MovedParts.{IsMovedCall, IsMovedPart, answer_in}

-- ---- answers that are the same

answers : (a b : Option Response) → answer_in a ≡ answer_in b → (s : Response) → b ≡ Some s
    → (r : Response) × (a ≡ Some r) × (r.returned ≡ s.returned)
answers None b same s e = absurd (none-some s.returned (same ∙ ap answer_in e))
answers (Some r) b same s e = (r, refl, same_Some r.returned s.returned (same ∙ ap answer_in e))

none_there : (a b : Option Response) → answer_in a ≡ answer_in b → b ≡ None → a ≡ None
none_there None b same e = refl
none_there (Some r) b same e = absurd (none-some r.returned (sym (same ∙ ap answer_in e)))

-- ---- what two calls have to share, and their places, for an order to be one of both

-- pairs of calls, one of either part: the same but for numbers and places, with the same precedence
record ArePaired (part other : List Call) (Pair : Call → Call → Type 0) : Type 0 where
  pub left : (a : Call) → Contains part a → (b : Call) × Pair a b
  pub right : (b : Call) → Contains other b → (a : Call) × Pair a b
  pub there : (a b : Call) → Pair a b → Contains part a
  pub action : (a b : Call) → Pair a b → a.action ≡ b.action
  pub answer : (a b : Call) → Pair a b → answer_in a.response ≡ answer_in b.response
  pub number : (a b c d : Call) → Pair a b → Pair c d → b.op ≡ d.op → a.op ≡ c.op
  pub precedence : (a b c d : Call) → Pair a b → Pair c d → Precedes b d → Precedes a c

-- the calls of a pair stand at the same place
record StandAlike (part other : List Call) (order turn : List OpId) (Pair : Call → Call → Type 0) : Type 0 where
  pub count : length order ≡ length turn
  pub forth : (i : ℕ) (a b : Call) → Pair a b → StandsAt part order i a → StandsAt other turn i b
  pub back : (i : ℕ) (a b : Call) → Pair a b → StandsAt other turn i b → StandsAt part order i a

module _ (part other : List Call) (order turn : List OpId) (Pair : Call → Call → Type 0) (paired : ArePaired part other Pair)
    (alike : StandAlike part other order turn Pair) where
  write_back : (k : ℕ) (value : List ℕ) → WritesAt other turn k value → WritesAt part order k value
  write_back k value w =
      let a = paired.right w.0 w.1.recorded in
      (a.0, alike.back k a.0 w.0 a.1 w.1, paired.action a.0 w.0 a.1 ∙ w.2)

  write_forth : (k : ℕ) (value : List ℕ) → WritesAt part order k value → WritesAt other turn k value
  write_forth k value w =
      let b = paired.left w.0 w.1.recorded in
      (b.0, alike.forth k w.0 b.0 b.1 w.1, sym (paired.action w.0 b.0 b.1) ∙ w.2)

  no_write : (low high : ℕ) → NoWriteFrom part order low high → NoWriteFrom other turn low high
  no_write low high none k value least most w = none k value least most (write_back k value w)

  last_written : (i : ℕ) (answer : Option (List ℕ)) → IsLastWritten part order i answer → IsLastWritten other turn i answer
  last_written i None none = no_write 0 i none
  last_written i (Some value) w = (w.0, w.1, write_forth w.0 value w.2, no_write (w.0 + 1) i w.3)

  same_order : IsOrder part order → IsOrder other turn
  same_order is = record {
    known = λ i below.
        let a = is.known i (omega (arith, below, alike.count)) in
        let b = paired.left a.0 a.1.recorded in
        (b.0, alike.forth i a.0 b.0 b.1 a.1);
    once = λ i j less below e.
        let a = is.known i (omega (arith, less, below, alike.count)) in
        let c = is.known j (omega (arith, below, alike.count)) in
        let b = paired.left a.0 a.1.recorded in
        let d = paired.left c.0 c.1.recorded in
        let x = alike.forth i a.0 b.0 b.1 a.1 in
        let y = alike.forth j c.0 d.0 d.1 c.1 in
        let same : b.0.op ≡ d.0.op = same_Some b.0.op d.0.op (sym x.listed ∙ (e ∙ y.listed)) in
        let ops = paired.number a.0 b.0 c.0 d.0 b.1 d.1 same in
        is.once i j less (omega (arith, below, alike.count)) (a.1.listed ∙ (ap Some ops ∙ sym c.1.listed));
    complete = λ b there done.
        let a = paired.right b there in
        let r = answers a.0.response b.response (paired.answer a.0 b a.1) done.0 done.1 in
        let i = is.complete a.0 (paired.there a.0 b a.1) (r.0, r.1) in
        (i.0, alike.forth i.0 a.0 b a.1 i.1);
    writes = λ i b at pending read.
        let a = paired.right b at.recorded in
        is.writes i a.0 (alike.back i a.0 b a.1 at) (none_there a.0.response b.response (paired.answer a.0 b a.1) pending)
        (paired.action a.0 b a.1 ∙ read);
    legal = λ i b response at read e.
        let a = paired.right b at.recorded in
        let r = answers a.0.response b.response (paired.answer a.0 b a.1) response e in
        let last = is.legal i a.0 r.0 (alike.back i a.0 b a.1 at) (paired.action a.0 b a.1 ∙ read) r.1 in
        (last.0, sym r.2 ∙ last.1, last_written i last.0 last.2);
    precedence = λ i j b d less x y before.
        let a = paired.right b x.recorded in
        let c = paired.right d y.recorded in
        is.precedence i j a.0 c.0 less (alike.back i a.0 b a.1 x) (alike.back j c.0 d c.1 y) (paired.precedence c.0 d a.0 b c.1 a.1 before);
  }

-- ---- a part and a moved one

module _ (number : OpId → OpId) (part moved : List Call) (m : IsMovedPart number part moved) where
  -- a call, and the moved one
  IsPair : Call → Call → Type 0
  IsPair a b = (i : ℕ) × (slice_get part i ≡ Some a) × (slice_get moved i ≡ Some b)

  pair_left : (a : Call) → Contains part a → (b : Call) × IsPair a b
  unfolding IsPair
  pair_left a there =
      let i = place_of part a there in
      let b = get_at moved i.0 (omega (arith, m.count, slice_get_within part i.0 a i.1)) in
      (b.0, (i.0, i.1, b.1))

  pair_right : (b : Call) → Contains moved b → (a : Call) × IsPair a b
  unfolding IsPair
  pair_right b there =
      let i = place_of moved b there in
      let a = get_at part i.0 (omega (arith, m.count, slice_get_within moved i.0 b i.1)) in
      (a.0, (i.0, a.1, i.1))

  pair_call : (a b : Call) → IsPair a b → IsMovedCall number a b
  unfolding IsPair
  pair_call a b p = m.each p.0 a b p.1 p.2

  -- the same number is that of the same call
  pair_one : (a b c d : Call) → IsPair a b → IsPair c d → number a.op ≡ number c.op → a ≡ c
  unfolding IsPair
  pair_one a b c d p q e =
      let same : p.0 ≡ q.0 = m.apart p.0 q.0 a c p.1 q.1 e in
      same_Some a c (sym p.1 ∙ (ap (slice_get part) same ∙ q.1))

  precedence_of : (a b c d : Call) → IsPair a b → IsPair c d → Precedes a c ↔ Precedes b d
  unfolding IsPair
  precedence_of a b c d p q = m.precedence p.0 q.0 a c b d p.1 q.1 p.2 q.2

  in_left : (a b : Call) → IsPair a b → Contains part a
  unfolding IsPair
  in_left a b p = Contains-slice_get part p.0 a p.1

  in_right : (a b : Call) → IsPair a b → Contains moved b
  unfolding IsPair
  in_right a b p = Contains-slice_get moved p.0 b p.2

  to_moved : ArePaired part moved IsPair
  to_moved = record {
    left = pair_left;
    right = pair_right;
    there = in_left;
    action = λ a b p. sym (pair_call a b p).action;
    answer = λ a b p. sym (pair_call a b p).answer;
    number = λ a b c d p q e.
        ap (λ (x : Call). x.op) (pair_one a b c d p q (sym (pair_call a b p).op ∙ (e ∙ (pair_call c d q).op)));
    precedence = λ a b c d p q before. (precedence_of a b c d p q).1 before;
  }

  to_part : ArePaired moved part (λ b a. IsPair a b)
  to_part = record {
    left = pair_right;
    right = pair_left;
    there = λ b a p. in_right a b p;
    action = λ b a p. (pair_call a b p).action;
    answer = λ b a p. (pair_call a b p).answer;
    number = λ b a d c p q e. (pair_call a b p).op ∙ (ap number e ∙ sym (pair_call c d q).op);
    precedence = λ b a d c p q before. (precedence_of a b c d p q).0 before;
  }

  -- the number is that of a call of the part
  IsOf : OpId → Type 0
  IsOf op = (a : Call) × Contains part a × (a.op ≡ op)

  module _ (source order : List OpId) (same : order ≡ map number source) (known : (i : ℕ) (o : OpId) → slice_get source i ≡ Some o → IsOf o)
    where
      counted : length source ≡ length order
      counted = sym (ap length same ∙ length-map source number)

      stand_forth : (i : ℕ) (a b : Call) → IsPair a b → StandsAt part source i a → StandsAt moved order i b
      stand_forth i a b p at = record {
        listed = ap (λ (l : List OpId). slice_get l i) same ∙ (slice_get-map_at number source i a.op at.listed
            ∙ ap Some (sym (pair_call a b p).op));
        recorded = in_right a b p;
      }

      stand_back : (i : ℕ) (a b : Call) → IsPair a b → StandsAt moved order i b → StandsAt part source i a
      unfolding IsOf
      stand_back i a b p at =
          let o = slice_get-map_back number source i b.op (ap (λ (l : List OpId). slice_get l i) (sym same) ∙ at.listed) in
          let k = known i o.0 o.1 in
          let q = pair_left k.0 k.1 in
          let one : k.0 ≡ a = pair_one k.0 q.0 a b q.1 p (ap number k.2 ∙ (o.2 ∙ (pair_call a b p).op)) in
          record {
            listed = o.1 ∙ ap Some (sym k.2 ∙ ap (λ (x : Call). x.op) one);
            recorded = in_left a b p;
          }

      order_forth : IsOrder part source → IsOrder moved order
      order_forth is = same_order part moved source order IsPair to_moved (record {
        count = counted;
        forth = stand_forth;
        back = stand_back;
      }) is

      order_back : IsOrder moved order → IsOrder part source
      order_back is = same_order moved part order source (λ b a. IsPair a b) to_part (record {
        count = sym counted;
        forth = λ i b a p at. stand_back i a b p at;
        back = λ i b a p at. stand_forth i a b p at;
      }) is

-- ---- a list that is numbered back

each_of : (Q : OpId → Type 0) (x : OpId) (xs : List OpId) → Q x → ((i : ℕ) (o : OpId) → slice_get xs i ≡ Some o → Q o) → (i : ℕ) (o : OpId)
    → slice_get (x ∷ xs) i ≡ Some o → Q o
each_of Q x xs first rest zero o at = subst Q (same_Some x o at) first
each_of Q x xs first rest (suc i) o at = rest i o at

record NumberedBack (number : OpId → OpId) (Q : OpId → Type 0) (order : List OpId) : Type 0 where
  pub source : List OpId
  pub same : order ≡ map number source
  pub each : (i : ℕ) (o : OpId) → slice_get source i ≡ Some o → Q o

numbered_back : (number : OpId → OpId) (Q : OpId → Type 0) (order : List OpId)
    → ((i : ℕ) (x : OpId) → slice_get order i ≡ Some x → (o : OpId) × (number o ≡ x) × Q o) → NumberedBack number Q order
numbered_back number Q [] of = record { source = []; same = refl; each = λ i o at. absurd (none-some o at) }
numbered_back number Q (x ∷ xs) of =
    let h = of 0 x refl in
    let r = numbered_back number Q xs (λ i. of (suc i)) in
    record {
      source = h.0 ∷ r.source;
      same = ap₂ (λ (y : OpId) (ys : List OpId). y ∷ ys) (sym h.1) r.same;
      each = each_of Q h.0 r.source h.2 r.each;
    }

module _ (number : OpId → OpId) (part moved : List Call) (m : IsMovedPart number part moved) where
  -- an order of the part, renumbered, is one of the moved part
  pub renumbered : (source order : List OpId) → order ≡ map number source → IsOrder part source → IsOrder moved order
  unfolding IsOf
  renumbered source order same is = order_forth number part moved m source order same (λ i o at.
      let a = is.known i (slice_get_within source i o at) in
      (a.0, a.1.recorded, same_Some a.0.op o (sym a.1.listed ∙ at))) is

  -- and each order of it is such a one
  numbers_known : (order : List OpId) → IsOrder moved order → (i : ℕ) (x : OpId) → slice_get order i ≡ Some x
      → (o : OpId) × (number o ≡ x) × IsOf number part moved m o
  unfolding IsOf
  numbers_known order is i x at =
      let b = is.known i (slice_get_within order i x at) in
      let a = pair_right number part moved m b.0 b.1.recorded in
      let number_is = (pair_call number part moved m a.0 b.0 a.1).op in
      (a.0.op, sym number_is ∙ same_Some b.0.op x (sym b.1.listed ∙ at), (a.0, in_left number part moved m a.0 b.0 a.1, refl))

  pub of_source : (order : List OpId) → IsOrder moved order → (source : List OpId) × (order ≡ map number source) × IsOrder part source
  of_source order is =
      let n = numbered_back number (IsOf number part moved m) order (numbers_known order is) in
      (n.source, n.same, order_back number part moved m n.source order n.same n.each is)

  pub linearizable_alike : IsLinearizable part ↔ IsLinearizable moved
  linearizable_alike = (
    λ l. (map number l.0, renumbered l.0 (map number l.0) refl l.1),
    λ l. let s = of_source l.0 l.1 in (s.0, s.2),
  )
