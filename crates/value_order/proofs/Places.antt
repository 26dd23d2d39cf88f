-- Where calls stand in an order of their part.
use Rattle.std.proofs.Common.{ℕ, ◌≡◌, ◌≢◌, ◌<◌, ◌+◌, inl, inr, List, Option, Some, None, ap, sym, ◌∙◌, subst, arith}
use Rattle.std.proofs.lemmas.Bool.{cases_lt}
use Rattle.std.proofs.lemmas.Option.{slice_get_within}
use Rattle.tag.specs.declared.actions.Action.TheVariants.{Write}
use Rattle.tag.specs.declared.actions.Returned.TheVariants.{Value}
use Rattle.tag.specs.declared.numbers.OpId.{OpId}
use Rattle.recorder.specs.declared.part.Call.{Call}
use Rattle.recorder.specs.declared.part.Response.{Response}
use Rattle.recorder.specs.Parts.{IsSequence, IsCompleted, Precedes}
use Rattle.recorder.specs.Orders.{StandsAt, NoWriteFrom, IsLastWritten, IsOrder}
use Rattle.recorder.proofs.Sequences.{same_at}
use Rattle.value_order.specs.Writers.{AnswersValue, AnswersNothing, IsWriter, IsOnlyWriter}
use Rattle.value_order.specs.Families.{IsOfFamily, MustPrecede, AreOpposed}
use Rattle.value_order.specs.Tables.{InPiece, StandInPieces}

-- the last write before place i, which is a writer of the read that stands there
pub record LastWrite (part : List Call) (order : List OpId) (i : ℕ) (read : Call) : Type 0 where
  pub k : ℕ
  pub write : Call
  pub below : k < i
  pub stands : StandsAt part order k write
  pub writer : IsWriter part write read
  pub none : NoWriteFrom part order (k + 1) i

-- a value that is answered isn't nothing
value_not_none : (r : Response) (value : List ℕ) → r.returned ≡ Value None → r.returned ≡ Value (Some value) → ⊥
value_not_none r value p q = cc

same_value : (r : Response) (v w : List ℕ) → r.returned ≡ Value (Some v) → r.returned ≡ Value (Some w) → v ≡ w
same_value r v w p q = cc

-- one answer
pub one_response : (read : Call) (a b : Response) → read.response ≡ Some a → read.response ≡ Some b → a ≡ b
one_response read a b p q = cc

module _ (part : List Call) (order : List OpId) (is : IsOrder part order) where
  last_by : (i : ℕ) (read : Call) (value : List ℕ) (at : StandsAt part order i read) (a : AnswersValue read value) (answer : Option (List ℕ)) → a.response.returned ≡ Value answer → IsLastWritten part order i answer → LastWrite part order i read
  last_by i read value at a None e last = absurd (value_not_none a.response value e a.answers)
  last_by i read value at a (Some v) e last =
      let w = last.2 in
      record {
        k = last.0;
        write = w.0;
        below = last.1;
        stands = w.1;
        writer = record {
          recorded = w.1.recorded;
          value = value;
          writes = w.2 ∙ ap Write (same_value a.response v value e a.answers);
          answered = a;
          began = elim (cases_lt a.response.place w.0.invoked) [
            | inl h ↦ absurd (is.precedence last.0 i w.0 read last.1 w.1 at (a.response, a.responds, h))
            | inr h ↦ h
          ];
        };
        none = last.3;
      }

  -- before a read that answers a value a writer of it stands, and no write between
  pub last_write : (i : ℕ) (read : Call) (value : List ℕ) → StandsAt part order i read → AnswersValue read value → LastWrite part order i read
  last_write i read value at a =
      let l = is.legal i read a.response at a.reads a.responds in
      last_by i read value at a l.0 l.1 l.2

  nothing_by : (i : ℕ) (read : Call) (a : AnswersNothing read) (answer : Option (List ℕ)) → a.response.returned ≡ Value answer → IsLastWritten part order i answer → NoWriteFrom part order 0 i
  nothing_by i read a None e last = last
  nothing_by i read a (Some v) e last = absurd (value_not_none a.response v a.answers e)

  -- before a read of nothing no write stands
  pub none_before : (i : ℕ) (read : Call) → StandsAt part order i read → AnswersNothing read → NoWriteFrom part order 0 i
  none_before i read at a =
      let l = is.legal i read a.response at a.reads a.responds in
      nothing_by i read a l.0 l.1 l.2

  -- a call stands at one place
  pub one_place : (i j : ℕ) (a : Call) → StandsAt part order i a → StandsAt part order j a → i ≡ j
  one_place i j a at_i at_j =
      elim (cases_lt i j) [
        | inl h ↦ absurd (is.once i j h (slice_get_within order j a.op at_j.listed) (at_i.listed ∙ sym at_j.listed))
        | inr h ↦ elim (cases_lt j i) [
          | inl g ↦ absurd (is.once j i g (slice_get_within order i a.op at_i.listed) (at_j.listed ∙ sym at_i.listed))
          | inr g ↦ omega arith
        ]
      ]

  -- a call that precedes another stands before it
  pub stands_first : IsSequence part → (i j : ℕ) (a b : Call) → Precedes a b → StandsAt part order i a → StandsAt part order j b → i < j
  stands_first sequence i j a b before at_a at_b =
      elim (cases_lt i j) [
        | inl h ↦ h
        | inr h ↦ elim (cases_lt j i) [
          | inl g ↦ absurd (is.precedence j i b a g at_b at_a before)
          | inr g ↦
              let here : j ≡ i = omega arith in
              let same : a ≡ b = same_at part order sequence i a b at_a (subst (λ (x : ℕ). StandsAt part order x b) here at_b) in
              let later = sequence.responses a before.0 at_a.recorded before.1 in
              let places : a.invoked ≡ b.invoked = ap (λ (c : Call). c.invoked) same in
              absurd (omega (arith, before.2))
        ]
      ]

  -- a read with one writer stands in its piece
  pub only_piece : (write read : Call) (i : ℕ) → IsOnlyWriter part write read → StandsAt part order i read → InPiece part order i write
  only_piece write read i one at =
      let l = last_write i read one.writer.value at one.writer.answered in
      let same : l.write ≡ write = one.only l.write l.writer in
      record {
        k = l.k;
        below = omega (arith, l.below);
        stands = subst (λ (c : Call). StandsAt part order l.k c) same l.stands;
        none = l.none;
      }

pub only_answered : (part : List Call) (write read : Call) → IsOnlyWriter part write read → IsCompleted read
only_answered part write read one = (one.writer.answered.response, one.writer.answered.responds)

-- families by any relation whose reads are answered and stand in the piece of their write
module _ (part : List Call) (order : List OpId) (is : IsOrder part order) (sequence : IsSequence part) (Reads : Call → Call → Type 0) (answered : (write read : Call) → Reads write read → IsCompleted read)
    (piece : (write read : Call) (i : ℕ) → Reads write read → StandsAt part order i read → InPiece part order i write) where
  member : (write call : Call) (i : ℕ) → IsOfFamily part Reads write call → StandsAt part order i call → InPiece part order i write
  member write call i of at = elim of.belongs [
    | inl same ↦ record {
      k = i;
      below = omega arith;
      stands = subst (λ (c : Call). StandsAt part order i c) same at;
      none = λ k v low high w. omega arith;
    }
    | inr reads ↦ piece write call i reads at
  ]

  place_of_second : (y call : Call) (ky : ℕ) → StandsAt part order ky y → IsOfFamily part Reads y call → (q : ℕ) × StandsAt part order q call
  place_of_second y call ky at of = elim of.belongs [
    | inl same ↦ (ky, subst (λ (c : Call). StandsAt part order ky c) (sym same) at)
    | inr reads ↦ is.complete call of.recorded (answered y call reads)
  ]

  -- the write of a family that must precede another stands before that one's
  pub stands_before : (x y : Call) (kx ky : ℕ) → x ≢ y → MustPrecede part Reads x y → StandsAt part order kx x → StandsAt part order ky y → kx < ky
  stands_before x y kx ky apart m at_x at_y =
      let p = is.complete m.first m.of_x.recorded (m.precedes.0, m.precedes.1) in
      let q = place_of_second y m.second ky at_y m.of_y in
      let less = stands_first part order is sequence p.0 q.0 m.first m.second m.precedes p.1 q.1 in
      let mx = member x m.first p.0 m.of_x p.1 in
      let my = member y m.second q.0 m.of_y q.1 in
      let ex = one_place part order is mx.k kx x mx.stands at_x in
      let ey = one_place part order is my.k ky y my.stands at_y in
      elim (cases_lt kx ky) [
        | inl h ↦ h
        | inr h ↦ elim (cases_lt ky kx) [
          | inl g ↦ absurd (my.none kx m.of_x.writes.0 (omega arith) (omega (arith, mx.below)) (x, at_x, m.of_x.writes.1))
          | inr g ↦
              let here : kx ≡ ky = omega arith in
              absurd (apart (same_at part order sequence ky x y (subst (λ (z : ℕ). StandsAt part order z x) here at_x) at_y))
        ]
      ]

  -- no two families are opposed
  pub none_opposed : (x y : Call) → AreOpposed part Reads x y → ⊥
  none_opposed x y o =
      let a = o.there in
      let b = o.back in
      let p = is.complete a.first a.of_x.recorded (a.precedes.0, a.precedes.1) in
      let q = is.complete b.first b.of_x.recorded (b.precedes.0, b.precedes.1) in
      let mx = member x a.first p.0 a.of_x p.1 in
      let my = member y b.first q.0 b.of_x q.1 in
      let less = stands_before x y mx.k my.k o.apart a mx.stands my.stands in
      let more = stands_before y x my.k mx.k (λ e. o.apart (sym e)) b my.stands mx.stands in
      omega arith

-- a read with one writer stands in its piece in each order
pub only_pieces : (part : List Call) → StandInPieces part (IsOnlyWriter part)
only_pieces part = record { answered = only_answered part; piece = λ order is. only_piece part order is }
