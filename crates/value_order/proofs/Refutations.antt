-- Each fault refutes: no list is an order of the part.
use Rattle.std.proofs.Common.{ℕ, ◌≡◌, inl, inr, List, Option, Some, None, arith}
use Rattle.std.specs.List.{Contains}
use Rattle.tag.specs.declared.actions.Returned.TheVariants.{Value}
use Rattle.tag.specs.declared.numbers.OpId.{OpId}
use Rattle.recorder.specs.declared.part.Call.{Call}
use Rattle.recorder.specs.Parts.{IsSequence}
use Rattle.recorder.specs.Orders.{IsLastWritten, IsOrder, IsLinearizable}
use Rattle.value_order.specs.Writers.{IsOnlyWriter}
use Rattle.value_order.specs.Families.{AreOpposed}
use Rattle.value_order.specs.Tables.{ReadsBy, StandInPieces}
use Rattle.value_order.specs.Faults.{AnswersUnwritten, EndsTooEarly, IsLateNothing, IsStaleValue, IsStale}
use Rattle.value_order.proofs.Places.{last_write, none_before, stands_first, only_pieces, none_opposed}

module _ (part : List Call) (order : List OpId) (is : IsOrder part order) where
  unwritten_by : (i : ℕ) (read : Call) (u : AnswersUnwritten part read) (answer : Option (List ℕ)) → u.response.returned ≡ Value answer → IsLastWritten part order i answer → ⊥
  unwritten_by i read u None e last = u.some e
  unwritten_by i read u (Some v) e last = u.unwritten last.2.0 v last.2.1.recorded last.2.2 e

  unwritten : (read : Call) → Contains part read → AnswersUnwritten part read → ⊥
  unwritten read there u =
      let i = is.complete read there (u.response, u.responds) in
      let l = is.legal i.0 read u.response i.1 u.reads u.responds in
      unwritten_by i.0 read u l.0 l.1 l.2

  early : (write read : Call) → Contains part read → EndsTooEarly part write read → ⊥
  early write read there e =
      let i = is.complete read there (e.answered.response, e.answered.responds) in
      let l = last_write part order is i.0 read e.value i.1 e.answered in
      e.early l.write l.writer

  late : IsSequence part → (earlier later : Call) → Contains part earlier → Contains part later → IsLateNothing earlier later → ⊥
  late sequence earlier later in_a in_b h =
      let i = is.complete earlier in_a (h.precedes.0, h.precedes.1) in
      let j = is.complete later in_b (h.nothing.response, h.nothing.responds) in
      let less = stands_first part order is sequence i.0 j.0 earlier later h.precedes i.1 j.1 in
      let none = none_before part order is j.0 later j.1 h.nothing in
      elim h.shows [
        | inl w ↦ none i.0 w.0 (omega arith) less (earlier, i.1, w.1)
        | inr a ↦
            let l = last_write part order is i.0 earlier a.0 i.1 a.1 in
            none l.k l.writer.value (omega arith) (omega (arith, l.below)) (l.write, l.stands, l.writer.writes)
      ]

  stale_value : IsSequence part → (read : Call) → Contains part read → IsStaleValue part read → ⊥
  stale_value sequence read there s =
      let a = s.has.answered in
      let i = is.complete read there (a.response, a.responds) in
      let l = last_write part order is i.0 read s.has.value i.1 a in
      let o = s.overwritten l.write l.writer in
      let b = o.1 in
      let m = is.complete o.0 b.recorded (b.before.0, b.before.1) in
      let low = stands_first part order is sequence l.k m.0 l.write o.0 b.after l.stands m.1 in
      let high = stands_first part order is sequence m.0 i.0 o.0 read b.before m.1 i.1 in
      l.none m.0 b.writes.0 (omega arith) high (o.0, m.1, b.writes.1)

  stale : IsSequence part → (read : Call) → Contains part read → IsStale part read → ⊥
  stale sequence read there (inl s) = stale_value sequence read there s
  stale sequence read there (inr s) = late sequence s.write read s.recorded there (record { shows = inl s.writes; nothing = s.nothing; precedes = s.precedes })

  opposed : IsSequence part → (Reads : Call → Call → Type 0) → StandInPieces part Reads → (x y : Call) → AreOpposed part Reads x y → ⊥
  opposed sequence Reads pieces x y o = none_opposed part order is sequence Reads pieces.answered (pieces.piece order is) x y o

pub unwritten_refutes : (part : List Call) (read : Call) → Contains part read → AnswersUnwritten part read → IsLinearizable part → ⊥
unwritten_refutes part read there u l = unwritten part l.0 l.1 read there u

pub early_refutes : (part : List Call) (write read : Call) → Contains part read → EndsTooEarly part write read → IsLinearizable part → ⊥
early_refutes part write read there e l = early part l.0 l.1 write read there e

pub late_refutes : (part : List Call) (earlier later : Call) → IsSequence part → Contains part earlier → Contains part later → IsLateNothing earlier later → IsLinearizable part → ⊥
late_refutes part earlier later sequence in_a in_b h l = late part l.0 l.1 sequence earlier later in_a in_b h

pub stale_refutes : (part : List Call) (read : Call) → IsSequence part → Contains part read → IsStale part read → IsLinearizable part → ⊥
stale_refutes part read sequence there s l = stale part l.0 l.1 sequence read there s

pub opposed_refutes : (part : List Call) (x y : Call) → IsSequence part → AreOpposed part (IsOnlyWriter part) x y → IsLinearizable part → ⊥
opposed_refutes part x y sequence o l = opposed part l.0 l.1 sequence (IsOnlyWriter part) (only_pieces part) x y o

-- the same by a table
pub table_refutes : (part : List Call) (source : ℕ → Option ℕ) (x y : Call) → IsSequence part → StandInPieces part (ReadsBy part source) → AreOpposed part (ReadsBy part source) x y → IsLinearizable part → ⊥
table_refutes part source x y sequence pieces o l = opposed part l.0 l.1 sequence (ReadsBy part source) pieces x y o
