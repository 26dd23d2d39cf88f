-- The tags of sound rows justify each part of them.
use Rattle.std.proofs.Common.{◌≡◌, ◌≢◌, ℕ, ◌<◌, ◌⊎◌, ◌∙◌, List, Option, Some, None, sym, ap, subst, inl, inr, arith}
use Rattle.std.specs.List.{slice_get, Contains}
use Rattle.tag.proofs.Lists.{Contains-slice_get, place_of}
use Rattle.tag.specs.Tags.{Tag, IsBelow, least}
use Rattle.tag.specs.declared.actions.Action.TheVariants.{Write}
use Rattle.tag.specs.declared.actions.Returned.{Returned}
use Rattle.tag.specs.declared.actions.Returned.TheVariants.{Value}
use Rattle.recorder.specs.declared.row.Row.{Row}
use Rattle.recorder.specs.declared.row.Row.TheVariants.{Invoke, Note, Respond}
use Rattle.recorder.specs.declared.part.Call.{Call}
use Rattle.recorder.specs.declared.part.Response.{Response}
use Rattle.recorder.specs.Parts.{Precedes}
use Rattle.recorder.specs.Records.{IsRecorded, IsPart}
use Rattle.recorder.specs.Sound.{IsRead, IsWrite, IsNoted, TagSound}
use Rattle.replica.specs.declared.pairs.Pair.{Pair}
use Rattle.client_phases.specs.Calls.{answer_from}
use Rattle.world_steps.specs.Sound.{At, IsNoGreater, Source, IsGood, Answered, RowsSound}
use Rattle.world_steps.specs.Sound.IsGood.{Unwritten, Wrote}
use Rattle.world_steps.proofs.TagLaws.{at_most_cases, not_below_itself}

order_cases : (m n : ℕ) → (m < n) ⊎ ((n < m) ⊎ (m ≡ n))
order_cases m n = grind arith

module _ (rows : List Row) (sound : RowsSound rows) (key : List ℕ) (part : List Call) (is : IsPart rows key part) where
  -- ---- the rows of a call
  recorded_as : (call : Call) → Contains part call → IsRecorded rows key call
  recorded_as call h = is.each call h

  note_at : (call : Call) (tag : Tag) → IsNoted part call tag → (place : ℕ) × At rows place (Note call.op tag)
  note_at call tag n = place_of rows (Note call.op tag) (((recorded_as call n.recorded).noted tag).0 n.noted)

  response_at : (call : Call) (response : Response) → Contains part call → call.response ≡ Some response → At rows response.place (Respond call.op response.returned)
  response_at call response h e = ((recorded_as call h).answered response.place response.returned).0 e

  -- calls that are begun at one place are one call
  one_call : (a b : Call) → Contains part a → Contains part b → a.invoked ≡ b.invoked → a ≡ b
  one_call a b ha hb e =
      let i : (k : ℕ) × (slice_get part k ≡ Some a) = place_of part a ha in
      let j : (k : ℕ) × (slice_get part k ≡ Some b) = place_of part b hb in
      elim (order_cases i.0 j.0) [
        | inl less ↦ let h : a.invoked < b.invoked = is.ordered i.0 j.0 a b less i.1 j.1 in absurd (omega (arith, h, e))
        | inr (inl more) ↦ let h : b.invoked < a.invoked = is.ordered j.0 i.0 b a more j.1 i.1 in absurd (omega (arith, h, e))
        | inr (inr same) ↦ let there : slice_get part j.0 ≡ Some a = subst (λ k. slice_get part k ≡ Some a) same i.1 in let at_b : slice_get part j.0 ≡ Some b = j.1 in cc
      ]

  -- ---- tags rise along precedence
  rises : (a b : Call) (s t : Tag) → Precedes a b → IsNoted part a s → IsNoted part b t → IsNoGreater s t × ((value : List ℕ) → b.action ≡ Write value → IsBelow s t)
  rises a b s t (response, e, lt) m n =
      let p : IsRecorded rows key a = recorded_as a m.recorded in
      let q : IsRecorded rows key b = recorded_as b n.recorded in
      let na : (place : ℕ) × At rows place (Note a.op s) = note_at a s m in
      let nb : (place : ℕ) × At rows place (Note b.op t) = note_at b t n in
      sound.rising response.place a.invoked b.invoked a.op b.op a.client b.client response.returned key a.action b.action s t na.0 nb.0 (response_at a response m.recorded e) p.begun q.begun lt na.1 nb.1

  -- ---- writes have their own tags
  own_of : (call : Call) (tag : Tag) → IsWrite call → IsNoted part call tag → (0 < tag.number) × (tag.writer ≡ call.client)
  own_of call tag w n =
      let p : IsRecorded rows key call = recorded_as call n.recorded in
      let m : (place : ℕ) × At rows place (Note call.op tag) = note_at call tag n in
      sound.own call.invoked m.0 call.op call.client key w.0 tag (subst (λ a. At rows call.invoked (Invoke call.op call.client key a)) w.1 p.begun) m.1

  -- of two writes of one client with one tag none is the earlier
  not_earlier : (a b : Call) (tag : Tag) → a.client ≡ b.client → IsWrite b → IsNoted part a tag → IsNoted part b tag → a.invoked < b.invoked → ⊥
  not_earlier a b tag same w m n lt =
      let p : IsRecorded rows key a = recorded_as a m.recorded in
      let q : IsRecorded rows key b = recorded_as b n.recorded in
      let there : At rows b.invoked (Invoke b.op a.client key b.action) = subst (λ c. At rows b.invoked (Invoke b.op c key b.action)) (sym same) q.begun in
      let done : (s : ℕ) × (r : Returned) × (s < b.invoked) × At rows s (Respond a.op r) = sound.sequential a.invoked b.invoked a.op b.op a.client key key a.action b.action p.begun there lt in
      let na : (place : ℕ) × At rows place (Note a.op tag) = note_at a tag m in
      let nb : (place : ℕ) × At rows place (Note b.op tag) = note_at b tag n in
      not_below_itself tag ((sound.rising done.0 a.invoked b.invoked a.op b.op a.client b.client done.1 key a.action b.action tag tag na.0 nb.0 done.3 p.begun q.begun done.2 na.1 nb.1).1 w.0 w.1)

  one_write : (a b : Call) (tag : Tag) → IsWrite a → IsWrite b → IsNoted part a tag → IsNoted part b tag → a ≡ b
  one_write a b tag v w m n =
      let same : a.client ≡ b.client = sym (own_of a tag v m).1 ∙ (own_of b tag w n).1 in
      elim (order_cases a.invoked b.invoked) [
        | inl less ↦ absurd (not_earlier a b tag same w m n less)
        | inr (inl more) ↦ absurd (not_earlier b a tag (sym same) v n m more)
        | inr (inr e) ↦ one_call a b m.recorded n.recorded e
      ]

  -- ---- what a completed read answers: the value of a good pair with its tag
  record ReadIs (tag : Tag) (returned : Returned) : Type 0 where
    pair : Pair
    tagged : pair.tag ≡ tag
    good : IsGood rows key pair
    answer : returned ≡ Value pair.value

  read_of : (call : Call) (tag : Tag) (returned : Returned) → IsRead call → IsRecorded rows key call → (m : ℕ) → At rows m (Note call.op tag) → Answered rows call.op returned → ReadIs tag returned
  read_of call tag returned reads p m noted a =
      let places : a.place ≡ call.invoked = sound.once a.place call.invoked call.op a.client call.client a.key key a.action call.action a.is p.begun in
      let here : At rows call.invoked (Invoke call.op a.client a.key a.action) = subst (λ z. At rows z (Invoke call.op a.client a.key a.action)) places a.is in
      let there : At rows call.invoked (Invoke call.op call.client key call.action) = p.begun in
      let keys : a.key ≡ key = cc in
      let actions : a.action ≡ call.action = cc in
      record {
        pair = a.pair;
        tagged = sound.noted_once a.note m call.op a.pair.tag tag a.noted noted;
        good = subst (λ k. IsGood rows k a.pair) keys a.good;
        answer = a.answer ∙ ap (λ z. answer_from (record { call = record { op = call.op; key = a.key; action = z }; pair = a.pair })) (actions ∙ reads);
      }

  read_is : (call : Call) (response : Response) (tag : Tag) → IsRead call → IsNoted part call tag → call.response ≡ Some response → ReadIs tag response.returned
  read_is call response tag reads n e =
      let m : (place : ℕ) × At rows place (Note call.op tag) = note_at call tag n in
      read_of call tag response.returned reads (recorded_as call n.recorded) m.0 m.1 (sound.answered response.place call.op response.returned (response_at call response n.recorded e))

  unwritten_value : (pair : Pair) → pair.tag ≡ least → IsGood rows key pair → pair.value ≡ None
  unwritten_value pair e (Unwritten none) = ap (λ (p : Pair). p.value) none
  unwritten_value pair e (Wrote s) =
      let w = s.write in
      let h : (0 < pair.tag.number) × (pair.tag.writer ≡ w.client) = sound.own w.place w.note w.op w.client key w.value pair.tag w.invoked w.noted in
      let z : pair.tag.number ≡ 0 = ap (λ (t : Tag). t.number) e in
      absurd (omega (arith, h.0, z))

  -- the write that a pair comes from is one of the part
  record WriteIs (tag : Tag) (found : Option (List ℕ)) : Type 0 where
    write : Call
    value : List ℕ
    noted : IsNoted part write tag
    writes : write.action ≡ Write value
    same : found ≡ Some value

  source_is : (pair : Pair) → Source rows key pair → WriteIs pair.tag pair.value
  source_is pair s =
      let w = s.write in
      let (write, has, place) = is.all w.place w.op w.client (Write w.value) w.invoked in
      let p : IsRecorded rows key write = recorded_as write has in
      let here : At rows w.place (Invoke write.op write.client key write.action) = subst (λ z. At rows z (Invoke write.op write.client key write.action)) place p.begun in
      let there : At rows w.place (Invoke w.op w.client key (Write w.value)) = w.invoked in
      let ops : w.op ≡ write.op = cc in
      let actions : write.action ≡ Write w.value = cc in
      let noted : Contains rows (Note write.op pair.tag) = Contains-slice_get rows w.note (Note write.op pair.tag) (subst (λ o. At rows w.note (Note o pair.tag)) ops w.noted) in
      record { write = write; value = w.value; noted = record { recorded = has; noted = (p.noted pair.tag).1 noted }; writes = actions; same = s.same }

  good_write : (pair : Pair) → pair.tag ≢ least → IsGood rows key pair → WriteIs pair.tag pair.value
  good_write pair other (Unwritten none) = absurd (other (ap (λ (p : Pair). p.tag) none))
  good_write pair other (Wrote s) = source_is pair s

  -- ---- so they are sound
  pub tags_justify : TagSound part
  tags_justify = record {
    noted = λ call h (response, e).
        let answer : Answered rows call.op response.returned = sound.answered response.place call.op response.returned (response_at call response h e) in
        (answer.pair.tag, ((recorded_as call h).noted answer.pair.tag).1 (Contains-slice_get rows answer.note (Note call.op answer.pair.tag) answer.noted));
    rising = λ a b s t precedes m n. at_most_cases s t (rises a b s t precedes m n).0;
    rising_to_writes = λ a b s t w precedes m n. (rises a b s t precedes m n).1 w.0 w.1;
    distinct = λ a b tag v w m n. one_write a b tag v w m n;
    above = λ a tag w n. inl (own_of a tag w n).0;
    absent = λ a response reads n e.
        let found : ReadIs least response.returned = read_is a response least reads n e in
        found.answer ∙ ap Value (unwritten_value found.pair found.tagged found.good);
    answers = λ a response tag reads n other e.
        let found : ReadIs tag response.returned = read_is a response tag reads n e in
        let from : WriteIs found.pair.tag found.pair.value = good_write found.pair (λ z. other (sym found.tagged ∙ z)) found.good in
        (from.write, from.value, subst (IsNoted part from.write) found.tagged from.noted, from.writes, found.answer ∙ ap Value from.same);
  }
