-- A sound table that is extended stays sound, and what is kept stays kept.
use Rattle.std.proofs.Common.{ℕ, ◌≡◌, ◌≤◌, ◌⊎◌, inl, inr, List, Option, Some, None, ap, sym, ◌∙◌, subst, refl, arith}
use Rattle.std.specs.List.{Contains}
use Rattle.std.proofs.lemmas.Bool.{cases_lt}
use Rattle.std.proofs.lemmas.Option.{same_Some, none-some}
use Rattle.recorder.specs.declared.part.Call.{Call}
use Rattle.recorder.specs.declared.part.Response.{Response}
use Rattle.recorder.specs.Parts.{IsSequence}
use Rattle.recorder.proofs.Sequences.{same_call}
use Rattle.value_order.specs.Families.{IsAnsweredBy}
use Rattle.value_order.specs.Tables.{ReadsBy}
use Rattle.value_order.specs.Writers.{AnswersValue, IsWriter}
use Rattle.kept_families.specs.Continued.{IsSameBy, AreOpenIn, Continues, IsTableOf, Extends}
use Rattle.kept_families.specs.Forgotten.{IsForgotten, AreKept}
use Rattle.kept_families.specs.Oppositions.{IsFree}
use Rattle.kept_families.specs.SoundTables.{IsOverwrittenBy, IsPassed, HasRead, AreReads}
use Rattle.kept_families.proofs.ByRows.{same_end, later_answered}
use Rattle.kept_families.proofs.Continuing.{AgreeBy, agree_after, agree_before, same_back, in_earlier, answered_too, write_too, number_too, overwritten_too, opposed_too, forgotten_too}

-- a call was answered by a row, or it wasn't
answered_or : (row : ℕ) (call : Call) → IsAnsweredBy row call ⊎ (IsAnsweredBy row call → ⊥)
answered_or row call = by call.response refl
  where
    by : (r : Option Response) → call.response ≡ r → IsAnsweredBy row call ⊎ (IsAnsweredBy row call → ⊥)
    by None e = inr (λ a. none-some a.response (sym e ∙ a.responds))
    by (Some r) e = elim (cases_lt row r.place) [
      | inl h ↦ inr (λ a. (let same = same_end call row r e a in absurd (omega (arith, a.by))))
      | inr h ↦ inl (record { response = r; responds = e; by = h })
    ]

module _ (row : ℕ) (before after : List Call) (source later : ℕ → Option ℕ) (in_before : IsSequence before) (in_after : IsSequence after) (c : Continues row before after) (entries : IsTableOf before source) (sound : AreReads before (ReadsBy before source)) (x : Extends row after source later) where
  -- a read that was answered by the row, with its write, as both parts have them
  record Old (write read : Call) : Type 0 where
    w : Call
    r : Call
    reads : ReadsBy before source w r
    of_w : IsSameBy row w write
    of_r : IsSameBy row r read
    answered : IsAnsweredBy row r

  old : (write read : Call) → ReadsBy after later write read → IsAnsweredBy row read → Old write read
  old write read reads a =
      let at = c.back read reads.recorded (inr a) in
      let entry = x.fresh read write.op.0 reads.recorded a reads.is in
      let e = entries read.op.0 write.op.0 entry in
      let w = e.0 in
      let r = e.1 in
      let same : r ≡ at.now = same_call before in_before r at.now e.2.recorded at.recorded (e.3 ∙ number_too row read at.now at.same) in
      let of_r : IsSameBy row r read = subst (λ (k : Call). IsSameBy row k read) (sym same) (same_back row read at.now at.same) in
      let is = answered_too row read r (same_back row r read of_r) a in
      let has = sound.each w r e.2 in
      let end = same_end r row has.writer.answered.response has.writer.answered.responds is in
      let counts : w.invoked ≤ row = omega (arith, has.writer.began, is.by) in
      let now = c.there w e.2.written (inl ((has.writer.value, has.writer.writes), counts)) in
      let number : w.op.0 ≡ write.op.0 = same_Some w.op.0 write.op.0 (sym e.2.is ∙ (ap source e.3 ∙ entry)) in
      let here : now.now ≡ write = same_call after in_after now.now write now.recorded reads.written (sym (number_too row w now.now now.same) ∙ number) in
      record { w = w; r = r; reads = e.2; of_w = subst (IsSameBy row w) here now.same; of_r = of_r; answered = is }

  abbrev value_too : (r read : Call) (value : List ℕ) → IsSameBy row r read → IsAnsweredBy row r → AnswersValue r value → AnswersValue read value
  value_too r read value s a v = record {
    response = v.response;
    reads = sym s.action ∙ v.reads;
    responds = (s.answered v.response (let same = same_end r row v.response v.responds a in omega (arith, a.by))).0 v.responds;
    answers = v.answers;
  }

  -- a writer of the read in one part is one in the other
  writer_too : (one other : List Call) (a b s t : Call) → Contains other b → IsSameBy row a b → IsSameBy row s t → IsAnsweredBy row s → IsWriter one a s → IsWriter other b t
  writer_too one other a b s t there of_a of_s is w = record {
    recorded = there;
    value = w.value;
    writes = sym of_a.action ∙ w.writes;
    answered = value_too s t w.value of_s is w.answered;
    began = (let begun : a.invoked ≡ b.invoked = of_a.invoked in let low = w.began in omega arith);
  }

  passed_too : (r read a other : Call) → Contains before a → Contains after other → IsSameBy row r read → IsAnsweredBy row r → IsSameBy row a other → IsPassed before (ReadsBy before source) r a → IsPassed after (ReadsBy after later) read other
  passed_too r read a other in_a in_other of_r is of_a p =
      let end = same_end r row p.response p.responds is in
      let le : p.row ≤ row = omega (arith, p.early, is.by) in
      let begun : r.invoked ≡ read.invoked = of_r.invoked in
      let agree : AgreeBy p.row before source later = λ call there done. agree_before row before after source later c x call there (later_answered p.row row call le done) in
      let near : IsSameBy p.row a other = record { number = of_a.number; action = of_a.action; invoked = of_a.invoked; answered = λ response by. of_a.answered response (omega arith) } in
      let o = overwritten_too p.row before after source later in_before in_after (in_earlier p.row row before after le c.there) agree sound r.invoked p.w a other (record { here = in_a; there = in_other; same = near }) p.overwritten in
      record {
        response = p.response;
        responds = (of_r.answered p.response (omega (arith, is.by))).0 p.responds;
        row = p.row;
        early = p.early;
        w = o.0;
        overwritten = subst (λ (place : ℕ). IsOverwrittenBy after (ReadsBy after later) p.row place o.0 other) begun o.1;
      }

  old_has_read : (write read : Call) → ReadsBy after later write read → IsAnsweredBy row read → HasRead after (ReadsBy after later) write read
  old_has_read write read reads a =
      let o = old write read reads a in
      let has = sound.each o.w o.r o.reads in
      record {
        writer = writer_too before after o.w write o.r read reads.written o.of_w o.of_r o.answered has.writer;
        passed = λ other is.
            let end = same_end read row is.answered.response is.answered.responds a in
            let counts : other.invoked ≤ row = omega (arith, is.began, a.by) in
            let b = c.back other is.recorded (inl ((is.value, is.writes), counts)) in
            let back = same_back row other b.now b.same in
            elim (has.passed b.now (writer_too after before other b.now read o.r b.recorded b.same (same_back row o.r read o.of_r) a is)) [
              | inl same ↦ inl (same_call after in_after other write is.recorded reads.written (number_too row other b.now b.same ∙ (ap (λ (k : Call). k.op.0) same ∙ number_too row o.w write o.of_w)))
              | inr p ↦ inr (passed_too o.r read b.now other b.recorded is.recorded o.of_r o.answered back p)
            ];
      }

  -- the table stays sound, if its new entries are
  pub still_sound : ((write read : Call) → ReadsBy after later write read → (IsAnsweredBy row read → ⊥) → HasRead after (ReadsBy after later) write read) → AreReads after (ReadsBy after later)
  still_sound fresh = record {
    recorded = λ write read reads. reads.recorded;
    each = λ write read reads. elim (answered_or row read) [ inl a ↦ old_has_read write read reads a | inr unanswered ↦ fresh write read reads unanswered ];
  }

  -- what is forgotten stays so
  pub still_forgotten : (u v : Call) → Contains before u → Contains after v → IsSameBy row u v → IsForgotten before (ReadsBy before source) row u → IsForgotten after (ReadsBy after later) row v
  still_forgotten u v in_u in_v same f = forgotten_too row before after source later in_before in_after c.there (agree_before row before after source later c x) sound c.opens u v (record { here = in_u; there = in_v; same = same }) f

  module _ (now : AreReads after (ReadsBy after later)) where
    -- nothing is opposed by the row in the one part, if nothing is in the other
    pub still_free : IsFree before (ReadsBy before source) row → IsFree after (ReadsBy after later) row
    still_free free o = free (opposed_too row after before later source in_after in_before c.back (agree_after row before after source later c x) now o)

    -- what is kept stays kept, if no read was left out
    pub still_kept : AreOpenIn row before after → (kept : List ℕ) → AreKept before (ReadsBy before source) row kept → AreKept after (ReadsBy after later) row kept
    still_kept opens kept are = record {
      each = λ number there.
          let e = are.each number there in
          let k = e.2 in
          let h = c.there e.0 k.recorded (inl (k.writes, k.begun)) in
          let begun : e.0.invoked ≡ h.now.invoked = h.same.invoked in (
            h.now,
            sym (number_too row e.0 h.now h.same) ∙ e.1,
            record {
              recorded = h.recorded;
              writes = write_too row e.0 h.now h.same k.writes;
              begun = (let low = k.begun in omega arith);
              known = λ f. k.known (forgotten_too row after before later source in_after in_before c.back (agree_after row before after source later c x) now opens h.now e.0 (record { here = h.recorded; there = k.recorded; same = same_back row e.0 h.now h.same }) f);
            },
          );
      all = λ write there is begun.
          let b = c.back write there (inl (is, begun)) in
          let at : write.invoked ≡ b.now.invoked = b.same.invoked in
          elim (are.all b.now b.recorded (write_too row write b.now b.same is) (omega arith)) [
            | inl k ↦ inl (subst (λ (n : ℕ). Contains kept n) (sym (number_too row write b.now b.same)) k)
            | inr f ↦ inr (still_forgotten b.now write b.recorded there (same_back row write b.now b.same) f)
          ];
    }
