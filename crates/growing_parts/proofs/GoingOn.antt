-- A part by later rows, or without more reads, goes on from the part.
use Rattle.std.proofs.Common.{ℕ, ◌≡◌, ◌≤◌, inl, inr, List, Some, ap, sym, ◌∙◌, subst, arith}
use Rattle.std.specs.List.{slice_get, Contains}
use Rattle.std.proofs.lemmas.Bool.{cases_lt}
use Rattle.tag.specs.declared.numbers.OpId.{OpId}
use Rattle.recorder.specs.declared.row.Row.{Row}
use Rattle.recorder.specs.declared.row.Row.TheVariants.{Invoke, Respond}
use Rattle.recorder.specs.declared.part.Call.{Call}
use Rattle.recorder.specs.Histories.{IsWellFormed}
use Rattle.recorder.specs.Records.{IsRecorded}
use Rattle.kept_families.specs.Continued.{IsSameBy, CountsBy, AreOpenIn, Continues}
use Rattle.kept_families.specs.Open.{IsOpen}
use Rattle.kept_families.proofs.Continuing.{same_back, answered_too}
use Rattle.key_monitor.specs.Judged.{GoOn}
use Rattle.growing_parts.specs.PartsWithout.{IsPartWithout, StandsBy}
use Rattle.growing_parts.proofs.Rows.{AgreeBy}
use Rattle.growing_parts.proofs.Standing.{sequence, own_ends}

module _ (row : ℕ) (rows later : List Row) (key : List ℕ) (agree : AgreeBy row rows later) where
  -- calls that both record, begun at one place by the row, are one call up to it
  same_by : (a b : Call) → IsRecorded rows key a → IsRecorded later key b → a.invoked ≤ row → b.invoked ≡ a.invoked → IsSameBy row a b
  same_by a b x y le same =
      let here = (agree.begun a.invoked a.op a.client key a.action le).0 x.begun in
      let one : ◌≡◌ {A = Row} (Invoke a.op a.client key a.action) (Invoke b.op b.client key b.action) = cc (
        here,
        y.begun,
        ap (slice_get
            later) same,
      ) in
      let number : a.op ≡ b.op = cc in
      let action : a.action ≡ b.action = cc in
      record {
        number = number;
        action = action;
        invoked = sym same;
        answered = λ r by.
            let both = agree.answered r.place a.op r.returned by in (
              λ e. (y.answered r.place r.returned).1 (subst (λ (o : OpId). slice_get later r.place ≡ Some (Respond o r.returned)) number
                  (both.0 ((x.answered r.place r.returned).0 e))),
              λ e. (x.answered r.place r.returned).1 (both.1 (subst (λ (o : OpId). slice_get later r.place ≡ Some (Respond o r.returned))
                  (sym number) ((y.answered r.place r.returned).0 e))),
            );
      }

  module _ (gone more : List ℕ) (before after : List Call) (formed : IsWellFormed later) (is : IsPartWithout rows key gone before) (now :
      IsPartWithout later key more after) (stands : StandsBy before row) (grows : (n : ℕ) → Contains gone n → Contains more n) where
    forth : (a : Call) → Contains before a → (Contains more a.op.0 → ⊥) → (b : Call) × Contains after b × IsSameBy row a b
    forth a there stays =
        let x = is.each a there in
        let le = stands.begun a there in
        let b = now.all a.invoked a.op a.client a.action ((agree.begun a.invoked a.op a.client key a.action le).0 x.begun) stays in
        (b.0, b.1, same_by a b.0 x (now.each b.0 b.1) le b.2)

    back : (b : Call) → Contains after b → b.invoked ≤ row → (a : Call) × Contains before a × IsSameBy row b a
    back b there le =
        let y = now.each b there in
        let a = is.all b.invoked b.op b.client b.action ((agree.begun b.invoked b.op b.client key b.action le).1 y.begun) (λ h. now.none
        b there (grows b.op.0 h)) in
        let begun : a.0.invoked ≤ row = omega (arith, a.2) in
        (a.0, a.1, same_back row a.0 b (same_by a.0 b (is.each a.0 a.1) y begun (sym a.2)))

    -- a read that is open in the later part began after the row, or was open
    pub open_back : AreOpenIn row after before
    open_back read o = elim (cases_lt row read.invoked) [
      | inl late ↦ inl late
      | inr early ↦
          let a = back read o.recorded (omega arith) in
          inr (
            a.0,
            record {
              recorded = a.1;
              reads = sym a.2.action ∙ o.reads;
              unanswered = λ e. o.unanswered (answered_too row a.0 read (same_back row read a.0 a.2) e);
            },
            sym a.2.invoked,
          )
    ]

    -- and one that was open is, if it isn't given up
    pub open_forth : (read : Call) → IsOpen before row read → (Contains more read.op.0 → ⊥)
        → (same : Call) × IsOpen after row same × (same.invoked ≡ read.invoked)
    open_forth read o stays =
        let b = forth read o.recorded stays in (
          b.0,
          record {
            recorded = b.1;
            reads = sym b.2.action ∙ o.reads;
            unanswered = λ e. o.unanswered (answered_too row b.0 read (same_back row read b.0 b.2) e);
          },
          sym b.2.invoked,
        )

    module _ (counted : (call : Call) → Contains before call → CountsBy row call → Contains more call.op.0 → ⊥) where
      pub continues : Continues row before after
      continues = record {
        there = λ call there counts.
            let b = forth call there (counted call there counts) in
            record { now = b.0; recorded = b.1; same = b.2 };
        back = λ call there counts.
            let begun : call.invoked ≤ row = elim counts [
              | inl w ↦ w.1
              | inr e ↦ omega (arith, (sequence later formed key more after now).responses call e.response there e.responds, e.by)
            ] in
            let a = back call there begun in
            record { now = a.0; recorded = a.1; same = a.2 };
        opens = open_back;
      }

      pub go_on : (place : ℕ) → row ≤ place → ((call : Call) → Contains after call → call.invoked ≤ place) → GoOn row place before after
      go_on place le begun = record {
        sequence = sequence later formed key more after now;
        own = own_ends later formed key more after now;
        continues = continues;
        later = le;
        begun = begun;
      }
