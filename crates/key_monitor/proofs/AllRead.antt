-- Each completed read answers nothing or is in the table, row by row.
use Rattle.std.proofs.Common.{ℕ, ◌≡◌, ◌⊎◌, inl, inr, List, Option, Some, ap, sym, ◌∙◌, subst}
use Rattle.std.specs.List.{Contains}
use Rattle.recorder.specs.declared.part.Call.{Call}
use Rattle.recorder.specs.Sound.{IsRead}
use Rattle.value_order.specs.Families.{IsAnsweredBy}
use Rattle.value_order.specs.Tables.{ReadsBy}
use Rattle.value_order.specs.Writers.{AnswersNothing}
use Rattle.value_order.specs.Zones.{IsLastRow}
use Rattle.kept_families.specs.Continued.{Extends}
use Rattle.kept_families.specs.SoundTables.{AreAllRead}
use Rattle.kept_families.proofs.Continuing.{same_back, answered_too, number_too}
use Rattle.key_monitor.specs.Judged.{AreJudged, GoOn, AnswersCall}
use Rattle.key_monitor.proofs.Growing.{now_of}
use Rattle.key_monitor.proofs.Showing.{nothing_too}

module _ (before after : List Call) (source later : ℕ → Option ℕ) (row place : ℕ) (j : AreJudged before source row) (g : GoOn row place
    before after) (x : Extends row after source later) (all : AreAllRead before (ReadsBy before source)) where
  -- a read that was answered by the row
  early_read : (read : Call) → Contains after read → IsRead read → IsAnsweredBy row read
      → AnswersNothing read ⊎ ((write : Call) × ReadsBy after later write read)
  early_read read there reads a =
      let h = g.continues.back read there (inr a) in
      let is = answered_too row read h.now h.same a in
      elim (all h.now h.recorded (sym h.same.action ∙ reads) (is.response, is.responds)) [
        | inl nothing ↦ inl (nothing_too row before after g.continues.there h.now read (same_back row read h.now h.same) is nothing)
        | inr w ↦
            let by = (j.sound.each w.0 h.now w.1).writer in
            let v = now_of row before after source later j.sequence g.sequence g.continues j.table j.sound x w.0 w.1.written (
              by.value,
              by.writes,
            ) (j.begun w.0 w.1.written) in
            let entry : source read.op.0 ≡ Some v.0.op.0 = ap source (number_too row read h.now h.same) ∙ (w.1.is ∙ ap Some (number_too
            row w.0 v.0 v.1.same)) in
            inr (v.0, record { written = v.1.there; recorded = there; is = x.grows read.op.0 v.0.op.0 entry })
      ]

  -- where none is answered after the row
  pub still_all_read : IsLastRow after row → AreAllRead after (ReadsBy after later)
  still_all_read stays read there reads done = early_read read there reads (record {
    response = done.0;
    responds = done.1;
    by = stays
        read done.0 there done.1;
  })

  -- where that call is
  pub answered_all_read : (call : Call) → AnswersCall row place before after call → (IsRead call
      → AnswersNothing call ⊎ ((write : Call) × ReadsBy after later write call)) → AreAllRead after (ReadsBy after later)
  answered_all_read call a own read there reads done =
      elim (a.only.others read there (record { response = done.0; responds = done.1; by = a.last read done.0 there done.1 })) [
        | inl same ↦ subst (λ (r : Call). AnswersNothing r ⊎ ((write : Call) × ReadsBy after later write r)) (sym same) (own (subst
            IsRead same reads))
        | inr early ↦ early_read read there reads early
      ]
