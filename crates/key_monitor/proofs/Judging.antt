-- What one row more does to calls that are judged.
use Rattle.std.proofs.Common.{ℕ, ◌≡◌, ◌≤◌, inl, inr, List, Option, Some, None, max, ap, sym, ◌∙◌, subst, refl, arith}
use Rattle.std.specs.List.{Contains}
use Rattle.std.proofs.lemmas.Bool.{cases_eq}
use Rattle.std.proofs.lemmas.Option.{same_Some}
use Rattle.tag.specs.declared.actions.Action.TheVariants.{Write}
use Rattle.tag.specs.declared.numbers.OpId.{OpId}
use Rattle.recorder.specs.declared.part.Call.{Call}
use Rattle.recorder.specs.Sound.{IsRead, IsWrite}
use Rattle.recorder.proofs.Sequences.{same_call}
use Rattle.value_order.specs.Families.{IsOfFamily, IsAnsweredBy}
use Rattle.value_order.specs.Tables.{ReadsBy}
use Rattle.value_order.specs.Writers.{AnswersValue, IsWriter}
use Rattle.value_order.specs.Zones.{IsFirstEnd, IsLastRow}
use Rattle.value_order.proofs.CallKinds.{not_both, one_place, one_value}
use Rattle.kept_families.specs.Continued.{AreOpenIn, IsTableOf, Extends}
use Rattle.kept_families.specs.Oppositions.{IsFree}
use Rattle.kept_families.specs.SoundTables.{AreReads, IsOverwrittenBy, IsPassed, HasRead, IsUnreadable}
use Rattle.kept_families.proofs.ByRows.{same_end, one_or_two}
use Rattle.kept_families.proofs.Continuing.{answered_too, number_too}
use Rattle.kept_families.proofs.GoingOn.{still_sound, still_free}
use Rattle.kept_zones.specs.Overwriting.{Known, HasZone}
use Rattle.key_monitor.specs.ZonesOf.{AreZonesOf, HasZoneOf, NoneForgotten}
use Rattle.key_monitor.specs.Judged.{AreJudged, GoOn, AnswersCall, HasEntry}
use Rattle.key_monitor.specs.Answers.{IsPassedBefore, IsOneCandidate, HasNoCandidate}
use Rattle.key_monitor.proofs.Meaning.{one_first, overwrites_too, none_overwrites_too}
use Rattle.key_monitor.proofs.Growing.{Same, now_of, was_of, first_forth, zone_forth, overwritten_forth, overwritten_back, zones_forth}
use Rattle.key_monitor.proofs.Growing.{none_forth}
use Rattle.key_monitor.proofs.Answering.{IsSame, begins_later, last_unended, same_zones, with_zone, none_changed, free_later}
use Rattle.key_monitor.proofs.Answering.{forgotten_row, not_of, had_end, others_same, first_zone, later_zone, opposes_none}

-- ---- the table of the part that goes on

module _ (before after : List Call) (source : ℕ → Option ℕ) (row place : ℕ) (j : AreJudged before source row) (g : GoOn row place before
    after) where
  entry_ended : (write read : Call) → ReadsBy before source write read → IsAnsweredBy row read
  entry_ended write read reads =
      let a = (j.sound.each write read reads).writer.answered in
      record { response = a.response; responds = a.responds; by = j.last read a.response reads.recorded a.responds }

  -- a read that the table has was answered by the row
  pub entry_answered : (read : Call) (target : ℕ) → Contains after read → source read.op.0 ≡ Some target → IsAnsweredBy row read
  entry_answered read target there at =
      let e = j.table read.op.0 target at in
      let a = entry_ended e.0 e.1 e.2 in
      let h = g.continues.there e.1 e.2.recorded (inr a) in
      let same : h.now ≡ read = same_call after g.sequence h.now read h.recorded there (sym (number_too row e.1 h.now h.same) ∙ e.3) in
      subst (IsAnsweredBy row) same (answered_too row e.1 h.now h.same a)

  pub extends_same : Extends row after source source
  extends_same = record { grows = λ number target e. e; fresh = λ read target there a e. e }

  pub sound_same : AreReads after (ReadsBy after source)
  sound_same = still_sound row before after source source j.sequence g.sequence g.continues j.table j.sound extends_same (λ write read
      reads un. absurd (un (entry_answered read write.op.0 reads.recorded reads.is)))

  pub free_same : IsFree after (ReadsBy after source) row
  free_same = still_free row before after source source j.sequence g.sequence g.continues j.table j.sound extends_same sound_same j.free

  pub table_same : IsTableOf after source
  table_same number target at =
      let e = j.table number target at in
      let a = entry_ended e.0 e.1 e.2 in
      let w = (j.sound.each e.0 e.1 e.2).writer in
      let end = same_end e.1 row w.answered.response w.answered.responds a in
      let begun : e.0.invoked ≤ row = omega (arith, w.began, a.by) in
      let r = g.continues.there e.1 e.2.recorded (inr a) in
      let h = g.continues.there e.0 e.2.written (inl ((w.value, w.writes), begun)) in (
        h.now,
        r.now,
        record {
          written = h.recorded;
          recorded = r.recorded;
          is = ap source (sym (number_too row e.1 r.now r.same)) ∙ (e.2.is ∙ ap Some
              (number_too row e.0 h.now h.same));
        },
        sym (number_too row e.1 r.now r.same) ∙ e.3,
      )

  zones_same : (known : Known) → AreZonesOf before (ReadsBy before source) row known → AreZonesOf after (ReadsBy after source) row known
  zones_same known are = zones_forth row before after source source j.sequence g.sequence g.continues j.table j.sound extends_same
      sound_same known are

-- ---- no answer more

module _ (before after : List Call) (source : ℕ → Option ℕ) (row place : ℕ) (j : AreJudged before source row) (g : GoOn row place before
    after) (stays : IsLastRow after row) where
  begin_le : row ≤ place
  begin_le = (let later = g.later in omega arith)

  pub still_judged : AreJudged after source place
  still_judged = record {
    sequence = g.sequence;
    own = g.own;
    last = λ call response there is. (let early = stays call response there is in let later = g.later in omega arith);
    begun = g.begun;
    table = table_same before after source row place j g;
    sound = sound_same before after source row place j g;
    free = free_later after source row place begin_le stays (free_same before after source row place j g);
  }

  pub still_zones : (known : Known) → AreZonesOf before (ReadsBy before source) row known
      → AreZonesOf after (ReadsBy after source) place known
  still_zones known are = same_zones after source row place begin_le (λ w there. none_changed after source row place begin_le stays w)
      known (zones_same before after source row place j g known are)

  -- no family is forgotten by it
  pub still_none : AreOpenIn row before after → (known : Known) → NoneForgotten before (ReadsBy before source) row known
      → NoneForgotten after (ReadsBy after source) place known
  still_none opens known none write end begin at z f =
      let same = none_changed after source row place begin_le stays write in
      let was : HasZoneOf after (ReadsBy after source) row write end begin = record {
        recorded = z.recorded;
        writes = z.writes;
        first = same.back end z.first;
        begins = (same.begins begin z.begins.0, λ p h. z.begins.1 p (begins_later after source row place begin_le write p h));
      } in
      none_forth row before after source source j.sequence g.sequence g.continues j.table j.sound (extends_same before after source row
      place j g) (sound_same before after source row place j g) opens known none write end begin at was (forgotten_row after source
      row place begin_le stays write f)

-- ---- an answer of no family, or of a write

module _ (before after : List Call) (source : ℕ → Option ℕ) (row place : ℕ) (call : Call) (j : AreJudged before source row) (a :
    AnswersCall row place before after call) where
  answer_le : row ≤ place
  answer_le = (let later = a.goes.later in omega arith)

  -- the table has no entry of it
  pub no_entry : (target : ℕ) → source call.op.0 ≡ Some target → ⊥
  no_entry target at =
      let early = entry_answered before after source row place j a.goes call target a.only.recorded at in
      let same = same_end call row a.only.response a.only.responds early in
      let by = early.by in
      let is = a.only.at in
      let later = a.only.after in
      absurd (omega arith)

  pub answered_judged : AreJudged after source place
  answered_judged = record {
    sequence = a.goes.sequence;
    own = a.goes.own;
    last = a.last;
    begun = a.goes.begun;
    table = table_same before after source row place j a.goes;
    sound = sound_same before after source row place j a.goes;
    free = opposes_none after source a.goes.sequence (sound_same before after source row place j a.goes) row place call a.only a.begun
        (free_same before after source row place j a.goes) (λ w x reads o. no_entry w.op.0 reads.is);
  }

  -- a read that the table lacks is of no family
  pub no_family : IsRead call → (w : Call) → IsOfFamily after (ReadsBy after source) w call → ⊥
  no_family read w of = elim of.belongs [
    | inl same ↦ not_both call read (subst IsWrite (sym same) of.writes)
    | inr reads ↦ no_entry w.op.0 reads.is
  ]

  pub read_zones : IsRead call → (known : Known) → AreZonesOf before (ReadsBy before source) row known
      → AreZonesOf after (ReadsBy after source) place known
  read_zones read known are = same_zones after source row place answer_le (λ w there. not_of after source a.goes.sequence (sound_same
      before after source row place j a.goes) row place call a.only w (no_family read w)) known (zones_same before after source row place
      j a.goes known are)

  -- a write's answer is one of its own family
  module _ (is : IsWrite call) where
    pub own_family : IsOfFamily after (ReadsBy after source) call call
    own_family = record { recorded = a.only.recorded; writes = is; belongs = inl refl }

    abbrev pub IsWas : Call → Type 0
    IsWas u = Same row before after source source j.sequence a.goes.sequence a.goes.continues j.table j.sound (extends_same before after
        source row place j a.goes) u call

    pub was_call : (w : Call) → Contains before w → w.op ≡ call.op → IsWas w
    was_call w there number =
        let u = was_of row before after source source j.sequence a.goes.sequence a.goes.continues j.table j.sound (extends_same before
        after source row place j a.goes) call a.only.recorded is a.only.began in
        let same : u.0 ≡ w = same_call before j.sequence u.0 w u.1.here there (number_too row u.0 call u.1.same ∙ ap (λ (o : OpId). o.0)
        (sym number)) in
        subst IsWas same u.1

    -- where none of its family had ended, its zone is new
    pub write_zones : (w : Call) → Contains before w → w.op ≡ call.op → IsFirstEnd before (ReadsBy before source) row w None
        → (known new : Known) → AreZonesOf before (ReadsBy before source) row known → HasZone known.zones place w.invoked new.zones
        → new.floor ≡ known.floor → AreZonesOf after (ReadsBy after source) place new
    write_zones w there number unended known new are has floor =
        let s = was_call w there number in
        let sound = sound_same before after source row place j a.goes in
        let none = first_forth row before after source source j.sequence a.goes.sequence a.goes.continues j.table j.sound (extends_same
        before after source row place j a.goes) w call None s unended in
        let z = first_zone after source a.goes.sequence sound row place call a.only call call.invoked a.only.recorded own_family none
        (last_unended after (ReadsBy after source) row call a.only.recorded is none) in
        let begun : w.invoked ≡ call.invoked = s.same.invoked in
        let last : max call.invoked call.invoked ≡ w.invoked = omega arith in
        with_zone after source row place answer_le a.goes.sequence sound a.goes.own call place w.invoked (subst (HasZoneOf after (ReadsBy
        after source) place call place) last z) (others_same after source a.goes.sequence sound row place call a.only call
        own_family) known new
        (zones_same before after source row place j a.goes known are) (λ e l h. absurd (none e h.first.0)) has floor

    -- else it changes none
    pub ended_write_zones : (w : Call) (end : ℕ) → Contains before w → w.op ≡ call.op
        → IsFirstEnd before (ReadsBy before source) row w (Some end) → (known : Known)
        → AreZonesOf before (ReadsBy before source) row known → AreZonesOf after (ReadsBy after source) place known
    ended_write_zones w end there number ended known are =
        let s = was_call w there number in
        let sound = sound_same before after source row place j a.goes in
        let first = first_forth row before after source source j.sequence a.goes.sequence a.goes.continues j.table j.sound (extends_same
        before after source row place j a.goes) w call (Some end) s ended in
        same_zones after source row place answer_le
        (λ v in_v. elim (one_or_two after (ReadsBy after source) a.goes.sequence sound v call in_v a.only.recorded) [
          | inl same ↦ subst (IsSame after source row place) (sym same) (had_end after source a.goes.sequence sound row place call a.only
              end first.0)
          | inr apart ↦ others_same after source a.goes.sequence sound row place call a.only call own_family v apart
        ])
        known (zones_same before after source row place j a.goes known are)

-- ---- a read that answers a value

module _ (before after : List Call) (source : ℕ → Option ℕ) (row place : ℕ) (read : Call) (value : List ℕ) (j : AreJudged before source
    row) (a : AnswersCall row place before after read) (answered : AnswersValue read value) (known : Known) (are : AreZonesOf before
    (ReadsBy before source) row known) where
  not_before : IsAnsweredBy row read → ⊥
  not_before early =
      let same = same_end read row a.only.response a.only.responds early in
      let by = early.by in
      let is = a.only.at in
      let later = a.only.after in
      absurd (omega arith)

  -- a write that was passed is overwritten
  passed_overwritten : (other : Call) → IsPassedBefore before (ReadsBy before source) row known read.invoked other
      → (x : Call) × IsOverwrittenBy before (ReadsBy before source) row read.invoked x other
  passed_overwritten other (inl f) = elim (a.goes.continues.opens read (record {
    recorded = a.only.recorded;
    reads = answered.reads;
    unanswered = not_before;
  })) [
    | inl late ↦ (let began = a.only.began in absurd (omega arith))
    | inr s ↦ (
      f.0,
      record {
        apart = f.1.apart;
        precedes = f.1.precedes;
        call = f.1.settled.call;
        of = f.1.settled.of;
        ended = f.1.settled.ended;
        before = (let early = f.1.settled.early s.0 s.1 in omega (arith, s.2));
      },
    )
  ]
  passed_overwritten other (inr z) =
      let x = overwrites_too before source row known are other read.invoked z.0 z.1 z.3.0 z.2 z.3.1 in
      (x.0, x.2)

  module _ (later : ℕ → Option ℕ) (extends : Extends row after source later) where
    abbrev pub AreOne : Call → Call → Type 0
    AreOne = Same row before after source later j.sequence a.goes.sequence a.goes.continues j.table j.sound extends

    pub passed_after : (u v : Call) → AreOne u v → IsPassedBefore before (ReadsBy before source) row known read.invoked u
        → IsPassed after (ReadsBy after later) read v
    passed_after u v s p =
        let o = passed_overwritten u p in
        let y = overwritten_forth row before after source later j.sequence a.goes.sequence a.goes.continues j.table j.sound extends u v
        o.0 read.invoked s o.1 in
        record {
          response = a.only.response;
          responds = a.only.responds;
          row = row;
          early = (let later = a.only.after in omega (
            arith,
            a.only.at,
          ));
          w = y.0;
          overwritten = y.1;
        }

    -- a writer of the read, as it was before
    pub record Was (other : Call) : Type 0 where
      pub u : Call
      pub one : AreOne u other
      pub wrote : u.action ≡ Write value

    pub writer_was : (other : Call) → IsWriter after other read → Was other
    writer_was other is =
        let b = was_of row before after source later j.sequence a.goes.sequence a.goes.continues j.table j.sound extends other
        is.recorded (is.value, is.writes) (a.begun other is.recorded) in
        let same : is.value ≡ value = one_value read is.value value is.answered answered in
        record { u = b.0; one = b.1; wrote = b.1.same.action ∙ (is.writes ∙ ap Write same) }

  -- without a candidate there is no order
  pub unreadable : HasNoCandidate before (ReadsBy before source) row known read.invoked value
      → IsUnreadable after (ReadsBy after source) read
  unreadable none = record {
    recorded = a.only.recorded;
    value = value;
    answered = answered;
    passed = λ other is.
        let w = writer_was source (extends_same before after source row place j a.goes) other is in
        passed_after source (extends_same before after source row place j a.goes) w.u other w.one (none w.u w.one.here w.wrote);
  }

  -- ---- with one

  module _ (write : Call) (fresh_zones : NoneForgotten before (ReadsBy before source) row known) (one : IsOneCandidate before (ReadsBy
      before source) row known read.invoked value write) (later : ℕ → Option ℕ) (entry : HasEntry source later read write) where
    in_read : (r : Call) → Contains after r → r.op.0 ≡ read.op.0 → r ≡ read
    in_read r there = same_call after a.goes.sequence r read there a.only.recorded

    pub extends_now : Extends row after source later
    extends_now = record {
      grows = λ number target e. elim (cases_eq number read.op.0) [
        | inl same ↦ absurd (no_entry before after source row place read j a target (ap source (sym same) ∙ e))
        | inr apart ↦ entry.others number apart ∙ e
      ];
      fresh = λ r target there early e. elim (cases_eq r.op.0 read.op.0) [
        | inl same ↦ absurd (not_before (subst (IsAnsweredBy row) (in_read r there same) early))
        | inr apart ↦ sym (entry.others r.op.0 apart) ∙ e
      ];
    }

    pub now_write : (v : Call) × AreOne later extends_now write v
    now_write = now_of row before after source later j.sequence a.goes.sequence a.goes.continues j.table j.sound extends_now write
        one.recorded (value, one.writes) (j.begun write one.recorded)

    -- what the table says the read has read
    is_write : (w : Call) → ReadsBy after later w read → w ≡ now_write.0
    is_write w reads =
        let s = now_write.1 in
        same_call after a.goes.sequence w now_write.0 reads.written s.there (same_Some w.op.0 write.op.0 (sym reads.is ∙ entry.here) ∙
        number_too row write now_write.0 s.same)

    has_read : HasRead after (ReadsBy after later) now_write.0 read
    has_read =
        let s = now_write.1 in
        let begun = a.begun now_write.0 s.there in
        let end = one_place read answered.response a.only.response answered.responds a.only.responds in
        let late = a.only.after in
        record {
          writer = record {
            recorded = s.there;
            value = value;
            writes = sym s.same.action ∙ one.writes;
            answered = answered;
            began =
                omega (arith, a.only.at);
          };
          passed = λ other is.
              let w = writer_was later extends_now other is in
              elim (one.others w.u w.one.here w.wrote) [
                | inl same ↦ inl (same_call after a.goes.sequence other now_write.0 is.recorded s.there (sym (number_too row w.u other
                    w.one.same) ∙ (ap (λ (c : Call). c.op.0) same ∙ number_too row write now_write.0 s.same)))
                | inr p ↦ inr (passed_after later extends_now w.u other w.one p)
              ];
        }

    pub sound_now : AreReads after (ReadsBy after later)
    sound_now = still_sound row before after source later j.sequence a.goes.sequence a.goes.continues j.table j.sound extends_now (λ w r
        reads un. elim (cases_eq r.op.0 read.op.0) [
          | inl same ↦
              let is = in_read r reads.recorded same in
              let by = is_write w (subst (ReadsBy after later w) is reads) in
              subst (HasRead after (ReadsBy after later) w) (sym is) (subst (λ (c : Call). HasRead after (ReadsBy after later) c read) (sym
              by) has_read)
          | inr apart ↦ absurd (un (entry_answered before after source row place j a.goes r w.op.0 reads.recorded (sym (entry.others r.op.0
              apart) ∙ reads.is)))
        ])

    table_now : IsTableOf after later
    table_now number target at = elim (cases_eq number read.op.0) [
      | inl same ↦ (
        now_write.0,
        read,
        record {
          written = now_write.1.there;
          recorded = a.only.recorded;
          is = entry.here ∙ ap Some
              (number_too row write now_write.0 now_write.1.same);
        },
        sym same,
      )
      | inr apart ↦
          let e = table_same before after source row place j a.goes number target (sym (entry.others number apart) ∙ at) in
          (e.0, e.1, record { written = e.2.written; recorded = e.2.recorded; is = extends_now.grows e.1.op.0 e.0.op.0 e.2.is }, e.3)
    ]

    -- no family overwrites the write's before the read began
    none_before : (y : Call) → IsOverwrittenBy before (ReadsBy before source) row read.invoked y write → ⊥
    none_before y o = elim one.fresh [
      | inl unended ↦ unended o.precedes.ended.response.place (record {
        call = o.precedes.first;
        of = o.precedes.of_x;
        ended =
            o.precedes.ended;
        at = refl;
      })
      | inr z ↦ none_overwrites_too before source row j.sequence j.sound j.last j.own j.free known are write y read.invoked z.0 z.1 z.3
          (fresh_zones write z.0 z.1 z.2 z.3) z.4 o
    ]

    pub read_judged : AreJudged after later place
    read_judged = record {
      sequence = a.goes.sequence;
      own = a.goes.own;
      last = a.last;
      begun = a.goes.begun;
      table = table_now;
      sound = sound_now;
      free = opposes_none after later a.goes.sequence sound_now row place read a.only a.begun (still_free row before after source later
          j.sequence a.goes.sequence a.goes.continues j.table j.sound extends_now sound_now j.free) (λ w x reads o.
          let y = overwritten_back row before after source later j.sequence a.goes.sequence a.goes.continues j.table j.sound extends_now
          sound_now write now_write.0 x read.invoked now_write.1 (subst (IsOverwrittenBy after (ReadsBy after later) row read.invoked
          x) (is_write w reads) o) in
          none_before y.0 y.1);
    }

    pub of_read : IsOfFamily after (ReadsBy after later) now_write.0 read
    of_read = record {
      recorded = a.only.recorded;
      writes = (value, sym now_write.1.same.action ∙ one.writes);
      belongs = inr (record {
        written = now_write.1.there;
        recorded = a.only.recorded;
        is = entry.here ∙ ap Some (number_too row write
            now_write.0 now_write.1.same);
      });
    }

    zones_now : AreZonesOf after (ReadsBy after later) row known
    zones_now = zones_forth row before after source later j.sequence a.goes.sequence a.goes.continues j.table j.sound extends_now
        sound_now known are

    read_le : row ≤ place
    read_le = (let late = a.only.after in omega arith)

    -- the first end of the write's family
    pub first_read_zones : IsFirstEnd before (ReadsBy before source) row write None → (new : Known)
        → HasZone known.zones place (max write.invoked read.invoked) new.zones → new.floor ≡ known.floor
        → AreZonesOf after (ReadsBy after later) place new
    first_read_zones unended new has floor =
        let v = now_write.0 in
        let s = now_write.1 in
        let none = first_forth row before after source later j.sequence a.goes.sequence a.goes.continues j.table j.sound extends_now
        write v None s unended in
        let z = first_zone after later a.goes.sequence sound_now row place read a.only v v.invoked s.there of_read none (last_unended
        after (ReadsBy after later) row v s.there of_read.writes none) in
        let begun : write.invoked ≡ v.invoked = s.same.invoked in
        let last : max v.invoked read.invoked ≡ max write.invoked read.invoked = ap (λ (n : ℕ). max n read.invoked) (sym begun) in
        with_zone after later row place read_le a.goes.sequence sound_now a.goes.own v place (max write.invoked read.invoked) (subst
        (HasZoneOf after (ReadsBy after later) place v place) last z) (others_same after later a.goes.sequence sound_now row place
        read a.only v of_read) known new zones_now
        (λ e l h. absurd (none e h.first.0)) has floor

    -- or a later one
    pub later_read_zones : (end last : ℕ) → HasZoneOf before (ReadsBy before source) row write end last → (new : Known)
        → HasZone known.zones end (max last read.invoked) new.zones → new.floor ≡ known.floor
        → AreZonesOf after (ReadsBy after later) place new
    later_read_zones end last z new has floor =
        let v = now_write.0 in
        let h = zone_forth row before after source later j.sequence a.goes.sequence a.goes.continues j.table j.sound extends_now write v
        end last now_write.1 z in
        with_zone after later row place read_le a.goes.sequence sound_now a.goes.own v end (max last read.invoked) (later_zone after
        later a.goes.sequence sound_now row place read a.only v end last of_read h) (others_same after later a.goes.sequence
        sound_now row place read a.only v of_read) known new zones_now
        (λ e l g. one_first after (ReadsBy after later) row v e end g.first h.first) has floor
