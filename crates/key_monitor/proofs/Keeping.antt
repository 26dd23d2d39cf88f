-- What one row more does to what is known of the kept writes.
use Rattle.std.proofs.Common.{ℕ, ◌≡◌, ◌≢◌, ◌≤◌, ◌⊎◌, inl, inr, List, Option, Some, None, max, ap, sym, ◌∙◌, subst, refl, arith}
use Rattle.std.specs.List.{Contains}
use Rattle.std.proofs.lemmas.Bool.{cases_eq}
use Rattle.std.proofs.lemmas.Option.{same_Some, none-some}
use Rattle.tag.specs.declared.actions.Action.TheVariants.{Write}
use Rattle.tag.specs.declared.numbers.OpId.{OpId}
use Rattle.recorder.specs.declared.part.Call.{Call}
use Rattle.recorder.specs.Sound.{IsRead, IsWrite}
use Rattle.recorder.proofs.Sequences.{same_call}
use Rattle.value_order.specs.Families.{IsOfFamily}
use Rattle.value_order.specs.Tables.{ReadsBy}
use Rattle.value_order.specs.Writers.{AnswersValue}
use Rattle.value_order.specs.Zones.{EndsAt, IsFirstEnd, IsLastRow}
use Rattle.value_order.proofs.CallKinds.{not_both}
use Rattle.kept_families.specs.Continued.{Extends}
use Rattle.kept_families.specs.Forgotten.{IsForgotten}
use Rattle.kept_families.specs.SoundTables.{AreReads}
use Rattle.kept_families.proofs.Continuing.{same_back, write_too, number_too}
use Rattle.kept_families.proofs.Forgetting.{later_forgotten}
use Rattle.kept_zones.specs.Overwriting.{Known, HasZone, last_of}
use Rattle.key_monitor.specs.Answers.{IsOneCandidate}
use Rattle.key_monitor.specs.Judged.{AreJudged, GoOn, BeginsCall, AnswersCall, HasEntry}
use Rattle.key_monitor.specs.KeptWrites.{KeptWrite, IsKnownAs, AreWritesOf, HasKept}
use Rattle.key_monitor.specs.ZonesOf.{AreZonesOf, NoneForgotten}
use Rattle.key_monitor.proofs.Growing.{Same, now_of, was_of, first_forth, forgotten_forth, write_begun}
use Rattle.key_monitor.proofs.Answering.{IsSame, first_same, ends_row, none_changed, not_of, had_end, others_same, first_zone}
use Rattle.key_monitor.proofs.Answering.{last_unended, first_stays}
use Rattle.key_monitor.proofs.Judging.{extends_same, sound_same, no_family, own_family, was_call, extends_now, sound_now, now_write}
use Rattle.key_monitor.proofs.Judging.{of_read}

-- each zone of the one is there in the other
abbrev pub HaveZones : Known → Known → Type 0
HaveZones known new = (e l : ℕ) → last_of known.zones e ≡ Some l → (m : ℕ) × (last_of new.zones e ≡ Some m)

pub have_same : (known : Known) → HaveZones known known
have_same known = λ e l at. (l, at)

pub have_more : (known new : Known) (end last : ℕ) → HasZone known.zones end last new.zones → HaveZones known new
have_more known new end last has e l at = elim (cases_eq e end) [
  | inl same ↦ (last, ap (last_of new.zones) same ∙ has.here)
  | inr apart ↦ (l, has.others e apart ∙ at)
]

module _ (before after : List Call) (source later : ℕ → Option ℕ) (row place : ℕ) (j : AreJudged before source row) (g : GoOn row place
    before after) (x : Extends row after source later) where
  abbrev One : Call → Call → Type 0
  One = Same row before after source later j.sequence g.sequence g.continues j.table j.sound x

  keep_le : row ≤ place
  keep_le = (let late = g.later in omega arith)

  module _ (known new : Known) (have : HaveZones known new) (writes : ℕ
      → Option KeptWrite) (of : AreWritesOf before (ReadsBy before source) row known writes) where
    known_forth : (op : ℕ) (kept : KeptWrite) (u v : Call) → One u v → IsFirstEnd after (ReadsBy after later) place v kept.end
        → IsKnownAs before (ReadsBy before source) row known op kept u → IsKnownAs after (ReadsBy after later) place new op kept v
    known_forth op kept u v s first k = record {
      recorded = s.there;
      number = sym (number_too row u v s.same) ∙ k.number;
      writes = sym s.same.action ∙ k.writes;
      begun = sym s.same.invoked ∙ k.begun;
      first = first;
      zone = λ p is. (let z = k.zone p is in have p z.0 z.1);
    }

    all_forth : (v : Call) → Contains after v → IsWrite v → v.invoked ≤ row
        → ((kept : KeptWrite) × (writes v.op.0 ≡ Some kept)) ⊎ IsForgotten after (ReadsBy after later) place v
    all_forth v there is le =
        let u = was_of row before after source later j.sequence g.sequence g.continues j.table j.sound x v there is le in
        elim (of.all u.0 u.1.here (write_too row v u.0 (same_back row u.0 v u.1.same) is)) [
          | inl h ↦ inl (h.0, ap writes (sym (number_too row u.0 v u.1.same)) ∙ h.1)
          | inr f ↦ inr (later_forgotten after (ReadsBy after later) row place v keep_le (forgotten_forth row before after source later
              j.sequence g.sequence g.continues j.table j.sound x u.0 v u.1 f))
        ]

    -- the write of an entry, as it is now
    each_forth : (op : ℕ) (kept : KeptWrite) → writes op ≡ Some kept → ((u v : Call) → One u v → u.op.0 ≡ op → (o : Option ℕ)
        → IsFirstEnd before (ReadsBy before source) row u o → IsFirstEnd after (ReadsBy after later) place v o)
        → (v : Call) × IsKnownAs after (ReadsBy after later) place new op kept v
    each_forth op kept at stay =
        let w = of.each op kept at in
        let v = now_of row before after source later j.sequence g.sequence g.continues j.table j.sound x w.0 w.1.recorded (
          kept.value,
          w.1.writes,
        ) (j.begun w.0 w.1.recorded) in
        (v.0, known_forth op kept w.0 v.0 v.1 (stay w.0 v.0 v.1 w.1.number kept.end w.1.first) w.1)

    -- where each first end stays, all is known as it was
    pub writes_same : ((u v : Call) → One u v → (o : Option ℕ) → IsFirstEnd before (ReadsBy before source) row u o
        → IsFirstEnd after (ReadsBy after later) place v o) → ((v : Call) → Contains after v → IsWrite v → v.invoked ≤ row)
        → AreWritesOf after (ReadsBy after later) place new writes
    writes_same stay begun = record {
      each = λ op kept at. each_forth op kept at (λ u v s number o is. stay u v s o is);
      all = λ v there is. all_forth v there is (begun v there is);
    }

    -- where that of one changes, or it is new
    pub writes_changed : (op : ℕ) (kept : KeptWrite) (write : Call) → IsKnownAs after (ReadsBy after later) place new op kept write
        → ((u v : Call) → One u v → u.op.0 ≢ op → (o : Option ℕ) → IsFirstEnd before (ReadsBy before source) row u o
        → IsFirstEnd after (ReadsBy after later) place v o) → ((v : Call) → Contains after v → (v.op.0 ≡ op) ⊎ (v.invoked ≤ row))
        → (now : ℕ → Option KeptWrite) → HasKept writes op kept now → AreWritesOf after (ReadsBy after later) place new now
    writes_changed op kept write k stay begun now has = record {
      each = λ other its at. elim (cases_eq other op) [
        | inl same ↦
            let is : kept ≡ its = same_Some kept its (sym has.here ∙ (ap now (sym same) ∙ at)) in (
              write,
              subst (λ (n : ℕ). IsKnownAs after (ReadsBy after later) place new n its write) (sym same) (subst (λ (m : KeptWrite).
                  IsKnownAs after (ReadsBy after later) place new op m write) is k),
            )
        | inr apart ↦ each_forth other its (sym (has.others other apart) ∙ at) (λ u v s number o is. stay u v s (λ e. apart (sym number ∙
            e)) o is)
      ];
      all = λ v there is. elim (cases_eq v.op.0 op) [
        | inl same ↦ inl (kept, ap now same ∙ has.here)
        | inr apart ↦ elim (begun v there) [
          | inl same ↦ absurd (apart same)
          | inr le ↦ elim (all_forth v there is le) [ inl h ↦ inl (h.0, has.others v.op.0 apart ∙ h.1) | inr f ↦ inr f ]
        ]
      ];
    }

-- ---- no answer more, and no call

module _ (before after : List Call) (source : ℕ → Option ℕ) (row place : ℕ) (j : AreJudged before source row) (g : GoOn row place before
    after) (stays : IsLastRow after row) (begun : (v : Call) → Contains after v → v.invoked ≤ row) (known : Known) (writes : ℕ
    → Option KeptWrite) (of : AreWritesOf before (ReadsBy before source) row known writes) where
  pub still_writes : AreWritesOf after (ReadsBy after source) place known writes
  still_writes = writes_same before after source source row place j g (extends_same before after source row place j g) known known
      (have_same known) writes of
      (λ u v s o is. first_same after source row place v (none_changed after source row place g.later stays v) o (first_forth row before
      after source source j.sequence g.sequence g.continues j.table j.sound (extends_same before after source row place j g) u v o s
      is)) (λ v there is. begun v there)

-- ---- a call begins

module _ (before after : List Call) (source : ℕ → Option ℕ) (row place : ℕ) (call : Call) (j : AreJudged before source row) (b :
    BeginsCall row place before after call) (known : Known) (writes : ℕ
    → Option KeptWrite) (of : AreWritesOf before (ReadsBy before source) row known writes) where
  abbrev x_begun : Extends row after source source
  x_begun = extends_same before after source row place j b.goes

  begun_le : row ≤ place
  begun_le = (let late = b.goes.later in omega arith)

  stay_begun : (u v : Call) → Same row before after source source j.sequence b.goes.sequence b.goes.continues j.table j.sound x_begun u v
      → (o : Option ℕ) → IsFirstEnd before (ReadsBy before source) row u o → IsFirstEnd after (ReadsBy after source) place v o
  stay_begun u v s o is = first_same after source row place v (none_changed after source row place begun_le b.last v) o (first_forth row
      before after source source j.sequence b.goes.sequence b.goes.continues j.table j.sound x_begun u v o s is)

  pub read_begun_writes : IsRead call → AreWritesOf after (ReadsBy after source) place known writes
  read_begun_writes read = writes_same before after source source row place j b.goes x_begun known known (have_same known) writes of
      stay_begun (λ v there is. elim (b.others v there) [
        | inl same ↦ absurd (not_both v (subst IsRead (sym same) read) is)
        | inr le ↦ le
      ])

  no_end : (p : ℕ) → EndsAt after (ReadsBy after source) place call p → ⊥
  no_end p e =
      let low = write_begun after source b.goes.sequence (sound_same before after source row place j b.goes) row call p (ends_row after
      source row place begun_le b.last call p e) in
      let at = b.at in
      let late = b.later in
      absurd (omega arith)

  pub write_begun_writes : (value : List ℕ) → call.action ≡ Write value → (now : ℕ → Option KeptWrite)
      → HasKept writes call.op.0 (record { value = value; begin = place; end = None }) now
      → AreWritesOf after (ReadsBy after source) place known now
  write_begun_writes value wrote now has = writes_changed before after source source row place j b.goes x_begun known known (have_same
      known) writes of call.op.0 (record { value = value; begin = place; end = None }) call (record {
        recorded = b.recorded;
        number = refl;
        writes = wrote;
        begun = b.at;
        first = no_end;
        zone = λ p is. absurd (none-some p is);
      }) (λ u v s apart o is. stay_begun u v s o is) (λ v there. elim (b.others v there) [
        | inl same ↦ inl (ap (λ (c : Call). c.op.0) same)
        | inr le ↦ inr le
      ]) now has

-- ---- an answer of no family, or of a write

module _ (before after : List Call) (source : ℕ → Option ℕ) (row place : ℕ) (call : Call) (j : AreJudged before source row) (a :
    AnswersCall row place before after call) (known : Known) (writes : ℕ
    → Option KeptWrite) (of : AreWritesOf before (ReadsBy before source) row known writes) where
  abbrev x_answered : Extends row after source source
  x_answered = extends_same before after source row place j a.goes

  sound_then : AreReads after (ReadsBy after source)
  sound_then = sound_same before after source row place j a.goes

  stay_same : (u v : Call) → Same row before after source source j.sequence a.goes.sequence a.goes.continues j.table j.sound x_answered u
      v → IsSame after source row place v → (o : Option ℕ) → IsFirstEnd before (ReadsBy before source) row u o
      → IsFirstEnd after (ReadsBy after source) place v o
  stay_same u v s same o is = first_same after source row place v same o (first_forth row before after source source j.sequence
      a.goes.sequence a.goes.continues j.table j.sound x_answered u v o s is)

  pub read_writes : IsRead call → AreWritesOf after (ReadsBy after source) place known writes
  read_writes read = writes_same before after source source row place j a.goes x_answered known known (have_same known) writes of (λ u v
      s o is. stay_same u v s (not_of after source a.goes.sequence sound_then row place call a.only v (no_family before after source row
      place call j a read v)) o is) (λ v there is. a.begun v there)

  module _ (is : IsWrite call) (w : Call) (there : Contains before w) (number : w.op ≡ call.op) where
    same_number : w.op.0 ≡ call.op.0
    same_number = ap (λ (o : OpId). o.0) number

    other_same : (u v : Call) → Same row before after source source j.sequence a.goes.sequence a.goes.continues j.table j.sound
        x_answered u v → u.op.0 ≢ w.op.0 → IsSame after source row place v
    other_same u v s apart = others_same after source a.goes.sequence sound_then row place call a.only call (own_family before after
        source row place call j a is) v (λ same. apart (number_too row u v s.same ∙ (ap (λ (c : Call). c.op.0) same ∙ sym same_number)))

    pub ended_write_writes : (end : ℕ) → IsFirstEnd before (ReadsBy before source) row w (Some end)
        → AreWritesOf after (ReadsBy after source) place known writes
    ended_write_writes end ended =
        let s0 = was_call before after source row place call j a is w there number in
        let first = first_forth row before after source source j.sequence a.goes.sequence a.goes.continues j.table j.sound x_answered w
        call (Some end) s0 ended in
        writes_same before after source source row place j a.goes x_answered known known (have_same known) writes of (λ u v s o at. elim
        (cases_eq u.op.0 w.op.0) [
          | inl same ↦
              let one : call ≡ v = same_call after a.goes.sequence call v a.only.recorded s.there (sym same_number ∙ (sym same ∙
              number_too row u v s.same)) in
              stay_same u v s (subst (IsSame after source row place) one (had_end after source a.goes.sequence sound_then row place call
              a.only end first.0)) o at
          | inr apart ↦ stay_same u v s (other_same u v s apart) o at
        ]) (λ v in_v wrote. a.begun v in_v)

    pub write_writes : (kept : KeptWrite) → writes w.op.0 ≡ Some kept → kept.end ≡ None → (new : Known)
        → HasZone known.zones place w.invoked new.zones → (now : ℕ → Option KeptWrite)
        → HasKept writes w.op.0 (record { value = kept.value; begin = kept.begin; end = Some place }) now
        → AreWritesOf after (ReadsBy after source) place new now
    write_writes kept at unended new has now keeps =
        let s0 = was_call before after source row place call j a is w there number in
        let k = of.each w.op.0 kept at in
        let one : k.0 ≡ w = same_call before j.sequence k.0 w k.1.recorded there k.1.number in
        let none : IsFirstEnd before (ReadsBy before source) row w None = subst (λ (c : Call). IsFirstEnd before (ReadsBy before source)
        row c None) one (subst (IsFirstEnd before (ReadsBy before source) row k.0) unended k.1.first) in
        let none_now = first_forth row before after source source j.sequence a.goes.sequence a.goes.continues j.table j.sound x_answered
        w call None s0 none in
        let z = first_zone after source a.goes.sequence sound_then row place call a.only call call.invoked a.only.recorded (own_family
        before after source row place call j a is) none_now (last_unended after (ReadsBy after source) row call a.only.recorded is
        none_now) in
        let wrote : w.action ≡ Write kept.value = subst (λ (c : Call). c.action ≡ Write kept.value) one k.1.writes in
        let begun : w.invoked ≡ kept.begin = subst (λ (c : Call). c.invoked ≡ kept.begin) one k.1.begun in
        writes_changed before after source source row place j a.goes x_answered known new (have_more known new place w.invoked has)
        writes of w.op.0 (record { value = kept.value; begin = kept.begin; end = Some place }) call (record {
          recorded = a.only.recorded;
          number = sym same_number;
          writes = sym s0.same.action ∙ wrote;
          begun = sym s0.same.invoked ∙ begun;
          first = z.first;
          zone = λ p p_is. (w.invoked, ap (last_of new.zones) (sym (same_Some place p p_is)) ∙ has.here);
        }) (λ u v s apart o at_u. stay_same u v s (other_same u v s apart) o at_u) (λ v in_v. inr (a.begun v in_v)) now keeps

-- ---- a read of its one candidate

module _ (before after : List Call) (source : ℕ → Option ℕ) (row place : ℕ) (read : Call) (value : List ℕ) (j : AreJudged before source
    row) (a : AnswersCall row place before after read) (answered : AnswersValue read value) (known : Known) (are : AreZonesOf before
    (ReadsBy before source) row known) (write : Call) (fresh_zones : NoneForgotten before (ReadsBy before source) row known) (one :
    IsOneCandidate before (ReadsBy before source) row known read.invoked value write) (later : ℕ
    → Option ℕ) (entry : HasEntry source later read write) (writes : ℕ → Option KeptWrite) (of : AreWritesOf before (ReadsBy before
    source) row known writes) where
  abbrev x_read : Extends row after source later
  x_read = extends_now before after source row place read value j a answered known are write fresh_zones one later entry

  sound_read : AreReads after (ReadsBy after later)
  sound_read = sound_now before after source row place read value j a answered known are write fresh_zones one later entry

  abbrev w_read : (v : Call) × Same row before after source later j.sequence a.goes.sequence a.goes.continues j.table j.sound x_read write v
  w_read = now_write before after source row place read value j a answered known are write fresh_zones one later entry

  family_read : IsOfFamily after (ReadsBy after later) w_read.0 read
  family_read = of_read before after source row place read value j a answered known are write fresh_zones one later entry

  first_row : (u v : Call) → Same row before after source later j.sequence a.goes.sequence a.goes.continues j.table j.sound x_read u v
      → (o : Option ℕ) → IsFirstEnd before (ReadsBy before source) row u o → IsFirstEnd after (ReadsBy after later) row v o
  first_row u v s o is = first_forth row before after source later j.sequence a.goes.sequence a.goes.continues j.table j.sound x_read u v
      o s is

  apart_read : (u v : Call) → Same row before after source later j.sequence a.goes.sequence a.goes.continues j.table j.sound x_read u v
      → u.op.0 ≢ write.op.0 → v ≢ w_read.0
  apart_read u v s apart same = apart (number_too row u v s.same ∙ (ap (λ (c : Call). c.op.0) same ∙ sym (number_too row write w_read.0
      w_read.1.same)))

  stay_other : (u v : Call) → Same row before after source later j.sequence a.goes.sequence a.goes.continues j.table j.sound x_read u v
      → u.op.0 ≢ write.op.0 → (o : Option ℕ) → IsFirstEnd before (ReadsBy before source) row u o
      → IsFirstEnd after (ReadsBy after later) place v o
  stay_other u v s apart o is = first_same after later row place v (others_same after later a.goes.sequence sound_read row place read
      a.only w_read.0 family_read v (apart_read u v s apart)) o (first_row u v s o is)

  -- where no call of the write's family had ended
  pub first_read_writes : (kept : KeptWrite) → writes write.op.0 ≡ Some kept → kept.end ≡ None → (new : Known)
      → HasZone known.zones place (max write.invoked read.invoked) new.zones → (now : ℕ → Option KeptWrite)
      → HasKept writes write.op.0 (record { value = kept.value; begin = kept.begin; end = Some place }) now
      → AreWritesOf after (ReadsBy after later) place new now
  first_read_writes kept at unended new has now keeps =
      let k = of.each write.op.0 kept at in
      let same : k.0 ≡ write = same_call before j.sequence k.0 write k.1.recorded one.recorded k.1.number in
      let none : IsFirstEnd before (ReadsBy before source) row write None = subst (λ (c : Call). IsFirstEnd before (ReadsBy before
      source) row c None) same (subst (IsFirstEnd before (ReadsBy before source) row k.0) unended k.1.first) in
      let none_now = first_row write w_read.0 w_read.1 None none in
      let z = first_zone after later a.goes.sequence sound_read row place read a.only w_read.0 w_read.0.invoked w_read.1.there
      family_read none_now (last_unended after (ReadsBy after later) row w_read.0 w_read.1.there family_read.writes none_now) in
      let wrote : write.action ≡ Write kept.value = subst (λ (c : Call). c.action ≡ Write kept.value) same k.1.writes in
      let begun : write.invoked ≡ kept.begin = subst (λ (c : Call). c.invoked ≡ kept.begin) same k.1.begun in
      writes_changed before after source later row place j a.goes x_read known new (have_more known new place (max write.invoked
      read.invoked) has) writes of write.op.0 (record { value = kept.value; begin = kept.begin; end = Some place }) w_read.0 (record {
        recorded = w_read.1.there;
        number = sym (number_too row write w_read.0 w_read.1.same);
        writes = sym w_read.1.same.action ∙ wrote;
        begun = sym w_read.1.same.invoked ∙ begun;
        first = z.first;
        zone = λ p p_is. (max write.invoked read.invoked, ap (last_of new.zones) (sym (same_Some place p p_is)) ∙ has.here);
      }) (λ u v s apart o is. stay_other u v s apart o is) (λ v in_v. inr (a.begun v in_v)) now keeps

  -- where one had
  stay_any : (end : ℕ) → IsFirstEnd before (ReadsBy before source) row write (Some end) → (u v : Call)
      → Same row before after source later j.sequence a.goes.sequence a.goes.continues j.table j.sound x_read u v → (o : Option ℕ)
      → IsFirstEnd before (ReadsBy before source) row u o → IsFirstEnd after (ReadsBy after later) place v o
  stay_any end ended u v s (Some e) is = first_stays after later a.goes.sequence sound_read row place read a.only v e (first_row u v s
      (Some e) is)
  stay_any end ended u v s None is = elim (cases_eq u.op.0 write.op.0) [
    | inr apart ↦ stay_other u v s apart None is
    | inl same ↦
        let is_write : u ≡ write = same_call before j.sequence u write s.here one.recorded same in
        absurd (subst (λ (c : Call). IsFirstEnd before (ReadsBy before source) row c None) is_write is end ended.0)
  ]

  pub later_read_writes : (end last : ℕ) → IsFirstEnd before (ReadsBy before source) row write (Some end) → (new : Known)
      → HasZone known.zones end last new.zones → AreWritesOf after (ReadsBy after later) place new writes
  later_read_writes end last ended new has = writes_same before after source later row place j a.goes x_read known new (have_more known
      new end last has) writes of (stay_any end ended) (λ v there is. a.begun v there)
