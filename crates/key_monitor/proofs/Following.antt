-- What is known of a key follows its calls, row by row.
use Rattle.std.proofs.Common.{ℕ, ◌≡◌, ◌≢◌, ◌≤◌, inl, inr, List, Option, Some, None, Bool, true, false, nat_eq, max, ap, sym, ◌∙◌, subst}
use Rattle.std.proofs.Common.{refl, arith, eq-eqb}
use Rattle.std.specs.List.{Contains}
use Rattle.std.proofs.lemmas.Bool.Decides.{nat_tests}
use Rattle.std.proofs.lemmas.Option.{none-some, slice_get_within}
use Rattle.tag.specs.declared.actions.Action.TheVariants.{Write}
use Rattle.tag.proofs.Lists.{place_of, get_at}
use Rattle.recorder.specs.declared.part.Call.{Call}
use Rattle.recorder.specs.Orders.{IsLinearizable}
use Rattle.recorder.specs.Sound.{IsRead, IsWrite}
use Rattle.recorder.proofs.Sequences.{same_call}
use Rattle.value_order.specs.Faults.{ShowsValue}
use Rattle.value_order.specs.Tables.{ReadsBy}
use Rattle.value_order.specs.Writers.{AnswersValue, AnswersNothing}
use Rattle.value_order.specs.Zones.{EndsAt, IsFirstEnd}
use Rattle.value_order.proofs.ZoneRows.{first_at_most}
use Rattle.kept_families.specs.Continued.{AreOpenIn}
use Rattle.kept_families.specs.Open.{IsOpen}
use Rattle.kept_families.proofs.Continuing.{number_too}
use Rattle.kept_families.proofs.Pieces.{unreadable_refutes}
use Rattle.kept_families.proofs.ZonesExist.{zones_exist}
use Rattle.kept_zones.specs.Overwriting.{Known, HasZone, LacksZone, last_of}
use Rattle.key_monitor.specs.Answers.{IsOneCandidate}
use Rattle.key_monitor.specs.Follows.{KeyState, Follows, FollowsKept, FollowsByEntry}
use Rattle.key_monitor.specs.Forgetting.{IsGone}
use Rattle.key_monitor.specs.Judged.{AreJudged, BeginsCall, LeavesOut, AnswersCall, HasEntry}
use Rattle.key_monitor.specs.KeptWrites.{KeptWrite, IsKnownAs, HasKept, LacksKept, IsOneFresh, HasNoneFresh}
use Rattle.key_monitor.specs.Pending.{AreOpenAt, HasOpen, LacksOpen}
use Rattle.key_monitor.specs.Shown.{IsInTime, first_show}
use Rattle.key_monitor.specs.ZonesOf.{AreZonesOf}
use Rattle.key_monitor.proofs.Candidates.{zone_of, one_candidate, no_candidate, without_write}
use Rattle.key_monitor.proofs.Judging.{still_judged, still_zones, still_none, answered_judged, read_zones, write_zones, ended_write_zones}
use Rattle.key_monitor.proofs.Judging.{unreadable, sound_same, AreOne, extends_now, now_write, read_judged, first_read_zones}
use Rattle.key_monitor.proofs.Judging.{later_read_zones}
use Rattle.key_monitor.proofs.Keeping.{still_writes, read_begun_writes, write_begun_writes, read_writes, ended_write_writes, write_writes}
use Rattle.key_monitor.proofs.Keeping.{first_read_writes, later_read_writes}
use Rattle.key_monitor.proofs.Opens.{read_opens, write_opens, read_closes, write_closes, left_out_closes}
use Rattle.key_monitor.proofs.Showing.{begun_show, begun_none_late, answered_show, silent, silent_show, in_time_none_late, shows_none_late}

-- all open reads of judged calls began by the row
begun_reads : (part : List Call) (source : ℕ → Option ℕ) (row : ℕ) → AreJudged part source row → (read : Call) → IsOpen part row read
    → read.invoked ≤ row
begun_reads part source row j read o = j.begun read o.recorded

-- ---- a call begins

module _ (before after : List Call) (source : ℕ → Option ℕ) (row place : ℕ) (call : Call) (state : KeyState) (f : FollowsKept before
    source row state) (b : BeginsCall row place before after call) (left : AreOpenIn row before after) where
  j : AreJudged before source row
  j = f.follows.judged

  pub read_begins : IsRead call → (op : ℕ) (opens : ℕ → Option ℕ) → HasOpen state.opens place op opens
      → FollowsKept after source place (record { known = state.known; writes = state.writes; opens = opens; first = state.first })
  read_begins reads op opens has = record {
    follows = record {
      judged = still_judged before after source row place j b.goes b.last;
      zones = still_zones before after source row place j b.goes b.last state.known f.follows.zones;
      writes = read_begun_writes before after source row place call j b state.known state.writes f.follows.writes reads;
      opens = read_opens before after row place state.opens f.follows.opens left call b (begun_reads before source row j) reads op opens
          has;
      show = begun_show before after row place j.last b.goes b.last state.first f.follows.show;
      in_time = begun_none_late before after row place j.last b.goes b.last f.follows.in_time;
    };
    kept = still_none before after source row place j b.goes b.last left state.known f.kept;
  }

  pub write_begins : (value : List ℕ) → call.action ≡ Write value → (writes : ℕ → Option KeptWrite)
      → HasKept state.writes call.op.0 (record { value = value; begin = place; end = None }) writes
      → FollowsKept after source place (record { known = state.known; writes = writes; opens = state.opens; first = state.first })
  write_begins value wrote writes has = record {
    follows = record {
      judged = still_judged before after source row place j b.goes b.last;
      zones = still_zones before after source row place j b.goes b.last state.known f.follows.zones;
      writes = write_begun_writes before after source row place call j b state.known state.writes f.follows.writes value wrote writes has;
      opens = write_opens before after row place state.opens f.follows.opens left call b (begun_reads before source row j) (value, wrote);
      show = begun_show before after row place j.last b.goes b.last state.first f.follows.show;
      in_time = begun_none_late before after row place j.last b.goes b.last f.follows.in_time;
    };
    kept = still_none before after source row place j b.goes b.last left state.known f.kept;
  }

-- ---- a read is given up

pub given_up : (before after : List Call) (source : ℕ → Option ℕ) (row : ℕ) (read : Call) (state : KeyState)
    → Follows before source row state → LeavesOut row before after read → (opens : ℕ → Option ℕ)
    → LacksOpen state.opens read.invoked opens → Follows after source row (record {
      known = state.known;
      writes = state.writes;
      opens =
          opens;
      first = state.first;
    })
given_up before after source row read state f l opens lacks = record {
  judged = still_judged before after source row row f.judged l.goes l.last;
  zones = still_zones before after source row row f.judged l.goes l.last state.known f.zones;
  writes = still_writes before after source row row f.judged l.goes l.last l.goes.begun state.known state.writes f.writes;
  opens = left_out_closes before after row state.opens f.opens read l opens lacks;
  show = begun_show before after row row f.judged.last l.goes l.last state.first f.show;
  in_time = begun_none_late before after row row f.judged.last l.goes l.last f.in_time;
}

-- ---- a write is answered

-- a family with an end has a first one
first_of : (part : List Call) (source : ℕ → Option ℕ) (row : ℕ) → AreJudged part source row → (w : Call) → Contains part w → IsWrite w
    → (p : ℕ) → EndsAt part (ReadsBy part source) row w p → (end : ℕ) × IsFirstEnd part (ReadsBy part source) row w (Some end)
first_of part source row j w there is p e =
    let z = zones_exist part source j.sequence j.sound row j.last in
    let k = place_of part w there in
    let zone = get_at z.0 k.0 (omega (arith, z.1.all, slice_get_within part k.0 w k.1)) in
    let of = z.1.writes k.0 w zone.0 k.1 is zone.1 in
    let f = first_at_most part (ReadsBy part source) row w zone.0.first_end of.first p e in
    (f.0, subst (IsFirstEnd part (ReadsBy part source) row w) f.1 of.first)

module _ (before after : List Call) (source : ℕ → Option ℕ) (row place : ℕ) (call w : Call) (state : KeyState) (f : Follows before source
    row state) (a : AnswersCall row place before after call) (left : AreOpenIn row before after) (is : IsWrite call) (there : Contains
    before w) (number : w.op ≡ call.op) (is_w : IsWrite w) where
  jw : AreJudged before source row
  jw = f.judged

  shows : ShowsValue call
  shows = inl is

  -- the first end of its family
  pub write_ends : (kept : KeptWrite) → state.writes w.op.0 ≡ Some kept → kept.end ≡ None → (known : Known)
      → HasZone state.known.zones place kept.begin known.zones → known.floor ≡ state.known.floor → (writes : ℕ → Option KeptWrite)
      → HasKept state.writes w.op.0 (record { value = kept.value; begin = kept.begin; end = Some place }) writes
      → Follows after source place (record { known = known; writes = writes; opens = state.opens; first = first_show state.first place })
  write_ends kept at unended known has floor writes keeps =
      let k = f.writes.each w.op.0 kept at in
      let one : k.0 ≡ w = same_call before jw.sequence k.0 w k.1.recorded there k.1.number in
      let k_w = subst (IsKnownAs before (ReadsBy before source) row state.known w.op.0 kept) one k.1 in
      let none : IsFirstEnd before (ReadsBy before source) row w None = subst (IsFirstEnd before (ReadsBy before source) row w) unended
      k_w.first in
      let has_w : HasZone state.known.zones place w.invoked known.zones = subst (λ (n : ℕ). HasZone state.known.zones place n
      known.zones) (sym k_w.begun) has in
      record {
        judged = answered_judged before after source row place call jw a;
        zones = write_zones before after source row place call jw a is w there number none state.known known f.zones has_w floor;
        writes = write_writes before after source row place call jw a state.known state.writes f.writes is w there number kept at unended
            known has_w writes keeps;
        opens = write_closes before after row place state.opens f.opens left call a (begun_reads before source row jw) is;
        show = answered_show before after row place jw.last call a shows state.first f.show;
        in_time = shows_none_late before after row place jw.last call a shows f.in_time;
      }

  -- a later one
  later_end : (end : ℕ) → IsFirstEnd before (ReadsBy before source) row w (Some end)
      → Follows after source place (record {
        known = state.known;
        writes = state.writes;
        opens = state.opens;
        first = first_show
            state.first place;
      })
  later_end end ended = record {
    judged = answered_judged before after source row place call jw a;
    zones = ended_write_zones before after source row place call jw a is w end there number ended state.known f.zones;
    writes = ended_write_writes before after source row place call jw a state.known state.writes f.writes is w there number end ended;
    opens = write_closes before after row place state.opens f.opens left call a (begun_reads before source row jw) is;
    show = answered_show before after row place jw.last call a shows state.first f.show;
    in_time = shows_none_late before after row place jw.last call a shows f.in_time;
  }

  pub ended_write_ends : (kept : KeptWrite) (end : ℕ) → state.writes w.op.0 ≡ Some kept → kept.end ≡ Some end
      → Follows after source place (record {
        known = state.known;
        writes = state.writes;
        opens = state.opens;
        first = first_show
            state.first place;
      })
  ended_write_ends kept end at ended =
      let k = f.writes.each w.op.0 kept at in
      let one : k.0 ≡ w = same_call before jw.sequence k.0 w k.1.recorded there k.1.number in
      let k_w = subst (IsKnownAs before (ReadsBy before source) row state.known w.op.0 kept) one k.1 in
      later_end end (subst (IsFirstEnd before (ReadsBy before source) row w) ended k_w.first)

  -- that of a forgotten write
  pub forgotten_write_ends : state.writes w.op.0 ≡ None → Follows after source place (record {
    known = state.known;
    writes =
        state.writes;
    opens = state.opens;
    first = first_show state.first place;
  })
  forgotten_write_ends gone = elim (f.writes.all w there is_w) [
    | inl h ↦ absurd (none-some h.0 (sym gone ∙ h.1))
    | inr g ↦
        let m = g.1.precedes in
        let e = first_of before source row jw w there is_w m.ended.response.place (record {
          call = m.first;
          of = m.of_x;
          ended = m.ended;
          at = refl;
        }) in
        later_end e.0 e.1
  ]

-- ---- a read is answered

module _ (before after : List Call) (source : ℕ → Option ℕ) (row place : ℕ) (read : Call) (state : KeyState) (k : FollowsKept before
    source row state) (a : AnswersCall row place before after read) (left : AreOpenIn row before after) (opens : ℕ
    → Option ℕ) (closes : LacksOpen state.opens read.invoked opens) where
  f : Follows before source row state
  f = k.follows

  closed : AreOpenAt after place opens
  closed = read_closes before after row place state.opens f.opens left read a (begun_reads before source row f.judged) opens closes

  -- with nothing, in time
  pub read_of_nothing : AnswersNothing read → IsInTime state.first read.invoked
      → Follows after source place (record { known = state.known; writes = state.writes; opens = opens; first = state.first })
  read_of_nothing nothing time = record {
    judged = answered_judged before after source row place read f.judged a;
    zones = read_zones before after source row place read f.judged a nothing.reads state.known f.zones;
    writes = read_writes before after source row place read f.judged a state.known state.writes f.writes nothing.reads;
    opens = closed;
    show = silent_show before after row place f.judged.last read a (silent read nothing) state.first f.show;
    in_time = in_time_none_late before after row place f.judged.last read a state.first f.show time f.in_time;
  }

  module _ (value : List ℕ) (answered : AnswersValue read value) where
    -- with a value, whichever write it has read
    pub undecided_read : Follows after source place (record {
      known = state.known;
      writes = state.writes;
      opens = opens;
      first =
          first_show state.first place;
    })
    undecided_read = record {
      judged = answered_judged before after source row place read f.judged a;
      zones = read_zones before after source row place read f.judged a answered.reads state.known f.zones;
      writes = read_writes before after source row place read f.judged a state.known state.writes f.writes answered.reads;
      opens = closed;
      show = answered_show before after row place f.judged.last read a (inr (value, answered)) state.first f.show;
      in_time = shows_none_late before after row place f.judged.last read a (inr (value, answered)) f.in_time;
    }

-- a value of which no kept write is fresh
pub refused_read : (before after : List Call) (source : ℕ → Option ℕ) (row place : ℕ) (read : Call) (value : List ℕ) (state : KeyState)
    → FollowsKept before source row state → AnswersCall row place before after read → AnswersValue read value
    → HasNoneFresh state.known state.writes read.invoked value → IsLinearizable after → ⊥
refused_read before after source row place read value state k a answered none =
    let f = k.follows in
    unreadable_refutes after (ReadsBy after source) read a.goes.sequence (sound_same before after source row place f.judged a.goes)
    (unreadable before after source row place read value f.judged a answered state.known f.zones (no_candidate before source row f.judged
    state.known f.zones state.writes f.writes read.invoked value none))

-- ---- with the value of one fresh write

with_entry_by : Bool → ℕ → Option ℕ → Option ℕ
with_entry_by true target o = Some target
with_entry_by false target o = o

-- the table with one entry more
with_entry : (ℕ → Option ℕ) → ℕ → ℕ → ℕ → Option ℕ
with_entry source number target n = with_entry_by (nat_eq n number) target (source n)

by_true : (b : Bool) (target : ℕ) (o : Option ℕ) → b ≡ true → with_entry_by b target o ≡ Some target
unfolding with_entry_by
by_true true target o e = refl
by_true false target o e = absurd (cc)

by_false : (b : Bool) (target : ℕ) (o : Option ℕ) → b ≡ false → with_entry_by b target o ≡ o
unfolding with_entry_by
by_false true target o e = absurd (cc)
by_false false target o e = refl

other_number : (n number : ℕ) → n ≢ number → nat_eq n number ≡ false
other_number n number apart = grind (arith, nat_tests)

has_entry : (source : ℕ → Option ℕ) (read write : Call) → HasEntry source (with_entry source read.op.0 write.op.0) read write
unfolding with_entry
has_entry source read write = record {
  here = by_true (nat_eq read.op.0 read.op.0) write.op.0 (source read.op.0) (eq-eqb read.op.0 read.op.0 refl);
  others = λ n apart. by_false (nat_eq n read.op.0) write.op.0 (source n) (other_number n read.op.0 apart);
}

module _ (before after : List Call) (source : ℕ → Option ℕ) (row place : ℕ) (read : Call) (state : KeyState) (k : FollowsKept before
    source row state) (a : AnswersCall row place before after read) (left : AreOpenIn row before after) (opens : ℕ
    → Option ℕ) (closes : LacksOpen state.opens read.invoked opens) (op : ℕ) (kept : KeptWrite) (answered : AnswersValue read kept.value)
    (one : IsOneFresh state.known state.writes read.invoked op kept) where
  g : Follows before source row state
  g = k.follows

  abbrev candidate : (write : Call) × (write.op.0 ≡ op) × IsOneCandidate before (ReadsBy before source) row state.known read.invoked
      kept.value write
  candidate = one_candidate before source row g.judged state.known g.zones state.writes g.writes read.invoked op kept one

  abbrev table : ℕ → Option ℕ
  table = with_entry source read.op.0 candidate.0.op.0

  abbrev entered : HasEntry source table read candidate.0
  entered = has_entry source read candidate.0

  -- what is known of the candidate
  candidate_known : IsKnownAs before (ReadsBy before source) row state.known op kept candidate.0
  candidate_known =
      let w = g.writes.each op kept one.is in
      let same : w.0 ≡ candidate.0 = same_call before g.judged.sequence w.0 candidate.0 w.1.recorded candidate.2.recorded (w.1.number ∙
      sym candidate.1) in
      subst (IsKnownAs before (ReadsBy before source) row state.known op kept) same w.1

  -- the candidate as the part has it now
  abbrev now_candidate : (v : Call) × AreOne before after source row place read kept.value g.judged a answered state.known g.zones table
      (extends_now before after source row place read kept.value g.judged a answered state.known g.zones candidate.0 k.kept candidate.2
      table entered) candidate.0 v
  now_candidate = now_write before after source row place read kept.value g.judged a answered state.known g.zones candidate.0 k.kept
      candidate.2 table entered

  at_number : state.writes candidate.0.op.0 ≡ Some kept
  at_number = ap state.writes candidate.1 ∙ one.is

  pub first_read : kept.end ≡ None → (known : Known) → HasZone state.known.zones place (max kept.begin read.invoked) known.zones
      → known.floor ≡ state.known.floor → (writes : ℕ → Option KeptWrite)
      → HasKept state.writes op (record { value = kept.value; begin = kept.begin; end = Some place }) writes
      → FollowsByEntry after source row place read op (record {
        known = known;
        writes = writes;
        opens = opens;
        first = first_show
            state.first place;
      })
  first_read unended known has floor writes keeps =
      let w = candidate.0 in
      let c = candidate.2 in
      let k_w = candidate_known in
      let none : IsFirstEnd before (ReadsBy before source) row w None = subst (IsFirstEnd before (ReadsBy before source) row w) unended
      k_w.first in
      let has_w : HasZone state.known.zones place (max w.invoked read.invoked) known.zones = subst (λ (n : ℕ). HasZone state.known.zones
      place (max n read.invoked) known.zones) (sym k_w.begun) has in
      let keeps_w : HasKept state.writes w.op.0 (record { value = kept.value; begin = kept.begin; end = Some place }) writes = subst (λ
      (n : ℕ). HasKept state.writes n (record { value = kept.value; begin = kept.begin; end = Some place }) writes) (sym candidate.1)
      keeps in
      record {
        later = table;
        extends = extends_now before after source row place read kept.value g.judged a answered state.known g.zones w k.kept c table
            entered;
        write = now_candidate.0;
        number = sym (number_too row w now_candidate.0 now_candidate.1.same) ∙ candidate.1;
        reads = record {
          written = now_candidate.1.there;
          recorded = a.only.recorded;
          is = entered.here ∙ ap Some (number_too row w
              now_candidate.0 now_candidate.1.same);
        };
        follows = record {
          judged = read_judged before after source row place read kept.value g.judged a answered state.known g.zones w k.kept c table
              entered;
          zones = first_read_zones before after source row place read kept.value g.judged a answered state.known g.zones w k.kept c table
              entered none known has_w floor;
          writes = first_read_writes before after source row place read kept.value g.judged a answered state.known g.zones w k.kept c
              table entered state.writes g.writes kept at_number unended known has_w writes keeps_w;
          opens = read_closes before after row place state.opens g.opens left read a (begun_reads before source row g.judged) opens closes;
          show = answered_show before after row place g.judged.last read a (inr (kept.value, answered)) state.first g.show;
          in_time = shows_none_late before after row place g.judged.last read a (inr (kept.value, answered)) g.in_time;
        };
      }

  pub later_read : (end last : ℕ) → kept.end ≡ Some end → last_of state.known.zones end ≡ Some last → (known : Known)
      → HasZone state.known.zones end (max last read.invoked) known.zones → known.floor ≡ state.known.floor
      → FollowsByEntry after source row place read op (record {
        known = known;
        writes = state.writes;
        opens = opens;
        first = first_show
            state.first place;
      })
  later_read end last ended at known has floor =
      let w = candidate.0 in
      let c = candidate.2 in
      let first : IsFirstEnd before (ReadsBy before source) row w (Some end) = subst (IsFirstEnd before (ReadsBy before source) row w)
      ended candidate_known.first in
      let z = zone_of before source row g.judged state.known g.zones w end last first at in
      record {
        later = table;
        extends = extends_now before after source row place read kept.value g.judged a answered state.known g.zones w k.kept c table
            entered;
        write = now_candidate.0;
        number = sym (number_too row w now_candidate.0 now_candidate.1.same) ∙ candidate.1;
        reads = record {
          written = now_candidate.1.there;
          recorded = a.only.recorded;
          is = entered.here ∙ ap Some (number_too row w
              now_candidate.0 now_candidate.1.same);
        };
        follows = record {
          judged = read_judged before after source row place read kept.value g.judged a answered state.known g.zones w k.kept c table
              entered;
          zones = later_read_zones before after source row place read kept.value g.judged a answered state.known g.zones w k.kept c table
              entered end last z known has floor;
          writes = later_read_writes before after source row place read kept.value g.judged a answered state.known g.zones w k.kept c
              table entered state.writes g.writes end (max last read.invoked) first known has;
          opens = read_closes before after row place state.opens g.opens left read a (begun_reads before source row g.judged) opens closes;
          show = answered_show before after row place g.judged.last read a (inr (kept.value, answered)) state.first g.show;
          in_time = shows_none_late before after row place g.judged.last read a (inr (kept.value, answered)) g.in_time;
        };
      }

-- ---- a forgotten family goes

module _ (part : List Call) (source : ℕ → Option ℕ) (row : ℕ) (state : KeyState) (f : Follows part source row state) where
  pub one_goes : (op end : ℕ) (kept : KeptWrite) (known : Known) → state.writes op ≡ Some kept → kept.end ≡ Some end
      → LacksZone state.known.zones end known.zones → IsGone part source row end → AreZonesOf part (ReadsBy part source) row known
      → (writes : ℕ → Option KeptWrite) → LacksKept state.writes op writes
      → Follows part source row (record { known = known; writes = writes; opens = state.opens; first = state.first })
  one_goes op end kept known at ended lacks gone zones writes without = record {
    judged = f.judged;
    zones = zones;
    writes = without_write part source row f.judged state.known f.zones state.writes f.writes op end kept gone.write at ended
        gone.zone.first gone.forgotten known lacks writes without;
    opens = f.opens;
    show = f.show;
    in_time = f.in_time;
  }
