-- What is known of a key follows a part that goes on without a call or an answer more.
use Rattle.std.proofs.Common.{ℕ, ◌≡◌, ◌≤◌, inl, inr, List, [], ◌∷◌, ◌++◌, Option, Some, IsSome, length, ap, sym, ◌∙◌, subst, refl}
use Rattle.std.proofs.Common.{arith}
use Rattle.std.specs.List.{Contains}
use Rattle.tag.specs.declared.actions.Action.{Action}
use Rattle.tag.specs.declared.numbers.OpId.{OpId}
use Rattle.tag.specs.Tags.{Tag}
use Rattle.recorder.specs.declared.row.Row.{Row}
use Rattle.recorder.specs.declared.row.Row.TheVariants.{Invoke, Note}
use Rattle.recorder.specs.declared.part.Call.{Call}
use Rattle.recorder.specs.Histories.{IsWellFormed, MayFollow}
use Rattle.value_order.specs.Zones.{IsLastRow}
use Rattle.kept_families.specs.Continued.{IsSameBy, AreOpenIn, Continues}
use Rattle.kept_families.specs.Open.{IsOpen}
use Rattle.kept_families.proofs.Forgetting.{earlier_open}
use Rattle.key_monitor.specs.Follows.{KeyState, Follows, FollowsKept}
use Rattle.key_monitor.specs.Judged.{AreJudged, GoOn}
use Rattle.key_monitor.specs.Pending.{AreOpenAt}
use Rattle.key_monitor.proofs.AllRead.{still_all_read}
use Rattle.key_monitor.proofs.Judging.{still_judged, still_zones, still_none, extends_same}
use Rattle.key_monitor.proofs.Keeping.{still_writes}
use Rattle.key_monitor.proofs.Opens.{some_of}
use Rattle.key_monitor.proofs.Showing.{begun_show, begun_none_late}
use Rattle.growing_parts.specs.NextRows.{HasNotedCall, KeepsAllRead}
use Rattle.growing_parts.specs.PartsWithout.{IsPartWithout, StandsBy}
use Rattle.growing_parts.proofs.GoingOn.{go_on, open_forth}
use Rattle.growing_parts.proofs.NextCall.{one_call, note_answers_none}
use Rattle.growing_parts.proofs.NextParts.{changed, changed_part, was_of}
use Rattle.growing_parts.proofs.Rows.{agree_always, formed_next}

-- judged calls stand by their row
pub judged_stand : (part : List Call) (source : ℕ → Option ℕ) (row : ℕ) → AreJudged part source row → StandsBy part row
judged_stand part source row j = record { begun = j.begun; last = j.last }

some_is : (o : Option ℕ) (v : ℕ) → o ≡ Some v → IsSome o
some_is o v e = subst IsSome (sym e) refl

module _ (row place : ℕ) (before after : List Call) (g : GoOn row place before after) (last : IsLastRow after row) where
  le : row ≤ place
  le = (let late = g.later in omega arith)

  -- all stays read
  pub all_stay_read : KeepsAllRead before after row
  all_stay_read source j all = still_all_read before after source source row place j g (extends_same before after source row place j g) all
      last

  module _ (begun : (call : Call) → Contains after call → call.invoked ≤ row) (left : AreOpenIn row before after) where
    -- the open reads are the same
    stay_open : (opens : ℕ → Option ℕ) → ((read : Call) → IsOpen before row read → read.invoked ≤ row) → AreOpenAt before row opens
        → AreOpenAt after place opens
    stay_open opens early are = record {
      each = λ begin op at.
          let r = are.each begin op at in
          elim (left r.0 r.1) [
            | inl late ↦ (let low = early r.0 r.1 in absurd (omega arith))
            | inr s ↦ (
              s.0,
              record {
                recorded = s.1.recorded;
                reads = s.1.reads;
                unanswered = λ a. s.1.unanswered (record {
                  response = a.response;
                  responds = a.responds;
                  by = last s.0 a.response s.1.recorded a.responds;
                });
              },
              s.2 ∙ r.2,
            )
          ];
      all = λ read o. elim (g.continues.opens read (earlier_open after row place read le o)) [
        | inl late ↦ (let low = begun read o.recorded in absurd (omega arith))
        | inr s ↦
            let v = some_of (opens s.0.invoked) (are.all s.0 s.1) in
            some_is (opens read.invoked) v.0 (ap opens (sym s.2) ∙ v.1)
      ];
    }

    pub follow_on : (source : ℕ → Option ℕ) (state : KeyState) → Follows before source row state → Follows after source place state
    follow_on source state f = record {
      judged = still_judged before after source row place f.judged g last;
      zones = still_zones before after source row place f.judged g last state.known f.zones;
      writes = still_writes before after source row place f.judged g last begun state.known state.writes f.writes;
      opens = stay_open state.opens (λ read o. f.judged.begun read o.recorded) f.opens;
      show = begun_show before after row place f.judged.last g last state.first f.show;
      in_time = begun_none_late before after row place f.judged.last g last f.in_time;
    }

    pub follow_kept_on : (source : ℕ → Option ℕ) (state : KeyState) → FollowsKept before source row state
        → FollowsKept after source place state
    follow_kept_on source state k = record {
      follows = follow_on source state k.follows;
      kept = still_none before after source row place k.follows.judged g last left state.known k.kept;
    }

-- ---- a later row

same_call : (row : ℕ) (call : Call) → IsSameBy row call call
same_call row call = record { number = refl; action = refl; invoked = refl; answered = λ response by. (λ e. e, λ e. e) }

same_part : (row : ℕ) (part : List Call) → Continues row part part
same_part row part = record {
  there = λ call there counts. record { now = call; recorded = there; same = same_call row call };
  back = λ call there counts. record { now = call; recorded = there; same = same_call row call };
  opens = λ read o. inr (read, o, refl);
}

pub later_row : (part : List Call) (source : ℕ → Option ℕ) (row later : ℕ) → row ≤ later → (state : KeyState)
    → FollowsKept part source row state → FollowsKept part source later state
later_row part source row later le state k =
    let j = k.follows.judged in
    let g : GoOn row later part part = record {
      sequence = j.sequence;
      own = j.own;
      continues = same_part row part;
      later = le;
      begun = λ call there. (let low = j.begun call there in omega arith);
    } in
    follow_kept_on row later part part g j.last j.begun (λ read o. inr (read, o, refl)) source state k

-- ---- a note

module _ (rows : List Row) (formed : IsWellFormed rows) (key gone : List ℕ) (before : List Call) (is : IsPartWithout rows key gone before)
    (op : OpId) (tag : Tag) (may : MayFollow rows (Note op tag)) where
  abbrev note : Row
  note = Note op tag

  none_begun : (o : OpId) (client : ℕ) (action : Action) → note ≡ Invoke o client key action → ⊥
  none_begun o client action e = cc

  abbrev noted_calls : List Call
  noted_calls = changed rows note may key gone before is none_begun

  noted_part : IsPartWithout (rows ++ Note op tag ∷ []) key gone noted_calls
  noted_part = changed_part rows note may key gone before is none_begun

  module _ (by : ℕ) (stands : StandsBy before by) where
    noted_begun : (call : Call) → Contains noted_calls call → call.invoked ≤ by
    noted_begun call h =
        let w = was_of rows note may key gone before is none_begun call h in
        let low = stands.begun w.was w.there in
        let same = (one_call note (length rows) w.was).invoked in
        let at = ap (λ (c : Call). c.invoked) w.now in
        omega arith

    noted_last : IsLastRow noted_calls by
    noted_last call response h e =
        let w = was_of rows note may key gone before is none_begun call h in
        stands.last w.was response w.there (sym (note_answers_none op tag (length rows) w.was) ∙ (ap (λ (c : Call). c.response) w.now ∙ e))

    noted_left : AreOpenIn by before noted_calls
    noted_left read o = inr (open_forth by rows (rows ++ note ∷ []) key (agree_always by rows note (λ o c k a e. cc) (λ o r e. cc)) gone
        gone before noted_calls (formed_next rows note formed may) is noted_part stands (λ n h. h) read o (is.none read o.recorded))

    noted_on : GoOn by by before noted_calls
    noted_on = go_on by rows (rows ++ note ∷ []) key (agree_always by rows note (λ o c k a e. cc) (λ o r e. cc)) gone gone before
        noted_calls (formed_next rows note formed may) is noted_part stands (λ n h. h) (λ call there counts. is.none call there) by (omega
        arith) noted_begun

  pub note_changes_none : HasNotedCall rows key gone before op tag
  note_changes_none = record {
    after = noted_calls;
    part = noted_part;
    follows = λ source by state f.
        let stands = judged_stand before source by f.judged in
        follow_on by by before noted_calls (noted_on by stands) (noted_last by stands) (noted_begun by stands) (noted_left by stands)
        source state f;
    kept = λ source by state k.
        let stands = judged_stand before source by k.follows.judged in
        follow_kept_on by by before noted_calls (noted_on by stands) (noted_last by stands) (noted_begun by stands) (noted_left by
        stands) source state k;
    all_read = λ by source j all.
        let stands = judged_stand before source by j in
        all_stay_read by by before noted_calls (noted_on by stands) (noted_last by stands) source j all;
  }
