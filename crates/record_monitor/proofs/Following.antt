-- What is known of a key, by a row of the key and by a read that is given up.
use Rattle.std.proofs.Common.{ℕ, ◌≡◌, ◌≤◌, ◌+◌, List, [], ◌∷◌, ◌++◌, Option, Some, None, Bool, true, false, length}
use Rattle.std.proofs.Common.{ap, sym, ◌∙◌, subst, refl, arith}
use Rattle.std.specs.List.{slice_get, Contains}
use Rattle.tag.specs.declared.actions.Action.{Action}
use Rattle.tag.specs.declared.actions.Action.TheVariants.{Read, Write}
use Rattle.tag.specs.declared.actions.Returned.TheVariants.{Value, Written}
use Rattle.tag.specs.declared.numbers.OpId.{OpId}
use Rattle.tag.proofs.Lists.{Contains-slice_get, slice_get-push_left, slice_get-push_last}
use Rattle.recorder.specs.declared.row.Row.{Row}
use Rattle.recorder.specs.declared.row.Row.TheVariants.{Invoke, Respond}
use Rattle.recorder.specs.declared.part.Call.{Call}
use Rattle.recorder.specs.Histories.{call_count, HasResponse, IsWellFormed, MayFollow}
use Rattle.recorder.specs.Orders.{IsLinearizable}
use Rattle.recorder.specs.Records.{BeginsAt}
use Rattle.value_order.proofs.CallKinds.{not_both}
use Rattle.kept_families.proofs.Orders.{free_is_linearizable}
use Rattle.key_monitor.specs.Follows.{FollowsKept}
use Rattle.key_monitor.specs.Judged.{AnswersCall, AreJudged}
use Rattle.key_monitor.proofs.AllRead.{answered_all_read}
use Rattle.key_monitor.proofs.Judging.{extends_same}
use Rattle.growing_parts.specs.NextRows.{HasAnsweredCall, HasBegunCall, IsAnsweredWith}
use Rattle.growing_parts.specs.PartsWithout.{AreReadsOf, IsPartWithout, StandsBy}
use Rattle.growing_parts.proofs.Answering.{call_ends}
use Rattle.growing_parts.proofs.Beginning.{call_begins}
use Rattle.growing_parts.proofs.Empty.{first_all_read}
use Rattle.growing_parts.proofs.Leaving.{leaves_out, read_at, the_read, without_part}
use Rattle.growing_parts.proofs.NextParts.{empty_part}
use Rattle.growing_parts.proofs.Staying.{all_stay_read, judged_stand}
use Rattle.growing_parts.proofs.Without.{without}
use Rattle.monitored_key.specs.Followed.{Answers, FollowsRead, FollowsWithout, FollowsWriteEnded, HoldsOf, JudgesRead}
use Rattle.monitored_key.specs.Held.{Held, IsLost, state_of}
use Rattle.monitored_key.specs.Verdicts.{IsVerdict}
use Rattle.monitored_key.specs.declared.judged.Judged.{Judged}
use Rattle.record_monitor.specs.Followed.{FollowsBegun, FollowsFirst, IsFollowed}
use Rattle.record_monitor.specs.Judgements.{HasMeaning, WasJudged}
use Rattle.record_monitor.specs.Waiting.{AreGivenUp}
use Rattle.record_monitor.proofs.Counting.{all_but_last, count_push, one_longer, with_last}

-- what fits the call is what it answers
fits_answers : (call : Call) (value : Option (List ℕ)) → IsAnsweredWith call (Value value) → Answers call value
fits_answers call None fits = fits
fits_answers call (Some value) fits = fits

-- the numbers of a call and of its row are one
number_of : (call : Call) (op : OpId) → call.op ≡ op → call.op.0 ≡ op.0
number_of call op same = ap (λ (o : OpId). o.0) same

-- ---- the first call of a key

module _ (rows : List Row) (formed : IsWellFormed rows) (key gone : List ℕ) (op : OpId) (client : ℕ) (action : Action)
    (may : MayFollow rows (Invoke op client key action)) (are : AreReadsOf rows gone) (unseen : (place : ℕ) → BeginsAt rows key place → ⊥)
    (new : Held) (kept : IsLost new → ⊥) where
  first_begun : HasBegunCall rows key gone [] op client action
  first_begun = call_begins rows formed key gone [] (empty_part rows key gone unseen) are op client action may

  pub first_followed : FollowsFirst (state_of new) op.0 action (length rows) → new.next ≡ length rows + 1 → new.number ≤ op.0 + 1
      → IsFollowed (rows ++ Invoke op client key action ∷ []) key gone false new
  first_followed follow next number =
      let b = first_begun.first refl in
      let calls : call_count (rows ++ Invoke op client key action ∷ []) ≡ call_count rows + 1 = count_push rows
      (Invoke op client key action) in
      record {
        part = first_begun.after;
        is = first_begun.part;
        source = λ _. None;
        row = length rows;
        next = sym next;
        early = omega (arith, one_longer rows (Invoke op client key action));
        number = omega (arith, number, may.0, calls);
        kept = kept;
        follows = follow first_begun.after first_begun.call b (number_of first_begun.call op first_begun.number) first_begun.asks;
        decided = λ e. first_all_read (λ _. None) (length rows) first_begun.after first_begun.call b;
      }

-- ---- a row of a key that is followed

module _ (rows : List Row) (formed : IsWellFormed rows) (key gone : List ℕ) (doubt : Bool) (held : Held)
    (f : IsFollowed rows key gone doubt held) where
  j : AreJudged f.part f.source f.row
  j = f.follows.follows.judged

  stands : StandsBy f.part f.row
  stands = judged_stand f.part f.source f.row j

  -- without a doubt its calls have an order
  pub ordered : doubt ≡ false → IsLinearizable f.part
  ordered e = free_is_linearizable f.part f.source f.row j.sequence j.last j.sound (f.decided e) j.free f.follows.follows.in_time

  -- a call begins
  module _ (op : OpId) (client : ℕ) (action : Action) (may : MayFollow rows (Invoke op client key action)) (are : AreReadsOf rows gone)
      (new : Held) (kept : IsLost new → ⊥) where
    begun : HasBegunCall rows key gone f.part op client action
    begun = call_begins rows formed key gone f.part f.is are op client action may

    pub call_followed : FollowsBegun (state_of new) op.0 action (length rows) (state_of held) → new.next ≡ length rows + 1
        → new.number ≤ op.0 + 1 → IsFollowed (rows ++ Invoke op client key action ∷ []) key gone doubt new
    call_followed follow next number =
        let b = begun.begins f.row stands f.early in
        let calls : call_count (rows ++ Invoke op client key action ∷ []) ≡ call_count rows + 1 = count_push rows
        (Invoke op client key action) in
        record {
          part = begun.after;
          is = begun.part;
          source = f.source;
          row = length rows;
          next = sym next;
          early = omega (arith, one_longer rows (Invoke op client key action));
          number = omega (arith, number, may.0, calls);
          kept = kept;
          follows = follow f.part begun.after f.source f.row begun.call f.follows b (begun.opens f.row stands f.early)
              (number_of begun.call op begun.number) begun.asks;
          decided = λ e. all_stay_read f.row (length rows) f.part begun.after b.goes b.last f.source j (f.decided e);
        }

  -- a write is answered
  module _ (op : OpId) (client : ℕ) (value : List ℕ) (at : Contains rows (Invoke op client key (Write value)))
      (may : MayFollow rows (Respond op Written)) (stays : Contains gone op.0 → ⊥) (new : Held)
      (kept : IsLost new → ⊥) where
    written : HasAnsweredCall rows key gone f.part op client (Write value) Written
    written = call_ends rows formed key gone f.part f.is op client (Write value) Written may at stays

    pub write_followed : FollowsWriteEnded (state_of held) (state_of new) op.0 (length rows) → new.next ≡ length rows + 1
        → new.number ≡ held.number → IsFollowed (rows ++ Respond op Written ∷ []) key gone doubt new
    write_followed follow next number =
        let a = written.answers f.row stands f.early in
        let calls : call_count (rows ++ Respond op Written ∷ []) ≡ call_count rows + 0 = count_push rows (Respond op Written) in
        record {
          part = written.after;
          is = written.part;
          source = f.source;
          row = length rows;
          next = sym next;
          early = omega (arith, one_longer rows (Respond op Written));
          number = omega (arith, number, f.number, calls);
          kept = kept;
          follows = follow f.part written.after f.source f.row written.call f.follows a (written.opens f.row stands f.early)
              (value, written.asks) (number_of written.call op written.number);
          decided = λ e. answered_all_read f.part written.after f.source f.source f.row (length rows) j a.goes
              (extends_same f.part written.after f.source f.row (length rows) j a.goes) (f.decided e) written.call a
              (λ reads. absurd (not_both written.call reads (value, written.asks)));
        }

  -- a read is answered
  module _ (op : OpId) (client begin : ℕ) (value : Option (List ℕ)) (at : slice_get rows begin ≡ Some (Invoke op client key Read))
      (may : MayFollow rows (Respond op (Value value))) (stays : Contains gone op.0 → ⊥) (new : Held)
      (kept : IsLost new → ⊥) where
    abbrev row : Row
    row = Respond op (Value value)

    abbrev rows' : List Row
    rows' = rows ++ row ∷ []

    pub read : HasAnsweredCall rows key gone f.part op client Read (Value value)
    read = call_ends rows formed key gone f.part f.is op client Read (Value value) may
        (Contains-slice_get rows begin (Invoke op client key Read) at) stays

    answered : AnswersCall f.row (length rows) f.part read.after read.call
    answered = read.answers f.row stands f.early

    -- what is said of the answer holds
    pub holds : (found : Judged) → JudgesRead (state_of held) (state_of new) begin value (length rows) found
        → HoldsOf read.after f.source f.row (length rows) read.call (state_of new) found
    holds found judges = judges f.part read.after f.source f.row read.call f.follows answered (read.opens f.row stands f.early)
        (read.begun begin at) (fits_answers read.call value read.fits)

    module _ (next : new.next ≡ length rows + 1) (number : new.number ≡ held.number) where
      few : new.number ≤ call_count rows'
      few =
          let calls : call_count rows' ≡ call_count rows + 0 = count_push rows row in
          omega (arith, number, f.number, calls)

      -- it has read a write
      pub read_followed : FollowsRead read.after f.source f.row (length rows) read.call (state_of new) → IsFollowed rows' key gone doubt new
      read_followed h = record {
        part = read.after;
        is = read.part;
        source = h.later;
        row = length rows;
        next = sym next;
        early = omega (arith, one_longer rows row);
        number = few;
        kept = kept;
        follows = h.follows;
        decided = λ e. answered_all_read f.part read.after f.source h.later f.row (length rows) j answered.goes h.extends (f.decided e)
            read.call answered (λ reads. h.reads);
      }

      -- or it is undecided
      pub doubt_followed : FollowsKept read.after f.source (length rows) (state_of new) → IsFollowed rows' key gone true new
      doubt_followed h = record {
        part = read.after;
        is = read.part;
        source = f.source;
        row = length rows;
        next = sym next;
        early = omega (arith, one_longer rows row);
        number = few;
        kept = kept;
        follows = h;
        decided = λ e. absurd (cc e);
      }

    -- and so it was judged
    abbrev pub was_judged : (most : ℕ) → AreGivenUp most rows gone → (found : Judged) → IsVerdict (state_of held) begin value found
        → HasMeaning read.after found → WasJudged most rows' key (length rows) found
    was_judged most up found verdict means = record {
      op = op;
      client = client;
      begin = begin;
      value = value;
      begins = slice_get-push_left rows row begin (Invoke op client key Read) at;
      answers = slice_get-push_last rows row;
      gone = gone;
      given_up = subst (λ (rs : List Row). AreGivenUp most rs gone) (sym (all_but_last rows row)) up;
      before = f.part;
      was = subst (λ (rs : List Row). IsPartWithout rs key gone f.part) (sym (all_but_last rows row)) f.is;
      after = read.after;
      is = subst (λ (rs : List Row). IsPartWithout rs key gone read.after) (sym (with_last rows row)) read.part;
      source = f.source;
      row = f.row;
      state = state_of held;
      follows = f.follows;
      verdict = verdict;
      means = means;
    }

  -- a pending read is given up
  module _ (op : OpId) (client begin : ℕ) (at : slice_get rows begin ≡ Some (Invoke op client key Read)) (pending : HasResponse rows op → ⊥)
      (stays : Contains gone op.0 → ⊥) (new : Held)
      (kept : IsLost new → ⊥) where
    there : Contains rows (Invoke op client key Read)
    there = Contains-slice_get rows begin (Invoke op client key Read) at

    pub given_up_followed : FollowsWithout (state_of held) (state_of new) begin held.next → new.next ≡ held.next
        → new.number ≡ held.number → IsFollowed rows key (op.0 ∷ gone) doubt new
    given_up_followed follow next number =
        let leaves = leaves_out rows key gone f.part f.is op formed client there stays pending f.row stands in
        let after = without op.0 f.part in
        record {
          part = after;
          is = without_part rows key gone f.part f.is op;
          source = f.source;
          row = f.row;
          next = f.next ∙ sym next;
          early = f.early;
          number = omega (arith, number, f.number);
          kept = kept;
          follows = follow f.part after f.source f.row (the_read rows key gone f.part f.is op formed client there stays) f.next f.follows
              leaves (read_at rows key gone f.part f.is op formed client there stays begin at);
          decided = λ e. all_stay_read f.row f.row f.part after leaves.goes leaves.last f.source j (f.decided e);
        }
