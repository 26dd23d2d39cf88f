-- A step of one of the keys, in the list of them.
use Rattle.std.proofs.Common.{ℕ, ◌≡◌, ◌≢◌, ◌<◌, ◌+◌, inl, inr, List, [], ◌∷◌, ◌++◌, Some, Bool, false, get_or, length, length-append}
use Rattle.std.proofs.Common.{length-set, slice_set}
use Rattle.std.proofs.Common.{IsSome, ap, sym, ◌∙◌, subst, refl, arith}
use Rattle.std.specs.List.{slice_get, Contains}
use Rattle.std.proofs.lemmas.Bool.{cases_eq}
use Rattle.std.proofs.lemmas.List.Elements.{Contains-push, Contains-push_cases, Contains-append_left}
use Rattle.std.proofs.lemmas.Option.{slice_get_within}
use Rattle.tag.specs.declared.actions.Action.{Action}
use Rattle.tag.specs.declared.actions.Action.TheVariants.{Read}
use Rattle.tag.specs.declared.actions.Returned.{Returned}
use Rattle.tag.specs.declared.numbers.OpId.{OpId}
use Rattle.tag.proofs.SameTags.{same_op}
use Rattle.tag.proofs.Lists.{Contains-slice_get, item_at, push_cases, slice_get-push_left, slice_get-push_last, slice_get-set}
use Rattle.recorder.specs.declared.row.Row.{Row}
use Rattle.recorder.specs.declared.row.Row.TheVariants.{Invoke, Respond}
use Rattle.recorder.specs.Histories.{HasResponse, IsWellFormed, MayFollow}
use Rattle.recorder.specs.Records.{AreFirstSeen, BeginsAt}
use Rattle.growing_parts.specs.PartsWithout.{IsRowOutside}
use Rattle.growing_parts.proofs.Without.{in_cases}
use Rattle.monitored_key.specs.declared.judged.Refusal.{Refusal}
use Rattle.monitored_key.specs.Held.{Held}
use Rattle.record_monitor.specs.declared.report.Finding.{Finding}
use Rattle.record_monitor.specs.declared.report.Finding.TheVariants.{EndedAfterAll, Refused}
use Rattle.record_monitor.specs.declared.report.Report.{Report}
use Rattle.record_monitor.specs.declared.watched.Watched.{Watched}
use Rattle.record_monitor.specs.declared.watched_keys.WatchedKeys.{WatchedKeys}
use Rattle.record_monitor.specs.Ended.{HasEnded}
use Rattle.record_monitor.specs.Followed.{AreTold, FollowsKey, GoesOn, IsFollowed, KeepsState}
use Rattle.record_monitor.specs.Watched.{AreWatched, HasReport, IsTrueReport, IsWatched}
use Rattle.record_monitor.proofs.FirstSeen.{AreFirstSeen-first, AreFirstSeen-same, BeginsCall}
use Rattle.record_monitor.proofs.OneKey.{are_watched, ChangesOne, found_of_key, goes_on, if_of_match, match_by, match_on, not_none, row_of_key}
use Rattle.record_monitor.proofs.Reporting.{AreAmong, AreRefusalsAmong, doubted_among, ended_among, had_on, orders_on}
use Rattle.record_monitor.proofs.Reporting.{refusals_but, refusals_same, refused_among, refused_on, true_on}
use Rattle.record_monitor.proofs.Responses.{response_back}
use Rattle.record_monitor.proofs.KeptStates.{state_kept}
use Rattle.record_monitor.proofs.ToldRows.{are_told_on}
use Rattle.record_monitor.proofs.Watching.{other_given_up, other_row}

pub set_changes : (xs : List Watched) (number : ℕ) (was now : Watched) → number < length xs → was ≡ get_or xs number was
    → ChangesOne xs (slice_set xs number now) number was now
set_changes xs number was now within e = record {
  before = item_at xs number was within e;
  here = elim (slice_get-set xs number number now within) [ inl w ↦ w.1 | inr w ↦ absurd (w.0 refl) ];
  others = λ n apart. elim (slice_get-set xs number n now within) [ inl w ↦ absurd (apart w.0) | inr w ↦ w.1 ];
  many = length-set xs number now;
}

answer_begins_none : (op : OpId) (returned : Returned) (key : List ℕ) → BeginsCall (Respond op returned) key → ⊥
answer_begins_none op returned key b = absurd (cc b.3)

-- ---- an answer

module _ (most : ℕ) (rows : List Row) (gone key : List ℕ) (client : ℕ) (op : OpId) (action : Action) (returned : Returned) (number : ℕ)
    (old new : WatchedKeys) (was now : Watched) (formed : IsWellFormed rows) (may : MayFollow rows (Respond op returned))
    (at : slice_get old.numbers number ≡ Some key) (begun : Contains rows (Invoke op client key action)) (a : AreWatched most rows gone old)
    (numbers : new.numbers ≡ old.numbers) (changes : ChangesOne old.watched.items new.watched.items number was now)
    (stays : Contains gone op.0 → ⊥) where
  out : (k : List ℕ) → k ≢ key → IsRowOutside rows k gone (Respond op returned)
  out k apart = inr (client, key, action, (λ same. apart (sym same)), begun)

  begins : (k : List ℕ) → BeginsCall (Respond op returned) k → Contains old.numbers k
  begins k b = absurd (answer_begins_none op returned k b)

  ends : (o : OpId) (r : Returned) → Respond op returned ≡ Respond o r → Contains gone o.0 → ⊥
  ends o r e there =
      let row : ◌≡◌ {A = Row} (Respond op returned) (Respond o r) = e in
      let one : op ≡ o = cc in
      stays (subst (λ (x : OpId). Contains gone x.0) (sym one) there)

  pub answer_of_key : new.reports.items ≡ old.reports.items → FollowsKey (rows ++ Respond op returned ∷ []) key gone now → GoesOn was now
      → AreWatched most (rows ++ Respond op returned ∷ []) gone new
  answer_of_key same follows goes = row_of_key most rows (Respond op returned) gone formed may old new a number key at was now numbers
      changes out begins ends same follows goes

  pub ended_of_key : (place : ℕ) (finding : Finding)
      → new.reports.items ≡ old.reports.items ++ record { place = place; key = number; finding = finding } ∷ []
      → HasEnded most (rows ++ Respond op returned ∷ []) place key gone was now (Some finding)
      → AreWatched most (rows ++ Respond op returned ∷ []) gone new
  ended_of_key place finding more h = found_of_key most rows (Respond op returned) gone formed may old new a number key at was now numbers
      changes out begins ends place finding more h

-- ---- a call that begins on a key that was seen

pub begin_of_key : (most : ℕ) (rows : List Row) (gone key : List ℕ) (client : ℕ) (op : OpId) (action : Action) (number : ℕ)
    (old new : WatchedKeys) (was now : Watched) → IsWellFormed rows → MayFollow rows (Invoke op client key action)
    → slice_get old.numbers number ≡ Some key → AreWatched most rows gone old → new.numbers ≡ old.numbers
    → ChangesOne old.watched.items new.watched.items number was now → new.reports.items ≡ old.reports.items
    → FollowsKey (rows ++ Invoke op client key action ∷ []) key gone now → GoesOn was now
    → AreWatched most (rows ++ Invoke op client key action ∷ []) gone new
begin_of_key most rows gone key client op action number old new was now formed may at a numbers changes same follows goes =
    row_of_key most rows (Invoke op client key action) gone formed may old new a number key at was now numbers changes
    (λ k apart e. apart (sym e))
    (λ k b.
    let row : Invoke op client key action ≡ Invoke b.0 b.1 k b.2 = b.3 in
    let one : key ≡ k = cc in
    subst (Contains old.numbers) one (Contains-slice_get old.numbers number key at))
    (λ o r e there. absurd (cc e)) same follows goes

-- ---- the first call of a key

module _ (most : ℕ) (rows : List Row) (gone key : List ℕ) (client : ℕ) (op : OpId) (action : Action) (old new : WatchedKeys) (now : Watched)
    (formed : IsWellFormed rows) (may : MayFollow rows (Invoke op client key action)) (a : AreWatched most rows gone old)
    (unseen : Contains old.numbers key → ⊥) (numbers : new.numbers ≡ old.numbers ++ key ∷ [])
    (more : new.watched.items ≡ old.watched.items ++ now ∷ []) (same : new.reports.items ≡ old.reports.items) where
  abbrev row : Row
  row = Invoke op client key action

  abbrev after : List Row
  after = rows ++ row ∷ []

  unbegun : (place : ℕ) → BeginsAt rows key place → ⊥
  unbegun place b = unseen (a.seen.all key place b)

  seen : AreFirstSeen after (old.numbers ++ key ∷ [])
  seen = AreFirstSeen-first rows row old.numbers a.seen key unseen (op, client, action, refl)

  still : (n : ℕ) (k : List ℕ) → slice_get old.numbers n ≡ Some k → slice_get (old.numbers ++ key ∷ []) n ≡ Some k
  still n k at = slice_get-push_left old.numbers key n k at

  among : AreAmong old.reports.items new.reports.items
  among report there = subst (λ (l : List Report). Contains l report) (sym same) there

  -- nothing is reported of a key that wasn't seen
  unreported : (n : ℕ) → n ≡ length old.numbers → (place : ℕ) (refusal : Refusal)
      → HasReport new.reports.items place n (Refused refusal) → ⊥
  unreported n e place refusal h =
      let report : Report = record { place = place; key = n; finding = Refused refusal } in
      let t = a.reported report (subst (λ (l : List Report). Contains l report) same h) in
      absurd (omega (arith, e, slice_get_within old.numbers n t.key t.seen))

  own : FollowsKey after key gone now → IsSome now.state → now.is_doubtful ≡ false → (n : ℕ) → n ≡ length old.numbers
      → IsWatched most after gone new.reports.items n key now
  own follows state doubt n at = record {
    state = match_by _ _ now.state (λ none. absurd (not_none now.state none state)) follows.0;
    doubt = λ e. absurd (cc (sym doubt ∙ e));
    ordered = λ e place refusal h. absurd (unreported n at place refusal h);
    told = follows.1;
  }

  each_now : FollowsKey after key gone now → IsSome now.state → now.is_doubtful ≡ false → (n : ℕ) (k : List ℕ) (watched : Watched)
      → slice_get (old.numbers ++ key ∷ []) n ≡ Some k → slice_get (old.watched.items ++ now ∷ []) n ≡ Some watched
      → IsWatched most after gone new.reports.items n k watched
  each_now follows state doubt n k watched at_key at_watched = elim (push_cases old.numbers key n k at_key) [
    | inl there ↦ elim (push_cases old.watched.items now n watched at_watched) [
      | inl was ↦
          let is = a.each n k watched there was in
          let apart : key ≢ k = λ e. unseen (subst (Contains old.numbers) (sym e) (Contains-slice_get old.numbers n k there)) in
          record {
            state = match_on _ _ _ _ watched.state
                (λ r. refused_among most after k n watched.is_doubtful old.reports.items new.reports.items among
                (refused_on most rows row k n watched.is_doubtful old.reports.items r))
                (λ held f. other_row rows formed k gone watched.is_doubtful held f row may apart) is.state;
            doubt = λ e. doubted_among old.reports.items new.reports.items n among (is.doubt e);
            ordered = λ e. orders_on most rows after k n old.reports.items new.reports.items (had_on most rows row k)
                (refusals_same n new.reports.items old.reports.items same) (is.ordered e);
            told = are_told_on rows row k watched is.told;
          }
      | inr last ↦ absurd (omega (arith, last.0, a.many, slice_get_within old.numbers n k there))
    ]
    | inr here ↦ elim (push_cases old.watched.items now n watched at_watched) [
      | inl was ↦ absurd (omega (arith, here.0, a.many, slice_get_within old.watched.items n watched was))
      | inr last ↦ subst (λ (l : List ℕ). IsWatched most after gone new.reports.items n l watched) here.1
          (subst (λ (w : Watched). IsWatched most after gone new.reports.items n key w) last.1 (own follows state doubt n here.0))
    ]
  ]

  pub first_of_key : FollowsKey after key gone now → IsSome now.state → now.is_doubtful ≡ false → AreWatched most after gone new
  first_of_key follows state doubt = record {
    seen = subst (λ (ks : List (List ℕ)). AreFirstSeen after ks) (sym numbers) seen;
    many =
        ap (λ (ws : List Watched). length ws) more ∙ (length-append old.watched.items (now ∷ []) ∙ (ap (λ (n : ℕ). n + 1) a.many
        ∙ (sym (length-append old.numbers (key ∷ [])) ∙ ap (λ (ks : List (List ℕ)). length ks) (sym numbers))));
    each = λ n k watched at_key at_watched. each_now follows state doubt n k watched
        (subst (λ (ks : List (List ℕ)). slice_get ks n ≡ Some k) numbers at_key)
        (subst (λ (ws : List Watched). slice_get ws n ≡ Some watched) more at_watched);
    ended = λ o there h. ended_among old.reports.items new.reports.items o among
        (a.ended o there (response_back rows row o (λ r e. absurd (cc e)) h));
    reported = λ report there. subst (λ (ks : List (List ℕ)). IsTrueReport most after ks report) (sym numbers)
        (true_on most rows row old.numbers (old.numbers ++ key ∷ []) still report
        (a.reported report (subst (λ (l : List Report). Contains l report) same there)));
  }

-- ---- the answer of a read that was given up

pub after_all : (most : ℕ) (rows : List Row) (gone key : List ℕ) (client begin place : ℕ) (op : OpId) (returned : Returned) (number : ℕ)
    (old new : WatchedKeys) → IsWellFormed rows → MayFollow rows (Respond op returned) → length rows ≡ place
    → slice_get old.numbers number ≡ Some key → slice_get rows begin ≡ Some (Invoke op client key Read) → begin + most < place
    → Contains gone op.0 → AreWatched most rows gone old → new.numbers ≡ old.numbers → new.watched.items ≡ old.watched.items
    → new.reports.items ≡ old.reports.items ++ record { place = place; key = number; finding = EndedAfterAll op } ∷ []
    → AreWatched most (rows ++ Respond op returned ∷ []) gone new
after_all most rows gone key client begin place op returned number old new formed may e at begun late there a numbers watched more =
    let row : Row = Respond op returned in
    let after : List Row = rows ++ row ∷ [] in
    let found : Report = record { place = place; key = number; finding = EndedAfterAll op } in
    let among : AreAmong old.reports.items new.reports.items = λ report h. subst (λ (l : List Report). Contains l report) (sym more)
    (Contains-append_left old.reports.items (found ∷ []) report h) in
    record {
      seen = subst (λ (ks : List (List ℕ)). AreFirstSeen after ks) (sym numbers)
          (AreFirstSeen-same rows row old.numbers a.seen (λ k b. absurd (answer_begins_none op returned k b)));
      many = ap (λ (ws : List Watched). length ws) watched ∙ (a.many ∙ ap (λ (ks : List (List ℕ)). length ks) (sym numbers));
      each = λ n k w at_key at_watched.
          let is = a.each n k w (subst (λ (ks : List (List ℕ)). slice_get ks n ≡ Some k) numbers at_key)
          (subst (λ (ws : List Watched). slice_get ws n ≡ Some w) watched at_watched) in
          record {
            state = match_on _ _ _ _ w.state
                (λ r. refused_among most after k n w.is_doubtful old.reports.items new.reports.items among
                (refused_on most rows row k n w.is_doubtful old.reports.items r))
                (λ held f. other_row rows formed k gone w.is_doubtful held f row may (inl there)) is.state;
            doubt = λ d. doubted_among old.reports.items new.reports.items n among (is.doubt d);
            ordered = λ d. orders_on most rows after k n old.reports.items new.reports.items (had_on most rows row k)
                (refusals_but new.reports.items old.reports.items place number op more n) (is.ordered d);
            told = are_told_on rows row k w is.told;
          };
      ended = λ o gone_there h. elim (cases_eq o.0 op.0) [
        | inl one ↦ (
          place,
          number,
          subst (λ (l : List Report). Contains l (record {
            place = place;
            key = number;
            finding = EndedAfterAll o;
          })) (sym more) (subst (λ (x : OpId). Contains (old.reports.items ++ found ∷ []) (record {
            place = place;
            key = number;
            finding = EndedAfterAll x;
          })) (sym (same_op o op one)) (Contains-push old.reports.items found)),
        )
        | inr apart ↦ ended_among old.reports.items new.reports.items o among (a.ended o gone_there (response_back rows row o (λ r x.
            let it : ◌≡◌ {A = Row} (Respond op returned) (Respond o r) = x in
            let one : op ≡ o = cc in
            apart (ap (λ (n : OpId). n.0) (sym one))) h))
      ];
      reported = λ report h. subst (λ (ks : List (List ℕ)). IsTrueReport most after ks report) (sym numbers)
          (elim (Contains-push_cases old.reports.items found report (subst (λ (l : List Report). Contains l report) more h)) [
            | inl w ↦ true_on most rows row old.numbers old.numbers (λ n k x. x) report (a.reported report w)
            | inr same ↦ subst (λ (r : Report). IsTrueReport most after old.numbers r) same (record {
              key = key;
              seen = at;
              found = record {
                client = client;
                begin = begin;
                returned = returned;
                begins = slice_get-push_left rows row begin (Invoke op client key Read) begun;
                answers = subst (λ (p : ℕ). slice_get after p ≡ Some row) e (slice_get-push_last rows row);
                late = late;
              };
            })
          ]);
    }

-- ---- a read that is given up

pub given_up_of_key : (most : ℕ) (rows : List Row) (gone key : List ℕ) (client : ℕ) (op : OpId) (number : ℕ) (old new : WatchedKeys)
    (was now : Watched) → IsWellFormed rows → slice_get old.numbers number ≡ Some key → Contains rows (Invoke op client key Read)
    → AreWatched most rows gone old → new.numbers ≡ old.numbers → ChangesOne old.watched.items new.watched.items number was now
    → new.reports.items ≡ old.reports.items → (HasResponse rows op → ⊥) → FollowsKey rows key (op.0 ∷ gone) now → GoesOn was now
    → AreWatched most rows (op.0 ∷ gone) new
given_up_of_key most rows gone key client op number old new was now formed at begun a numbers changes same pending follows goes =
    let among : AreAmong old.reports.items new.reports.items = λ report there. subst (λ (l : List Report). Contains l report)
    (sym same) there in
    let others : (k : List ℕ) → k ≢ key → (doubt : Bool) (held : Held) → IsFollowed rows k gone doubt held
    → IsFollowed rows k (op.0 ∷ gone) doubt held
    = λ k apart doubt held f. other_given_up rows formed k gone doubt held f op client key begun (λ e. apart (sym e)) in
    let back : (n : ℕ) → AreRefusalsAmong n new.reports.items old.reports.items
    = λ n. refusals_same n new.reports.items old.reports.items same in
    are_watched most rows rows gone (op.0 ∷ gone) old new a number key at was now numbers changes among (λ n apart. back n)
    (λ k n doubt reports w. w) (λ k place h. h) others (λ k w t. t) a.seen
    (λ o there h. elim (in_cases op.0 gone o.0 there) [
      | inl one ↦ absurd (pending (subst (HasResponse rows) (sym (same_op op o one)) h))
      | inr was ↦ ended_among old.reports.items new.reports.items o among (a.ended o was h)
    ])
    (goes_on most rows rows gone (op.0 ∷ gone) old new a number key at was now numbers changes among (λ n apart. back n)
    (λ k n doubt reports w. w) (λ k place h. h) others (λ k w t. t) (back number) follows goes)
    (λ report there. a.reported report (subst (λ (l : List Report). Contains l report) same there))

-- ---- a note, which may be told

pub noted_of_key : (most : ℕ) (rows : List Row) (gone key : List ℕ) (number : ℕ) (old new : WatchedKeys) (was now : Watched)
    → slice_get old.numbers number ≡ Some key → AreWatched most rows gone old → new.numbers ≡ old.numbers
    → ChangesOne old.watched.items new.watched.items number was now → new.reports.items ≡ old.reports.items → KeepsState was now
    → AreTold rows key now → AreWatched most rows gone new
noted_of_key most rows gone key number old new was now at a numbers changes same k told =
    let among : AreAmong old.reports.items new.reports.items = λ report there. subst (λ (l : List Report). Contains l report)
    (sym same) there in
    let others : (k : List ℕ) → k ≢ key → (doubt : Bool) (held : Held) → IsFollowed rows k gone doubt held
    → IsFollowed rows k gone doubt held
    = λ k apart doubt held f. f in
    let before = a.each number key was at changes.before in
    let back : (n : ℕ) → AreRefusalsAmong n new.reports.items old.reports.items
    = λ n. refusals_same n new.reports.items old.reports.items same in
    are_watched most rows rows gone gone old new a number key at was now numbers changes among (λ n apart. back n)
    (λ k n doubt reports w. w) (λ k place h. h) others (λ k w t. t) a.seen (λ o there h. ended_among old.reports.items new.reports.items o among (a.ended o there h))
    (goes_on most rows rows gone gone old new a number key at was now numbers changes among (λ n apart. back n)
    (λ k n doubt reports w. w) (λ k place h. h) others (λ k w t. t) (back number) (state_kept was now k rows key gone (if_of_match _ _ was.state before.state), told) (record {
      doubt = k.doubt;
      refused = λ none. k.state ∙ none;
      followed = λ none. sym k.state ∙ none;
    }))
    (λ report there. a.reported report (subst (λ (l : List Report). Contains l report) same there))
