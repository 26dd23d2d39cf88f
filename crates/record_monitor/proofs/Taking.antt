-- What the rows say of a call that is answered, and what is known of the keys, as the steps ask it.
use Rattle.std.proofs.Common.{ℕ, ◌≡◌, ◌<◌, ◌≤◌, ◌+◌, inl, inr, List, [], ◌∷◌, ◌++◌, Option, Some, None, Bool, IfSome, MatchOption, IsSome}
use Rattle.std.proofs.Common.{length, ap, sym, ◌∙◌, subst, refl, arith}
use Rattle.std.specs.List.{slice_get, Contains}
use Rattle.std.proofs.lemmas.Option.{none-some, slice_get_within}
use Rattle.tag.specs.declared.actions.Action.{Action}
use Rattle.tag.specs.declared.actions.Action.TheVariants.{Read, Write}
use Rattle.tag.specs.declared.actions.Returned.{Returned}
use Rattle.tag.specs.declared.actions.Returned.TheVariants.{Value, Written}
use Rattle.tag.specs.declared.numbers.OpId.{OpId}
use Rattle.tag.specs.Tags.{Tag}
use Rattle.tag.proofs.Lists.{get_at, place_of, slice_get-push_last}
use Rattle.recorder.specs.declared.row.Row.{Row}
use Rattle.recorder.specs.declared.row.Row.TheVariants.{Invoke, Note, Respond}
use Rattle.recorder.specs.Histories.{call_count, FitsAction, HasResponse, IsWellFormed, MayFollow}
use Rattle.growing_parts.proofs.Rows.{begun_alike, begun_once}
use Rattle.monitored_key.specs.Held.{Held}
use Rattle.monitored_key.specs.Maps.{entry_at}
use Rattle.open_calls.specs.Open.{Open}
use Rattle.record_monitor.specs.declared.taken.Begun.{Begun}
use Rattle.record_monitor.specs.declared.taken.Taken.{Taken}
use Rattle.record_monitor.specs.declared.watched.Watched.{Watched}
use Rattle.record_monitor.specs.declared.watched_keys.WatchedKeys.{WatchedKeys}
use Rattle.record_monitor.specs.Followed.{IsFollowed, IsNextAt, IsNumberedAt}
use Rattle.record_monitor.specs.Taken.{IsBegun, KeepsKeys}
use Rattle.record_monitor.specs.Waiting.{AreGivenUp, AreWaiting}
use Rattle.record_monitor.specs.Watched.{AreWatched}
use Rattle.record_monitor.proofs.FirstSeen.{AreFirstSeen-same}
use Rattle.record_monitor.proofs.OneKey.{match_on}
use Rattle.record_monitor.proofs.Reporting.{had_on, refused_on, true_on}
use Rattle.record_monitor.proofs.Responses.{response_back}
use Rattle.record_monitor.proofs.Waits.{contains_cases, given_up_on, reads_of, waits_noted}
use Rattle.record_monitor.proofs.ToldRows.{are_told_on}
use Rattle.record_monitor.proofs.Watching.{noted}

-- ---- what is known of a key, before the row

module _ (A : Type 0) (rows : List Row) (key gone : List ℕ) (doubt : Bool) where
  next_by : (place : ℕ) (o : Option Held) → length rows ≡ place → MatchOption o A (IsFollowed rows key gone doubt)
      → IfSome o (λ held. held.next ≤ place)
  next_by place None e m = tt
  next_by place (Some held) e f = omega (arith, f.next, f.early, e)

  number_by : (number : ℕ) (o : Option Held) → number ≡ call_count rows → MatchOption o A (IsFollowed rows key gone doubt)
      → IfSome o (λ held. held.number ≤ number)
  number_by number None e m = tt
  number_by number (Some held) e f = omega (arith, f.number, e)

module _ (most : ℕ) (rows : List Row) (gone : List ℕ) (keys : WatchedKeys) (a : AreWatched most rows gone keys) (number : ℕ) (w : Watched)
    (at : slice_get keys.watched.items number ≡ Some w) where
  pub key_at : (key : List ℕ) × (slice_get keys.numbers number ≡ Some key)
  key_at = get_at keys.numbers number (omega (arith, a.many, slice_get_within keys.watched.items number w at))

  pub next_of : (place : ℕ) → length rows ≡ place → IsNextAt w place
  next_of place e = next_by _ rows key_at.0 gone w.is_doubtful place w.state e (a.each number key_at.0 w key_at.1 at).state

  pub numbered_of : (op : ℕ) → op ≡ call_count rows → IsNumberedAt w op
  numbered_of op e = number_by _ rows key_at.0 gone w.is_doubtful op w.state e (a.each number key_at.0 w key_at.1 at).state

pub number_within : (most : ℕ) (rows : List Row) (gone : List ℕ) (keys : WatchedKeys) → AreWatched most rows gone keys → (number : ℕ)
    (key : List ℕ) → slice_get keys.numbers number ≡ Some key → number < length keys.watched.items
number_within most rows gone keys a number key at = omega (arith, a.many, slice_get_within keys.numbers number key at)

-- ---- a call that is answered

write_asked : (action : Action) → FitsAction action Written → (value : List ℕ) × (action ≡ Write value)
write_asked Read fits = absurd fits
write_asked (Write value) fits = (value, refl)

read_asked : (action : Action) (value : Option (List ℕ)) → FitsAction action (Value value) → action ≡ Read
read_asked Read value fits = refl
read_asked (Write text) value fits = absurd fits

module _ (rows : List Row) (formed : IsWellFormed rows) (op : OpId) (keys : List (List ℕ)) (begun : Begun) (b : IsBegun rows keys op begun)
  where
    asked : (returned : Returned) (may : MayFollow rows (Respond op returned)) → b.action ≡ may.1
    asked returned may =
        let i = place_of rows (Invoke op may.0 may.2.key may.1) may.2.invoked in
        let row : ◌≡◌ {A = Row} (Invoke op b.client b.key b.action) (Invoke op may.0 may.2.key may.1) =
        begun_alike rows formed begun.place i.0 op b.client may.0 b.key may.2.key b.action may.1 b.begins i.1 in
        cc

    pub pending : (returned : Returned) → MayFollow rows (Respond op returned) → HasResponse rows op → ⊥
    pending returned may = may.2.unanswered

    pub began_before : begun.place < length rows
    began_before = slice_get_within rows begun.place (Invoke op b.client b.key b.action) b.begins

    pub write_begun : MayFollow rows (Respond op Written) → (value : List ℕ)
        × (slice_get rows begun.place ≡ Some (Invoke op b.client b.key (Write value)))
    write_begun may =
        let w = write_asked may.1 may.3 in
        (w.0, subst (λ (x : Action). slice_get rows begun.place ≡ Some (Invoke op b.client b.key x)) (asked Written may ∙ w.1) b.begins)

    pub read_begun : (value : Option (List ℕ)) → MayFollow rows (Respond op (Value value))
        → slice_get rows begun.place ≡ Some (Invoke op b.client b.key Read)
    read_begun value may = subst (λ (x : Action). slice_get rows begun.place ≡ Some (Invoke op b.client b.key x))
        (asked (Value value) may ∙ read_asked may.1 value may.3) b.begins

    -- a write isn't given up
    pub write_stays : (most : ℕ) (gone : List ℕ) → AreGivenUp most rows gone → (value : List ℕ)
        → slice_get rows begun.place ≡ Some (Invoke op b.client b.key (Write value)) → Contains gone op.0 → ⊥
    write_stays most gone up value at there =
        let r = reads_of most rows gone up op there in
        let i = place_of rows (Invoke op r.0 r.1 Read) r.2 in
        let row : ◌≡◌ {A = Row} (Invoke op b.client b.key (Write value)) (Invoke op r.0 r.1 Read) =
        begun_alike rows formed begun.place i.0 op b.client r.0 b.key r.1 (Write value) Read at i.1 in
        absurd (cc row)

not_some : {X : Type 0} (o : Option X) → o ≡ None → IsSome o → ⊥
not_some None e h = absurd (cc h)
not_some (Some x) e h = absurd (none-some x (sym e))

module _ (rows : List Row) (formed : IsWellFormed rows) (op : OpId) (client begin : ℕ) (key : List ℕ)
    (at : slice_get rows begin ≡ Some (Invoke op client key Read)) (keys : List (List ℕ)) (gone : List ℕ) (reads : ℕ → Option ℕ)
    (a : AreWaiting rows keys gone reads) where
  -- a read that waits has the number of its key, and isn't given up
  module _ (number : ℕ) (e : reads begin ≡ Some number) where
    waiting_row : ◌≡◌ {A = Row} (Invoke (a.each begin number e).op (a.each begin number e).client (a.each begin number e).key Read) (Invoke
        op client key Read)
    waiting_row = cc ((a.each begin number e).begins, at)

    pub waiting_key : slice_get keys number ≡ Some key
    waiting_key =
        let row = waiting_row in
        let one : (a.each begin number e).key ≡ key = cc in
        (a.each begin number e).key_is ∙ ap Some one

    pub waiting_stays : Contains gone op.0 → ⊥
    waiting_stays there =
        let row = waiting_row in
        let one : (a.each begin number e).op ≡ op = cc in
        (a.each begin number e).stays (subst (λ (o : OpId). Contains gone o.0) (sym one) there)

  -- one that is pending and doesn't wait is given up
  pub gone_there : (HasResponse rows op → ⊥) → reads begin ≡ None → Contains gone op.0
  gone_there unanswered none = elim (contains_cases gone op.0) [
    | inl there ↦ there
    | inr stays ↦ absurd (not_some (reads begin) none (a.all begin op client key at unanswered stays))
  ]

  pub gone_late : (most : ℕ) → AreGivenUp most rows gone → Contains gone op.0 → begin + most < length rows
  gone_late most up there =
      let w = up op there in
      omega (arith, w.long, begun_once rows formed w.begin begin op w.client client w.key key Read Read w.begins at)

-- ---- a note

pub noted_watched : (most : ℕ) (rows : List Row) (gone : List ℕ) (keys : WatchedKeys) → IsWellFormed rows → (op : OpId) (tag : Tag)
    → MayFollow rows (Note op tag) → AreWatched most rows gone keys → AreWatched most (rows ++ Note op tag ∷ []) gone keys
noted_watched most rows gone keys formed op tag may a = record {
  seen = AreFirstSeen-same rows (Note op tag) keys.numbers a.seen (λ k b. absurd (cc b.3));
  many = a.many;
  each = λ n k w at_key at.
      let is = a.each n k w at_key at in
      record {
        state = match_on _ _ _ _ w.state (λ r. refused_on most rows (Note op tag) k n w.is_doubtful keys.reports.items r)
            (λ held f. noted rows formed k gone w.is_doubtful held f op tag may) is.state;
        doubt = is.doubt;
        ordered = λ e place refusal h. had_on most rows (Note op tag) k place (is.ordered e place refusal h);
        told = are_told_on rows (Note op tag) k w is.told;
      };
  reported = λ report there. true_on most rows (Note op tag) keys.numbers keys.numbers (λ n k x. x) report (a.reported report there);
  ended = λ o there h. a.ended o there (response_back rows (Note op tag) o (λ r x. absurd (cc x)) h);
}

-- ---- what is known of the keys, whatever is kept of the calls

pub with_calls : (place : ℕ) (rows : List Row) (gone : List ℕ) (taken : Taken) (calls : Open Begun) → KeepsKeys place rows gone taken
    → KeepsKeys place rows gone (record taken { calls = calls })
with_calls place rows gone taken calls k = record {
  knows = record { given_up = k.knows.given_up; keys = k.knows.keys; waiting = k.knows.waiting };
  recent = k.recent;
  at = k.at;
}

pub noted_kept : (place : ℕ) (rows : List Row) (gone : List ℕ) (taken : Taken) → IsWellFormed rows → (op : OpId) (tag : Tag)
    → MayFollow rows (Note op tag) → KeepsKeys place rows gone taken → KeepsKeys place (rows ++ Note op tag ∷ []) gone taken
noted_kept place rows gone taken formed op tag may k = record {
  knows = record {
    given_up = given_up_on taken.give_up rows (Note op tag) gone k.knows.given_up;
    keys = noted_watched taken.give_up rows gone taken.keys formed op tag may k.knows.keys;
    waiting = waits_noted rows op tag taken.keys.numbers gone (entry_at taken.reads.entries) k.knows.waiting;
  };
  recent = k.recent;
  at = k.at;
}

-- the note stands where the next row does
pub note_at : (rows : List Row) (op : OpId) (tag : Tag) (place : ℕ) → place ≡ length rows
    → slice_get (rows ++ Note op tag ∷ []) place ≡ Some (Note op tag)
note_at rows op tag place e = subst (λ (p : ℕ). slice_get (rows ++ Note op tag ∷ []) p ≡ Some (Note op tag)) (sym e)
    (slice_get-push_last rows (Note op tag))
