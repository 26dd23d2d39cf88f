-- A step of one of the keys: the others go on.
use Rattle.std.proofs.Common.{ℕ, ◌≡◌, ◌≢◌, inl, inr, List, [], ◌∷◌, ◌++◌, Option, Some, None, Bool, length}
use Rattle.std.proofs.Common.{MatchOption, IfSome, IsSome, ap, sym, ◌∙◌, subst, refl, arith}
use Rattle.std.specs.List.{slice_get, Contains}
use Rattle.std.proofs.lemmas.Bool.{cases_eq, cases_lt}
use Rattle.std.proofs.lemmas.List.Elements.{Contains-push, Contains-push_cases, Contains-append_left}
use Rattle.std.proofs.lemmas.Option.{none-some, same_Some}
use Rattle.tag.specs.declared.actions.Returned.{Returned}
use Rattle.tag.specs.declared.numbers.OpId.{OpId}
use Rattle.recorder.specs.declared.row.Row.{Row}
use Rattle.recorder.specs.declared.row.Row.TheVariants.{Respond}
use Rattle.recorder.specs.Histories.{HasResponse, IsWellFormed, MayFollow}
use Rattle.recorder.specs.Records.{AreFirstSeen}
use Rattle.growing_parts.specs.PartsWithout.{IsRowOutside}
use Rattle.monitored_key.specs.declared.judged.Judged.TheVariants as judged
use Rattle.monitored_key.specs.declared.judged.Refusal.{Refusal}
use Rattle.monitored_key.specs.Held.{Held}
use Rattle.record_monitor.specs.declared.report.Finding.{Finding}
use Rattle.record_monitor.specs.declared.report.Finding.TheVariants.{Refused, Undecided, EndedAfterAll}
use Rattle.record_monitor.specs.declared.report.Report.{Report}
use Rattle.record_monitor.specs.declared.watched.Watched.{Watched}
use Rattle.record_monitor.specs.declared.watched_keys.WatchedKeys.{WatchedKeys}
use Rattle.record_monitor.specs.Ended.{HasEnded}
use Rattle.record_monitor.specs.Followed.{AreTold, FollowsKey, GoesOn, IsFollowed}
use Rattle.record_monitor.specs.Judgements.{WasFound}
use Rattle.record_monitor.specs.Watched.{AreWatched, HadOrder, HadOrders, IsTrueReport, IsWatched, WasEnded, WasRefused}
use Rattle.record_monitor.proofs.FirstSeen.{AreFirstSeen-same, BeginsCall}
use Rattle.record_monitor.proofs.Reporting.{AreAmong, AreRefusalsAmong, doubted_among, ended_among, had_before, had_on, orders_on}
use Rattle.record_monitor.proofs.Reporting.{refusals_of_others, refusals_same, refused_among, refused_on, true_on}
use Rattle.record_monitor.proofs.Responses.{response_back}
use Rattle.record_monitor.proofs.ToldRows.{are_told_on}
use Rattle.record_monitor.proofs.Watching.{other_row}

pub match_on : {X : Type 0} (A C : Type 0) (B D : X → Type 0) (o : Option X) → (A → C) → ((x : X) → B x → D x) → MatchOption o A B
    → MatchOption o C D
match_on A C B D None f g h = f h
match_on A C B D (Some x) f g h = g x h

pub if_of_match : {X : Type 0} (A : Type 0) (B : X → Type 0) (o : Option X) → MatchOption o A B → IfSome o B
if_of_match A B None h = tt
if_of_match A B (Some x) h = h

pub none_of_match : {X : Type 0} (A : Type 0) (B : X → Type 0) (o : Option X) → o ≡ None → MatchOption o A B → A
none_of_match A B None e h = h
none_of_match A B (Some x) e h = absurd (none-some x (sym e))

pub match_by : {X : Type 0} (A : Type 0) (B : X → Type 0) (o : Option X) → (o ≡ None → A) → IfSome o B → MatchOption o A B
match_by A B None f h = f refl
match_by A B (Some x) f h = h

pub not_none : {X : Type 0} (o : Option X) → o ≡ None → IsSome o → ⊥
not_none None e h = absurd (cc h)
not_none (Some x) e h = absurd (none-some x (sym e))

-- what is watched is followed and told
pub follows_now : (most : ℕ) (rows : List Row) (gone : List ℕ) (reports : List Report) (number : ℕ) (key : List ℕ) (watched : Watched)
    → IsWatched most rows gone reports number key watched → FollowsKey rows key gone watched
follows_now most rows gone reports number key watched w = (if_of_match _ _ watched.state w.state, w.told)

-- a key has one number
pub one_number : (rows : List Row) (keys : List (List ℕ)) → AreFirstSeen rows keys → (n m : ℕ) (key : List ℕ) → slice_get keys n ≡ Some key
    → slice_get keys m ≡ Some key → n ≡ m
one_number rows keys seen n m key at_n at_m =
    let f = seen.seen n key at_n in
    elim (cases_lt n m) [
      | inl less ↦ absurd (omega (arith, seen.ordered n m key key f.0 f.0 less at_n at_m f.1 f.1))
      | inr le ↦ elim (cases_lt m n) [
        | inl less ↦ absurd (omega (arith, seen.ordered m n key key f.0 f.0 less at_m at_n f.1 f.1))
        | inr ge ↦ omega arith
      ]
    ]

-- the list with another value at that place
pub record ChangesOne (old new : List Watched) (number : ℕ) (was now : Watched) : Type 0 where
  pub before : slice_get old number ≡ Some was
  pub here : slice_get new number ≡ Some now
  pub others : (n : ℕ) → n ≢ number → slice_get new n ≡ slice_get old n
  pub many : length new ≡ length old

-- ---- one key of those that were seen

module _ (most : ℕ) (rows after : List Row) (gone later : List ℕ) (old new : WatchedKeys) (a : AreWatched most rows gone old) (number : ℕ)
    (key : List ℕ) (at : slice_get old.numbers number ≡ Some key) (was now : Watched) (numbers : new.numbers ≡ old.numbers)
    (changes : ChangesOne old.watched.items new.watched.items number was now)
    (among : AreAmong old.reports.items new.reports.items)
    (back : (n : ℕ) → n ≢ number → AreRefusalsAmong n new.reports.items old.reports.items)
    (refused : (k : List ℕ) (n : ℕ) (doubt : Bool) (reports : List Report) → WasRefused most rows k n doubt reports
    → WasRefused most after k n doubt reports)
    (had : (k : List ℕ) (place : ℕ) → HadOrder most rows k place → HadOrder most after k place)
    (followed : (k : List ℕ) → k ≢ key → (doubt : Bool) (held : Held) → IsFollowed rows k gone doubt held
    → IsFollowed after k later doubt held)
    (told : (k : List ℕ) (watched : Watched) → AreTold rows k watched → AreTold after k watched) where
  before : IsWatched most rows gone old.reports.items number key was
  before = a.each number key was at changes.before

  pub followed_before : FollowsKey rows key gone was
  followed_before = follows_now most rows gone old.reports.items number key was before

  -- it goes on, and nothing is new of it
  pub goes_on : AreRefusalsAmong number new.reports.items old.reports.items → FollowsKey after key later now → GoesOn was now
      → IsWatched most after later new.reports.items number key now
  goes_on own_back follows goes = record {
    state = match_by _ _ now.state (λ none. subst (λ (d : Bool). WasRefused most after key number d new.reports.items) (sym goes.doubt)
        (refused_among most after key number was.is_doubtful old.reports.items new.reports.items among
        (refused key number was.is_doubtful old.reports.items (none_of_match _ _ was.state (goes.followed none) before.state)))) follows.0;
    doubt = λ e. doubted_among old.reports.items new.reports.items number among (before.doubt (sym goes.doubt ∙ e));
    ordered = λ e. orders_on most rows after key number old.reports.items new.reports.items (had key) own_back
        (before.ordered (sym goes.doubt ∙ e));
    told = follows.1;
  }

  each_now : IsWatched most after later new.reports.items number key now → (n : ℕ) (k : List ℕ) (watched : Watched)
      → slice_get new.numbers n ≡ Some k → slice_get new.watched.items n ≡ Some watched
      → IsWatched most after later new.reports.items n k watched
  each_now own n k watched at_key at_watched =
      let there : slice_get old.numbers n ≡ Some k = subst (λ (ks : List (List ℕ)). slice_get ks n ≡ Some k) numbers at_key in
      elim (cases_eq n number) [
        | inl same ↦
            let one : key ≡ k = same_Some key k (sym at ∙ (sym (ap (slice_get old.numbers) same) ∙ there)) in
            let it : now ≡ watched = same_Some now watched (sym changes.here ∙ (sym (ap (slice_get new.watched.items) same)
            ∙ at_watched)) in
            subst (λ (m : ℕ). IsWatched most after later new.reports.items m k watched) (sym same)
            (subst (λ (l : List ℕ). IsWatched most after later new.reports.items number l watched) one
            (subst (λ (w : Watched). IsWatched most after later new.reports.items number key w) it own))
        | inr apart ↦
            let is = a.each n k watched there (sym (changes.others n apart) ∙ at_watched) in
            let another : k ≢ key = λ same. apart (one_number rows old.numbers a.seen n number key (there ∙ ap Some same) at) in
            record {
              state = match_on _ _ _ _ watched.state
                  (λ r. refused_among most after k n watched.is_doubtful old.reports.items new.reports.items among
                  (refused k n watched.is_doubtful old.reports.items r))
                  (λ held f. followed k another watched.is_doubtful held f) is.state;
              doubt = λ e. doubted_among old.reports.items new.reports.items n among (is.doubt e);
              ordered = λ e. orders_on most rows after k n old.reports.items new.reports.items (had k) (back n apart) (is.ordered e);
              told = told k watched is.told;
            }
      ]

  pub are_watched : AreFirstSeen after old.numbers
      → ((op : OpId) → Contains later op.0 → HasResponse after op → WasEnded new.reports.items op)
      → IsWatched most after later new.reports.items number key now
      → ((report : Report) → Contains new.reports.items report → IsTrueReport most after old.numbers report)
      → AreWatched most after later new
  are_watched seen ended own reported = record {
    ended = ended;
    seen = subst (λ (ks : List (List ℕ)). AreFirstSeen after ks) (sym numbers) seen;
    many = changes.many ∙ (a.many ∙ ap (λ (ks : List (List ℕ)). length ks) (sym numbers));
    each = each_now own;
    reported = λ report there. subst (λ (ks : List (List ℕ)). IsTrueReport most after ks report) (sym numbers) (reported report there);
  }

-- ---- a row of a key that was seen

module _ (most : ℕ) (rows : List Row) (row : Row) (gone : List ℕ) (formed : IsWellFormed rows) (may : MayFollow rows row)
    (old new : WatchedKeys)
    (a : AreWatched most rows gone old) (number : ℕ) (key : List ℕ) (at : slice_get old.numbers number ≡ Some key) (was now : Watched)
    (numbers : new.numbers ≡ old.numbers) (changes : ChangesOne old.watched.items new.watched.items number was now)
    (out : (k : List ℕ) → k ≢ key → IsRowOutside rows k gone row)
    (begins : (k : List ℕ) → BeginsCall row k → Contains old.numbers k)
    (ends : (op : OpId) (returned : Returned) → row ≡ Respond op returned → Contains gone op.0 → ⊥) where
  abbrev after : List Row
  after = rows ++ row ∷ []

  seen : AreFirstSeen after old.numbers
  seen = AreFirstSeen-same rows row old.numbers a.seen begins

  refused : (k : List ℕ) (n : ℕ) (doubt : Bool) (reports : List Report) → WasRefused most rows k n doubt reports
      → WasRefused most after k n doubt reports
  refused k n doubt reports w = refused_on most rows row k n doubt reports w

  still_had : (k : List ℕ) (place : ℕ) → HadOrder most rows k place → HadOrder most after k place
  still_had k place h = had_on most rows row k place h

  others : (k : List ℕ) → k ≢ key → (doubt : Bool) (held : Held) → IsFollowed rows k gone doubt held → IsFollowed after k gone doubt held
  others k apart doubt held f = other_row rows formed k gone doubt held f row may (out k apart)

  still_told : (k : List ℕ) (watched : Watched) → AreTold rows k watched → AreTold after k watched
  still_told k watched t = are_told_on rows row k watched t

  still_true : (report : Report) → Contains old.reports.items report → IsTrueReport most after old.numbers report
  still_true report there = true_on most rows row old.numbers old.numbers (λ n k e. e) report (a.reported report there)

  still_ended : AreAmong old.reports.items new.reports.items → (op : OpId) → Contains gone op.0 → HasResponse after op
      → WasEnded new.reports.items op
  still_ended among op there h = ended_among old.reports.items new.reports.items op among
      (a.ended op there (response_back rows row op (λ returned e. ends op returned e there) h))

  pub own_follows : FollowsKey rows key gone was
  own_follows = follows_now most rows gone old.reports.items number key was (a.each number key was at changes.before)

  -- nothing was found
  pub row_of_key : new.reports.items ≡ old.reports.items → FollowsKey after key gone now → GoesOn was now
      → AreWatched most after gone new
  row_of_key same follows goes =
      let among : AreAmong old.reports.items new.reports.items = λ report there. subst (λ (l : List Report). Contains l report)
      (sym same) there in
      let back : (n : ℕ) → AreRefusalsAmong n new.reports.items old.reports.items
      = λ n. refusals_same n new.reports.items old.reports.items same in
      are_watched most rows after gone gone old new a number key at was now numbers changes among (λ n apart. back n) refused still_had
      others still_told seen (still_ended among)
      (goes_on most rows after gone gone old new a number key at was now numbers changes among (λ n apart. back n) refused still_had
      others still_told (back number) follows goes)
      (λ report there. still_true report (subst (λ (l : List Report). Contains l report) same there))

  -- that was found
  module _ (place : ℕ) where
    abbrev found_report : Finding → Report
    found_report finding = record { place = place; key = number; finding = finding }

    module _ (finding : Finding) (more : new.reports.items ≡ old.reports.items ++ found_report finding ∷ []) where
      among_more : AreAmong old.reports.items new.reports.items
      among_more report there = subst (λ (l : List Report). Contains l report) (sym more)
          (Contains-append_left old.reports.items (found_report finding ∷ []) report there)

      there_now : Contains new.reports.items (found_report finding)
      there_now = subst (λ (l : List Report). Contains l (found_report finding)) (sym more) (Contains-push old.reports.items
          (found_report finding))

      true_now : WasFound most after key place finding → (report : Report) → Contains new.reports.items report
          → IsTrueReport most after old.numbers report
      true_now found report there =
          elim (Contains-push_cases old.reports.items (found_report finding) report
          (subst (λ (l : List Report). Contains l report) more there)) [
            | inl w ↦ still_true report w
            | inr same ↦ subst (λ (r : Report). IsTrueReport most after old.numbers r) same
                (record { key = key; seen = at; found = found })
          ]

      finish : IsWatched most after gone new.reports.items number key now → WasFound most after key place finding
          → AreWatched most after gone new
      finish own found = are_watched most rows after gone gone old new a number key at was now numbers changes
          among_more (λ n apart. refusals_of_others new.reports.items old.reports.items (found_report finding) more n apart) refused
          still_had others still_told seen
          (still_ended among_more) own (true_now found)

    -- the orders before this refusal and those before it
    orders_more : (refusal : Refusal) → new.reports.items ≡ old.reports.items ++ found_report (Refused refusal) ∷ []
        → HadOrders most rows key number old.reports.items → HadOrder most after key place
        → HadOrders most after key number new.reports.items
    orders_more refusal more were here p other h =
        let it : Report = record { place = p; key = number; finding = Refused other } in
        elim (Contains-push_cases old.reports.items (found_report (Refused refusal)) it
        (subst (λ (l : List Report). Contains l it) more h)) [
          | inl w ↦ still_had key p (were p other w)
          | inr same ↦ subst (HadOrder most after key) (ap (λ (r : Report). r.place) same) here
        ]

    pub found_of_key : (finding : Finding) → new.reports.items ≡ old.reports.items ++ found_report finding ∷ []
        → HasEnded most after place key gone was now (Some finding) → AreWatched most after gone new
    found_of_key (Refused refusal) more h = finish (Refused refusal) more (record {
      state = match_by _ _ now.state (λ none. record {
        place = place;
        refusal = refusal;
        reported = there_now (Refused refusal) more;
        judged = h.3;
        ordered = λ e. h.4 (sym h.1 ∙ e);
      }) (subst (λ (o : Option Held). IfSome o (IsFollowed after key gone now.is_doubtful)) (sym h.0) tt);
      doubt = λ e. doubted_among old.reports.items new.reports.items number (among_more (Refused refusal) more)
          ((a.each number key was at changes.before).doubt (sym h.1 ∙ e));
      ordered = λ e. orders_more refusal more ((a.each number key was at changes.before).ordered (sym h.1 ∙ e))
          (had_before most after key place (judged.Refused refusal) h.3 (h.4 (sym h.1 ∙ e)));
      told = h.2;
    }) h.3
    found_of_key (Undecided op one two) more h = finish (Undecided op one two) more (record {
      state = match_by _ _ now.state (λ none. absurd (not_none now.state none h.1)) h.0.0;
      doubt = λ e. (place, op, one, two, there_now (Undecided op one two) more);
      ordered = λ e. absurd (cc (sym h.2 ∙ e));
      told = h.0.1;
    }) h.3
    found_of_key (EndedAfterAll op) more h = absurd h
