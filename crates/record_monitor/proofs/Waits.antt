-- Reads that wait and reads that are given up, by a row more.
use Rattle.std.proofs.Common.{ℕ, ◌≡◌, ◌≢◌, ◌+◌, ◌⊎◌, inl, inr, List, [], ◌∷◌, ◌++◌, Option, Some, IsSome, length, ap, sym, ◌∙◌, subst}
use Rattle.std.proofs.Common.{refl, arith}
use Rattle.std.specs.List.{slice_get, Contains}
use Rattle.std.proofs.lemmas.Bool.{cases_eq}
use Rattle.std.proofs.lemmas.List.Elements.{Contains-push}
use Rattle.std.proofs.lemmas.Option.{none-some, same_Some}
use Rattle.tag.specs.declared.actions.Action.{Action}
use Rattle.tag.specs.declared.actions.Action.TheVariants.{Read, Write}
use Rattle.tag.specs.declared.actions.Returned.{Returned}
use Rattle.tag.specs.declared.numbers.OpId.{OpId}
use Rattle.tag.specs.Tags.{Tag}
use Rattle.tag.proofs.Lists.{Contains-slice_get, push_cases, slice_get-push_left, slice_get-push_last}
use Rattle.tag.proofs.SameTags.{same_op}
use Rattle.recorder.specs.declared.row.Row.{Row}
use Rattle.recorder.specs.declared.row.Row.TheVariants.{Invoke, Note, Respond}
use Rattle.recorder.specs.Histories.{call_count, HasResponse, IsWellFormed}
use Rattle.growing_parts.specs.PartsWithout.{AreReadsOf}
use Rattle.growing_parts.proofs.Rows.{begun_alike, begun_once, no_response, number_below, slice_get-back}
use Rattle.growing_parts.proofs.Without.{first_in, in_cases, others_in}
use Rattle.monitored_key.specs.Maps.{Lacks, Sets}
use Rattle.record_monitor.specs.Waiting.{AreGivenUp, AreRecent, AreWaiting, IsWaiting, WasPendingFor}
use Rattle.record_monitor.proofs.Counting.{one_longer}
use Rattle.record_monitor.proofs.Responses.{response_back, response_on}

-- ---- reads that are given up

pub given_up_on : (most : ℕ) (rows : List Row) (row : Row) (gone : List ℕ) → AreGivenUp most rows gone
    → AreGivenUp most (rows ++ row ∷ []) gone
given_up_on most rows row gone up op h =
    let w = up op h in
    record {
      begin = w.begin;
      client = w.client;
      key = w.key;
      begins = slice_get-push_left rows row w.begin (Invoke op w.client w.key Read) w.begins;
      long = omega (arith, w.long, one_longer rows row);
      unanswered = λ place returned at. elim (push_cases rows row place (Respond op returned) at) [
        | inl was ↦ w.unanswered place returned was
        | inr last ↦ omega (arith, w.long, last.0)
      ];
    }

pub reads_of : (most : ℕ) (rows : List Row) (gone : List ℕ) → AreGivenUp most rows gone → AreReadsOf rows gone
reads_of most rows gone up op h =
    let w = up op h in
    (w.client, w.key, Contains-slice_get rows w.begin (Invoke op w.client w.key Read) w.begins)

-- a number is among them or isn't
pub contains_cases : (gone : List ℕ) (n : ℕ) → Contains gone n ⊎ (Contains gone n → ⊥)
contains_cases [] n = inr (λ h. absurd (omega (arith, h.1)))
contains_cases (m ∷ gone) n = elim (cases_eq m n) [
  | inl same ↦ inl (subst (Contains (m ∷ gone)) same (first_in m gone))
  | inr apart ↦ elim (contains_cases gone n) [
    | inl w ↦ inl (others_in m gone n w)
    | inr w ↦ inr (λ h. elim (in_cases m gone n h) [ inl e ↦ apart e | inr g ↦ w g ])
  ]
]

-- the next call isn't
pub fresh_stays : (most : ℕ) (rows : List Row) (gone : List ℕ) → IsWellFormed rows → AreGivenUp most rows gone → (op : OpId)
    → op.0 ≡ call_count rows → Contains gone op.0 → ⊥
fresh_stays most rows gone formed up op e h =
    let r = reads_of most rows gone up op h in
    absurd (omega (arith, e, number_below rows formed op r.0 r.1 Read r.2))

-- one more is given up
pub given_up_more : (most : ℕ) (rows : List Row) (gone : List ℕ) → AreGivenUp most rows gone → (op : OpId) → WasPendingFor most rows op
    → AreGivenUp most rows (op.0 ∷ gone)
given_up_more most rows gone up op was other h = elim (in_cases op.0 gone other.0 h) [
  | inl same ↦ subst (WasPendingFor most rows) (same_op op other same) was
  | inr there ↦ up other there
]

-- ---- reads that wait

module _ (rows : List Row) (row : Row) (keys later : List (List ℕ)) (gone : List ℕ)
    (still : (n : ℕ) (k : List ℕ) → slice_get keys n ≡ Some k → slice_get later n ≡ Some k) where
  waiting_on : (begin number : ℕ) (w : IsWaiting rows keys gone begin number) → ((returned : Returned) → row ≡ Respond w.op returned → ⊥)
      → IsWaiting (rows ++ row ∷ []) later gone begin number
  waiting_on begin number w none = record {
    op = w.op;
    client = w.client;
    key = w.key;
    begins = slice_get-push_left rows row begin (Invoke w.op w.client w.key Read) w.begins;
    key_is = still number w.key w.key_is;
    pending = λ h. w.pending (response_back rows row w.op none h);
    stays = w.stays;
  }

-- a note
pub waits_noted : (rows : List Row) (op : OpId) (tag : Tag) (keys : List (List ℕ)) (gone : List ℕ) (reads : ℕ → Option ℕ)
    → AreWaiting rows keys gone reads → AreWaiting (rows ++ Note op tag ∷ []) keys gone reads
waits_noted rows op tag keys gone reads a = record {
  each = λ begin number e. waiting_on rows (Note op tag) keys keys gone (λ n k x. x) begin number (a.each begin number e)
      (λ returned same. absurd (cc same));
  all = λ begin o client key at pending stays. a.all begin o client key
      (slice_get-back rows (Note op tag) begin (Invoke o client key Read) at (λ same. absurd (cc same)))
      (λ h. pending (response_on rows (Note op tag) o h)) stays;
}

-- an answer
module _ (rows : List Row) (op : OpId) (returned : Returned) (keys : List (List ℕ)) (gone : List ℕ) (reads new : ℕ → Option ℕ)
    (a : AreWaiting rows keys gone reads) where
  pub waits_answered : ((begin number : ℕ) → new begin ≡ Some number → (was : reads begin ≡ Some number)
      × (op ≡ (a.each begin number was).op → ⊥)) → ((begin client : ℕ) (o : OpId) (key : List ℕ)
      → slice_get rows begin ≡ Some (Invoke o client key Read) → (o ≡ op → ⊥) → IsSome (reads begin) → IsSome (new begin))
      → AreWaiting (rows ++ Respond op returned ∷ []) keys gone new
  waits_answered less kept = record {
    each = λ begin number e.
        let was = less begin number e in
        waiting_on rows (Respond op returned) keys keys gone (λ n k x. x) begin number (a.each begin number was.0)
        (λ r same. was.1 (let row : Respond op returned ≡ Respond (a.each begin number was.0).op r = same in cc));
    all = λ begin o client key at pending stays.
        let there = slice_get-back rows (Respond op returned) begin (Invoke o client key Read) at (λ same. absurd (cc same)) in
        kept begin client o key there
        (λ same. pending (subst (HasResponse (rows ++ Respond op returned ∷ [])) (sym same) (
          returned,
          Contains-push rows
              (Respond op returned),
        )))
        (a.all begin o client key there (λ h. pending (response_on rows (Respond op returned) o h)) stays);
  }

  -- of a write
  pub waits_written : IsWellFormed rows → (client place : ℕ) (key value : List ℕ)
      → slice_get rows place ≡ Some (Invoke op client key (Write value)) → ((begin : ℕ) → new begin ≡ reads begin)
      → AreWaiting (rows ++ Respond op returned ∷ []) keys gone new
  waits_written formed client place key value at same = waits_answered
      (λ begin number e.
      let was = sym (same begin) ∙ e in
      let w = a.each begin number was in (
        was,
        λ one.
            let begins = subst (λ (o : OpId). slice_get rows begin ≡ Some (Invoke o w.client w.key Read)) (sym one) w.begins in
            let row : ◌≡◌ {A = Row} (Invoke op client key (Write value)) (Invoke op w.client w.key Read) =
            begun_alike rows formed place begin op client w.client key w.key (Write value) Read at begins in
            absurd (cc row),
      ))
      (λ begin c o k there apart some. subst IsSome (sym (same begin)) some)

  -- of a read that waits
  pub waits_read : IsWellFormed rows → (client begin : ℕ) (key : List ℕ) → slice_get rows begin ≡ Some (Invoke op client key Read)
      → Lacks reads begin new → AreWaiting (rows ++ Respond op returned ∷ []) keys gone new
  waits_read formed client begin key at lacks = waits_answered
      (λ b number e. elim (cases_eq b begin) [
        | inl same ↦ absurd (none-some number (sym lacks.here ∙ (ap new (sym same) ∙ e)))
        | inr apart ↦
            let was = sym (lacks.others b apart) ∙ e in
            let w = a.each b number was in (
              was,
              λ one. apart (begun_once rows formed b begin op w.client client w.key key Read Read
                  (subst (λ (o : OpId). slice_get rows b ≡ Some (Invoke o w.client w.key Read)) (sym one) w.begins) at),
            )
      ])
      (λ b c o k there apart some. subst IsSome (sym (lacks.others b (λ same. apart (
      let row : ◌≡◌ {A = Row} (Invoke o c k Read) (Invoke op client key Read) = cc (there, at, ap (slice_get rows) same) in
      cc)))) some)

  -- of a read that was given up
  pub waits_after_all : Contains gone op.0 → ((begin : ℕ) → new begin ≡ reads begin)
      → AreWaiting (rows ++ Respond op returned ∷ []) keys gone new
  waits_after_all there same = waits_answered
      (λ begin number e.
      let was = sym (same begin) ∙ e in
      (was, λ one. (a.each begin number was).stays (subst (λ (o : OpId). Contains gone o.0) one there)))
      (λ begin c o k at apart some. subst IsSome (sym (same begin)) some)

-- a call that begins
module _ (rows : List Row) (formed : IsWellFormed rows) (op : OpId) (client : ℕ) (key : List ℕ) (keys later : List (List ℕ))
    (gone : List ℕ) (reads new : ℕ → Option ℕ) (a : AreWaiting rows keys gone reads)
    (still : (n : ℕ) (k : List ℕ) → slice_get keys n ≡ Some k → slice_get later n ≡ Some k) where
  module _ (action : Action) where
    goes_on : (begin number : ℕ) → reads begin ≡ Some number → IsWaiting (rows ++ Invoke op client key action ∷ []) later gone begin number
    goes_on begin number e = waiting_on rows (Invoke op client key action) keys later gone still begin number (a.each begin number e)
        (λ returned same. absurd (cc same))

    all_before : (begin : ℕ) (o : OpId) (c : ℕ) (k : List ℕ) → slice_get rows begin ≡ Some (Invoke o c k Read)
        → (HasResponse (rows ++ Invoke op client key action ∷ []) o → ⊥) → (Contains gone o.0 → ⊥) → IsSome (reads begin)
    all_before begin o c k at pending stays = a.all begin o c k at (λ h. pending (response_on rows (Invoke op client key action) o h)) stays

  pub waits_write_begun : (value : List ℕ) → ((begin : ℕ) → new begin ≡ reads begin)
      → AreWaiting (rows ++ Invoke op client key (Write value) ∷ []) later gone new
  waits_write_begun value same = record {
    each = λ begin number e. goes_on (Write value) begin number (sym (same begin) ∙ e);
    all = λ begin o c k at pending stays. subst IsSome (sym (same begin)) (all_before (Write value) begin o c k
        (slice_get-back rows (Invoke op client key (Write value)) begin (Invoke o c k Read) at (λ e.
        let row : ◌≡◌ {A = Row} (Invoke op client key (Write value)) (Invoke o c k Read) = e in
        absurd (cc row))) pending stays);
  }

  pub waits_read_begun : (number : ℕ) → slice_get later number ≡ Some key → op.0 ≡ call_count rows → (Contains gone op.0 → ⊥)
      → Sets reads (length rows) number new → AreWaiting (rows ++ Invoke op client key Read ∷ []) later gone new
  waits_read_begun number here next stays sets = record {
    each = λ begin n e. elim (cases_eq begin (length rows)) [
      | inl same ↦
          let one : number ≡ n = same_Some number n (sym sets.here ∙ (ap new (sym same) ∙ e)) in
          record {
            op = op;
            client = client;
            key = key;
            begins = subst (λ (p : ℕ). slice_get (rows ++ Invoke op client key Read ∷ []) p ≡ Some (Invoke op client key Read)) (sym same)
                (slice_get-push_last rows (Invoke op client key Read));
            key_is = subst (λ (m : ℕ). slice_get later m ≡ Some key) one here;
            pending = λ h. no_response rows formed op next (response_back rows (Invoke op client key Read) op (λ r x. absurd (cc x)) h);
            stays = stays;
          }
      | inr apart ↦ goes_on Read begin n (sym (sets.others begin apart) ∙ e)
    ];
    all = λ begin o c k at pending out. elim (push_cases rows (Invoke op client key Read) begin (Invoke o c k Read) at) [
      | inl was ↦
          let some = all_before Read begin o c k was pending out in
          elim (cases_eq begin (length rows)) [
            | inl same ↦ subst IsSome (sym (ap new same ∙ sets.here)) refl
            | inr apart ↦ subst IsSome (sym (sets.others begin apart)) some
          ]
      | inr last ↦ subst IsSome (sym (ap new last.0 ∙ sets.here)) refl
    ];
  }

-- a read that is given up
module _ (rows : List Row) (formed : IsWellFormed rows) (op : OpId) (client begin : ℕ) (key : List ℕ)
    (at : slice_get rows begin ≡ Some (Invoke op client key Read)) (keys : List (List ℕ)) (gone : List ℕ) (reads new : ℕ → Option ℕ)
    (a : AreWaiting rows keys gone reads) (lacks : Lacks reads begin new) where
  was_there : (b number : ℕ) → new b ≡ Some number → (b ≢ begin) × (reads b ≡ Some number)
  was_there b number e = elim (cases_eq b begin) [
    | inl same ↦ absurd (none-some number (sym lacks.here ∙ (ap new (sym same) ∙ e)))
    | inr apart ↦ (apart, sym (lacks.others b apart) ∙ e)
  ]

  pub waits_less : AreWaiting rows keys (op.0 ∷ gone) new
  waits_less = record {
    each = λ b number e.
        let was = was_there b number e in
        let w = a.each b number was.1 in
        record {
          op = w.op;
          client = w.client;
          key = w.key;
          begins = w.begins;
          key_is = w.key_is;
          pending = w.pending;
          stays = λ h. elim (in_cases op.0 gone w.op.0 h) [
            | inl same ↦ was.0 (begun_once rows formed b begin w.op w.client client w.key key Read Read w.begins
                (subst (λ (o : OpId). slice_get rows begin ≡ Some (Invoke o client key Read)) (same_op op w.op same) at))
            | inr there ↦ w.stays there
          ];
        };
    all = λ b o c k there pending stays.
        let some = a.all b o c k there pending (λ h. stays (others_in op.0 gone o.0 h)) in
        subst IsSome (sym (lacks.others b (λ same. stays (
        let row : ◌≡◌ {A = Row} (Invoke o c k Read) (Invoke op client key Read) = cc (there, at, ap (slice_get rows) same) in
        let one : o ≡ op = cc in
        subst (λ (x : OpId). Contains (op.0 ∷ gone) x.0) (sym one) (first_in op.0 gone))))) some;
  }

  -- the others were pending for fewer rows
  pub recent_less : (most place : ℕ) → AreRecent (most + 1) place reads → begin + most + 1 ≡ place → AreRecent most place new
  recent_less most place recent e b number is =
      let was = was_there b number is in
      omega (arith, recent b number was.1, was.0, e)
