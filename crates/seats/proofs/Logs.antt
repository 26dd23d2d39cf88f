-- A client's log, as rows come after those that it was made of.
use Rattle.std.proofs.Common.{◌≡◌, ◌<◌, ◌≤◌, ◌⊎◌, ℕ, List, [], ◌∷◌, ◌++◌, Some, None, length, slice_get, take, refl, sym, ap, ◌∙◌, subst, inl, inr, arith}
use Rattle.std.proofs.lemmas.Option.{same_Some, slice_get_within}
use Rattle.tag.proofs.Options.{none_some}
use Rattle.tag.proofs.Lists.{Contains-slice_get, in_front, place_of, push_cases, slice_get-push_last, slice_get-push_left, slice_get-take}
use Rattle.tag.specs.Tags.{Tag}
use Rattle.tag.specs.declared.actions.Action.{Action}
use Rattle.tag.specs.declared.actions.Returned.{Returned}
use Rattle.tag.specs.declared.numbers.OpId.{OpId}
use Rattle.recorder.specs.Histories.{IsWellFormed}
use Rattle.recorder.specs.declared.part.Response.{Response}
use Rattle.recorder.specs.declared.row.Row.{Row}
use Rattle.recorder.specs.declared.row.Row.TheVariants.{Invoke, Note, Respond}
use Rattle.world_steps.specs.Lasting.{Began, Grows}
use Rattle.world_steps.specs.Sound.{At, RowsSound}
use Rattle.hall_lock.specs.Turns.{AreRecorded, IsOfAnother, OthersAdd}
use Rattle.hall_lock.proofs.Rows.{at_grown, old_or_new}
use Rattle.recorder.specs.declared.log_entry.Entry.{Entry}
use Rattle.recorder.specs.Logs.{AreAnswered, IsLog, IsLogged}

-- ---- what records are

pub rows_sound : (rows : List Row) → AreRecorded rows → RowsSound rows
rows_sound rows r = subst RowsSound (sym r.is) r.sound.sound.recorded

pub same_caller : (rows : List Row) → RowsSound rows → (p q : ℕ) (op : OpId) (c d : ℕ) (k l : List ℕ) (a b : Action) → At rows p (Invoke op c k a) → At rows q (Invoke op d l b) → c ≡ d
same_caller rows sound p q op c d k l a b x y =
    let e : p ≡ q = sound.once p q op c d k l a b x y in
    let h : At rows q (Invoke op c k a) = subst (λ n. At rows n (Invoke op c k a)) e x in
    cc

pub same_number : (rows : List Row) (p : ℕ) (o u : OpId) (c d : ℕ) (k l : List ℕ) (a b : Action) → At rows p (Invoke o c k a) → At rows p (Invoke u d l b) → o ≡ u
same_number rows p o u c d k l a b x y = cc

-- a response stands after the invocation of its call
begun_before : (rows : List Row) → IsWellFormed rows → (p : ℕ) (op : OpId) (returned : Returned) → At rows p (Respond op returned)
    → (q : ℕ) × (client : ℕ) × (key : List ℕ) × (action : Action) × (q < p) × At rows q (Invoke op client key action)
begun_before rows formed p op returned is =
    let may = formed p (Respond op returned) is in
    let call = may.2 in
    let there = place_of (take p rows) (Invoke op may.0 call.key may.1) call.invoked in
    let front = in_front rows p there.0 (Invoke op may.0 call.key may.1) there.1 in
    (there.0, may.0, call.key, may.1, front.0, front.1)

-- ---- rows of other clients

logged_grown : (client : ℕ) (old new all : List Row) → RowsSound all → Grows new all → OthersAdd client old new → (entry : Entry) → IsLogged old client entry → IsLogged new client entry
logged_grown client old new all sound within_all others entry logged = record {
  begun = at_grown old new others.grown entry.invoked _ logged.begun;
  answered = λ place returned. (
    λ is. at_grown old new others.grown place (Respond entry.op returned) ((logged.answered place returned).0 is),
    λ at. elim (old_or_new old new others.grown place (Respond entry.op returned) at) [
      | inl there ↦ (logged.answered place returned).1 there
      | inr late ↦
          let another : IsOfAnother new client (Respond entry.op returned) = others.others place (Respond entry.op returned) late at in
          let began = another.is in
          absurd (another.apart (same_caller all sound began.place entry.invoked entry.op another.name client began.key entry.key began.action entry.action
          (at_grown new all within_all began.place _ began.is) (at_grown new all within_all entry.invoked _ (at_grown old new others.grown entry.invoked _ logged.begun))))
    ],
  );
}

pub log_grown : (client : ℕ) (old new all : List Row) → RowsSound all → Grows new all → OthersAdd client old new → (log : List Entry) → IsLog old client log → IsLog new client log
log_grown client old new all sound within_all others log is = record {
  each = λ k entry at. logged_grown client old new all sound within_all others entry (is.each k entry at);
  all = λ place op key action at. elim (old_or_new old new others.grown place (Invoke op client key action) at) [
    | inl there ↦ is.all place op key action there
    | inr late ↦
        let another : IsOfAnother new client (Invoke op client key action) = others.others place (Invoke op client key action) late at in
        absurd (another.apart (sym another.is))
  ];
  ordered = is.ordered;
}

-- ---- a note

note_not_invoke : {A : Type 0} (op o : OpId) (tag : Tag) (client : ℕ) (key : List ℕ) (action : Action) → Note op tag ≡ Invoke o client key action → A
note_not_invoke op o tag client key action e = absurd (cc)

note_not_respond : {A : Type 0} (op o : OpId) (tag : Tag) (returned : Returned) → Note op tag ≡ Respond o returned → A
note_not_respond op o tag returned e = absurd (cc)

invoke_not_respond : {A : Type 0} (op o : OpId) (client : ℕ) (key : List ℕ) (action : Action) (returned : Returned) → Invoke op client key action ≡ Respond o returned → A
invoke_not_respond op o client key action returned e = absurd (cc)

pub log_noted : (client : ℕ) (rows : List Row) (op : OpId) (tag : Tag) (log : List Entry) → IsLog rows client log → IsLog (rows ++ Note op tag ∷ []) client log
log_noted client rows op tag log is = record {
  each = λ k entry at. let logged = is.each k entry at in record {
    begun = slice_get-push_left rows (Note op tag) entry.invoked _ logged.begun;
    answered = λ place returned. (
      λ e. slice_get-push_left rows (Note op tag) place _ ((logged.answered place returned).0 e),
      λ there. elim (push_cases rows (Note op tag) place (Respond entry.op returned) there) [
        | inl before ↦ (logged.answered place returned).1 before
        | inr last ↦ note_not_respond op entry.op tag returned last.1
      ],
    );
  };
  all = λ place o key action there. elim (push_cases rows (Note op tag) place (Invoke o client key action) there) [
    | inl before ↦ is.all place o key action before
    | inr last ↦ note_not_invoke op o tag client key action last.1
  ];
  ordered = is.ordered;
}

-- ---- an invocation

-- the entry of a call that was just invoked
abbrev pub begun_entry : ℕ → OpId → List ℕ → Action → ℕ → Entry
begun_entry hall op key action place = record { hall = hall; op = op; key = key; action = action; invoked = place; response = None }

module _ (client : ℕ) (rows : List Row) (op : OpId) (key : List ℕ) (action : Action) (log : List Entry) where
  abbrev all_rows : List Row
  all_rows = rows ++ Invoke op client key action ∷ []

  logged_invoked : (entry : Entry) → IsLogged rows client entry → IsLogged all_rows client entry
  logged_invoked entry logged = record {
    begun = slice_get-push_left rows (Invoke op client key action) entry.invoked _ logged.begun;
    answered = λ place returned. (
      λ e. slice_get-push_left rows (Invoke op client key action) place _ ((logged.answered place returned).0 e),
      λ there. elim (push_cases rows (Invoke op client key action) place (Respond entry.op returned) there) [
        | inl before ↦ (logged.answered place returned).1 before
        | inr last ↦ invoke_not_respond op entry.op client key action returned last.1
      ],
    );
  }

  -- no response stands before the invocation
  unanswered : AreRecorded all_rows → (place : ℕ) (returned : Returned) → At all_rows place (Respond op returned) → ⊥
  unanswered recorded place returned there = elim (push_cases rows (Invoke op client key action) place (Respond op returned) there) [
    | inl before ↦
        let begun = begun_before all_rows recorded.formed place op returned there in
        let same : begun.0 ≡ length rows = (rows_sound all_rows recorded).once begun.0 (length rows) op begun.1 client begun.2 key begun.3 action begun.5 (slice_get-push_last rows (Invoke op client key action)) in
        let early : place < length rows = slice_get_within rows place (Respond op returned) before in
        let lt : begun.0 < place = begun.4 in
        absurd (omega arith)
    | inr last ↦ invoke_not_respond op op client key action returned last.1
  ]

  new_logged : (hall : ℕ) → AreRecorded all_rows → IsLogged all_rows client (begun_entry hall op key action (length rows))
  new_logged hall recorded = record {
    begun = slice_get-push_last rows (Invoke op client key action);
    answered = λ place returned. (λ e. none_some e, λ there. absurd (unanswered recorded place returned there));
  }

  pub log_invoked : (hall : ℕ) → AreRecorded all_rows → IsLog rows client log → IsLog all_rows client (log ++ begun_entry hall op key action (length rows) ∷ [])
  log_invoked hall recorded is = record {
    each = λ k entry at. elim (push_cases log (begun_entry hall op key action (length rows)) k entry at) [
      | inl old ↦ logged_invoked entry (is.each k entry old)
      | inr new ↦ subst (IsLogged all_rows client) new.1 (new_logged hall recorded)
    ];
    all = λ place o l a there. elim (push_cases rows (Invoke op client key action) place (Invoke o client l a) there) [
      | inl before ↦ let found = is.all place o l a before in (found.0, found.1, slice_get-push_left log _ found.0 found.1 found.2, found.3)
      | inr last ↦ (length log, begun_entry hall op key action (length rows), slice_get-push_last log _, sym last.0)
    ];
    ordered = λ i j a b lt x y. elim (push_cases log (begun_entry hall op key action (length rows)) j b y) [
      | inl old ↦ elim (push_cases log (begun_entry hall op key action (length rows)) i a x) [
        | inl older ↦ is.ordered i j a b lt older old
        | inr new ↦ let far : j < length log = slice_get_within log j b old in let here : i ≡ length log = new.0 in absurd (omega arith)
      ]
      | inr new ↦ elim (push_cases log (begun_entry hall op key action (length rows)) i a x) [
        | inl older ↦ subst (λ (e : Entry). a.invoked < e.invoked) new.1 (slice_get_within rows a.invoked _ (is.each i a older).begun)
        | inr both ↦ let here : i ≡ length log = both.0 in let there : j ≡ length log = new.0 in absurd (omega arith)
      ]
    ];
  }

-- ---- a response

-- the entry of a call that was answered
abbrev pub ended_entry : Entry → ℕ → Returned → Entry
ended_entry entry place returned = record entry { response = Some (record { place = place; returned = returned }) }

same_response : (o u : OpId) (r s : Returned) → Respond o r ≡ Respond u s → (o ≡ u) × (r ≡ s)
same_response o u r s e = (cc, cc)

module _ (client : ℕ) (rows : List Row) (entry : Entry) (op : OpId) (returned : Returned) (log : List Entry) where
  abbrev answered_rows : List Row
  answered_rows = rows ++ Respond op returned ∷ []

  -- a call that has its answer isn't answered again
  once_answered : AreRecorded answered_rows → (place : ℕ) (other : Returned) → At rows place (Respond op other) → ⊥
  once_answered recorded place other there =
      let may = recorded.formed (length rows) (Respond op returned) (slice_get-push_last rows (Respond op returned)) in
      let early : place < length rows = slice_get_within rows place (Respond op other) there in
      let front = slice_get-take answered_rows (length rows) place early ∙ (slice_get-push_left rows (Respond op returned) place (Respond op other) there) in
      may.2.unanswered (other, Contains-slice_get (take (length rows) answered_rows) place (Respond op other) front)

  number_of : (found : Entry) (place : ℕ) (key : List ℕ) (action : Action) → IsLogged rows client found → found.invoked ≡ place → At rows place (Invoke op client key action) → found.op ≡ op
  number_of found place key action logged is there =
      same_number rows place found.op op client client found.key key found.action action (subst (λ n. At rows n (Invoke found.op client found.key found.action)) is logged.begun) there

  -- it is the pending call that is answered
  pub answers_last : AreRecorded answered_rows → IsLog rows client (log ++ entry ∷ []) → AreAnswered log → Began rows client op → entry.op ≡ op
  answers_last recorded is answered began =
      let found = is.all began.place op began.key began.action began.is in
      let logged : IsLogged rows client found.1 = is.each found.0 found.1 found.2 in
      let number : found.1.op ≡ op = number_of found.1 began.place began.key began.action logged found.3 began.is in
      elim (push_cases log entry found.0 found.1 found.2) [
        | inl old ↦
            let response = answered found.0 found.1 old in
            let there : At rows response.0.place (Respond found.1.op response.0.returned) = (logged.answered response.0.place response.0.returned).0 response.1 in
            absurd (once_answered recorded response.0.place response.0.returned (subst (λ o. At rows response.0.place (Respond o response.0.returned)) number there))
        | inr new ↦ ap (λ (e : Entry). e.op) new.1 ∙ number
      ]

  -- what stood at the place of an entry before the answer
  Before : ℕ → Entry → Type 0
  Before k e = (f : Entry) × (slice_get (log ++ entry ∷ []) k ≡ Some f) × (f.invoked ≡ e.invoked)

  before_answer : (k : ℕ) (e : Entry) → slice_get (log ++ ended_entry entry (length rows) returned ∷ []) k ≡ Some e → Before k e
  unfolding Before
  before_answer k e at = elim (push_cases log (ended_entry entry (length rows) returned) k e at) [
    | inl old ↦ (e, slice_get-push_left log entry k e old, refl)
    | inr new ↦ (entry, subst (λ n. slice_get (log ++ entry ∷ []) n ≡ Some entry) (sym new.0) (slice_get-push_last log entry), ap (λ (x : Entry). x.invoked) new.1)
  ]

  -- an earlier call isn't the answered one
  earlier_apart : RowsSound answered_rows → IsLog rows client (log ++ entry ∷ []) → entry.op ≡ op → (k : ℕ) (e : Entry) → slice_get log k ≡ Some e → op ≡ e.op → ⊥
  earlier_apart sound is number k e at same =
      let early : k < length log = slice_get_within log k e at in
      let before : e.invoked < entry.invoked = is.ordered k (length log) e entry early (slice_get-push_left log entry k e at) (slice_get-push_last log entry) in
      let mine = (is.each (length log) entry (slice_get-push_last log entry)).begun in
      let its = (is.each k e (slice_get-push_left log entry k e at)).begun in
      let once : e.invoked ≡ entry.invoked = sound.once e.invoked entry.invoked op client client e.key entry.key e.action entry.action
      (slice_get-push_left rows (Respond op returned) e.invoked _ (subst (λ o. At rows e.invoked (Invoke o client e.key e.action)) (sym same) its))
      (slice_get-push_left rows (Respond op returned) entry.invoked _ (subst (λ o. At rows entry.invoked (Invoke o client entry.key entry.action)) number mine)) in
      absurd (omega arith)

  earlier_logged : RowsSound answered_rows → IsLog rows client (log ++ entry ∷ []) → entry.op ≡ op → (k : ℕ) (e : Entry) → slice_get log k ≡ Some e → IsLogged answered_rows client e
  earlier_logged sound is number k e at =
      let logged = is.each k e (slice_get-push_left log entry k e at) in
      record {
        begun = slice_get-push_left rows (Respond op returned) e.invoked _ logged.begun;
        answered = λ place other. (
          λ there. slice_get-push_left rows (Respond op returned) place _ ((logged.answered place other).0 there),
          λ there. elim (push_cases rows (Respond op returned) place (Respond e.op other) there) [
            | inl before ↦ (logged.answered place other).1 before
            | inr last ↦ absurd (earlier_apart sound is number k e at (same_response op e.op returned other last.1).0)
          ],
        );
      }

  answered_logged : IsLogged rows client entry → entry.response ≡ None → entry.op ≡ op → IsLogged answered_rows client (ended_entry entry (length rows) returned)
  answered_logged logged pending number = record {
    begun = slice_get-push_left rows (Respond op returned) entry.invoked _ logged.begun;
    answered = λ place other. (
      λ (e : Some (record { place = length rows; returned = returned }) ≡ Some (record { place = place; returned = other })).
          let same : ◌≡◌ {A = Response} (record { place = length rows; returned = returned }) (record { place = place; returned = other }) = same_Some _ _ e in
          subst (λ (r : Response). At answered_rows r.place (Respond entry.op r.returned)) same (subst (λ o. At answered_rows (length rows) (Respond o returned)) (sym number) (slice_get-push_last rows (Respond op returned))),
      λ there. elim (push_cases rows (Respond op returned) place (Respond entry.op other) there) [
        | inl before ↦ none_some (sym pending ∙ (logged.answered place other).1 before)
        | inr last ↦ ap Some (λ i. record { place = sym last.0 i; returned = (same_response op entry.op returned other last.1).1 i })
      ],
    );
  }

  pub log_responded : RowsSound answered_rows → IsLog rows client (log ++ entry ∷ []) → entry.response ≡ None → entry.op ≡ op → IsLog answered_rows client (log ++ ended_entry entry (length rows) returned ∷ [])
  unfolding Before
  log_responded sound is pending number = record {
    each = λ k e at. elim (push_cases log (ended_entry entry (length rows) returned) k e at) [
      | inl old ↦ earlier_logged sound is number k e old
      | inr new ↦ subst (IsLogged answered_rows client) new.1 (answered_logged (is.each (length log) entry (slice_get-push_last log entry)) pending number)
    ];
    all = λ place o l a there. elim (push_cases rows (Respond op returned) place (Invoke o client l a) there) [
      | inl before ↦
          let found = is.all place o l a before in
          elim (push_cases log entry found.0 found.1 found.2) [
            | inl old ↦ (found.0, found.1, slice_get-push_left log _ found.0 found.1 old, found.3)
            | inr new ↦ (length log, ended_entry entry (length rows) returned, slice_get-push_last log _, ap (λ (x : Entry). x.invoked) new.1 ∙ found.3)
          ]
      | inr last ↦ invoke_not_respond o op client l a returned (sym last.1)
    ];
    ordered = λ i j a b lt x y.
        let f = before_answer i a x in
        let g = before_answer j b y in
        subst (λ (n : ℕ × ℕ). n.0 < n.1) (λ k. (f.2 k, g.2 k)) (is.ordered i j f.0 g.0 lt f.1 g.1);
  }
