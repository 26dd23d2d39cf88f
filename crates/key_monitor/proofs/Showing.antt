-- Which reads of nothing are late when a row is added.
use Rattle.std.proofs.Common.{ℕ, ◌≡◌, ◌<◌, ◌≤◌, ◌⊎◌, inl, inr, List, Option, Some, None, ap, sym, ◌∙◌, subst, refl, arith}
use Rattle.std.specs.List.{Contains}
use Rattle.recorder.specs.declared.part.Call.{Call}
use Rattle.recorder.specs.declared.part.Response.{Response}
use Rattle.recorder.specs.Orders.{IsLinearizable}
use Rattle.tag_check.specs.Least.{HasNoPair}
use Rattle.value_order.specs.Families.{IsAnsweredBy}
use Rattle.value_order.specs.Faults.{ShowsValue, IsLateNothing}
use Rattle.value_order.specs.Writers.{AnswersNothing}
use Rattle.value_order.specs.Zones.{IsLastRow}
use Rattle.value_order.proofs.CallKinds.{not_both, nothing_no_value, one_place}
use Rattle.value_order.proofs.Refutations.{late_refutes}
use Rattle.kept_families.specs.Continued.{IsSameBy, AreIn}
use Rattle.kept_families.proofs.ByRows.{same_end}
use Rattle.kept_families.proofs.Continuing.{write_too}
use Rattle.key_monitor.specs.Judged.{GoOn, AnswersCall}
use Rattle.key_monitor.specs.Shown.{ShowsAt, IsFirstShow, IsInTime, first_show}

-- a read of nothing shows no value
pub silent : (call : Call) → AnswersNothing call → ShowsValue call → ⊥
silent call nothing (inl w) = not_both call nothing.reads w
silent call nothing (inr v) = nothing_no_value call v.0 nothing v.1

-- ---- from one part to the other

module _ (row : ℕ) (one other : List Call) (are : AreIn row one other) where
  same_response : (a b : Call) (r : Response) → IsSameBy row a b → IsAnsweredBy row a → a.response ≡ Some r → b.response ≡ Some r
  same_response a b r s is e = (s.answered r (let same = same_end a row r e is in omega (arith, is.by))).0 e

  shows_too : (a b : Call) → IsSameBy row a b → IsAnsweredBy row a → ShowsValue a → ShowsValue b
  shows_too a b s is (inl w) = inl (write_too row a b s w)
  shows_too a b s is (inr v) = inr (
    v.0,
    record {
      response = v.1.response;
      reads = sym s.action ∙ v.1.reads;
      responds = same_response a b
          v.1.response s is v.1.responds;
      answers = v.1.answers;
    },
  )

  pub nothing_too : (a b : Call) → IsSameBy row a b → IsAnsweredBy row a → AnswersNothing a → AnswersNothing b
  nothing_too a b s is n = record {
    response = n.response;
    reads = sym s.action ∙ n.reads;
    responds = same_response a b n.response s is
        n.responds;
    answers = n.answers;
  }

  -- what was shown by the row
  shown_too : (place : ℕ) → (h : ShowsAt one place) → place ≤ row → ShowsAt other place
  shown_too place h le =
      let a : IsAnsweredBy row h.call = record { response = h.response; responds = h.responds; by = omega (arith, h.at) } in
      let t = are h.call h.recorded (inr a) in
      record {
        call = t.now;
        recorded = t.recorded;
        shows = shows_too h.call t.now t.same a h.shows;
        response = h.response;
        responds =
            same_response h.call t.now h.response t.same a h.responds;
        at = h.at;
      }

  -- a late read of the row
  record IsLateBy (later : Call) : Type 0 where
    earlier : Call
    recorded : Contains other earlier
    late : IsLateNothing earlier later

  late_too : (earlier later : Call) → Contains one earlier → Contains one later → IsLateNothing earlier later
      → IsAnsweredBy row earlier → IsAnsweredBy row later → (twin : Call) × Contains other twin × IsLateBy twin
  late_too earlier later in_earlier in_later l a b =
      let e = are earlier in_earlier (inr a) in
      let t = are later in_later (inr b) in
      let begun : later.invoked ≡ t.now.invoked = t.same.invoked in (
        t.now,
        t.recorded,
        record {
          earlier = e.now;
          recorded = e.recorded;
          late = record {
            shows = shows_too earlier e.now e.same a l.shows;
            nothing = nothing_too later t.now t.same b l.nothing;
            precedes = (l.precedes.0, same_response earlier e.now l.precedes.0 e.same a l.precedes.1, omega (arith, l.precedes.2));
          };
        },
      )

-- ---- a row more

module _ (before after : List Call) (row place : ℕ) (last : IsLastRow before row) (g : GoOn row place before after) where
  shown_before : (p : ℕ) → ShowsAt before p → p ≤ row
  shown_before p h = (let by = last h.call h.response h.recorded h.responds in omega (arith, h.at))

  shown_forth : (p : ℕ) → ShowsAt before p → ShowsAt after p
  shown_forth p h = shown_too row before after g.continues.there p h (shown_before p h)

  none_late : HasNoPair before IsLateNothing → (earlier later : Call) → Contains after earlier → Contains after later
      → IsLateNothing earlier later → IsAnsweredBy row earlier → IsAnsweredBy row later → ⊥
  none_late none earlier later in_earlier in_later l a b =
      let t = late_too row after before g.continues.back earlier later in_earlier in_later l a b in
      none t.0 t.1 (t.2.earlier, t.2.recorded, t.2.late)

  -- where the row begins a call
  module _ (same : IsLastRow after row) where
    by_row : (call : Call) (response : Response) → Contains after call → call.response ≡ Some response → IsAnsweredBy row call
    by_row call response there e = record { response = response; responds = e; by = same call response there e }

    shown_back : (p : ℕ) → ShowsAt after p → ShowsAt before p
    shown_back p h = shown_too row after before g.continues.back p h (let by = same h.call h.response h.recorded h.responds in omega
        (arith, h.at))

    pub begun_show : (o : Option ℕ) → IsFirstShow before o → IsFirstShow after o
    begun_show None none = λ p h. none p (shown_back p h)
    begun_show (Some first) is = (shown_forth first is.0, λ p h. is.1 p (shown_back p h))

    pub begun_none_late : HasNoPair before IsLateNothing → HasNoPair after IsLateNothing
    begun_none_late none later there h = none_late none h.0 later h.1 there h.2 (by_row h.0 h.2.precedes.0 h.1 h.2.precedes.1) (by_row
        later h.2.nothing.response there h.2.nothing.responds)

-- where it answers one
module _ (before after : List Call) (row place : ℕ) (last : IsLastRow before row) (call : Call) (a : AnswersCall row place before after
    call) where
  -- what was shown, was before, or by the call
  shown_split : (p : ℕ) → ShowsAt after p → ShowsAt before p ⊎ (ShowsValue call × (p ≡ place))
  shown_split p h = elim (a.only.others h.call h.recorded (record {
    response = h.response;
    responds = h.responds;
    by = a.last h.call
        h.response h.recorded h.responds;
  })) [
    | inl same ↦ inr (
      subst ShowsValue same h.shows,
      sym h.at ∙ (one_place call h.response a.only.response (sym (ap (λ (c : Call).
          c.response) same) ∙ h.responds) a.only.responds ∙ a.only.at),
    )
    | inr early ↦ inl (shown_too row after before a.goes.continues.back p h (let same = same_end h.call row h.response h.responds early
        in omega (arith, early.by, h.at)))
  ]

  shown_now : ShowsValue call → ShowsAt after place
  shown_now shows = record {
    call = call;
    recorded = a.only.recorded;
    shows = shows;
    response = a.only.response;
    responds =
        a.only.responds;
    at = a.only.at;
  }

  -- a call more that shows a value
  pub answered_show : ShowsValue call → (o : Option ℕ) → IsFirstShow before o → IsFirstShow after (first_show o place)
  answered_show shows None none = (
    shown_now shows,
    λ p h. elim (shown_split p h) [
      | inl b ↦ absurd (none p b)
      | inr n ↦ omega (
        arith,
        n.1,
      )
    ],
  )
  answered_show shows (Some first) is = (
    shown_forth before after row place last a.goes first is.0,
    λ p h. elim (shown_split p h) [
      | inl b ↦ is.1 p b
      | inr n ↦ (let by = shown_before before after row place last a.goes first is.0 in let late = a.only.after in omega (arith, n.1))
    ],
  )

  -- one that shows none
  pub silent_show : (ShowsValue call → ⊥) → (o : Option ℕ) → IsFirstShow before o → IsFirstShow after o
  silent_show silent None none = λ p h. elim (shown_split p h) [ inl b ↦ none p b | inr n ↦ silent n.0 ]
  silent_show silent (Some first) is = (
    shown_forth before after row place last a.goes first is.0,
    λ p h. elim (shown_split p h) [
      | inl b
          ↦ is.1 p b
      | inr n ↦ absurd (silent n.0)
    ],
  )

  -- the earlier of two ended by the row
  abbrev earlier_by : (earlier later : Call) → Contains after earlier → Contains after later → IsLateNothing earlier later
      → IsAnsweredBy row earlier
  earlier_by earlier later in_earlier in_later l = (let begun = a.begun later in_later in let before_it = l.precedes.2 in record {
    response = l.precedes.0;
    responds = l.precedes.1;
    by = omega arith;
  })

  -- the call itself is late only after the first show
  call_late : (o : Option ℕ) → IsFirstShow before o → IsInTime o call.invoked → (earlier : Call) → Contains after earlier
      → IsLateNothing earlier call → ⊥
  call_late o is time earlier there l =
      let by = earlier_by earlier call there a.only.recorded l in
      let at : ShowsAt before l.precedes.0.place = shown_too row after before a.goes.continues.back l.precedes.0.place (record {
        call =
            earlier;
        recorded = there;
        shows = l.shows;
        response = l.precedes.0;
        responds = l.precedes.1;
        at = refl;
      }) by.by in
      early o is time at
    where
      early : (o : Option ℕ) → IsFirstShow before o → IsInTime o call.invoked → ShowsAt before l.precedes.0.place → ⊥
      early None none time at = none l.precedes.0.place at
      early (Some first) is time at = (let low = is.1 l.precedes.0.place at in let less = l.precedes.2 in absurd (omega arith))

  -- no read of nothing is late, if the call isn't
  pub answered_none_late : HasNoPair before IsLateNothing → ((earlier : Call) → Contains after earlier → IsLateNothing earlier call
      → ⊥) → HasNoPair after IsLateNothing
  answered_none_late none not later there h =
      let n = h.2.nothing in
      let early = earlier_by h.0 later h.1 there h.2 in
      elim (a.only.others later there (record {
        response = n.response;
        responds = n.responds;
        by = a.last later n.response there
            n.responds;
      })) [
        | inl same ↦ not h.0 h.1 (subst (IsLateNothing h.0) same h.2)
        | inr by ↦ none_late before after row place last a.goes none h.0 later h.1 there h.2 early by
      ]

  -- a call that shows a value isn't late
  pub shows_not_late : ShowsValue call → (earlier : Call) → IsLateNothing earlier call → ⊥
  shows_not_late (inl w) earlier l = not_both call l.nothing.reads w
  shows_not_late (inr v) earlier l = nothing_no_value call v.0 l.nothing v.1

  pub in_time_none_late : (o : Option ℕ) → IsFirstShow before o → IsInTime o call.invoked → HasNoPair before IsLateNothing
      → HasNoPair after IsLateNothing
  in_time_none_late o is time none = answered_none_late none (call_late o is time)

  pub shows_none_late : ShowsValue call → HasNoPair before IsLateNothing → HasNoPair after IsLateNothing
  shows_none_late shows none = answered_none_late none (λ earlier there l. shows_not_late shows earlier l)

  -- a late one refutes
  pub late_read : AnswersNothing call → (first : ℕ) → ShowsAt before first → first < call.invoked → IsLinearizable after → ⊥
  late_read nothing first at less =
      let h = shown_forth before after row place last a.goes first at in
      late_refutes after h.call call a.goes.sequence h.recorded a.only.recorded (record {
        shows = h.shows;
        nothing = nothing;
        precedes =
            (h.response, h.responds, omega (arith, h.at));
      })
