use Rattle.std.proofs.Common.{◌≡◌, None, ◌++◌, ◌∷◌, [], Option, Some, IfSome, sym, ◌∙◌, subst, refl, ℕ}
use Rattle.std.specs.List.{slice_get}
use Rattle.std.specs.Option.{option_copied}
use Rattle.std.proofs.lemmas.Option.{none-some}
use Rattle.tag.specs.declared.actions.Returned.TheVariants.{Value}
use Rattle.tag.proofs.Lists.{slice_get-push_last}
use Rattle.recorder.specs.declared.row.Row.TheVariants.{Respond}
use Rattle.monitored_key.specs.declared.judged.Judged.{Judged}
use Rattle.monitored_key.specs.Changes.{ChangesBy}
use Rattle.monitored_key.specs.Followed.{JudgesRead}
use Rattle.monitored_key.specs.Held.{Held, state_of}
use Rattle.monitored_key.specs.Verdicts.{IsVerdict}
use Rattle.record_monitor.specs.Followed.{IsFollowed}
use Rattle.record_monitor.proofs.Steps.{if_some, read_passes, read_refused, read_undecided, undecided_ended, undecided_judged}
use Rattle.record_monitor.proofs.ToldRows.{told_kept}
use Rattle.record_monitor.proofs.watched.Watched.judge.Goals as goal

pub returns-in_default : goal.returns-in_default
returns-in_default c = λ most rows key gone formed e at may up stays end f told own.
    let none : c.args.self.now.state ≡ None = cc (c.in_default.is) in (
      (
        subst (λ (o : Option Held). IfSome o (IsFollowed (rows ++ Respond c.args.read.now.op (Value (option_copied c.args.value)) ∷ []) key gone
            c.args.self.now.is_doubtful)) (sym none) tt,
        told,
      ),
      record { doubt = refl; refused = λ n. n; followed = λ n. n },
    )

pub returns-in-Passes : goal.returns-in-Passes
returns-in-Passes c = λ most rows key gone formed e at may up stays end f told own.
    let read = c.args.read.now in
    let old = c.in-Some.state in
    let new = c.end_read.new.self in
    let value = option_copied c.args.value in
    let judges = subst (λ (j : Judged). JudgesRead (state_of old) (state_of new) read.begun value c.args.place j) c.in-Passes.is
    c.in_ok-end_read.ensures.judged in
    let held = subst (λ (j : Judged). ChangesBy old read.begun value c.args.place j new) c.in-Passes.is c.in_ok-end_read.ensures.held in (
      (
        read_passes most rows key gone read.op read.client read.begun c.args.place value
            c.args.self.now.is_doubtful old new c.in_ok-end_read.ensures.kept
            formed e at may up stays
            (if_some _ c.args.self.now.state old c.in-Some.is f) judges held,
        record { calls = told.calls; told = told.told },
      ),
      record {
        doubt = refl;
        refused = λ none. absurd (none-some old (sym none ∙ c.in-Some.is));
        followed = λ none. absurd (none-some new (sym none));
      },
    )

pub returns-in-Undecided : goal.returns-in-Undecided
returns-in-Undecided c = λ most rows key gone formed e at may up stays end f told own.
    let read = c.args.read.now in
    let old = c.in-Some.state in
    let new = c.end_read.new.self in
    let value = option_copied c.args.value in
    let row = Respond read.op (Value value) in
    let judges = subst (λ (j : Judged). JudgesRead (state_of old) (state_of new) read.begun value c.args.place j) c.in-Undecided.is
    c.in_ok-end_read.ensures.judged in
    let verdict = subst (λ (j : Judged). IsVerdict (state_of old) read.begun value j) c.in-Undecided.is
    c.in_ok-end_read.ensures.verdict in
    let held = subst (λ (j : Judged). ChangesBy old read.begun value c.args.place j new) c.in-Undecided.is
    c.in_ok-end_read.ensures.held in
    let follows = if_some _ c.args.self.now.state old c.in-Some.is f in
    undecided_ended most _ c.args.place key gone c.args.self.now c.doubt.new.self old new read.op c.in-Undecided.one c.in-Undecided.two
    c.in-Some.is c.doubt.ensures.state c.doubt.ensures.doubt
    (read_undecided most rows key gone read.op read.client read.begun c.args.place value
    c.args.self.now.is_doubtful old new c.in_ok-end_read.ensures.kept
    formed e at may up
    stays follows c.in-Undecided.one c.in-Undecided.two judges held)
    (undecided_judged most rows key gone read.op read.client read.begun c.args.place value
    c.args.self.now.is_doubtful old new c.in_ok-end_read.ensures.kept
    formed e at may up
    stays follows c.in-Undecided.one c.in-Undecided.two verdict)
    (record {
      calls = (told_kept (rows ++ row ∷ []) key _ c.doubt.new.self c.doubt.ensures.told (record { calls = told.calls; told = told.told })).calls;
      told = (told_kept (rows ++ row ∷ []) key _ c.doubt.new.self c.doubt.ensures.told (record { calls = told.calls; told = told.told })).told;
    })
    c.doubt.result c.doubt.ensures.found

pub returns-in_ok-refuse-in-Refused : goal.returns-in_ok-refuse-in-Refused
returns-in_ok-refuse-in-Refused c = λ most rows key gone formed e at may up stays end f told own.
    let read = c.args.read.now in
    let old = c.in-Some.state in
    let new = c.end_read.new.self in
    let value = option_copied c.args.value in
    let row = Respond read.op (Value value) in
    let judges = subst (λ (j : Judged). JudgesRead (state_of old) (state_of new) read.begun value c.args.place j) c.in-Refused.is
    c.in_ok-end_read.ensures.judged in
    let verdict = subst (λ (j : Judged). IsVerdict (state_of old) read.begun value j) c.in-Refused.is c.in_ok-end_read.ensures.verdict in
    let refused = read_refused most rows key gone read.op read.client read.begun c.args.place value
    c.args.self.now.is_doubtful old new c.in_ok-end_read.ensures.kept
    formed e at
    may up stays (if_some _ c.args.self.now.state old c.in-Some.is f) c.in-Refused.refusal judges verdict in
    let answer = subst (λ (p : ℕ). slice_get (rows ++ row ∷ []) p ≡ Some row) e (slice_get-push_last rows row) in (
      c.in_ok-refuse-in-Refused.ensures.state,
      c.in_ok-refuse-in-Refused.ensures.doubt,
      c.in_ok-refuse-in-Refused.ensures.told (rows ++ row ∷ []) key (record { calls = told.calls; told = told.told }) own (c.args.place, end, answer),
      refused.0,
      refused.1,
    )
