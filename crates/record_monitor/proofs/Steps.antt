-- What a step of one key makes of it, as its state is held.
use Rattle.std.proofs.Common.{ℕ, ◌≡◌, ◌≤◌, ◌+◌, List, [], ◌∷◌, ◌++◌, Option, Some, Bool, true, false, Result, Ok, Err, IfSome, IsSome}
use Rattle.std.proofs.Common.{OnOk, length}
use Rattle.std.proofs.Common.{ap, sym, ◌∙◌, subst, refl}
use Rattle.std.specs.List.{slice_get, Contains}
use Rattle.std.proofs.lemmas.Option.{none-some}
use Rattle.tag.specs.declared.actions.Action.{Action}
use Rattle.tag.specs.declared.actions.Action.TheVariants.{Read, Write}
use Rattle.tag.specs.declared.actions.Returned.TheVariants.{Value, Written}
use Rattle.tag.specs.declared.numbers.OpId.{OpId}
use Rattle.recorder.specs.declared.row.Row.{Row}
use Rattle.recorder.specs.declared.row.Row.TheVariants.{Invoke, Respond}
use Rattle.recorder.specs.Histories.{HasResponse, IsWellFormed, MayFollow}
use Rattle.recorder.specs.Orders.{IsLinearizable}
use Rattle.recorder.specs.Records.{BeginsAt}
use Rattle.growing_parts.specs.PartsWithout.{AreReadsOf}
use Rattle.monitored_key.specs.Changes.{HasGivenUp, HasReadEnded, HasWriteEnded}
use Rattle.monitored_key.specs.Followed.{FollowsWithout, FollowsWriteEnded, JudgesRead}
use Rattle.monitored_key.specs.Held.{Held, IsLost, state_of}
use Rattle.monitored_key.specs.Verdicts.{IsVerdict}
use Rattle.monitored_key.specs.declared.judged.Judged.{Judged}
use Rattle.monitored_key.specs.declared.judged.Judged.TheVariants as judged
use Rattle.monitored_key.specs.declared.judged.Refusal.{Refusal}
use Rattle.record_monitor.specs.declared.report.Finding.{Finding}
use Rattle.record_monitor.specs.declared.watched.Watched.{Watched}
use Rattle.record_monitor.specs.Ended.{HasEnded, first_doubt}
use Rattle.record_monitor.specs.Followed.{AreTold, FollowsBegun, FollowsFirst, FollowsState, IsFollowed}
use Rattle.record_monitor.specs.Judgements.{WasJudged, WasUndecided}
use Rattle.record_monitor.specs.Waiting.{AreGivenUp}
use Rattle.record_monitor.proofs.Following.{call_followed, doubt_followed, first_followed, given_up_followed, holds, ordered}
use Rattle.record_monitor.proofs.Following.{read_followed, was_judged, write_followed}

pub if_some : {X : Type 0} (P : X → Type 0) (o : Option X) (x : X) → o ≡ Some x → IfSome o P → P x
if_some P o x e h = subst (λ p. IfSome p P) e h

-- what follows from several clauses of a call
pub on_ok_two : {T E P Q R : Type 0} (r : Result T E) → (P → Q → R) → OnOk r P → OnOk r Q → OnOk r R
on_ok_two (Ok x) f p q = f p q
on_ok_two (Err e) f p q = tt

pub on_ok_four : {T E P Q R S U : Type 0} (r : Result T E) → (P → Q → R → S → U) → OnOk r P → OnOk r Q → OnOk r R → OnOk r S → OnOk r U
on_ok_four (Ok x) f p q s u = f p q s u
on_ok_four (Err e) f p q s u = tt

pub on_ok_three : {T E P Q R S : Type 0} (r : Result T E) → (P → Q → R → S) → OnOk r P → OnOk r Q → OnOk r R → OnOk r S
on_ok_three (Ok x) f p q s = f p q s
on_ok_three (Err e) f p q s = tt

-- ---- calls that begin

pub first_step : (rows : List Row) (key gone : List ℕ) (client place : ℕ) (op : OpId) (action : Action) (new : Held)
    → FollowsFirst (state_of new) op.0 action place → new.next ≡ place + 1 → new.number ≤ op.0 + 1 → (IsLost new → ⊥) → IsWellFormed rows
    → length rows ≡ place → MayFollow rows (Invoke op client key action) → AreReadsOf rows gone
    → ((begin : ℕ) → BeginsAt rows key begin → ⊥) → IsFollowed (rows ++ Invoke op client key action ∷ []) key gone false new
first_step rows key gone client place op action new follow next number kept formed e may are unseen =
    first_followed rows formed key gone op client action may are unseen new kept
    (subst (λ (p : ℕ). FollowsFirst (state_of new) op.0 action p) (sym e) follow) (next ∙ ap (λ (p : ℕ). p + 1) (sym e)) number

pub begin_step : (rows : List Row) (key gone : List ℕ) (client place : ℕ) (op : OpId) (action : Action) (doubt : Bool) (old new : Held)
    → FollowsBegun (state_of new) op.0 action place (state_of old) → new.next ≡ place + 1 → new.number ≤ op.0 + 1 → (IsLost new → ⊥)
    → IsWellFormed rows
    → length rows ≡ place → MayFollow rows (Invoke op client key action) → AreReadsOf rows gone → IsFollowed rows key gone doubt old
    → IsFollowed (rows ++ Invoke op client key action ∷ []) key gone doubt new
begin_step rows key gone client place op action doubt old new follow next number kept formed e may are f =
    call_followed rows formed key gone doubt old f op client action may are new kept
    (subst (λ (p : ℕ). FollowsBegun (state_of new) op.0 action p (state_of old)) (sym e) follow) (next ∙ ap (λ (p : ℕ). p + 1) (sym e))
    number

-- ---- answers

pub write_step : (rows : List Row) (key gone value : List ℕ) (client place : ℕ) (op : OpId) (doubt : Bool) (old new : Held)
    → FollowsWriteEnded (state_of old) (state_of new) op.0 place → HasWriteEnded old place new → (IsLost new → ⊥) → IsWellFormed rows
    → length rows ≡ place
    → Contains rows (Invoke op client key (Write value)) → MayFollow rows (Respond op Written) → (Contains gone op.0 → ⊥)
    → IsFollowed rows key gone doubt old → IsFollowed (rows ++ Respond op Written ∷ []) key gone doubt new
write_step rows key gone value client place op doubt old new follow h kept formed e begun may stays f =
    write_followed rows formed key gone doubt old f op client value begun may stays new kept
    (subst (λ (p : ℕ). FollowsWriteEnded (state_of old) (state_of new) op.0 p) (sym e) follow) (h.next ∙ ap (λ (p : ℕ). p + 1) (sym e))
    h.number_is

module _ (most : ℕ) (rows : List Row) (key gone : List ℕ) (op : OpId) (client begin place : ℕ) (value : Option (List ℕ)) (doubt : Bool)
    (old new : Held) (kept : IsLost new → ⊥) (formed : IsWellFormed rows) (e : length rows ≡ place) (at : slice_get rows begin ≡ Some
    (Invoke op client key Read))
    (may : MayFollow rows (Respond op (Value value))) (up : AreGivenUp most rows gone) (stays : Contains gone op.0 → ⊥)
    (f : IsFollowed rows key gone doubt old) where
  abbrev after : List Row
  after = rows ++ Respond op (Value value) ∷ []

  here : (found : Judged) → JudgesRead (state_of old) (state_of new) begin value place found
      → JudgesRead (state_of old) (state_of new) begin value (length rows) found
  here found j = subst (λ (p : ℕ). JudgesRead (state_of old) (state_of new) begin value p found) (sym e) j

  later : HasReadEnded old begin value place new → new.next ≡ length rows + 1
  later h = h.next ∙ ap (λ (p : ℕ). p + 1) (sym e)

  pub read_passes : JudgesRead (state_of old) (state_of new) begin value place judged.Passes → HasReadEnded old begin value place new
      → IsFollowed after key gone doubt new
  read_passes j h = read_followed rows formed key gone doubt old f op client begin value at may stays new kept (later h) h.number_is
      (holds rows formed key gone doubt old f op client begin value at may stays new kept judged.Passes (here judged.Passes j))

  pub read_undecided : (one two : ℕ) → JudgesRead (state_of old) (state_of new) begin value place (judged.Undecided one two)
      → HasReadEnded old begin value place new → IsFollowed after key gone true new
  read_undecided one two j h = doubt_followed rows formed key gone doubt old f op client begin value at may stays new kept
      (later h) h.number_is
      (holds rows formed key gone doubt old f op client begin value at may stays new kept (judged.Undecided one two)
      (here (judged.Undecided one two) j))

  pub undecided_judged : (one two : ℕ) → IsVerdict (state_of old) begin value (judged.Undecided one two)
      → WasUndecided most after key place op one two
  undecided_judged one two verdict =
      subst (λ (p : ℕ). WasUndecided most after key p op one two) e (
        was_judged rows formed key gone doubt old f op client begin value at may stays new kept most up (judged.Undecided one two) verdict
            tt,
        refl,
      )

  -- refused at the place; until then the calls had an order, if there was no doubt
  abbrev IsRefusedAt : ℕ → Refusal → Type 0
  IsRefusedAt p refusal = (was : WasJudged most after key p (judged.Refused refusal)) × (doubt ≡ false → IsLinearizable was.before)

  pub read_refused : (refusal : Refusal) → JudgesRead (state_of old) (state_of new) begin value place (judged.Refused refusal)
      → IsVerdict (state_of old) begin value (judged.Refused refusal) → (was : WasJudged most after key place (judged.Refused refusal))
      × (doubt ≡ false → IsLinearizable was.before)
  read_refused refusal j verdict =
      subst (λ (p : ℕ). IsRefusedAt p refusal) e (
        was_judged rows formed key gone doubt old f op client begin value at may stays new kept most up (judged.Refused refusal) verdict
            (holds rows formed key gone doubt old f op client begin value at may stays new kept (judged.Refused refusal)
            (here (judged.Refused refusal) j)),
        ordered rows formed key gone doubt old f,
      )

-- ---- a read that is undecided

module _ (most : ℕ) (rows : List Row) (place : ℕ) (key gone : List ℕ) (old new : Watched) (was held : Held) (op : OpId) (one two : ℕ)
    (followed : old.state ≡ Some was) (state : new.state ≡ Some held) (doubt : new.is_doubtful ≡ true)
    (f : IsFollowed rows key gone true held) (judges : WasUndecided most rows key place op one two) (told : AreTold rows key new) where
  follows : FollowsState rows key gone new
  follows = subst (λ (o : Option Held). IfSome o (IsFollowed rows key gone new.is_doubtful)) (sym state)
      (subst (λ (b : Bool). IsFollowed rows key gone b held) (sym doubt) f)

  ended_by : (b : Bool) → old.is_doubtful ≡ b → HasEnded most rows place key gone old new (first_doubt b op one two)
  ended_by false e = ((follows, told), subst IsSome (sym state) refl, doubt, judges)
  ended_by true e = (
    (follows, told),
    record {
      doubt = doubt ∙ sym e;
      refused = λ none. absurd (none-some was (sym none ∙ followed));
      followed = λ none. absurd (none-some held (sym none ∙ state));
    },
  )

  pub undecided_ended : (found : Option Finding) → found ≡ first_doubt old.is_doubtful op one two
      → HasEnded most rows place key gone old new found
  undecided_ended found e = subst (HasEnded most rows place key gone old new) (sym e) (ended_by old.is_doubtful refl)

-- ---- a read that is given up

pub given_up_step : (rows : List Row) (key gone : List ℕ) (op : OpId) (client begin : ℕ) (doubt : Bool) (old new : Held)
    → ((IsLost old → ⊥) → FollowsWithout (state_of old) (state_of new) begin old.next) → ((IsLost old → ⊥) → HasGivenUp old begin new)
    → new.is_lost ≡ old.is_lost → IsWellFormed rows → slice_get rows begin ≡ Some (Invoke op client key Read)
    → (HasResponse rows op → ⊥) → (Contains gone op.0 → ⊥) → IsFollowed rows key gone doubt old
    → IsFollowed rows key (op.0 ∷ gone) doubt new
given_up_step rows key gone op client begin doubt old new follow held lost formed at pending stays f =
    let h = held f.kept in
    given_up_followed rows formed key gone doubt old f op client begin at pending stays new (λ l. f.kept (sym lost ∙ l)) (follow f.kept)
    h.next h.number_is
