-- A step that leaves the state of a key, before or after another one.
use Rattle.std.proofs.Common.{ℕ, ◌≡◌, ◌≤◌, List, Option, Some, None, Bool, true, not, is_some, refl, IfSome, Result, Ok, Err, OnOk, sym, ◌∙◌, subst}
use Rattle.tag.specs.declared.numbers.OpId.{OpId}
use Rattle.recorder.specs.declared.row.Row.{Row}
use Rattle.monitored_key.specs.Held.{Held}
use Rattle.record_monitor.specs.declared.report.Finding.{Finding}
use Rattle.record_monitor.specs.declared.report.Finding.TheVariants.{EndedAfterAll, Refused, Undecided}
use Rattle.record_monitor.specs.declared.told.ToldCall.{ToldCall}
use Rattle.record_monitor.specs.declared.watched.Watched.{Watched}
use Rattle.record_monitor.specs.Ended.{HasEnded}
use Rattle.record_monitor.specs.Followed.{FollowsState, GoesOn, IsFollowed, IsNextAt, KeepsState}
use Rattle.record_monitor.specs.Told.{EndedAs}

pub ok_always : {T E P : Type 0} (r : Result T E) → P → OnOk r P
ok_always (Ok x) p = p
ok_always (Err e) p = tt

pub none_when : {X : Type 0} (o : Option X) (b : Bool) → is_some o ≡ not b → b ≡ true → o ≡ None
none_when None b e t = refl
none_when (Some x) b e t = absurd (cc (subst (λ (y : Bool). true ≡ not y) t e))

module _ (old new : Watched) (k : KeepsState old new) where
  pub state_kept : (rows : List Row) (key gone : List ℕ) → FollowsState rows key gone old → FollowsState rows key gone new
  state_kept rows key gone f =
      subst (λ (o : Option Held). IfSome o (IsFollowed rows key gone new.is_doubtful)) (sym k.state)
      (subst (λ (b : Bool). IfSome old.state (IsFollowed rows key gone b)) (sym k.doubt) f)

  pub next_kept : (place : ℕ) → IsNextAt old place → IsNextAt new place
  next_kept place n = subst (λ (o : Option Held). IfSome o (λ held. held.next ≤ place)) (sym k.state) n

pub goes_kept : (old mid new : Watched) → KeepsState mid new → GoesOn old mid → GoesOn old new
goes_kept old mid new k g = record {
  doubt = k.doubt ∙ g.doubt;
  refused = λ none. k.state ∙ g.refused none;
  followed = λ none. g.followed (sym k.state ∙ none);
}

pub goes_after : (old mid new : Watched) → KeepsState old mid → GoesOn mid new → GoesOn old new
goes_after old mid new k g = record {
  doubt = g.doubt ∙ k.doubt;
  refused = λ none. g.refused (k.state ∙ none);
  followed = λ none. sym k.state ∙ g.followed none;
}

pub ended_after : (most : ℕ) (rows : List Row) (place : ℕ) (key gone : List ℕ) (old mid new : Watched) → KeepsState old mid
    → (found : Option Finding) → HasEnded most rows place key gone mid new found → HasEnded most rows place key gone old new found
ended_after most rows place key gone old mid new k None h = (h.0, goes_after old mid new k h.1)
ended_after most rows place key gone old mid new k (Some (Undecided op one two)) h = h
ended_after most rows place key gone old mid new k (Some (Refused refusal)) h = (h.0, h.1 ∙ k.doubt, h.2, h.3, λ e. h.4 (k.doubt ∙ e))
ended_after most rows place key gone old mid new k (Some (EndedAfterAll op)) h = h

-- what holds of the answered call's number, client and begin holds of the call's
pub as_ended : (call read : ToldCall) (place : ℕ) → EndedAs call place read → (P : OpId → ℕ → ℕ → Type 0)
    → P read.op read.client read.begun → P call.op call.client call.begun
as_ended call read place e P h =
    subst (λ (op : OpId). P op call.client call.begun) e.number
    (subst (λ (client : ℕ). P read.op client call.begun) e.whose (subst (λ (begun : ℕ). P read.op read.client begun) e.at h))
