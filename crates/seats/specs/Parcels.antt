-- What parcels do to a hall: a request that is sent, its delivery, and its reply.
use Rattle.std.specs.Prelude.{ℕ, ◌≡◌, ◌≤◌, List, Result, Ok, Err}
use Rattle.tag.specs.declared.numbers.OpId.{OpId}
use Rattle.recorder.specs.declared.row.Row.{Row}
use Rattle.world_steps.specs.declared.effect.Effect.{Effect}
use Rattle.world_steps.specs.declared.effect.Effect.TheVariants as effect
use Rattle.world_steps.specs.declared.refusal.Refusal.{Refusal}
use Rattle.world_steps.specs.declared.step.Step.TheVariants as step
use Rattle.hall_lock.specs.Turns.{ClientView, ServesFlight, ServesStep, TakesFlight, TakesTurn}
use Rattle.seats.specs.declared.gate.Pass.{Pass}
use Rattle.seats.specs.declared.gate.Pass.TheVariants as answer
use Rattle.seats.specs.declared.gate.Place.{Place}
use Rattle.seats.specs.declared.gate.Place.TheVariants as place
use Rattle.seats.specs.declared.replicas.Report.{Report}
use Rattle.seats.specs.declared.replicas.Report.TheVariants as report

-- how many parcels a flight has that was to be doubled: one, if that was refused
abbrev pub parcels_after : Result Effect Refusal → ℕ
parcels_after (Ok effect) = 2
parcels_after (Err why) = 1

-- what the gate's answer makes of a request's flight, and how many parcels of it are sent: `Go`,
-- one; `Drop`, none, and one turn loses the flight; `Twice`, two, and one turn doubles it
abbrev pub RequestMeetsGate : Pass → ClientView → ℕ → ℕ → ClientView → Type 0
RequestMeetsGate answer.Go old flight parcels new = (new ≡ old) × (parcels ≡ 1)
RequestMeetsGate answer.Drop old flight parcels new =
    ((result : Result Effect Refusal) × TakesTurn old (step.Lose flight) result new) × (parcels ≡ 0)
RequestMeetsGate answer.Twice old flight parcels new = (result : Result Effect Refusal)
    × TakesTurn old (step.Repeat flight) result new × (parcels ≡ parcels_after result)

-- the client's request to one of so many replicas, of a call in that hall, where the gate answers
-- so: there is no such replica, and no turn; or the send was refused; or it was sent, and its
-- flight met what the gate answers of it
pub data SendsRequest (Answers : Place → Pass → Type 0) (replicas hall : ℕ) (call : OpId)
    (old : ClientView) (replica : ℕ) (new : ClientView) : Type 0 where
  NoReplica : replicas ≤ replica → new ≡ old
      → SendsRequest Answers replicas hall call old replica new
  Refused : (why : Refusal) → TakesTurn old (step.Send old.client replica) (Err why) new
      → SendsRequest Answers replicas hall call old replica new
  Sent : (flight parcels : ℕ) (middle : ClientView) (answer : Pass)
      → TakesTurn old (step.Send old.client replica) (Ok (effect.Sent flight)) middle
      → Answers (place.Request hall call replica) answer
      → RequestMeetsGate answer middle flight parcels new
      → SendsRequest Answers replicas hall call old replica new

-- one turn, in which the flight was delivered to the client or wasn't
abbrev pub IsDelivery : ClientView → ℕ → ClientView → Type 0
IsDelivery old flight new = (result : Result Effect Refusal) × TakesFlight old flight result new

-- what a report brings the client: the delivery of the reply that it names, twice if it came twice
abbrev pub HearsReport : Report → ClientView → ClientView → Type 0
HearsReport report.Blank old new = new ≡ old
HearsReport (report.Reply flight) old new = IsDelivery old flight new
HearsReport (report.Twice flight) old new =
    (middle : ClientView) × IsDelivery old flight middle × IsDelivery middle flight new

-- what a replica reports of a reply that was to be doubled
abbrev pub report_after : ℕ → Result Effect Refusal → Report
report_after flight (Ok effect) = report.Twice flight
report_after flight (Err why) = report.Reply flight

-- what the gate's answer makes of a reply's flight, and what is reported: `Go`, the reply; `Drop`,
-- none, and one turn loses the flight; `Twice`, the reply twice, and one turn doubles the flight
abbrev pub ReplyMeetsGate : Pass → List Row → ℕ → Report → List Row → Type 0
ReplyMeetsGate answer.Go old flight told new = (new ≡ old) × (told ≡ report.Reply flight)
ReplyMeetsGate answer.Drop old flight told new =
    ((result : Result Effect Refusal) × ServesStep old (step.Lose flight) result new)
    × (told ≡ report.Blank)
ReplyMeetsGate answer.Twice old flight told new = (result : Result Effect Refusal)
    × ServesStep old (step.Repeat flight) result new × (told ≡ report_after flight result)

-- a replica's turns for a request's flight of a call in that hall, where the gate answers so: the
-- delivery was refused, and it reports so; or it was taken, and the reply's flight met what the
-- gate answers of it
pub data ServesRequest (Answers : Place → Pass → Type 0) (hall : ℕ) (call : OpId) (old : List Row)
    (replica flight : ℕ) (told : Report) (new : List Row) : Type 0 where
  Refused : (why : Refusal) → ServesFlight old replica flight (Err why) new → told ≡ report.Blank
      → ServesRequest Answers hall call old replica flight told new
  Answered : (reply : ℕ) (middle : List Row) (answer : Pass)
      → ServesFlight old replica flight (Ok (effect.Answered reply)) middle
      → Answers (place.Reply hall call replica) answer
      → ReplyMeetsGate answer middle reply told new
      → ServesRequest Answers hall call old replica flight told new
