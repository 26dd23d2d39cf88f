-- Seats: what a client knows of its calls and of the halls that they were made in.
use Rattle.std.specs.Prelude.{ℕ, ◌≡◌, ◌<◌, ◌≤◌, ◌+◌, Bool, true, false, List, [], ◌∷◌, ◌++◌, Option}
use Rattle.std.specs.Prelude.{Some, None, length, slice_get, slice_set, unwrap_or, nat_le}
use Rattle.std.specs.Prelude.{if◌then◌else◌}
use Rattle.tag.specs.declared.actions.Action.{Action}
use Rattle.tag.specs.declared.actions.Returned.{Returned}
use Rattle.tag.specs.declared.actions.Returned.TheVariants.{Value, Written}
use Rattle.recorder.specs.declared.part.Response.{Response}
use Rattle.recorder.specs.declared.row.Row.{Row}
use Rattle.recorder.specs.declared.row.Row.TheVariants.{Respond}
use Rattle.world_steps.specs.Lasting.{Grows}
use Rattle.hall_lock.specs.Turns.{AreRecorded, HasNoCall, ClientView}
use Rattle.recorder.specs.Logs.{AreAnswered, IsLog, of_hall}
use Rattle.seats.specs.Receipts.{Receipt}
use Rattle.recorder.specs.declared.log_entry.Entry.{Entry}

-- what contracts see of a seat: its store, its client, whether it makes no more calls, its calls,
-- and by hall the rows that its pass has seen, and below which place its calls and all that it met
-- stand
pub record Seat : Type 0 where
  pub store : ℕ
  pub client : ℕ
  pub is_spent : Bool
  pub log : List Entry
  pub passes : List ClientView
  pub seen : List ℕ

-- the entry's rows stand below that place
pub record StandsBelow (place : ℕ) (entry : Entry) : Type 0 where
  pub invoked : entry.invoked < place
  pub answered : (response : Response) → entry.response ≡ Some response → response.place < place

-- the pass is the client's, the rows that it has seen are the record of a world that steps reach,
-- and the entries of its hall are the client's log in these rows
pub record IsOwnPass (s : Seat) (hall : ℕ) (pass : ClientView) : Type 0 where
  pub client : pass.client ≡ s.client
  pub recorded : AreRecorded pass.rows
  pub log : IsLog pass.rows s.client (of_hall hall s.log)

-- what holds of every seat: each pass is its client's own, all entries are answered unless it is
-- spent, and their rows stand below the places that it has seen
pub record IsSeat (s : Seat) : Type 0 where
  pub halls : length s.seen ≡ length s.passes
  pub own : (hall : ℕ) (pass : ClientView) → slice_get s.passes hall ≡ Some pass
      → IsOwnPass s hall pass
  pub answered : s.is_spent ≡ false → AreAnswered s.log
  pub below : (hall place k : ℕ) (entry : Entry) → slice_get s.seen hall ≡ Some place
      → slice_get (of_hall hall s.log) k ≡ Some entry → StandsBelow place entry

-- the rows end with this one
abbrev pub EndsWith : List Row → Row → Type 0
EndsWith rows row = (front : List Row) × (rows ≡ front ++ row ∷ [])

-- below which place of that hall's record the seat's calls and all that it met stand; 0 for a hall
-- that it lacks
abbrev pub seen_in : Seat → ℕ → ℕ
seen_in s hall = unwrap_or (slice_get s.seen hall) 0

-- what a read's answer gives; a write gives none
abbrev pub value_of : Returned → Option (List ℕ)
value_of (Value value) = value
value_of Written = None

-- the entry is of that call, which began after all that the seat had seen of that hall
pub record IsEntryOf (old : Seat) (hall : ℕ) (key : List ℕ) (action : Action) (entry : Entry)
    : Type 0 where
  pub hall_is : entry.hall ≡ hall
  pub key_is : entry.key ≡ key
  pub action_is : entry.action ≡ action
  pub later : seen_in old hall ≤ entry.invoked

-- a call of the seat was answered: the log has one entry more, for it; and the rows that the pass
-- has seen grew, and end with the response
pub record Calls (old : Seat) (hall : ℕ) (key : List ℕ) (action : Action) (entry : Entry)
    (response : Response) (new : Seat) : Type 0 where
  pub before : ClientView
  pub after : ClientView
  pub there : slice_get old.passes hall ≡ Some before
  pub is : new ≡ record old {
    log = old.log ++ entry ∷ [];
    passes = slice_set old.passes hall after;
    seen = slice_set old.seen hall (response.place + 1);
  }
  pub of : IsEntryOf old hall key action entry
  pub answered : entry.response ≡ Some response
  pub ordered : entry.invoked < response.place
  pub grown : Grows before.rows after.rows
  pub last : EndsWith after.rows (Respond entry.op response.returned)

-- a call of the seat began and isn't answered: the log has one entry more, pending; the client is
-- stopped in that hall, and the seat is spent
pub record LeavesPending (old : Seat) (hall : ℕ) (key : List ℕ) (action : Action) (entry : Entry)
    (new : Seat) : Type 0 where
  pub before : ClientView
  pub after : ClientView
  pub there : slice_get old.passes hall ≡ Some before
  pub is : new ≡ record old {
    is_spent = true;
    log = old.log ++ entry ∷ [];
    passes = slice_set old.passes hall after;
    seen = slice_set old.seen hall (entry.invoked + 1);
  }
  pub of : IsEntryOf old hall key action entry
  pub pending : entry.response ≡ None
  pub grown : Grows before.rows after.rows
  pub stopped : after.is_stopped ≡ true

-- each pass has seen the rows that it had seen before, or more
abbrev pub HaveGrown : List ClientView → List ClientView → Type 0
HaveGrown old new = (hall : ℕ) (before : ClientView) → slice_get old hall ≡ Some before
    → (after : ClientView) × (slice_get new hall ≡ Some after) × Grows before.rows after.rows

-- a call of the seat didn't begin: all is as before, but its passes may have seen more rows
pub record DidNotBegin (old new : Seat) : Type 0 where
  pub store : new.store ≡ old.store
  pub client : new.client ≡ old.client
  pub is_spent : new.is_spent ≡ old.is_spent
  pub log : new.log ≡ old.log
  pub seen : new.seen ≡ old.seen
  pub grown : HaveGrown old.passes new.passes

-- the greater of two numbers
abbrev pub greater : ℕ → ℕ → ℕ
greater a b = if nat_le a b then b else a

-- the seat met the receipt, which is of its store and of a hall that it has: it has seen the
-- response besides what it had seen
pub record HasMet (old : Seat) (receipt : Receipt) (new : Seat) : Type 0 where
  pub store : receipt.store ≡ old.store
  pub there : receipt.hall < length old.seen
  pub is : new ≡ record old {
    seen = slice_set old.seen receipt.hall
        (greater (seen_in old receipt.hall) (receipt.place + 1));
  }

-- the receipt is of another store, or of a hall that the seat lacks
abbrev pub IsForeign : Seat → Receipt → Type 0
IsForeign s receipt = receipt.store ≡ s.store → length s.seen ≤ receipt.hall

-- the pass is of a client that has no call yet and isn't stopped, and the rows that it has seen are
-- the record of a world that steps reach
pub record IsFresh (name : ℕ) (pass : ClientView) : Type 0 where
  pub client : pass.client ≡ name
  pub running : pass.is_stopped ≡ false
  pub recorded : AreRecorded pass.rows
  pub unused : HasNoCall name pass.rows

-- each of the passes is fresh, and of that client
abbrev pub AreFresh : ℕ → List ClientView → Type 0
AreFresh client passes =
    (k : ℕ) (pass : ClientView) → slice_get passes k ≡ Some pass → IsFresh client pass

-- none of these places is above 0
abbrev pub AreZero : List ℕ → Type 0
AreZero places = (hall : ℕ) → unwrap_or (slice_get places hall) 0 ≡ 0

-- the client of each of the passes is stopped in the hall of the pass
abbrev pub AreStopped : List ClientView → Type 0
AreStopped passes =
    (k : ℕ) (pass : ClientView) → slice_get passes k ≡ Some pass → pass.is_stopped ≡ true
