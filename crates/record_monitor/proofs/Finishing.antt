-- What is kept after a row.
use Rattle.std.proofs.Common.{ℕ, ◌≡◌, ◌<◌, ◌≤◌, ◌+◌, ◌^◌, inl, inr, List, [], Option, Some, length, ap, sym, ◌∙◌, subst, refl, arith}
use Rattle.std.specs.List.{slice_get, Contains}
use Rattle.std.proofs.lemmas.Bool.{cases_eq}
use Rattle.std.proofs.lemmas.Option.{none-some, slice_get_within}
use Rattle.tag.specs.declared.actions.Action.TheVariants.{Read}
use Rattle.tag.proofs.Lists.{Contains-slice_get}
use Rattle.recorder.specs.declared.row.Row.{Row}
use Rattle.recorder.specs.declared.row.Row.TheVariants.{Invoke, Respond}
use Rattle.recorder.specs.Histories.{call_count, IsWellFormed}
use Rattle.recorder.specs.Records.{AreFirstSeen}
use Rattle.open_calls.specs.Open.{Open}
use Rattle.open_calls.specs.Rows.{KeepsOpen}
use Rattle.monitored_key.specs.Maps.{Lacks, Sets, entry_at}
use Rattle.record_monitor.specs.declared.taken.Begun.{Begun}
use Rattle.record_monitor.specs.declared.taken.Taken.{Taken}
use Rattle.record_monitor.specs.declared.watched_keys.WatchedKeys.{WatchedKeys}
use Rattle.record_monitor.specs.Taken.{AreBegun, KeepsKeys, KeepsRows}
use Rattle.record_monitor.specs.Waiting.{AreRecent, AreWaiting, IsWaiting, WasPendingFor}
use Rattle.record_monitor.specs.Watched.{AreWatched}
use Rattle.record_monitor.proofs.Bounding.{few_rows}
use Rattle.record_monitor.proofs.FirstSeen.{AreFirstSeen-none}

pub at_place : (place : ℕ) (rows : List Row) (gone : List ℕ) (taken : Taken) → KeepsKeys place rows gone taken
    → KeepsKeys taken.place rows gone taken
at_place place rows gone taken k = subst (λ (n : ℕ). KeepsKeys n rows gone taken) (sym k.at) k

pub small_place : (rows after : List Row) (gone : List ℕ) (taken : Taken) → IsWellFormed rows → call_count rows ≤ 2 ^ 32
    → KeepsKeys (length rows) after gone taken → taken.place < 2 ^ 63
small_place rows after gone taken formed few k = omega (arith, few_rows rows formed few, k.at)

pub kept : (rows : List Row) (gone : List ℕ) (taken : Taken) (numbers : List (List ℕ)) (calls : Open Begun)
    → KeepsKeys (length rows) rows gone taken → taken.calls ≡ calls → taken.keys.numbers ≡ numbers → KeepsOpen rows calls
    → AreBegun rows numbers calls → call_count rows ≤ 2 ^ 32 → KeepsRows rows taken
kept rows gone taken numbers calls k same are opens begun few = record {
  gone = gone;
  keys = k;
  opens = subst (λ (c : Open Begun). KeepsOpen rows c) (sym same) opens;
  begun = subst (λ (ks : List (List ℕ)). AreBegun rows ks taken.calls) (sym are)
      (subst (λ (c : Open Begun). AreBegun rows numbers c) (sym same) begun);
  few = few;
}

-- the row begins a read
pub recent_more : (most place number : ℕ) (reads new : ℕ → Option ℕ) → AreRecent most place reads → Sets reads place number new
    → AreRecent most place new
recent_more most place number reads new recent sets b n e = elim (cases_eq b place) [
  | inl same ↦ omega (arith, same)
  | inr apart ↦ recent b n (sym (sets.others b apart) ∙ e)
]

pub recent_without : (most place begin : ℕ) (reads new : ℕ → Option ℕ) → AreRecent most place reads → Lacks reads begin new
    → AreRecent most place new
recent_without most place begin reads new recent lacks b n e = elim (cases_eq b begin) [
  | inl same ↦ absurd (none-some n (sym lacks.here ∙ (ap new (sym same) ∙ e)))
  | inr apart ↦ recent b n (sym (lacks.others b apart) ∙ e)
]

pub overdue : (most : ℕ) (rows : List Row) (keys : List (List ℕ)) (gone : List ℕ) (begin number : ℕ)
    (w : IsWaiting rows keys gone begin number) → begin + most + 1 ≡ length rows → WasPendingFor most rows w.op
overdue most rows keys gone begin number w e = record {
  begin = begin;
  client = w.client;
  key = w.key;
  begins = w.begins;
  long = omega (arith, e);
  unanswered = λ place returned at. absurd (w.pending (returned, Contains-slice_get rows place (Respond w.op returned) at));
}

-- ---- no row

none_within : {X : Type 0} (xs : List X) (n : ℕ) (x : X) → xs ≡ [] → slice_get xs n ≡ Some x → ⊥
none_within {X = X} xs n x e at = absurd (omega (arith, slice_get_within [] n x (subst (λ (l : List X). slice_get l n ≡ Some x) e at)))

pub nothing_watched : (most : ℕ) (keys : WatchedKeys) → keys.numbers ≡ [] → keys.watched.items ≡ [] → keys.reports.items ≡ []
    → AreWatched most [] [] keys
nothing_watched most keys numbers watched reports = record {
  seen = subst (λ (ks : List (List ℕ)). AreFirstSeen [] ks) (sym numbers) AreFirstSeen-none;
  many = ap (λ l. length l) watched ∙ sym (ap (λ l. length l) numbers);
  each = λ n key w at_key at. absurd (none_within keys.numbers n key numbers at_key);
  reported = λ report there. absurd (omega (arith, (subst (λ l. Contains l report) reports there).1));
  ended = λ op there h. absurd (omega (arith, there.1));
}

pub nothing_waits : (keys : List (List ℕ)) (reads : List (ℕ × ℕ)) → reads ≡ [] → AreWaiting [] keys [] (entry_at reads)
nothing_waits keys reads none = record {
  each = λ begin number e. absurd (none-some number (sym (ap (λ (l : List (ℕ × ℕ)). entry_at l begin) none) ∙ e));
  all = λ begin op client key at pending stays. absurd (none_within [] begin (Invoke op client key Read) refl at);
}

pub nothing_recent : (most : ℕ) (reads : List (ℕ × ℕ)) → reads ≡ [] → AreRecent most 0 (entry_at reads)
nothing_recent most reads none begin number e =
    absurd (none-some number (sym (ap (λ (l : List (ℕ × ℕ)). entry_at l begin) none) ∙ e))

pub nothing_begun : (keys : List (List ℕ)) (calls : Open Begun) → KeepsOpen [] calls → AreBegun [] keys calls
nothing_begun keys calls opens op call at = absurd (omega (arith, (opens.each op call at).pending.invoked.1))
