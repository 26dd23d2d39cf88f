-- Histories whose calls are all on one key.
use Rattle.std.specs.Prelude.{ℕ, ◌≡◌, ◌<◌, true, List, map}
use Rattle.recorder.specs.declared.row.Row.{Row}
use Rattle.recorder.specs.declared.row.Row.TheVariants.{Invoke, Note, Respond}
use Rattle.merged_keys.specs.declared.merging.TheConstants.{MERGED_KEY}
use Rattle.recorder.specs.Histories.{MayFollow, Recorded, call_count, is_invoke}

-- the row with its call on that key, if it begins one; any other row as it is
abbrev pub on_key : List ℕ → Row → Row
on_key key (Invoke op client own action) = Invoke op client key action
on_key key (Note op tag) = Note op tag
on_key key (Respond op returned) = Respond op returned

-- the history with all its calls on that key
abbrev pub merged_on : List ℕ → Recorded → Recorded
merged_on key history = record { rows = map (on_key key) history.rows; limit = history.limit }

-- the key on which calls are put
abbrev pub merged_key : List ℕ
merged_key = MERGED_KEY.now

-- the history with all its calls on one key
abbrev pub merged : Recorded → Recorded
merged history = merged_on merged_key history

-- the row may follow the history's rows, and if it begins a call there is room for one
pub record CanFollow (history : Recorded) (row : Row) : Type 0 where
  pub follows : MayFollow history.rows row
  pub room : is_invoke row ≡ true → call_count history.rows < history.limit
