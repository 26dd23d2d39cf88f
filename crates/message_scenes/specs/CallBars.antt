-- Each call has one bar: the bars are those of the calls of the record, in the order of the calls.
use Rattle.std.specs.Prelude.{◌≡◌, Bool, true, false, List, [], ◌∷◌, filter, map}
use Rattle.recorder.specs.declared.row.Row.{Row}
use Rattle.recorder.specs.declared.row.Row.TheVariants.{Invoke}
use Rattle.message_scenes.specs.Tried.{Tried, took}
use Rattle.message_scenes.specs.declared.calls.CallBar.{CallBar}

-- the invocation that a bar shows: the call's number, client, key and action
abbrev pub invocation_of : CallBar → Row
invocation_of bar = Invoke bar.call bar.client bar.key bar.action

-- whether a row is that of an invocation
abbrev pub is_invocation : Row → Bool
is_invocation (Invoke op name key action) = true
is_invocation other = false

-- the record after what was tried; what was refused leaves it as it was
abbrev pub recorded_by : List Row → Tried → List Row
recorded_by rows (took t) = t.after.history.rows
recorded_by rows other = rows

-- the record after all that was tried; that before it, if there is nothing
abbrev pub recorded_after : List Row → List Tried → List Row
recorded_after rows [] = rows
recorded_after rows (one ∷ tried) = recorded_after (recorded_by rows one) tried

-- the bars show the invocations of the record, in its order
abbrev pub ShowCalls : List Row → List CallBar → Type 0
ShowCalls rows bars = map invocation_of bars ≡ filter is_invocation rows
