-- On which keys the calls of a picture are.
use Rattle.std.specs.Prelude.{ℕ, List, [], Option, Some, None, slice_get}
use Rattle.recorder.specs.declared.row.Row.{Row}
use Rattle.recorder.specs.declared.row.Row.TheVariants.{Invoke}
use Rattle.recorder.specs.declared.part.Call.{Call}
use Rattle.pictures.specs.declared.keys.CallKeys.{CallKeys}
use Rattle.pictures.specs.declared.keys.CallKeys.TheVariants as keys
use Rattle.pictures.specs.declared.style.TheConstants.{ALL_KEYS}

-- the key of the call that the row begins, if it begins one
abbrev pub begun_on : Option Row → Option (List ℕ)
begun_on (Some (Invoke op client key action)) = Some key
begun_on row = None

-- the key that a call of these rows is on
abbrev pub key_of : CallKeys → List Row → Call → Option (List ℕ)
key_of (keys.One key) rows call = Some key.now
key_of keys.Recorded rows call = begun_on (slice_get rows call.invoked)

-- what is said of its key in a call's bar: nothing where all calls are on one
abbrev pub said_key : CallKeys → List ℕ → List ℕ
said_key (keys.One k) key = []
said_key keys.Recorded key = key

-- what the title says of the keys
abbrev pub title_words : CallKeys → List ℕ
title_words (keys.One key) = key.now
title_words keys.Recorded = ALL_KEYS.now
