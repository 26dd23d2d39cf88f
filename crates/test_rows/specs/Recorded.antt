-- What the rows of a history say of their calls.
use Rattle.std.specs.Prelude.{ℕ, ◌≡◌}
use Rattle.recorder.specs.declared.row.Row.{Row}
use Rattle.recorder.specs.declared.row.Row.TheVariants.{Invoke, Note, Respond}
use Rattle.test_rows.specs.declared.recorded.RowSaid.{RowSaid}
use Rattle.test_rows.specs.declared.recorded.RowSaid.TheVariants.{Invoked, Noted, Answered}

-- that is the number of the row's call, and what the row says of it
abbrev pub SaysOf : Row → ℕ → RowSaid → Type 0
SaysOf (Invoke op client key action) number (Invoked who on what) =
    (number ≡ op.0) × (who ≡ client) × (on.now ≡ key) × (what.now ≡ action)
SaysOf (Note op tag) number (Noted said) = (number ≡ op.0) × (said ≡ tag)
SaysOf (Respond op returned) number (Answered said) = (number ≡ op.0) × (said.now ≡ returned)
SaysOf row number said = ⊥
