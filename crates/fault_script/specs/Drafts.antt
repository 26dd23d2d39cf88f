-- What the lines of a script made so far.
use Rattle.std.specs.Prelude.{ℕ, ◌≡◌, List, length}
use Rattle.fault_script.specs.declared.draft.Draft.{Draft}
use Rattle.fault_script.specs.Scripts.{SaidLine, ScriptLinesSay, opened_of, commands_of}

-- the draft is what those lines say
pub record IsDraft (saids : List SaidLine) (draft : Draft) : Type 0 where
  pub opened : draft.opened ≡ opened_of saids
  pub commands : draft.commands.items ≡ commands_of saids
  pub counted : draft.count ≡ length saids

-- the lines were read, and the draft is what they say
pub record Drafts (lines : List (List ℕ)) (draft : Draft) : Type 0 where
  pub saids : List SaidLine
  pub read : ScriptLinesSay lines saids
  pub drafted : IsDraft saids draft
