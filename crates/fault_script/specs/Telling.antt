-- What is said of a run under way.
use Rattle.std.specs.Prelude.{◌≡◌, ◌++◌}
use Rattle.script_runs.specs.Events.{Event}
use Rattle.fault_script.specs.ScriptRuns.{message_of}
use Rattle.fault_script.specs.declared.messages.Messages.{Messages}

-- the messages go on by what is said of what happens
abbrev pub TellsOn : Messages → Event → Messages → Type 0
TellsOn old event new = new.text.items ≡ old.text.items ++ message_of event
