-- Why a load isn't run to its end, where its store isn't started, or a caller has no seat.
use Rattle.node_threads.specs.declared.errors.JoinError.{JoinError}
use Rattle.node_threads.specs.declared.errors.JoinError.TheVariants as join
use Rattle.node_threads.specs.declared.errors.StartError.{StartError}
use Rattle.node_threads.specs.declared.errors.StartError.TheVariants as start
use Rattle.load_run.specs.declared.error.LoadError.{LoadError}
use Rattle.load_run.specs.declared.error.LoadError.TheVariants as load

-- the store isn't started
abbrev pub error_of_start : StartError → LoadError
error_of_start start.Memory = load.Memory
error_of_start start.Thread = load.Thread

-- a caller has no seat
abbrev pub error_of_join : JoinError → LoadError
error_of_join join.ClientTaken = load.ClientTaken
error_of_join join.Memory = load.Memory
