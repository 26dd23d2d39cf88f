-- What a diagram of messages shows of replicas: what they hold after each put, and when they are
-- down.
use Rattle.std.specs.Prelude.{ℕ, ◌==◌, ◌&&◌, Bool, true, false, List, [], ◌∷◌, ◌++◌}
use Rattle.std.specs.Prelude.{Option, None, Some, slice_get, is_none}
use Rattle.std.specs.Prelude.{if◌then◌else◌}
use Rattle.std.specs.Ordering.{is_lt}
use Rattle.tag.specs.Tags.{tag_cmp}
use Rattle.replica.specs.Pairs.{pair_of}
use Rattle.replica.specs.declared.requests.Request.{Request}
use Rattle.replica.specs.declared.requests.Request.TheVariants.{Put}
use Rattle.network.specs.Flights.{message_of}
use Rattle.network.specs.declared.messages.Message.{Message}
use Rattle.network.specs.declared.messages.Message.TheVariants.{ToReplica}
use Rattle.world_steps.specs.declared.nodes.Node.{Node}
use Rattle.world_steps.specs.declared.step.Step.{Step}
use Rattle.world_steps.specs.declared.step.Step.TheVariants as step
use Rattle.world_steps.specs.declared.system.System.{System}
use Rattle.message_scenes.specs.Lists.{change_first}
use Rattle.message_scenes.specs.declared.replicas.Holding.{Holding}
use Rattle.message_scenes.specs.declared.replicas.DownTime.{DownTime}

-- what the replica of that number holds after a put: it takes a pair of a greater tag than its own,
-- and else keeps its own
abbrev pub holding_by : ℕ → ℕ → Option Node → Request → Option Holding
holding_by row number (Some node) (Put op key tag value) =
    if is_lt (tag_cmp (pair_of node.replica.pairs key).tag tag)
    then Some (record {
      row = row;
      replica = number;
      key = key;
      tag = tag;
      value = value;
      takes = true;
    })
    else Some (record {
      row = row;
      replica = number;
      key = key;
      tag = (pair_of node.replica.pairs key).tag;
      value = (pair_of node.replica.pairs key).value;
      takes = false;
    })
holding_by row number _ request = None

-- the same, by a message that arrives
abbrev pub holding_with : ℕ → System → Option Message → Option Holding
holding_with row s (Some (ToReplica number request)) =
    holding_by row number (slice_get s.nodes number) request
holding_with row s _ = None

-- what a replica holds after the put that comes by the step of a row, which is taken in the system
unfoldable pub holding_of : ℕ → System → Step → Option Holding
holding_of row s (step.Deliver flight) = holding_with row s (message_of s.pool.flights flight)
holding_of row s other = None

-- whether it is a time for which the replica is down, and isn't over
abbrev pub is_down_time_of : ℕ → DownTime → Bool
is_down_time_of number time = time.replica == number && is_none time.starts

-- the time, over
abbrev pub over : ℕ → DownTime → DownTime
over row time = record time { starts = Some row }

-- the times for which replicas are down, after the step of a row
unfoldable pub downs_after : ℕ → Step → List DownTime → List DownTime
downs_after row (step.StopReplica number) times =
    times ++ record { replica = number; stops = row; starts = None } ∷ []
downs_after row (step.StartReplica number) times =
    change_first (is_down_time_of number) (over row) times
downs_after row other times = times
