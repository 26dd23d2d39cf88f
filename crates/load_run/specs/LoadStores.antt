-- The store that a load is run in.
use Rattle.std.specs.Prelude.{ℕ}
use Rattle.tag.specs.Limits.{call_limit}
use Rattle.node_threads.specs.Stores.{Store}
use Rattle.node_threads.specs.declared.config.StoreConfig.{StoreConfig}
use Rattle.load.specs.declared.load.LoadOptions.{LoadOptions}
use Rattle.world_steps.specs.Configs.{Config}
use Rattle.load_run.specs.Passes.{ParcelCounts}

-- how many messages may be sent in each hall of a load's store
abbrev pub load_messages : ℕ
load_messages = 4000000

-- what is fixed of each hall's world: as many calls as a record may have
abbrev pub world_of : LoadOptions → Config
world_of load = record {
  quorums = load.quorums;
  reads = load.reads;
  calls = call_limit;
  flights = load_messages;
}

-- how the store that is started is configured
abbrev pub settings_of : LoadOptions → StoreConfig
settings_of load =
    record { store = 1; world = world_of load; rounds = load.rounds; halls = load.halls }

-- the counts of its gate are the load's
abbrev pub gate_of : LoadOptions → ParcelCounts
gate_of load = record { drop = load.drop; double = load.double }

-- the store that is started
abbrev pub store_of : LoadOptions → Store ParcelCounts
store_of load = record { config = settings_of load; gate = gate_of load }
