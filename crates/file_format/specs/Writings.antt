-- What came of a text that was written, by the writer's states before and after: all of it went
-- out, or a beginning of it.
use Rattle.std.specs.Prelude.{◌≡◌, List, ℕ}
use Rattle.std.specs.Io.KnownBytes.{Appends}
use Rattle.counted_devices.specs.declared.write_fault.WriteFault.{WriteFault}
use Rattle.counted_devices.specs.DeviceStates.{DeviceStates}
use Rattle.counted_devices.specs.Sendings.{AppendsPrefix, HasFailedBy, Leaves}

module _ (writer : DeviceStates) (text : List ℕ) where
  -- the text went out and nothing else, and no failure was counted
  pub record Writes : Type 0 where
    pub sent : Appends writer.old writer.new text
    pub counted : writer.failures_now ≡ writer.failures

  -- a beginning of the text went out, that rest of it waits, and no failure was counted
  pub record WritesBut (rest : List ℕ) : Type 0 where
    pub sent : Leaves writer.old writer.new text rest
    pub counted : writer.failures_now ≡ writer.failures

  -- a beginning of the text went out, and the fault is the device's only where a failure was
  -- counted
  pub record FailsWriting (why : WriteFault) : Type 0 where
    pub begun : AppendsPrefix writer.old writer.new text
    pub device : HasFailedBy why writer.failures writer.failures_now
