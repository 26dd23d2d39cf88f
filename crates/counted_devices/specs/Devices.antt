-- What stands behind a count.
use Rattle.counted_devices.specs.declared.count_failures.Counting.{Counting}

-- the reader or the writer whose failures are counted
abbrev pub device : {T : Type 0} → Counting T → T
device counting = counting.inner
