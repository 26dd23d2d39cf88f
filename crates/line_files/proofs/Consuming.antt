-- Bytes that a reader gives, one block after another, and lines that waited.
use Rattle.std.proofs.Common.{ℕ, ◌≡◌, ◌+◌, List, Option, None, Result, Ok, Err, arith}
use Rattle.std.specs.Prelude.{IfOk, IfErr}
use Rattle.std.specs.Io.KnownBytes.{IsAtEnd}
use Rattle.counted_devices.specs.DeviceStates.{DeviceStates}
use Rattle.counted_devices.specs.Deliveries.{Delivers, Holds, HoldsAll}
use Rattle.counted_devices.specs.FirstFaults.{LineRules, IsUnderWay, StopsFrom, faults_by}
use Rattle.counted_devices.specs.ReadFaults.{FailsFrom}
use Rattle.counted_devices.specs.declared.read_fault.ReadFault.{ReadFault}
use Rattle.counted_devices.proofs.Delivering.{stops_late}
use Rattle.line_files.specs.declared.feed.Feed.{Feed}
use Rattle.line_files.specs.Ahead.{BecomesFeed}
use Rattle.line_files.specs.Feeds.{StandsForLines}

module _ {L Contents : Type 0} (rules : LineRules L) (Reads : List (List ℕ) → Contents → Type 0) where
  -- the reader failed at the line under way
  pub Holds-device : ((lines : List (List ℕ)) (contents : Contents) → Reads lines contents → rules.AreSound lines) → (a c : Option (List ℕ)) (feed : Feed Contents L) (number : ℕ) → Holds (StandsForLines Reads) a c feed → (feed.fault ≡ None → number ≡ feed.progress.lines + 1) → Delivers a c (λ bytes. IsUnderWay (faults_by rules) bytes number)
  Holds-device sound a c feed number h line = record {
    bytes = h.bytes;
    given = h.given;
    fact = record {
      lines = h.fact.lines;
      rest = feed.rest.items;
      splits = h.fact.splits;
      short = h.fact.short;
      sound = sound h.fact.lines feed.progress.contents h.fact.at.made;
      counted = omega (arith, line h.fact.sound, h.fact.at.counted);
    };
  }

  module _ (P : List ℕ → Type 0) (reader : DeviceStates) where
    -- the feed, when the lines that waited are read
    pub settled_holds : (r : Result (Feed Contents L) (ReadFault L)) → Delivers reader.old reader.new P → IsAtEnd reader.new → ((bytes : List ℕ) → P bytes → BecomesFeed rules Reads bytes r) → IfOk r (λ feed. HoldsAll (StandsForLines Reads) reader feed)
    settled_holds (Ok feed) h e becomes = (record { bytes = h.bytes; given = h.given; fact = becomes h.bytes h.fact }, e)
    settled_holds (Err fault) h e becomes = tt

    -- a fault of a line that had waited
    pub settled_fault : (r : Result (Feed Contents L) (ReadFault L)) → Delivers reader.old reader.new P → ((bytes : List ℕ) → P bytes → BecomesFeed rules Reads bytes r) → IfErr r (λ fault. StopsFrom (faults_by rules) reader fault × FailsFrom reader fault)
    settled_fault (Ok feed) h becomes = tt
    settled_fault (Err fault) h becomes = stops_late (faults_by rules) reader fault P h becomes
