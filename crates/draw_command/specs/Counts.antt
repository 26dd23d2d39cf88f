-- How many calls a key has, and of how many clients.
use Rattle.std.specs.Prelude.{ℕ, ◌≡◌, List, Contains, count_by, is_none, length, map}
use Rattle.recorder.specs.declared.part.Call.{Call}
use Rattle.scenes.specs.Overlaps.{IsMostAtOnce}
use Rattle.scenes.specs.Scenes.{IsRisingListOf}
use Rattle.draw_command.specs.declared.counts.KeyCounts.{KeyCounts}

-- so many clients have calls among these
pub record IsClientCount (calls : List Call) (count : ℕ) : Type 0 where
  pub clients : List ℕ
  pub each_once : IsRisingListOf (λ n. Contains (map (λ call. call.client) calls) n) clients
  pub is : count ≡ length clients

-- the counts of a key's calls: all of them, their clients, the pending ones, and how many of them
-- are under way at once at most
pub record AreCountsOf (part : List Call) (counts : KeyCounts) : Type 0 where
  pub calls : counts.calls ≡ length part
  pub clients : IsClientCount part counts.clients
  pub pending : counts.pending ≡ count_by (λ call. is_none call.response) part
  pub at_once : IsMostAtOnce part counts.at_once
