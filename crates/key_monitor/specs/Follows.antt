-- What is known of a key, and the calls that it follows.
use Rattle.std.specs.Prelude.{ℕ, ◌≡◌, List, Option}
use Rattle.recorder.specs.declared.part.Call.{Call}
use Rattle.tag_check.specs.Least.{HasNoPair}
use Rattle.value_order.specs.Faults.{IsLateNothing}
use Rattle.value_order.specs.Tables.{ReadsBy}
use Rattle.kept_families.specs.Continued.{Extends}
use Rattle.kept_zones.specs.Overwriting.{Known}
use Rattle.key_monitor.specs.Judged.{AreJudged}
use Rattle.key_monitor.specs.KeptWrites.{KeptWrite, AreWritesOf}
use Rattle.key_monitor.specs.Pending.{AreOpenAt}
use Rattle.key_monitor.specs.Shown.{IsFirstShow}
use Rattle.key_monitor.specs.ZonesOf.{AreZonesOf, NoneForgotten}

-- what is known of a key: its zones; by number its kept writes; the places at which open reads
-- began, each with the read's number; where a value was first shown
pub record KeyState : Type 0 where
  pub known : Known
  pub writes : ℕ → Option KeptWrite
  pub opens : ℕ → Option ℕ
  pub first : Option ℕ

-- the calls by the row are judged by the table, that is known of them, and no read of nothing is
-- late
pub record Follows (part : List Call) (source : ℕ → Option ℕ) (row : ℕ) (state : KeyState) : Type 0
  where
    pub judged : AreJudged part source row
    pub zones : AreZonesOf part (ReadsBy part source) row state.known
    pub writes : AreWritesOf part (ReadsBy part source) row state.known state.writes
    pub opens : AreOpenAt part row state.opens
    pub show : IsFirstShow part state.first
    pub in_time : HasNoPair part IsLateNothing

-- and nothing that is forgotten is known
pub record FollowsKept (part : List Call) (source : ℕ → Option ℕ) (row : ℕ) (state : KeyState) :
    Type 0 where
  pub follows : Follows part source row state
  pub kept : NoneForgotten part (ReadsBy part source) row state.known

-- by a table with an entry more, of that read and the write of that number, the state follows the
-- part by the later row
pub record FollowsByEntry (part : List Call) (source : ℕ → Option ℕ) (row place : ℕ) (read : Call)
    (op : ℕ) (state : KeyState) : Type 0 where
  pub later : ℕ → Option ℕ
  pub extends : Extends row part source later
  pub write : Call
  pub number : write.op.0 ≡ op
  pub reads : ReadsBy part later write read
  pub follows : Follows part later place state
