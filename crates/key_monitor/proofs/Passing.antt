-- What a pass leaves.
use Rattle.std.proofs.Common.{ℕ, ◌≡◌, List, Option, Some, max}
use Rattle.recorder.specs.declared.part.Call.{Call}
use Rattle.value_order.specs.Tables.{ReadsBy}
use Rattle.kept_zones.specs.Overwriting.{Known, LacksZone, last_of, IsSpent, NoneSpent}
use Rattle.key_monitor.specs.Forgetting.{AreKnownAt, IsGone}
use Rattle.key_monitor.specs.ZonesOf.{AreZonesOf, NoneForgotten}
use Rattle.key_monitor.proofs.Meaning.{spent_forgotten, none_forgotten, without}

module _ (part : List Call) (source : ℕ → Option ℕ) (row place : ℕ) (old : Known) (k : AreKnownAt part source row place old) where
  pub all_kept : NoneSpent old place → NoneForgotten part (ReadsBy part source) row old
  all_kept none = none_forgotten part source row k.judged.sequence k.judged.sound k.judged.last k.judged.own k.judged.free old k.zones
      place k.opens none

  pub one_gone : (end last : ℕ) (new : Known) → last_of old.zones end ≡ Some last → IsSpent old place end
      → LacksZone old.zones end new.zones → new.floor ≡ max old.floor last
      → IsGone part source row end × AreZonesOf part (ReadsBy part source) row new
  one_gone end last new at spent lacks floor =
      let w = k.zones.each end last at in
      let f = spent_forgotten part source row k.judged.sequence k.judged.sound k.judged.free old k.zones w.0 place end last k.opens w.1
      spent in (
        record { write = w.0; last = last; zone = w.1; forgotten = f },
        without part source row k.judged.sequence k.judged.sound k.judged.own old k.zones w.0 end last w.1 f new lacks floor,
      )
