use Rattle.std.proofs.Common.{IfOk, ap, sym, ◌∙◌, subst}
use Rattle.monitored_key.specs.Held.{Held}
use Rattle.monitored_key.specs.Kept.{held_of}
use Rattle.monitored_key.specs.KeptZones.{HasAllZones}
use Rattle.monitored_key.proofs.monitored_key.MonitoredKey.zones.Goals as goal

pub returns-in-Some : goal.returns-in-Some
returns-in-Some c =
    subst (λ (held : Held). IfOk c.zone_list.result (λ zones. HasAllZones held zones.items))
    (sym (ap held_of c.in-Some.is) ∙ c.self.view_is) c.zone_list.ensures
