use Rattle.std.proofs.Common.{◌∙◌}
use Rattle.monitored_key.specs.Kept.{seen}
use Rattle.monitored_key.proofs.Listing.{few_by, slot_kept, slot_zone}
use Rattle.monitored_key.proofs.kept.Kept.few_zones.Goals as goal

pub returns : goal.returns
returns c =
    let s = c.args.self.now in
    let first = c.list_slot.new.list.items in
    let list = c.list_slot-2.new.list.items in
    let one = c.few-first.ensures.first in
    let two = c.few-first.ensures.second in
    few_by s c.requires.fit list
    (λ n e zone z. slot_kept (seen s) c.few-first.result.1 first list c.in_ok-list_slot-2.ensures zone
    (slot_zone (seen s) c.few-first.result.0 c.new-list.result.items first c.in_ok-list_slot.ensures n (one ∙ e) zone z))
    (λ n e zone z. slot_zone (seen s) c.few-first.result.1 first list c.in_ok-list_slot-2.ensures n (two ∙ e) zone z)
