use Rattle.std.proofs.Common.{sym}
use Rattle.kept_zones.specs.Overwriting.{IsOverwritten, Overwrites}
use Rattle.kept_writers.proofs.Overwriters.{none_by, over_fresh}
use Rattle.kept_writers.proofs.fresh.fresh_up_to.Goals as goal

pub returns-then-is_none : goal.returns-then-is_none
returns-then-is_none c =
    let zones = c.args.zones.now.zones in
    let over = c.in-Some.over in
    over_fresh c.args.ends.now.entries zones c.args.place over c.args.end c.in-Some.ensures (record {
      there = sym c.if-contains_key.ensures;
      fresh = none_by (IsOverwritten zones c.args.place over → ⊥) (λ w. Overwrites zones c.args.place w over) c.overwriter-then-contains_key.result c.if-is_none.ensures c.overwriter-then-contains_key.ensures;
    })
