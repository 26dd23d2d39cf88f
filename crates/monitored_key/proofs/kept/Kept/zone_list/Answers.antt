use Rattle.std.proofs.Common.{◌≡◌, rules, sym, subst}
use Rattle.std.proofs.lemmas.Map.Iter.{rest_all, rest_more}
use Rattle.std.specs.Map.Iter.{deref_pair}
use Rattle.monitored_key.specs.Kept.{seen}
use Rattle.monitored_key.proofs.Listing.{AreListed, all_listed, few_listed, next_listed}
use Rattle.monitored_key.proofs.kept.Kept.zone_list.Goals as goal

pub loop-number-init : goal.loop-number-init
loop-number-init c =
    let s = c.args.self.now in
    let list = c.in_ok-list.list.items in
    let e : c.into_iter-number-iterator.result ≡ s.writes.more.by_end.entries = search rules in
    subst (AreListed (seen s) list) (sym e) (few_listed s list c.in_ok-list.ensures)

pub loop-number-preserved : goal.loop-number-preserved
loop-number-preserved c =
    let s = seen c.args.self.now in
    let list = c.loop-number.list.items in
    let e = rest_more deref_pair c.loop-number.number-iterator c.next.new.self c.next.result (c.in-Some.field-0-0, c.in-Some.number)
    c.in-Some.is c.next.ensures.steps in
    let l = subst (AreListed s list) e c.loop-number.invariant in
    next_listed s list c.list_zone.new.list.items c.in-Some.field-0-0.now c.in-Some.number.now c.next.new.self l c.in_ok-list_zone.ensures

pub returns : goal.returns
returns c =
    let e = rest_all deref_pair c.loop-number.number-iterator c.next.new.self c.next.result c.in-None.is c.next.ensures.steps in
    all_listed (seen c.args.self.now) c.loop-number.list.items c.loop-number.number-iterator e c.loop-number.invariant
