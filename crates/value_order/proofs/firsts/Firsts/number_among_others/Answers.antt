use Rattle.std.proofs.Common.{ℕ, Some, Option, inr, sym, ◌∙◌, ap}
use Rattle.std.specs.Borrow.{Bor}
use Rattle.std.specs.Option.{option_copied}
use Rattle.std.proofs.lemmas.Map.Text.{btree_map_updates_str}
use Rattle.value_order.proofs.KnownFirsts.{first_itself, none_below, firsts_known, firsts_other, not_copied}
use Rattle.value_order.proofs.firsts.Firsts.number_among_others.Goals as goal

pub returns-in-Some-clause-kept : goal.returns-in-Some-clause-kept
returns-in-Some-clause-kept c =
    let value = c.args.value.now in
    let has = sym c.get.ensures.value ∙ ap (λ (o : Option (Bor ℕ)). option_copied o) c.in-Some.is in
    let first = (c.requires.firsts.right value c.in-Some.first.now has).0 in
    firsts_known c.args.part.now c.args.i c.args.self.now.slots.items c.args.self.now.others c.requires.firsts value c.requires.writes c.in-Some.first.now first (inr has)

pub returns-clause-first : goal.returns-clause-first
returns-clause-first c =
    let value = c.args.value.now in
    first_itself c.args.part.now c.args.i value c.requires.writes (none_below c.args.part.now c.args.i c.args.self.now.slots.items c.args.self.now.others c.requires.firsts value c.requires.full.1 (λ k has. not_copied c.get.result c.in_default.not-Some k (c.get.ensures.value ∙ has)))

pub returns-clause-kept : goal.returns-clause-kept
returns-clause-kept c =
    let value = c.args.value.now in
    let others = c.args.self.now.others in
    firsts_other c.args.part.now c.args.i c.args.self.now.slots.items others c.requires.firsts value c.requires.writes c.insert.new.self (λ k has. not_copied c.get.result c.in_default.not-Some k (c.get.ensures.value ∙ has)) c.requires.full.0 c.requires.full.1
    (λ v. btree_map_updates_str value others c.insert.new.self (Some c.args.i) c.in_ok-insert.ensures.updates v)
