-- The rows stand in the table's body, and that below what stands above it.
use Rattle.std.proofs.Common.{ℕ, [], ◌∷◌, ◌+◌, List, Option, map, take, take_all, ap, subst, ◌∙◌}
use Rattle.std.proofs.lemmas.Result.{on_ok_weaker}
use Rattle.markup.specs.Markup.{Markup, both, element}
use Rattle.markup.specs.declared.names.AttributeName.TheVariants as name
use Rattle.markup.specs.declared.names.Element.TheVariants as tag
use Rattle.tag.specs.declared.numbers.OpId.{OpId}
use Rattle.parallel_keys.proofs.Fronts.{mapped_more}
use Rattle.judged_keys.specs.Judgements.{Judgement, judgement_of}
use Rattle.draw_command.specs.Making.{Adds}
use Rattle.draw_command.specs.Pages.{IsEach, IsFramed, IsRow, IsRowOf, table_front, table_size}
use Rattle.draw_command.specs.PicturedKeys.{faulty_in}
use Rattle.draw_command.specs.declared.words.TheConstants.{KEYS}
use Rattle.draw_command.proofs.Adding.{adds_after, adds_more, adds_none, adds_within, framed_twice, placed}
use Rattle.draw_command.proofs.Framing.{first_ones}
use Rattle.draw_command.proofs.table.add_table.Goals as goal

pub loop-n-init : goal.loop-n-init
loop-n-init c = adds_none (IsRowOf (map faulty_in c.args.pictured.now)) c.append_opening-2.new.page.items

pub loop-n-preserved : goal.loop-n-preserved
loop-n-preserved c =
    let first = take c.min.result c.args.keys.now in
    let n = c.loop-n.n in
    let key = c.index-first-n.result in
    adds_more (IsRowOf (map faulty_in c.args.pictured.now)) (map judgement_of (take n first)) (map judgement_of (take (n + 1) first)) (judgement_of key) c.append_opening-2.new.page.items c.loop-n.page.items _ n
    (mapped_more judgement_of first n key c.loop-n-test.true c.index-first-n.is) (placed judgement_of first n c.loop-n-test.true) c.loop-n.invariant
    (subst (λ (calls : Option (List OpId)). Adds (IsRow n calls (judgement_of key)) c.loop-n.page.items c.add.new.page.items) c.faulty_at-faulty.ensures c.in_ok-add.ensures)

pub returns : goal.returns
returns c =
    let keys = c.args.keys.now in
    let listed = take c.min.result keys in
    let Rows = IsEach (IsRowOf (map faulty_in c.args.pictured.now)) 0 (take table_size (map judgement_of keys)) in
    let class = record { name = name.Class; value = KEYS.now } ∷ [] in
    let first = ap (map judgement_of) (take_all c.loop-n.n listed c.loop-n-test.false) ∙ first_ones judgement_of keys listed table_size (ap (λ (n : ℕ). take n keys) c.min.ensures) in
    let rows = subst (λ (js : List Judgement). Adds (IsEach (IsRowOf (map faulty_in c.args.pictured.now)) 0 js) c.append_opening-2.new.page.items c.loop-n.page.items) first c.loop-n.invariant in
    let body = adds_within Rows tag.Tbody [] c.append_table_front.new.page.items c.append_opening-2.new.page.items c.loop-n.page.items c.append_closing.new.page.items
    c.in_ok-append_opening-2.ensures rows c.in_ok-append_closing.ensures in
    let inside = adds_after (IsFramed (element tag.Tbody []) Rows) table_front c.append_opening.new.page.items c.append_table_front.new.page.items c.append_closing.new.page.items
    c.in_ok-append_table_front.ensures body in
    let within = framed_twice (both table_front) (element tag.Tbody []) Rows _ _ inside in
    on_ok_weaker c.append_closing-2.result (λ closed.
    framed_twice (element tag.Table class) (λ (m : Markup). both table_front (element tag.Tbody [] m)) Rows _ _
    (adds_within (IsFramed (λ (m : Markup). both table_front (element tag.Tbody [] m)) Rows) tag.Table class c.args.page.now.items c.append_opening.new.page.items c.append_closing.new.page.items _
    c.in_ok-append_opening.ensures within closed)) c.append_closing-2.ensures
