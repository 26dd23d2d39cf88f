use Rattle.std.proofs.Common.{◌≤◌, Some, sym, ap, ◌∙◌, length, ltb-true, arith}
use Rattle.std.specs.Cmp.Lexicographic.{bytes_decides}
use Rattle.std.proofs.lemmas.Option.{none-some, same_Some, slice_get_past}
use Rattle.tag.proofs.Lists.{item_at}
use Rattle.key_index.proofs.slots.is_at.Goals as goal

pub returns-in-Some : goal.returns-in-Some
returns-in-Some c =
    let keys = c.args.keys.now in
    let text = c.args.text.now in
    let key = c.in-Some.key.now in
    let found = c.in-Some.ensures.lookup in
    let below = ltb-true c.args.number (length keys) (sym found.0) in
    let at = item_at keys c.args.number key below found.1 in
    let eq = rw c.as_str.ensures.text at c.eq.ensures in
    let same = bytes_decides key text in
    (λ yes. at ∙ ap Some (same.0 (sym eq ∙ yes)), λ is. eq ∙ same.1 (same_Some key text (sym at ∙ is)))

pub returns-in-None : goal.returns-in-None
returns-in-None c =
    let keys = c.args.keys.now in
    let past : length keys ≤ c.args.number = omega (arith, c.in-None.ensures.lookup) in
    (λ no. absurd (cc), λ is. absurd (none-some c.args.text.now (sym (slice_get_past keys c.args.number past) ∙ is)))
