use Rattle.std.proofs.Common.{◌≡◌, ℕ, true, false, drop, sym, subst, ◌∙◌, ap, rules}
use Rattle.std.specs.List.{slice_get}
use Rattle.std.specs.Str.{IsCharBoundary}
use Rattle.std.proofs.lemmas.Str.Pattern.{starts_text}
use Rattle.call_links.specs.Linked.{is_digit}
use Rattle.call_links.proofs.Numbers.{rest_none, rest_some}
use Rattle.call_links.proofs.named.rest_after.Goals as goal

pub returns-in_default : goal.returns-in_default
returns-in_default c =
    let word = c.args.word.now in
    let number = c.args.number.now in
    rest_none word number (sym (starts_text false number word c.in_default.ensures.cases))

pub returns-else-is_digit : goal.returns-else-is_digit
returns-else-is_digit c =
    let word = c.args.word.now in
    let number = c.args.number.now in
    let found = c.in-Some.ensures.cases in
    let at = found.1 in
    let boundary = subst (λ (n : ℕ). IsCharBoundary word n) (sym at.0) at.2 in
    let begins = sym (starts_text true number word (found.0, at, boundary)) in
    let rest_is = found.2 ∙ ap (λ (n : ℕ). drop n word) at.0 in
    let free : is_digit (slice_get c.in-Some.rest.now 0) ≡ false = search rules in
    rest_some word number c.in-Some.rest.now begins rest_is free
