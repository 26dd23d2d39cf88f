use Rattle.std.proofs.Common.{ℕ, ◌≡◌, ◌<◌, ◌+◌, ◌-◌, List, length, take, drop, get_or, arith, sym, ◌∙◌, subst}
use Rattle.std.proofs.lemmas.List.{take_rest, get_or-drop, length-drop}
use Rattle.counted_devices.specs.Cuts.{HasNoEnd}
use Rattle.counted_devices.proofs.lines.end_from.Goals as goal

-- what is added to a number is left when the number is taken away
plus_minus : (from end : ℕ) → end ≡ from + end - from
plus_minus from end = omega (arith)

pub returns : goal.returns
returns c =
    let bytes = c.args.bytes.now in
    let from = c.args.from in
    let end = c.in_ok-end.end in
    let same = take_rest bytes from in
    let L : List ℕ → Type 0 = λ xs. end < length xs in
    let T : List ℕ → Type 0 = λ xs. get_or xs end 0 ≡ 10 in
    let found = c.in_ok-end.ensures in
    let inside : end < length (drop from bytes) = subst L same found.0 in
    let ten : get_or (drop from bytes) end 0 ≡ 10 = subst T same found.2 in
    record {
      behind = omega (arith);
      inside = omega (arith, inside, length-drop from bytes);
      none = subst (λ n. HasNoEnd (take n (drop from bytes))) (plus_minus from end) (subst (λ xs. HasNoEnd (take end xs)) same found.1);
      stands = sym (get_or-drop from bytes end 0) ∙ ten;
    }
