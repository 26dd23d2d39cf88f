use Rattle.std.proofs.Common.{ℕ, List, ◌++◌, codes, ap, ◌∙◌}
use Rattle.std.specs.Prelude.{decimal}
use Rattle.std.proofs.lemmas.Result.{on_ok_weaker}
use Rattle.fault_details.specs.ScriptFaults.{script_fault_line}
use Rattle.fault_details.proofs.Pieces.{more}
use Rattle.fault_details.proofs.script_given.append_fault.Goals as goal

pub returns : goal.returns
unfolding script_fault_line
returns c =
    let start = c.args.text.now.items in
    let first = c.append_number.new.text.items in
    let second = c.append_number-2.new.text.items in
    let third = c.append.new.text.items in
    let number = ap (λ (n : ℕ). first ++ (codes ": script fault " ++ decimal n)) (c.from.ensures ∙ c.number.ensures) in
    let words = ap (λ (xs : List ℕ). third ++ xs) c.text.ensures in
    on_ok_weaker c.append-3.result (λ last. more start first _ _ _ c.in_ok-append_number.ensures
    (more first second _ _ _ (c.in_ok-append_number-2.ensures ∙ number)
    (more second third _ _ _ c.in_ok-append.ensures (more third _ _ _ _ (c.in_ok-append-2.ensures ∙ words) last)))) c.append-3.ensures
