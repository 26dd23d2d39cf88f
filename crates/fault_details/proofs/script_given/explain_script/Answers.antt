use Rattle.std.proofs.Common.{ℕ, List, ◌++◌, codes, ap, inl, inr, ◌∙◌}
use Rattle.fault_details.specs.ScriptFaults.{script_fault_line}
use Rattle.fault_details.proofs.script_given.explain_script.Goals as goal
use Rattle.fault_details.proofs.script_given.explain_script.Goals.{in-Ok+in_ok-append-in-Ok, in-Err-2+in_ok-append_fault-in-Err-2+in_ok-details-in-Err-2+in_ok-extend_from_slice-in-Err-2}

pub returns : goal.returns
returns g c = elim c.match-parse.branch [
  | in-Ok+in_ok-append-in-Ok w ↦ rw w.text-is (inl (
    w.in-Ok.field-0,
    w.in-Ok.ensures.read,
    w.in_ok-append-in-Ok.ensures
        ∙ ap (λ (xs : List ℕ). xs ++ codes "  it is a script, which abd simulate runs\n") c.new-text.ensures.items,
  ))
  | in-Err-2+in_ok-append_fault-in-Err-2+in_ok-details-in-Err-2+in_ok-extend_from_slice-in-Err-2 w ↦
      rw (w.text-is, w.again-is) (inr (
        w.in-Err.fault,
        w.in-Err.ensures.fault,
        w.in_ok-details-in-Err-2.details.items,
        w.in_ok-details-in-Err-2.ensures,
        (rw w.as_slice.ensures.value at w.in_ok-extend_from_slice-in-Err-2.ensures.items)
            ∙ ap (λ (xs : List ℕ). xs ++ w.in_ok-details-in-Err-2.details.items)
            (w.in_ok-append_fault-in-Err-2.ensures ∙ ap (λ (xs : List ℕ). xs ++ script_fault_line w.in-Err.fault) c.new-text.ensures.items),
      ))
]
