use Rattle.std.proofs.Common.{ℕ, List, ◌++◌, ap, ◌∙◌}
use Rattle.serde_json.specs.View.{view}
use Rattle.fault_details.specs.Shown.{shown}
use Rattle.fault_details.specs.Written.{note_text}
use Rattle.fault_details.proofs.line_details.value_standing.Goals as goal

pub returns : goal.returns
returns c =
    let first = rw c.as_slice.ensures.value at c.in_ok-append_shown.ensures in
    let second = rw c.as_slice-2.ensures.value at c.in_ok-append_note.ensures in
    let written = c.in_ok-written.written.items in
    let note = note_text c.args.demand.allowed (view c.args.value.now) written in
    let start = ap (λ (xs : List ℕ). xs ++ shown written) c.new-text.ensures.items in
    (written, c.in_ok-written.ensures, second ∙ ap (λ (xs : List ℕ). xs ++ note) (first ∙ start))
