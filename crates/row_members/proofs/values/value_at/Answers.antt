use Rattle.std.proofs.Common.{ℕ, List, subst}
use Rattle.row_members.specs.Scans.{HoldsValue, Skips}
use Rattle.row_members.proofs.MemberValues.{skip_value}
use Rattle.row_members.proofs.Pieces.{weaker}
use Rattle.row_members.proofs.values.value_at.Goals as goal

pub returns-then-line-at-eq34 : goal.returns-then-line-at-eq34
returns-then-line-at-eq34 c =
    let at = c.after_space-at.result in
    let skipped = subst (λ (line : List ℕ). Skips line c.args.start at) c.as_bytes-line.ensures.value c.after_space-at.ensures in
    weaker (λ f h. skip_value c.args.text.now c.args.start at f.1 f.0 skipped h) c.text_at.result c.text_at.ensures

pub returns-then-line-at-eq110 : goal.returns-then-line-at-eq110
returns-then-line-at-eq110 c =
    let at = c.after_space-at.result in
    let skipped = subst (λ (line : List ℕ). Skips line c.args.start at) c.as_bytes-line.ensures.value c.after_space-at.ensures in
    weaker (λ f h. skip_value c.args.text.now c.args.start at f.1 f.0 skipped
    (subst (λ (line : List ℕ). HoldsValue line at f.0 f.1) c.as_bytes-line.ensures.value h)) c.null_at.result c.null_at.ensures

pub returns : goal.returns
returns c =
    let at = c.after_space-at.result in
    let skipped = subst (λ (line : List ℕ). Skips line c.args.start at) c.as_bytes-line.ensures.value c.after_space-at.ensures in
    weaker (λ f h. skip_value c.args.text.now c.args.start at f.1 f.0 skipped
    (subst (λ (line : List ℕ). HoldsValue line at f.0 f.1) c.as_bytes-line.ensures.value h)) c.number_at.result c.number_at.ensures
