-- Each row stands in one strip, and what crosses strips is shown by each of them.
use Rattle.std.proofs.Common.{ℕ, ◌<◌, ◌≤◌, ◌+◌, ◌*◌, min, Option, Some, None, refl, sym, arith}
use Rattle.std.proofs.Math.Nat.{mul-le-mul_right}
use Rattle.std.proofs.lemmas.Bool.{and_from, eq-eqb, eqb-true, le-leb}
use Rattle.labels.specs.declared.strips.CutRows.{CutRows}
use Rattle.labels.specs.declared.strips.TheConstants.{STRIP_ROWS}
use Rattle.labels.specs.Places.{farthest}
use Rattle.labels.specs.Strips.{IsShownBetween, StandsOnce, row_top, strip_of}
use Rattle.labels.proofs.Standing.{stays_no_farther}

-- a later row begins no higher
rises : (rows : CutRows) (a b : ℕ) → a ≤ b → row_top rows a ≤ row_top rows b
rises rows a b less =
    let steps : a * rows.height ≤ b * rows.height = mul-le-mul_right rows.height less in
    stays_no_farther (rows.start + a * rows.height) (rows.start + b * rows.height) farthest (omega (arith, steps))

-- rows in order have strips in order
strips_rise : (a b : ℕ) → a ≤ b → strip_of a ≤ strip_of b
strips_rise a b less = omega (arith, less)

pub stands_once : (rows : CutRows) (row : ℕ) → row < rows.count → StandsOnce rows row
stands_once rows row within = record {
  there = omega (arith, within);
  shown = eq-eqb (strip_of row) (strip_of row) refl;
  only = λ strip is. sym (eqb-true (strip_of row) strip is);
  top = rises rows (strip_of row * STRIP_ROWS) row (omega arith);
  bottom = rises rows (row + 1) (min ((strip_of row + 1) * STRIP_ROWS) rows.count) (omega (arith, within));
  above = λ strip less. rises rows (min ((strip + 1) * STRIP_ROWS) rows.count) row (omega (arith, less));
  below = λ strip less. rises rows (row + 1) (strip * STRIP_ROWS) (omega (arith, less));
}

pub shown_between : (begins : ℕ) (ends : Option ℕ) → IsShownBetween begins ends
shown_between begins None = λ row after. le-leb (strip_of begins) (strip_of row) (strips_rise begins row after)
shown_between begins (Some ends) = λ row after before.
    and_from _ _ (le-leb (strip_of begins) (strip_of row) (strips_rise begins row after))
    (le-leb (strip_of row) (strip_of ends) (strips_rise row ends before))
