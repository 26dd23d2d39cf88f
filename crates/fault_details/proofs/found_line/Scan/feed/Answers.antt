use Rattle.std.proofs.Common.{ℕ, ◌∷◌, List, length, sym, ap, ◌∙◌, length-append, arith}
use Rattle.fault_details.proofs.Scanning.{scanned_all, scanned_on, scanned_to}
use Rattle.fault_details.proofs.found_line.Scan.feed.Goals as goal

pub returns-then-is_there-clause-scan : goal.returns-then-is_there-clause-scan
returns-then-is_there-clause-scan c = λ before s.
    scanned_to before c.args.block.now c.lines.rest.now c.in-Some.line.now c.in-Some.behind.now c.lines.self c.take.new.self
    (c.lines.invariant.scan before s) c.in-Some.ensures.1 c.in-Some.ensures.0 c.in_ok-take.ensures
    (sym c.is_there.ensures ∙ c.if-is_there.true)

pub lines-preserved : goal.lines-preserved
lines-preserved c =
    let cut = c.in-Some.ensures.1 in
    let taken = c.in_ok-take.ensures in
    let ended = c.end_line.ensures in
    let long = ap (λ (xs : List ℕ). length xs) cut ∙ length-append c.in-Some.line.now (10 ∷ c.in-Some.behind.now) in
    record {
      scan = λ before s.
          scanned_on before c.args.block.now c.lines.rest.now c.in-Some.line.now c.in-Some.behind.now c.lines.self c.take.new.self
          (c.lines.invariant.scan before s) cut c.in-Some.ensures.0 taken c.end_line.new.self
          (sym c.is_there.ensures ∙ c.if-is_there.false) ended;
      wanted = ended.wanted ∙ taken.wanted ∙ c.lines.invariant.wanted;
      few = omega (arith, ended.under_way, ended.fed, taken.under_way, taken.fed, c.lines.invariant.few);
      fed = omega (arith, ended.fed, taken.fed, c.lines.invariant.fed, long);
    }

pub returns-clause-scan : goal.returns-clause-scan
returns-clause-scan c = λ before s.
    scanned_all before c.args.block.now c.lines.rest.now c.lines.self c.take-2.new.self (c.lines.invariant.scan before s)
    c.in_default.ensures c.in_ok-take-2.ensures
