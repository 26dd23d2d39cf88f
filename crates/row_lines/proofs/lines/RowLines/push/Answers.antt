use Rattle.std.proofs.Common.{◌≡◌, length, sym, ◌∙◌, eqb-true, arith}
use Rattle.std.specs.Vec.{vec_len}
use Rattle.std.proofs.lemmas.List.{nil_from_length}
use Rattle.row_lines.proofs.Counting.{counted_more}
use Rattle.row_lines.proofs.lines.RowLines.push.Goals as goal

pub returns-then-line-lt18446744073709551615-clause-ok :
    goal.returns-then-line-lt18446744073709551615-clause-ok
returns-then-line-lt18446744073709551615-clause-ok c =
    let l = c.self.inside in
    let none : vec_len l.kept ≡ 0 = eqb-true (vec_len l.kept) 0 (sym c.is_empty.ensures ∙ c.if-is_empty.true) in
    let empty : length l.kept.items ≡ 0 = omega (arith, none, l.kept.ok.0) in
    rw (← c.self.view_is) (counted_more l.counted l.kept.items c.args.line (nil_from_length l.kept.items empty) c.if-line-self.true)
