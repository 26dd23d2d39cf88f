use Rattle.std.proofs.Common.{Bool, ◌&&◌, sym, ap₂, ◌∙◌, arith}
use Rattle.std.specs.Char.{is_ascii}
use Rattle.std.proofs.lemmas.Bool.{and_from}
use Rattle.std.proofs.lemmas.List.Folds.{list_all_more}
use Rattle.row_members.specs.Scans.{is_plain}
use Rattle.row_members.proofs.scan.plain_run.Goals as goal

pub loop-length-preserved : goal.loop-length-preserved
loop-length-preserved c =
    let bytes = c.args.bytes.now in
    let length = c.loop-length.length in
    let this = sym c.is_plain_byte.ensures ∙ c.if-is_plain_byte.true in
    record {
      within = omega (arith, c.loop-length-test.true);
      plain = list_all_more is_plain bytes length 0 c.loop-length-test.true ∙ and_from _ _ c.loop-length.invariant.plain this;
      ascii = ap₂ (λ (a b : Bool). a && b) c.loop-length.invariant.ascii c.is_ascii-is_ascii.ensures
          ∙ sym (list_all_more is_ascii bytes length 0 c.loop-length-test.true);
    }
