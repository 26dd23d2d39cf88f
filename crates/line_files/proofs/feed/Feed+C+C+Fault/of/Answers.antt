use Rattle.std.proofs.Common.{ℕ, List, [], length, ap, sym, subst, refl, arith}
use Rattle.counted_devices.specs.Cuts.{Splits}
use Rattle.counted_devices.proofs.CutLemmas.{Splits-none}
use Rattle.line_files.proofs.Ends.{no_byte}
use Rattle.line_files.proofs.feed.Feed+C+C+Fault.of.Goals as goal

pub returns : goal.returns
returns g c =
    let S : List ℕ → Type 0 = λ rest. Splits [] [] rest in
    record {
      lines = [];
      splits = subst S (sym c.new.ensures.items) (Splits-none [] no_byte);
      at = record { made = c.requires; counted = refl };
      short = omega (arith, ap length c.new.ensures.items);
      fed = refl;
      sound = refl;
    }
