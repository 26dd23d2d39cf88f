-- Comparisons by their tests.
use Rattle.std.proofs.Common.{◌≡◌, ◌≢◌, ℕ, true, false, refl, sym, ap, ◌∙◌, true≢false}
use Rattle.std.specs.declared.cmp.Ordering.{Ordering}
use Rattle.std.specs.declared.cmp.Ordering.TheVariants.{Less, Equal, Greater}
use Rattle.std.specs.Ordering.{nat_cmp, eq_by_cmp, is_eq}
use Rattle.std.specs.Cmp.{nat_cmp_total, tied_itself}
use Rattle.std.specs.FinMap.{nat_cmp-IsAntisymmetric}

pub equal_from_is_eq : (o : Ordering) → is_eq o ≡ true → o ≡ Equal
equal_from_is_eq Less e = absurd (true≢false (sym e))
equal_from_is_eq Equal e = refl
equal_from_is_eq Greater e = absurd (true≢false (sym e))

-- numbers tie where they are equal
pub same_number : (m n : ℕ) → eq_by_cmp nat_cmp m n ≡ true → m ≡ n
same_number m n e = nat_cmp-IsAntisymmetric m n (equal_from_is_eq (nat_cmp m n) e)

pub other_number : (m n : ℕ) → eq_by_cmp nat_cmp m n ≡ false → m ≢ n
other_number m n e same =
    true≢false (sym (ap is_eq (tied_itself nat_cmp_total m)) ∙ ap (λ k. eq_by_cmp nat_cmp m k) same ∙ e)
