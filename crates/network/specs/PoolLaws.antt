-- Equality of pools is symmetric and transitive where that of flights is. The impl of `PartialEq`
-- declares it, so it stands here.
use Rattle.std.specs.Prelude.{ℕ, zero, suc, ◌≡◌, ◌&&◌, ◌==◌, Bool, true, false}
use Rattle.std.specs.Option.{option_eq}
use Rattle.std.specs.FinMap as finite
use Rattle.std.specs.Cmp.{IsPartialEquivalence, first_so, nat_eq_equiv, partial_equiv_from_equiv}
use Rattle.std.specs.Cmp.{second_so}
use Rattle.std.proofs.lemmas.Bool.{and_from}
use Rattle.std.proofs.Common.{ap, sym, ◌∙◌, eqb-true, refl}
use Rattle.tag.proofs.Equality.{option_per}
use Rattle.network.specs.Flights.{Flight, Flights}
use Rattle.network.specs.Pools.{Pool}
use Rattle.network.specs.Equality.{agree_below, same_pools}

module _ (same : Flight → Flight → Bool) (is : IsPartialEquivalence same) where
  flights_per : IsPartialEquivalence (option_eq same)
  flights_per = option_per same is

  agree_symm : (m n : Flights) (k : ℕ) → agree_below same m n k ≡ agree_below same n m k
  agree_symm m n zero = refl
  agree_symm m n (suc k) =
      λ i. flights_per.symm (finite.get m k) (finite.get n k) i && agree_symm m n k i

  agree_trans : (m n o : Flights) (k : ℕ) → agree_below same m n k ≡ true → agree_below same n o k
      ≡ true → agree_below same m o k ≡ true
  agree_trans m n o zero a b = refl
  agree_trans m n o (suc k) a b =
      and_from (option_eq same (finite.get m k) (finite.get o k)) (agree_below same m o k)
      (flights_per.trans (finite.get m k) (finite.get n k) (finite.get o k)
      (first_so (option_eq same (finite.get m k) (finite.get n k)) (agree_below same m n k) a)
      (first_so (option_eq same (finite.get n k) (finite.get o k)) (agree_below same n o k) b))
      (agree_trans m n o k
      (second_so (option_eq same (finite.get m k) (finite.get n k)) (agree_below same m n k) a)
      (second_so (option_eq same (finite.get n k) (finite.get o k)) (agree_below same n o k) b))

  numbers : IsPartialEquivalence {K = ℕ} (λ m n. m == n)
  numbers = partial_equiv_from_equiv nat_eq_equiv

  symm_by : (a b : Pool) (t : Bool) → (a.sent == b.sent) ≡ t → same_pools same a b
      ≡ same_pools same b a
  symm_by a b false e =
      ap (λ x. x && (a.limit == b.limit && agree_below same a.flights b.flights a.sent)) e
      ∙ sym (ap (λ x. x && (b.limit == a.limit
      && agree_below same b.flights a.flights b.sent)) (sym (numbers.symm a.sent b.sent) ∙ e))
  symm_by a b true e = λ i.
      numbers.symm a.sent b.sent i
      && (numbers.symm a.limit b.limit i
      && (agree_symm a.flights b.flights a.sent
      ∙ ap (agree_below same b.flights a.flights) (eqb-true a.sent b.sent e)) i)

  -- what equality of pools says
  parts : (a b : Pool) → same_pools same a b ≡ true → ((a.sent == b.sent) ≡ true)
      × ((a.limit == b.limit) ≡ true) × (agree_below same a.flights b.flights a.sent ≡ true)
  parts a b p =
      let agree : Bool = agree_below same a.flights b.flights a.sent in
      let rest : (a.limit == b.limit && agree) ≡ true =
      second_so (a.sent == b.sent) (a.limit == b.limit && agree) p in (
        first_so (a.sent == b.sent) (a.limit == b.limit && agree) p,
        first_so (a.limit == b.limit) agree rest,
        second_so (a.limit == b.limit) agree rest,
      )

  trans_of : (a b c : Pool) → same_pools same a b ≡ true → same_pools same b c ≡ true
      → same_pools same a c ≡ true
  trans_of a b c p q =
      let left = parts a b p in
      let right = parts b c q in
      and_from (a.sent == c.sent) (a.limit == c.limit
      && agree_below same a.flights c.flights a.sent)
      (numbers.trans a.sent b.sent c.sent left.0 right.0)
      (and_from (a.limit == c.limit) (agree_below same a.flights c.flights a.sent)
      (numbers.trans a.limit b.limit c.limit left.1 right.1)
      (agree_trans a.flights b.flights c.flights a.sent left.2
      (ap (agree_below same b.flights c.flights) (eqb-true a.sent b.sent left.0) ∙ right.2)))

  pub pools_per : IsPartialEquivalence (same_pools same)
  pools_per = record { symm = λ a b. symm_by a b (a.sent == b.sent) refl; trans = trans_of }
