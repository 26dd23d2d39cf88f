-- The table of flights as the finite map that it is seen as, and what is written to it.
use Rattle.std.proofs.Common.{◌≡◌, ◌==◌, ℕ, None, Some, IsSome, length, ap, sym, subst, ◌∙◌, unwrap_or, rules}
use Rattle.std.specs.Ordering.{is_eq, nat_cmp}
use Rattle.std.specs.Cmp.{nat_cmp_total, unsigned_ties}
use Rattle.std.specs.HashMap.{HashMap, IsUnique, Updates, WritesThrough, get}
use Rattle.std.specs.FinMap as finite
use Rattle.std.specs.FinMap.{nat_cmp-IsAntisymmetric}
use Rattle.network.specs.Flights.{Flight, Flights, with_copies}
use Rattle.network.proofs.Hashed.{get-from_table, from_table-insert, from_table-remove, from_table-written, from_table-len}

ties : (x y : ℕ) → is_eq (nat_cmp x y) ≡ (x == y)
ties x y = sym (unsigned_ties x y)

module _ {S : Type 0} where
  abbrev pub flights_in : HashMap ℕ Flight S → Flights
  flights_in table = finite.from_entries table.entries

  pub get-flights_in : (table : HashMap ℕ Flight S) (number : ℕ) → finite.get (flights_in table) number ≡ get ◌==◌ table number
  get-flights_in = get-from_table nat_cmp_total ◌==◌ ties

  pub len-flights_in : (table : HashMap ℕ Flight S) → IsUnique ◌==◌ table → finite.len (flights_in table) ≡ length table.entries
  len-flights_in = from_table-len nat_cmp_total ◌==◌ ties

  pub flights_in-insert : (old new : HashMap ℕ Flight S) (number : ℕ) (flight : Flight) → Updates ◌==◌ old new number (Some flight) → flights_in new ≡ finite.insert (flights_in old) number flight
  flights_in-insert = from_table-insert nat_cmp_total ◌==◌ ties nat_cmp-IsAntisymmetric

  pub flights_in-remove : (old new : HashMap ℕ Flight S) (number : ℕ) → Updates ◌==◌ old new number None → flights_in new ≡ finite.remove (flights_in old) number
  flights_in-remove = from_table-remove nat_cmp_total ◌==◌ ties nat_cmp-IsAntisymmetric

  pub written : (old new : HashMap ℕ Flight S) (number copies : ℕ) (held flight : Flight) → Some held ≡ get ◌==◌ old number → finite.get (flights_in old) number ≡ Some flight
      → WritesThrough ◌==◌ (λ k. number == k) old (record { message = held.message; copies = copies }) new → flights_in new ≡ with_copies (flights_in old) number flight.message copies
  written old new number copies held flight found is writes =
      let same : held ≡ flight = ap (λ o. unwrap_or o held) (found ∙ sym (get-flights_in old number) ∙ is) in
      from_table-written nat_cmp_total ◌==◌ ties nat_cmp-IsAntisymmetric old new number (record { message = held.message; copies = copies }) writes (subst IsSome found (search rules))
      ∙ ap (λ (f : Flight). with_copies (flights_in old) number f.message copies) same
