-- A send that is taken back leaves nothing.
use Rattle.std.proofs.Common.{◌≡◌, ℕ, ◌+◌, ◌-◌, Bool, true, false, Some, None, cond, ap}
use Rattle.std.proofs.Common.{sym, ◌∙◌, refl}
use Rattle.std.proofs.Math.Nat.{add-sub_cancel, lt_irrefl}
use Rattle.std.specs.Ordering.{nat_cmp, eq_by_cmp}
use Rattle.std.specs.Cmp.{nat_cmp_total}
use Rattle.std.specs.FinMap as finite
use Rattle.std.specs.FinMap.{nat_cmp-IsAntisymmetric}
use Rattle.tag.proofs.Orderings.{same_number}
use Rattle.network.specs.Flights.{Flight, Flights}
use Rattle.network.specs.Pools.{IsBag, Pool, with_sent, without_last}
use Rattle.network.specs.declared.messages.Message.{Message}
use Rattle.network.proofs.Lookups.{none_of}

back : (flights : Flights) (k q : ℕ) (flight : Flight) (b : Bool) → eq_by_cmp nat_cmp q k ≡ b
    → finite.get flights k ≡ None → cond b None (cond b (Some flight) (finite.get flights q))
    ≡ finite.get flights q
back flights k q flight true e new = sym (ap (finite.get flights) (same_number q k e) ∙ new)
back flights k q flight false e new = refl

-- what was inserted at a new number is removed again
remove-insert : (flights : Flights) (k : ℕ) (flight : Flight) → finite.get flights k ≡ None
    → finite.remove (finite.insert flights k flight) k ≡ flights
remove-insert flights k flight new =
    finite.same_map nat_cmp_total nat_cmp-IsAntisymmetric _ _ (λ q.
    finite.get-remove nat_cmp_total (finite.insert flights k flight) k q
    ∙ ap (cond (eq_by_cmp nat_cmp q k) None) (finite.get-insert nat_cmp_total flights k flight q)
    ∙ back flights k q flight _ refl new)

pub unsent-sent : (pool : Pool) (message : Message) → IsBag pool
    → without_last (with_sent pool message) ≡ pool
unsent-sent pool message bag =
    let last : (pool.sent + 1) - 1 ≡ pool.sent = add-sub_cancel pool.sent 1 in
    let new : finite.get pool.flights pool.sent ≡ None =
    none_of (finite.get pool.flights pool.sent)
    (λ flight h. lt_irrefl pool.sent (bag.given pool.sent flight h)) in
    let one : Flight = record { message = message; copies = 1 } in
    let flights : finite.remove (finite.insert pool.flights pool.sent one) ((pool.sent + 1) - 1)
    ≡ pool.flights = ap (finite.remove (finite.insert pool.flights pool.sent one)) last
    ∙ remove-insert pool.flights pool.sent one new in
    λ i. record { sent = last i; limit = pool.limit; flights = flights i }
