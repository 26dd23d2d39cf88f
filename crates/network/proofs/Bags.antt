-- What keeps the flights a bag.
use Rattle.std.proofs.Common.{◌≡◌, ◌≢◌, inl, inr, ℕ, zero, suc, ◌+◌, ◌-◌, ◌<◌, ◌≤◌, Bool, true, false, Option, Some, None, cond, ap, sym, subst, ◌∙◌, refl, arith}
use Rattle.std.specs.Ordering.{nat_cmp, is_eq}
use Rattle.std.specs.Cmp.{nat_cmp_total, tied_itself}
use Rattle.std.specs.FinMap as finite
use Rattle.std.specs.FinMap.{nat_cmp-IsAntisymmetric}
use Rattle.std.specs.Option.{option_map_or}
use Rattle.network.specs.Flights.{Flight, Flights, copies_of, copy_limit, with_copies}
use Rattle.network.specs.Pools.{Pool, IsBag}
use Rattle.network.specs.declared.messages.Message.{Message}
use Rattle.network.proofs.Lookups.{inserted, none_of, removed}

at_most : (b : Bool) (before after n : ℕ) → after ≡ cond b (before - 1) before → after ≤ n → before ≤ suc n
at_most true before after n e h = omega arith
at_most false before after n e h = omega arith

module _ {X : Type 0} where
  -- a map without a number is empty
  without_any : (m : finite.FinMap nat_cmp X) → ((q : ℕ) → finite.get m q ≡ None) → m ≡ finite.empty
  without_any m none = finite.same_map nat_cmp_total nat_cmp-IsAntisymmetric m finite.empty (λ q. none q ∙ sym (finite.get-empty nat_cmp q))

  -- there are at most as many entries as numbers below a bound on theirs
  pub len-below : (n : ℕ) (m : finite.FinMap nat_cmp X) → ((q : ℕ) (x : X) → finite.get m q ≡ Some x → q < n) → finite.len m ≤ n
  len-below zero m below =
      let none : m ≡ finite.empty = without_any m (λ q. none_of (finite.get m q) (λ x h. let l : q < 0 = below q x h in absurd (omega arith))) in
      let e : finite.len m ≡ 0 = ap finite.len none ∙ finite.len-empty nat_cmp X in
      omega arith
  len-below (suc n) m below =
      at_most _ (finite.len m) (finite.len (finite.remove m n)) n (finite.len-remove nat_cmp_total m n)
      (len-below n (finite.remove m n) (λ q x h.
      let r = removed m n q x h in
      let l : q < suc n = below q x r.1 in
      let apart : q ≢ n = r.0 in
      omega arith))

-- ---- bags
abbrev pub pool_of : ℕ → ℕ → Flights → Pool
pool_of sent limit flights = record { sent = sent; limit = limit; flights = flights }

pub IsBag-silent : (limit : ℕ) → IsBag (pool_of 0 limit finite.empty)
IsBag-silent limit =
    let none : (number : ℕ) (flight : Flight) → finite.get {X = Flight} {R = nat_cmp} finite.empty number ≡ Some flight → ⊥ = λ number flight h. let e : None ≡ Some flight = sym (finite.get-empty nat_cmp number) ∙ h in cc in
    record {
      within = omega arith;
      given = λ number flight h. absurd (none number flight h);
      least = λ number flight h. absurd (none number flight h);
      most = λ number flight h. absurd (none number flight h);
    }

-- a flight goes out
pub IsBag-remove : (sent limit : ℕ) (flights : Flights) (k : ℕ) → IsBag (pool_of sent limit flights) → IsBag (pool_of sent limit (finite.remove flights k))
IsBag-remove sent limit flights k bag =
    record {
      within = bag.within;
      given = λ number flight h. bag.given number flight (removed flights k number flight h).1;
      least = λ number flight h. bag.least number flight (removed flights k number flight h).1;
      most = λ number flight h. bag.most number flight (removed flights k number flight h).1;
    }

-- a flight whose number was given has 1 to 1,000 copies
pub IsBag-with_copies : (sent limit : ℕ) (flights : Flights) (k : ℕ) (message : Message) (copies : ℕ) → IsBag (pool_of sent limit flights) → k < sent → 1 ≤ copies → copies ≤ copy_limit → IsBag (pool_of sent limit (with_copies flights k message copies))
IsBag-with_copies sent limit flights k message copies bag below least most =
    let new : Flight = record { message = message; copies = copies } in
    record {
      within = bag.within;
      given = λ number flight h. elim (inserted flights k new number flight h) [ inl e ↦ subst (λ n. n < sent) (sym e.0) below | inr old ↦ bag.given number flight old ];
      least = λ number flight h. elim (inserted flights k new number flight h) [ inl e ↦ subst (λ (f : Flight). 1 ≤ f.copies) e.1 least | inr old ↦ bag.least number flight old ];
      most = λ number flight h. elim (inserted flights k new number flight h) [ inl e ↦ subst (λ (f : Flight). f.copies ≤ copy_limit) e.1 most | inr old ↦ bag.most number flight old ];
    }

-- one more number is given
pub IsBag-one_more_sent : (sent limit : ℕ) (flights : Flights) → IsBag (pool_of sent limit flights) → sent < limit → IsBag (pool_of (sent + 1) limit flights)
IsBag-one_more_sent sent limit flights bag room =
    record {
      within = omega (arith, room);
      given = λ number flight h. let l : number < sent = bag.given number flight h in omega arith;
      least = bag.least;
      most = bag.most;
    }

-- the last number is taken back
pub IsBag-one_less_sent : (sent limit : ℕ) (flights : Flights) → IsBag (pool_of sent limit flights) → finite.get flights (sent - 1) ≡ None → IsBag (pool_of (sent - 1) limit flights)
IsBag-one_less_sent sent limit flights bag none =
    record {
      within = let w : sent ≤ limit = bag.within in omega arith;
      given = λ number flight h.
          let l : number < sent = bag.given number flight h in
          let apart : number ≢ sent - 1 = λ e. let x : None ≡ Some flight = sym none ∙ ap (finite.get flights) (sym e) ∙ h in cc in
          omega arith;
      least = bag.least;
      most = bag.most;
    }

-- a flight that is there has other copies
pub IsBag-set_copies : (sent limit : ℕ) (flights new : Flights) (k copies : ℕ) (flight : Flight) → IsBag (pool_of sent limit flights) → finite.get flights k ≡ Some flight
    → ((f : Flight) → finite.get flights k ≡ Some f → new ≡ with_copies flights k f.message copies) → 1 ≤ copies → copies ≤ copy_limit → IsBag (pool_of sent limit new)
IsBag-set_copies sent limit flights new k copies flight bag found set least most =
    subst (λ m. IsBag (pool_of sent limit m)) (sym (set flight found))
    (IsBag-with_copies sent limit flights k flight.message copies bag (bag.given k flight found) least most)

there : (o : Option Flight) (count : ℕ) → count ≡ option_map_or (λ f. f.copies) o 0 → 1 ≤ count → (flight : Flight) × (o ≡ Some flight)
there None count e least = absurd (omega arith)
there (Some flight) count e least = (flight, refl)

-- the same, where it was found by its copies
pub IsBag-change_copies : (sent limit : ℕ) (flights new : Flights) (k count copies : ℕ) → IsBag (pool_of sent limit flights) → count ≡ copies_of flights k → 1 ≤ count
    → ((f : Flight) → finite.get flights k ≡ Some f → new ≡ with_copies flights k f.message copies) → 1 ≤ copies → copies ≤ copy_limit → IsBag (pool_of sent limit new)
IsBag-change_copies sent limit flights new k count copies bag e some set least most =
    let f = there (finite.get flights k) count e some in
    IsBag-set_copies sent limit flights new k copies f.0 bag f.1 set least most

-- the flight that was sent last is taken out, and its number back
pub IsBag-unsent : (sent limit last : ℕ) (flights : Flights) → last ≡ sent - 1 → IsBag (pool_of sent limit flights) → IsBag (pool_of last limit (finite.remove flights last))
IsBag-unsent sent limit last flights e bag =
    subst (λ n. IsBag (pool_of n limit (finite.remove flights n))) (sym e)
    (IsBag-one_less_sent sent limit (finite.remove flights (sent - 1)) (IsBag-remove sent limit flights (sent - 1) bag)
    (finite.get-remove nat_cmp_total flights (sent - 1) (sent - 1) ∙ ap (λ o. cond (is_eq o) None (finite.get flights (sent - 1))) (tied_itself nat_cmp_total (sent - 1))))

-- a message gets the next number
pub IsBag-sent : (sent limit : ℕ) (flights new : Flights) (message : Message) → IsBag (pool_of sent limit flights) → sent < limit → new ≡ with_copies flights sent message 1 → IsBag (pool_of (sent + 1) limit new)
IsBag-sent sent limit flights new message bag room e =
    subst (λ m. IsBag (pool_of (sent + 1) limit m)) (sym e)
    (IsBag-with_copies (sent + 1) limit flights sent message 1 (IsBag-one_more_sent sent limit flights bag room) (omega arith) (omega arith) (omega arith))
