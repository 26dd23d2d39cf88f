-- Which messages fly after one is sent, delivered, lost or repeated.
use Rattle.std.proofs.Common.{◌≡◌, ℕ, ◌+◌, ◌-◌, ◌==◌, ◌⊎◌, Bool, true, false, cond, Option, None, Some, refl, sym, ◌∙◌, ap, inl, inr}
use Rattle.std.specs.FinMap as finite
use Rattle.network.specs.Flights.{Flights, with_copies, one_less, one_more}
use Rattle.network.specs.Pools.{Pool, with_sent, with_one_less, with_one_more}
use Rattle.network.specs.declared.flights.Flight.{Flight}
use Rattle.network.specs.declared.messages.Message.{Message}
use Rattle.world_steps.specs.SoundSystems.{Flies}
use Rattle.network.proofs.Lookups.{get_cases, removed}

same_message : (m n : Message) (i j : ℕ) → ◌≡◌ {A = Option Flight} (Some (record { message = m; copies = i })) (Some (record { message = n; copies = j })) → m ≡ n
same_message m n i j e =
    let flights : ◌≡◌ {A = Flight} (record { message = m; copies = i }) (record { message = n; copies = j }) = cc in
    ap (λ (f : Flight). f.message) flights

-- what flies after a flight is written is its message, or flew before
written : (flights : Flights) (number : ℕ) (new : Message) (copies : ℕ) (m : Message) → Flies (with_copies flights number new copies) m → Flies flights m ⊎ (m ≡ new)
written flights number new copies m f =
    elim (get_cases flights number (record { message = new; copies = copies }) f.number) [
      | inl here ↦ inr (same_message m new f.copies copies (sym f.is ∙ here.1))
      | inr there ↦ inl (record { number = f.number; copies = f.copies; is = sym there.1 ∙ f.is })
    ]

pub flies_sent : (pool : Pool) (new m : Message) → Flies (with_sent pool new).flights m → Flies pool.flights m ⊎ (m ≡ new)
flies_sent pool new m f = written pool.flights pool.sent new 1 m f

-- with another count of copies nothing more flies
copied : (flights : Flights) (number copies : ℕ) (flight : Flight) → finite.get flights number ≡ Some flight → (m : Message) → Flies (with_copies flights number flight.message copies) m → Flies flights m
copied flights number copies flight is m f =
    elim (written flights number flight.message copies m f) [
      | inl old ↦ old
      | inr same ↦ record { number = number; copies = flight.copies; is = is ∙ ap (λ n. Some (record { message = n; copies = flight.copies })) (sym same) }
    ]

less_by : (flights : Flights) (number : ℕ) (flight : Flight) (last : Bool) → finite.get flights number ≡ Some flight
    → (m : Message) → Flies (cond last (finite.remove flights number) (with_copies flights number flight.message (flight.copies - 1))) m → Flies flights m
less_by flights number flight true is m f = record { number = f.number; copies = f.copies; is = (removed flights number f.number (record { message = m; copies = f.copies }) f.is).1 }
less_by flights number flight false is m f = copied flights number (flight.copies - 1) flight is m f

less_found : (flights : Flights) (number : ℕ) (found : Option Flight) → finite.get flights number ≡ found → (m : Message) → Flies (one_less flights number found) m → Flies flights m
less_found flights number None is m f = f
less_found flights number (Some flight) is m f = less_by flights number flight (flight.copies == 1) is m f

pub flies_less : (pool : Pool) (number : ℕ) (m : Message) → Flies (with_one_less pool number).flights m → Flies pool.flights m
flies_less pool number m f = less_found pool.flights number (finite.get pool.flights number) refl m f

more_found : (flights : Flights) (number : ℕ) (found : Option Flight) → finite.get flights number ≡ found → (m : Message) → Flies (one_more flights number found) m → Flies flights m
more_found flights number None is m f = f
more_found flights number (Some flight) is m f = copied flights number (flight.copies + 1) flight is m f

pub flies_more : (pool : Pool) (number : ℕ) (m : Message) → Flies (with_one_more pool number).flights m → Flies pool.flights m
flies_more pool number m f = more_found pool.flights number (finite.get pool.flights number) refl m f
