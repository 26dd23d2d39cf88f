-- What becomes of a parcel by its number.
use Rattle.std.specs.Prelude.{ℕ, ◌≡◌, ◌+◌, ◌^◌, ◌%◌, ◌&&◌, ◌==◌, Bool, not, if◌then◌else◌}
use Rattle.seats.specs.declared.gate.Pass.{Pass}
use Rattle.seats.specs.declared.gate.Pass.TheVariants.{Go, Drop, Twice}
use Rattle.seats.specs.declared.gate.Place.{Place}
use Rattle.seats.specs.declared.gate.Place.TheVariants as place

-- the number is one of every so many; 0 hits none
abbrev pub is_hit : ℕ → ℕ → Bool
is_hit every number = not (every == 0) && number % every == 0

-- every so many-th is lost, and every so many-th of the others goes twice
abbrev pub pass_of : ℕ → ℕ → ℕ → Pass
pass_of drop double number =
    if is_hit drop number then Drop else if is_hit double number then Twice else Go

-- a gate's counts: every so many-th parcel is lost, every so many-th of the others goes twice
pub record ParcelCounts : Type 0 where
  pub drop : ℕ
  pub double : ℕ

-- how many parcels there are at a point: a request and a reply are one, an answer is none
abbrev pub parcels_at : Place → ℕ
parcels_at (place.Request hall call replica) = 1
parcels_at (place.Reply hall call replica) = 1
parcels_at (place.Respond hall call) = 0

-- what becomes of what is at a point, if so many parcels came before: a parcel has the next number,
-- in 64 bits; an answer goes on
abbrev pub pass_at : ℕ → ℕ → ℕ → Place → Pass
pass_at drop double before (place.Request hall call replica) =
    pass_of drop double ((before + 1) % 2 ^ 64)
pass_at drop double before (place.Reply hall call replica) =
    pass_of drop double ((before + 1) % 2 ^ 64)
pass_at drop double before (place.Respond hall call) = Go

-- the gate said so of what is at the point, after some number of parcels
abbrev pub IsPassed : ParcelCounts → Place → Pass → Type 0
IsPassed counts at pass = (before : ℕ) × (pass ≡ pass_at counts.drop counts.double before at)
