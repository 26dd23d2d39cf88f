-- Values by number, in slots and in a tree.
use Rattle.std.specs.Prelude.{ℕ, ◌≡◌, ◌≢◌, ◌%◌, true, cond, nat_eq, List, [], ◌∷◌, Option, Some}
use Rattle.std.specs.Prelude.{None, slice_get}
use Rattle.std.specs.FinMap as finite
use Rattle.std.specs.Ordering.{nat_cmp}
use Rattle.open_calls.specs.declared.numbered.Numbered.{Numbered}
use Rattle.open_calls.specs.declared.open_call.OpenCall.{OpenCall}
use Rattle.open_calls.specs.Indexes.{entry_at}

-- the place of a number's slot
abbrev pub home_of : ℕ → ℕ
home_of number = number % 64

-- what a change leaves at a number, and elsewhere
pub record Sets {X : Type 0} (old : ℕ → Option X) (number : ℕ) (value : Option X)
    (new : ℕ → Option X) : Type 0 where
  pub here : new number ≡ value
  pub others : (q : ℕ) → q ≢ number → new q ≡ old q

module _ {X : Type 0} where
  -- what stands in a slot, if there is such a slot
  abbrev pub flat : Option (Option (ℕ × X)) → Option (ℕ × X)
  flat None = None
  flat (Some slot) = slot

  -- what stands in the slot of that place
  abbrev pub slot_of : List (Option (ℕ × X)) → ℕ → Option (ℕ × X)
  slot_of slots place = flat (slice_get slots place)

  -- the value that stands there, if it has that number
  abbrev pub held_in : Option (ℕ × X) → ℕ → Option X
  held_in None number = None
  held_in (Some e) number = cond (nat_eq e.0 number) (Some e.1) None

  -- what is left there once the value of that number is taken out
  abbrev pub left_in : Option (ℕ × X) → ℕ → Option (ℕ × X)
  left_in None number = None
  left_in (Some e) number = cond (nat_eq e.0 number) None (Some e)

  -- what the one has, or else the other
  abbrev pub or_else : Option X → Option X → Option X
  or_else None rest = rest
  or_else (Some value) rest = Some value

  -- the value of a number: in its slot, or among the others
  abbrev pub value_of : (ℕ → Option (ℕ × X)) → (ℕ → Option X) → ℕ → Option X
  value_of slots others number = or_else (held_in (slots (home_of number)) number) (others number)

  -- what stood in a slot is one of the others
  abbrev pub MovesOut : Option (ℕ × X) → (ℕ → Option X) → (ℕ → Option X) → Type 0
  MovesOut None old new = (number : ℕ) → new number ≡ old number
  MovesOut (Some e) old new = Sets old e.0 (Some e.1) new

  -- that stands in the slot of that place now, and the other slots are as they were
  pub record Puts (old : ℕ → Option (ℕ × X)) (place : ℕ) (slot : Option (ℕ × X))
      (new : ℕ → Option (ℕ × X)) : Type 0 where
    pub here : new place ≡ slot
    pub others : (at : ℕ) → at ≢ place → new at ≡ old at

  -- the value of that number is taken out, if it stood in its slot
  abbrev pub Leaves : (ℕ → Option (ℕ × X)) → ℕ → (ℕ → Option (ℕ × X)) → Type 0
  Leaves old number new = Puts old (home_of number) (left_in (old (home_of number)) number) new

  -- the number doesn't stand in its slot, and each slot is as it was
  pub record IsElsewhere (old : ℕ → Option (ℕ × X)) (number : ℕ) (new : ℕ → Option (ℕ × X)) :
      Type 0 where
    pub none : held_in (old (home_of number)) number ≡ None
    pub same : (place : ℕ) → new place ≡ old place

  -- what stood in the slot of that place is one of the others
  pub record Empties (old : ℕ → Option (ℕ × X)) (place : ℕ) (others : ℕ → Option X)
      (new : ℕ → Option (ℕ × X)) (more : ℕ → Option X) : Type 0 where
    pub puts : Puts old place None new
    pub moves : MovesOut (old place) others more

  -- each number that stands in a slot stands in its own, and isn't among the others
  pub record AreHome (slots : ℕ → Option (ℕ × X)) (others : ℕ → Option X) : Type 0 where
    pub home : (place number : ℕ) (value : X) → slots place ≡ Some (number, value)
        → home_of number ≡ place
    pub once : (place number : ℕ) (value : X) → slots place ≡ Some (number, value)
        → others number ≡ None

  -- the entries in slots, and then the others
  abbrev pub listed : List (Option (ℕ × X)) → List (ℕ × X) → List (ℕ × X)
  listed [] others = others
  listed (None ∷ slots) others = listed slots others
  listed (Some e ∷ slots) others = e ∷ listed slots others

  -- where each number stands
  abbrev pub AreFit : Numbered X → Type 0
  AreFit kept = AreHome (slot_of kept.slots.items) (entry_at kept.others.entries)

  -- what is kept of a number
  abbrev pub value_in : Numbered X → ℕ → Option X
  value_in kept = value_of (slot_of kept.slots.items) (entry_at kept.others.entries)

  -- all that is kept, by number
  abbrev pub map_of : Numbered X → finite.FinMap nat_cmp X
  map_of kept = finite.from_entries (listed kept.slots.items kept.others.entries)

-- the call with a note
abbrev pub noted_call : {T : Type 0} → OpenCall T → OpenCall T
noted_call call = record call { is_noted = true }

-- the slot's call has that number, and has a note now
pub record IsNoted {T : Type 0} (old : Option (ℕ × OpenCall T)) (number : ℕ)
    (new : Option (ℕ × OpenCall T)) : Type 0 where
  pub call : OpenCall T
  pub was : old ≡ Some (number, call)
  pub is : new ≡ Some (number, noted_call call)

-- the call of that number, which stands in its slot, has a note now
pub record Notes {T : Type 0} (old : ℕ → Option (ℕ × OpenCall T)) (number : ℕ)
    (new : ℕ → Option (ℕ × OpenCall T)) : Type 0 where
  pub call : OpenCall T
  pub was : old (home_of number) ≡ Some (number, call)
  pub puts : Puts old (home_of number) (Some (number, noted_call call)) new
