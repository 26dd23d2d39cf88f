-- A key whose number stands in a table is found there.
use Rattle.std.proofs.Common.{ℕ, ◌≡◌, ◌<◌, ◌+◌, inl, inr, List, Some, true, length, get_or, nat_lt, sym, ◌∙◌, ap, ltb-true, arith, below_more}
use Rattle.std.specs.List.{slice_get}
use Rattle.std.proofs.lemmas.Bool.{cases_lt, cases_eq}
use Rattle.std.proofs.lemmas.Option.{same_Some}
use Rattle.tag.proofs.Lists.{item_at}
use Rattle.key_index.specs.declared.slots.Slot.{Slot}
use Rattle.key_index.specs.Slots.{place_of, IsTaken, Stands}

-- an element that was looked up stands there
pub found_at : {X : Type 0} (xs : List X) (k : ℕ) (x : X) → true ≡ nat_lt k (length xs) → x ≡ get_or xs k x → slice_get xs k ≡ Some x
found_at xs k x less is = item_at xs k x (ltb-true k (length xs) (sym less)) is

-- the slot that was looked up, so many steps from the mark's home
pub slot_at : (slots : List Slot) (mark steps place : ℕ) (slot : Slot) → place ≡ place_of mark steps (length slots)
    → true ≡ nat_lt place (length slots) → slot ≡ get_or slots place slot
    → slice_get slots (place_of mark steps (length slots)) ≡ Some slot
slot_at slots mark steps place slot is less there = ap (slice_get slots) (sym is) ∙ found_at slots place slot less there

-- the key's number stands at none of the places before so many steps
abbrev pub IsPassed : List Slot → List (List ℕ) → ℕ → List ℕ → ℕ → Type 0
IsPassed slots keys mark text steps = (k : ℕ) → k < steps → (number : ℕ) → slice_get keys number ≡ Some text
    → slice_get slots (place_of mark k (length slots)) ≡ Some (record { mark = mark; number = number }) → ⊥

-- where all places are passed, it stands nowhere
pub all_passed : (slots : List Slot) (keys : List (List ℕ)) (mark : ℕ) (text : List ℕ)
    → IsPassed slots keys mark text 16
    → (number : ℕ) → slice_get keys number ≡ Some text → Stands slots mark number → ⊥
all_passed slots keys mark text passed number at h = passed h.steps h.within number at h.here

-- nor where a place is not taken, since those before a number are
pub stops : (slots : List Slot) (keys : List (List ℕ)) (mark : ℕ) (text : List ℕ) (steps : ℕ)
    → IsPassed slots keys mark text steps
    → (IsTaken slots (place_of mark steps (length slots)) → ⊥) → (number : ℕ) → slice_get keys number ≡ Some text
    → Stands slots mark number → ⊥
stops slots keys mark text steps passed not_taken number at h = elim (cases_lt h.steps steps) [
  | inl before ↦ passed h.steps before number at h.here
  | inr later ↦ elim (cases_eq h.steps steps) [
    | inl same ↦ not_taken (rw (← same) (record { mark = mark; number = number }, h.here, h.taken))
    | inr apart ↦ not_taken (h.before steps (omega (arith, apart, later)))
  ]
]

-- a place more is passed
pub passed_more : (slots : List Slot) (keys : List (List ℕ)) (mark : ℕ) (text : List ℕ) (steps : ℕ)
    → IsPassed slots keys mark text steps
    → (slot : Slot) → slice_get slots (place_of mark steps (length slots)) ≡ Some slot
    → (slot.mark ≡ mark → slice_get keys slot.number ≡ Some text → ⊥)
    → IsPassed slots keys mark text (steps + 1)
passed_more slots keys mark text steps passed slot here other = below_more _ _ passed (λ number at is.
    let same : slot ≡ record { mark = mark; number = number } = same_Some slot (record { mark = mark; number = number }) (sym here ∙ is) in
    other (ap (λ (s : Slot). s.mark) same) (ap (λ (s : Slot). slice_get keys s.number) same ∙ at))
