-- A call of a key begins.
use Rattle.std.proofs.Common.{ℕ, ◌≡◌, List, Option, None, ap, sym, ◌∙◌, subst, refl}
use Rattle.tag.specs.declared.actions.Action.TheVariants.{Read, Write}
use Rattle.kept_zones.specs.Overwriting.{Known}
use Rattle.key_monitor.specs.Follows.{FollowsKept, KeyState}
use Rattle.key_monitor.specs.KeptWrites.{HasKept, KeptWrite}
use Rattle.growing_parts.specs.Nothing.{KnowsNothing}
use Rattle.growing_parts.proofs.Empty.{first_read, first_write}
use Rattle.monitored_key.specs.Changes.{HasReadBegun, HasWriteBegun, nothing_held}
use Rattle.monitored_key.specs.Held.{Held, open_at, state_of, write_at}
use Rattle.monitored_key.specs.Maps.{entry_at}
use Rattle.record_monitor.specs.Followed.{FollowsFirst}

-- nothing is known of a key without calls
pub knows_nothing : KnowsNothing (state_of nothing_held)
knows_nothing = record { zones = refl; floor = refl; writes = λ op. refl; opens = λ place. refl; first = refl }

-- the state with these parts
abbrev state : Known → List (ℕ × KeptWrite) → List (ℕ × ℕ) → Option ℕ → KeyState
state known writes opens first = record { known = known; writes = entry_at writes; opens = entry_at opens; first = first }

same_state : (a b : Known) (s t : List (ℕ × KeptWrite)) (o p : List (ℕ × ℕ)) (f g : Option ℕ) → a ≡ b → s ≡ t → o ≡ p → f ≡ g
    → state a s o f ≡ state b t p g
same_state a b s t o p f g known writes opens first =
    ap (λ (k : Known). state k s o f) known ∙ ap (λ (w : List (ℕ × KeptWrite)). state b w o f) writes
    ∙ ap (λ (r : List (ℕ × ℕ)). state b t r f) opens ∙ ap (λ (h : Option ℕ). state b t p h) first

pub first_read_follows : (old new : Held) (number place : ℕ) → HasReadBegun old number place new → old ≡ nothing_held
    → FollowsFirst (state_of new) number Read place
first_read_follows old new number place h nothing after call b same asks =
    let changed = subst (λ (held : Held). HasReadBegun held number place new) nothing h in
    subst (FollowsKept after (λ _. None) place)
    (same_state nothing_held.known new.known nothing_held.writes new.writes new.opens new.opens nothing_held.first new.first
    (sym changed.known) (sym changed.writes) refl (sym changed.first))
    (first_read (λ _. None) place after call (state_of nothing_held) knows_nothing (λ _. refl) b asks number (open_at new) changed.opens)

pub first_write_follows : (old new : Held) (number place : ℕ) (value : List ℕ) → HasWriteBegun old number value place new
    → old ≡ nothing_held → FollowsFirst (state_of new) number (Write value) place
first_write_follows old new number place value h nothing after call b same asks =
    let changed = subst (λ (held : Held). HasWriteBegun held number value place new) nothing h in
    subst (FollowsKept after (λ _. None) place)
    (same_state nothing_held.known new.known new.writes new.writes nothing_held.opens new.opens nothing_held.first new.first
    (sym changed.known) refl (sym changed.opens) (sym changed.first))
    (first_write (λ _. None) place after call (state_of nothing_held) knows_nothing (λ _. refl) b value asks (write_at new)
    (subst (λ (n : ℕ). HasKept (write_at nothing_held) n (record { value = value; begin = place; end = None }) (write_at new)) (sym same)
    changed.writes))
