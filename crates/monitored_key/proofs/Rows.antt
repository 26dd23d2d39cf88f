-- What the rows of a key need of what is held, and leave.
use Rattle.std.proofs.Common.{ℕ, ◌≡◌, ◌<◌, ◌≤◌, inl, inr, List, [], Option, Some, None, ap, sym, subst, ◌∙◌, refl, arith}
use Rattle.std.proofs.lemmas.Bool.{cases_eq}
use Rattle.std.proofs.lemmas.Option.{none-some, same_Some}
use Rattle.std.specs.Option.{unwrap_or}
use Rattle.kept_zones.specs.Overwriting.{HasZone, Known, LacksZone, last_of}
use Rattle.kept_zones.specs.Places.{PlaceMap}
use Rattle.key_monitor.specs.KeptWrites.{KeptWrite}
use Rattle.key_monitor.specs.Pending.{LacksOpen}
use Rattle.key_monitor.specs.Shown.{first_show}
use Rattle.monitored_key.specs.Changes.{AreStillKept}
use Rattle.monitored_key.specs.Indexes.{AreHighEnds, AreOwned}
use Rattle.monitored_key.specs.Maps.{Lacks, Sets, entry_at}
use Rattle.monitored_key.specs.Passes.{AreFewer}
use Rattle.monitored_key.specs.Together.{AreHigh, StandTogether}
use Rattle.monitored_key.proofs.Indexing.{with_end}
use Rattle.monitored_key.proofs.Maps.{found, none_unless}

-- nothing stands together
pub stand_nothing : (known : Known) (writes : ℕ → Option KeptWrite) (owners opens : ℕ → Option ℕ) → known ≡ record { zones = []; floor = 0 }
    → ((n : ℕ) → writes n ≡ None) → ((b : ℕ) → opens b ≡ None) → StandTogether known writes owners opens 0 0
stand_nothing known writes owners opens is no_write no_open = record {
  zoned = λ n end kept at e. absurd (none-some kept (sym (no_write n) ∙ at));
  owned = λ end last at. absurd (none-some last (sym (ap (λ (k : Known). last_of k.zones end) is) ∙ at));
  before = λ w last at. absurd (none-some last (sym (ap (λ (k : Known). last_of k.zones w) is) ∙ at));
  floor = (let e : known.floor ≡ 0 = ap (λ (k : Known). k.floor) is in omega arith);
  begun = λ n kept at. absurd (none-some kept (sym (no_write n) ∙ at));
  numbered = λ n kept at. absurd (none-some kept (sym (no_write n) ∙ at));
  opened = λ b n at. absurd (none-some n (sym (no_open b) ∙ at));
}

pub high_nothing : (known : Known) → known ≡ record { zones = []; floor = 0 } → AreHigh known
high_nothing known is end last at = absurd (none-some last (sym (ap (λ (k : Known). last_of k.zones end) is) ∙ at))

module _ (known : Known) (writes : ℕ → Option KeptWrite) (owners opens : ℕ → Option ℕ) (next number : ℕ)
    (are : AreOwned writes owners) (t : StandTogether known writes owners opens next number) where
  -- the zone of an owner
  zone_of_owner : (end n : ℕ) → owners end ≡ Some n → (last : ℕ) × (last_of known.zones end ≡ Some last)
  zone_of_owner end n at = let k = are.owner end n at in found (last_of known.zones end) (t.zoned n end k.0 k.1 k.2)

  -- no family has ended at the next row
  pub free_place : (place : ℕ) → next ≤ place → owners place ≡ None
  free_place place le = none_unless (owners place) (λ n at.
      let z = zone_of_owner place n at in
      let b = (t.before place z.0 z.1).0 in
      absurd (omega arith))

  pub high_ends : AreHigh known → AreHighEnds owners known.floor
  high_ends high end n at = let z = zone_of_owner end n at in high end z.0 z.1

  -- one write alone has that end
  pub one_end : (end n : ℕ) → owners end ≡ Some n → (m : ℕ) (k : KeptWrite) → writes m ≡ Some k → k.end ≡ Some end → m ≡ n
  one_end end n at m k at_m is = same_Some m n (sym (are.owned m end k at_m is) ∙ at)

-- a number that the next write may have is new
pub new_number : (writes : ℕ → Option KeptWrite) (number n : ℕ) → ((m : ℕ) (kept : KeptWrite) → writes m ≡ Some kept → m < number)
    → number ≤ n → writes n ≡ None
new_number writes number n below le = none_unless (writes n) (λ kept at. let low = below n kept at in absurd (omega arith))

-- ---- which writes are kept after a pass

pub still_same : (old new : ℕ → Option KeptWrite) → AreFewer old new → AreStillKept old new
still_same old new fewer n kept at = (kept, fewer n kept at, refl, refl)

pub still_ended : (old mid new : ℕ → Option KeptWrite) (n place : ℕ) (kept : KeptWrite) → old n ≡ Some kept
    → Sets old n (with_end kept place) mid → AreFewer mid new → AreStillKept old new
still_ended old mid new n place kept at s fewer m k is = elim (cases_eq m n) [
  | inl same ↦
      let here : with_end kept place ≡ k = same_Some (with_end kept place) k (sym s.here ∙ (ap mid (sym same) ∙ fewer m k is)) in (
        kept,
        ap old same ∙ at,
        ap (λ (x : KeptWrite). x.value) (sym here),
        ap (λ (x : KeptWrite). x.begin) (sym here),
      )
  | inr apart ↦ (k, sym (s.others m apart) ∙ fewer m k is, refl, refl)
]

pub fewer_after : (old mid new : ℕ → Option KeptWrite) → AreFewer old mid → AreFewer mid new → AreFewer old new
fewer_after old mid new a b n kept at = a n kept (b n kept at)

-- ---- where a value was first shown

pub first_is : (first : Option ℕ) (place : ℕ) → Some (unwrap_or first place) ≡ first_show first place
first_is None place = refl
first_is (Some at) place = refl

-- ---- a read is open, or no more

pub sets_place : (old : List (ℕ × ℕ)) (key value : ℕ) (new : List (ℕ × ℕ)) → HasZone old key value new
    → Sets (entry_at old) key value (entry_at new)
sets_place old key value new h = record { here = h.here; others = h.others }

pub lacks_place : (old : List (ℕ × ℕ)) (key : ℕ) (new : List (ℕ × ℕ)) → LacksZone old key new → Lacks (entry_at old) key (entry_at new)
lacks_place old key new h = record { here = h.here; others = h.others }

pub lacks_open : (opens : ℕ → Option ℕ) (begin : ℕ) (new : ℕ → Option ℕ) → Lacks opens begin new → LacksOpen opens begin new
lacks_open opens begin new l = record { here = l.here; others = l.others }

pub closes : (old mid new : PlaceMap) (begin : ℕ) → LacksZone old.entries begin mid.entries → new ≡ mid
    → LacksOpen (entry_at old.entries) begin (entry_at new.entries)
closes old mid new begin l same = subst (λ (m : PlaceMap). LacksOpen (entry_at old.entries) begin (entry_at m.entries)) (sym same)
    (lacks_open (entry_at old.entries) begin (entry_at mid.entries) (lacks_place old.entries begin mid.entries l))
