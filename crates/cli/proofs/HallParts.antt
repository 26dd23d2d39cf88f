-- The parts of the keys of several halls, one hall after another.
use Rattle.std.proofs.Common.{ℕ, zero, suc, ◌≡◌, ◌<◌, ◌≤◌, List, [], ◌∷◌, Some, None, is_some, true, false, length, sum, inl, inr, refl, ap, subst, ◌∙◌, arith}
use Rattle.std.specs.List.{Contains, slice_get}
use Rattle.std.specs.Str.{bytes_eq}
use Rattle.std.specs.Map.{lookup}
use Rattle.std.proofs.Math.Nat.{mod-lt}
use Rattle.std.proofs.lemmas.Option.{slice_get_within, get_or_from_slice_get}
use Rattle.std.proofs.lemmas.List.Elements.{All-get_or, Contains-append_left, Contains-append_right, Contains-append_cases}
use Rattle.recorder.specs.declared.row.Row.{Row}
use Rattle.recorder.specs.declared.row.Row.TheVariants.{Invoke}
use Rattle.recorder.specs.declared.part.Call.{Call}
use Rattle.recorder.specs.Histories.{Recorded}
use Rattle.recorder.specs.Halls.{AreOfTheirHalls, FallsTo, hall_of}
use Rattle.recorder.specs.Records.{AreParts, IsPart}
use Rattle.tag.proofs.Lists.{get_at}
use Rattle.parallel_keys.specs.Histories.{AreHallParts}
use Rattle.parallel_keys.specs.CheckedKeys.{KeyParts, all_parts}
use Rattle.cli.specs.Checks.{IsHallPart}
use Rattle.cli.proofs.Entries.{contains_nothing, found_key}

-- an entry of one of the lists is one of all of them, and the other way round
among_all : (parts : List KeyParts) (k : ℕ) (own : KeyParts) (entry : List ℕ × List Call) → slice_get parts k ≡ Some own → Contains own entry → Contains (all_parts parts) entry
among_all [] k own entry at h = absurd (cc)
among_all (p ∷ parts) zero own entry at h = let is : own ≡ p = cc in Contains-append_left p (all_parts parts) entry (subst (λ (x : KeyParts). Contains x entry) is h)
among_all (p ∷ parts) (suc k) own entry at h = Contains-append_right p (all_parts parts) entry (among_all parts k own entry at h)

-- the entry stands among those of one of the halls
pub record StandsInHall (parts : List KeyParts) (entry : List ℕ × List Call) : Type 0 where
  pub hall : ℕ
  pub own : KeyParts
  pub at : slice_get parts hall ≡ Some own
  pub has : Contains own entry

of_all : (parts : List KeyParts) (entry : List ℕ × List Call) → Contains (all_parts parts) entry → StandsInHall parts entry
of_all [] entry h = absurd (contains_nothing entry h)
of_all (p ∷ parts) entry h = elim (Contains-append_cases p (all_parts parts) entry h) [
  | inl w ↦ record { hall = 0; own = p; at = refl; has = w }
  | inr w ↦ let later = of_all parts entry w in record { hall = suc later.hall; own = later.own; at = later.at; has = later.has }
]

-- where no call is begun on a key, the key has the part without a call
unbegun : (rows : List Row) (own : KeyParts) (key : List ℕ) → AreParts rows own → ((part : List Call) → Contains own (key, part) → ⊥) → IsPart rows key []
unbegun rows own key are none = record {
  each = λ call h. absurd (contains_nothing call h);
  all = λ place op client action h. let part = are.all key place (op, client, action, h) in absurd (none part.0 part.1);
  ordered = λ i j a b h first second. absurd (cc);
}

-- the list has the parts of the histories' keys, each in its own hall's, and no other key has a call
pub record HaveParts (halls : List Recorded) (parts : KeyParts) : Type 0 where
  pub each : (key : List ℕ) (part : List Call) → Contains parts (key, part) → IsHallPart halls key part
  pub none : (key : List ℕ) → lookup (bytes_eq key) parts ≡ None → IsHallPart halls key []

module _ (halls : List Recorded) (parts : List KeyParts) (are : AreHallParts halls parts) (some : 1 ≤ length halls) (keys : AreOfTheirHalls (length halls) halls) where
  -- a key's part is in the hall that the key falls to
  falls : (hall : ℕ) (history : Recorded) (key : List ℕ) (part : List Call) (own : KeyParts) → slice_get halls hall ≡ Some history → AreParts history.rows own → Contains own (key, part) → hall_of (length halls) key ≡ hall
  falls hall history key part own at are_own h =
      let seen = are_own.seen key part h in
      let begins = seen.1.begins in
      let row : Row = Invoke begins.0 begins.1 key begins.2 in
      let here : slice_get history.rows seen.0 ≡ Some row = begins.3 in
      subst (FallsTo (length halls) hall) (get_or_from_slice_get history.rows seen.0 row row here) (All-get_or (FallsTo (length halls) hall) history.rows seen.0 row (slice_get_within history.rows seen.0 row here) (keys hall history at))

  own_part : (key : List ℕ) (part : List Call) → Contains (all_parts parts) (key, part) → IsHallPart halls key part
  own_part key part h =
      let found = of_all parts (key, part) h in
      let history = get_at halls found.hall (omega (arith, slice_get_within parts found.hall found.own found.at, are.all)) in
      let are_own = are.each found.hall history.0 found.own history.1 found.at in
      record {
        history = history.0;
        own = ap (slice_get halls) (falls found.hall history.0 key part found.own history.1 are_own found.has) ∙ history.1;
        recorded = are_own.each key part found.has;
      }

  no_part : (key : List ℕ) → lookup (bytes_eq key) (all_parts parts) ≡ None → IsHallPart halls key []
  no_part key none =
      let hall = hall_of (length halls) key in
      let within : hall < length halls = mod-lt (sum key) (omega (arith, some)) in
      let history = get_at halls hall within in
      let own = get_at parts hall (omega (arith, within, are.all)) in
      let missed : is_some (lookup (bytes_eq key) (all_parts parts)) ≡ false = ap is_some none in
      let nothing : (part : List Call) → Contains own.0 (key, part) → ⊥ = λ part h.
      let found : is_some (lookup (bytes_eq key) (all_parts parts)) ≡ true = found_key (all_parts parts) key part (among_all parts hall own.0 (key, part) own.1 h) in absurd (cc) in
      record {
        history = history.0;
        own = history.1;
        recorded = unbegun history.0.rows own.0 key (are.each hall history.0 own.0 history.1 own.1) nothing;
      }

  pub have_parts : HaveParts halls (all_parts parts)
  have_parts = record { each = own_part; none = no_part }
