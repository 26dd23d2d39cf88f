-- The verdicts on the keys, said of every key.
use Rattle.std.proofs.Common.{ℕ, zero, suc, ◌≡◌, ◌⊎◌, inl, inr, Bool, true, false, cond, List, [], ◌∷◌, Option, Some, None, is_none, filter, map, refl, sym, ap, subst, ◌∙◌, arith}
use Rattle.std.specs.List.{Contains, slice_get, flat_map}
use Rattle.std.specs.Option.{option_map}
use Rattle.std.specs.Str.{bytes_eq}
use Rattle.std.specs.Map.{lookup}
use Rattle.std.specs.Cmp.Lexicographic.{bytes_decides}
use Rattle.std.proofs.lemmas.Option.{slice_get-map, slice_get_within}
use Rattle.tag.specs.declared.numbers.OpId.{OpId}
use Rattle.tag.proofs.Options.{none_from_is_none}
use Rattle.recorder.specs.Histories.{Recorded}
use Rattle.recorder.specs.declared.part.Call.{Call}
use Rattle.recorder.specs.declared.order.KeyOrder.{KeyOrder}
use Rattle.recorder.specs.Orders.{IsOrder}
use Rattle.tag.proofs.Lists.{Contains-slice_get, get_at, place_of, slice_get-map_back}
use Rattle.certificate_check.specs.Verdicts.{IsVerdict}
use Rattle.certificate_check.specs.declared.verdict.Verdict.{Verdict}
use Rattle.certificate_check.specs.declared.verdict.Verdict.TheVariants.{No}
use Rattle.certificate_check.specs.declared.verdict.Fault.{Fault}
use Rattle.certificate_check.proofs.Faults.{refuted}
use Rattle.file_format.specs.OrderFormat.{AreJoined, key_in, order_in, order_on}
use Rattle.parallel_keys.specs.Histories.{AreOn, KeyVerdicts}
use Rattle.parallel_keys.specs.CheckedKeys.{AreDistinct, CheckedKey, KeyParts, given_order, is_other, checked_keys}
use Rattle.parallel_keys.proofs.GivenOrders.{given_at}
use Rattle.cli.specs.Checks.{IsYes, IsNo, IsStatusOf}
use Rattle.cli.specs.VerdictStatuses.{SaysAll}
use Rattle.cli.specs.declared.status.Status.{Status}
use Rattle.cli.specs.declared.status.Status.TheVariants.{Good, Refused, Usage, Format, Failed, Undecided}
use Rattle.cli.proofs.Entries.{contains_nothing, contains_head, contains_tail, found_entry}
use Rattle.cli.proofs.HallParts.{HaveParts}
use Rattle.cli.proofs.CheckedKeys.{checked_of, other_at, recorded_at}

-- orders that pieces were joined to have no key twice
pub distinct : (pieces orders : List KeyOrder) → AreJoined pieces orders → AreDistinct orders
distinct pieces orders joined i j a b lt at_i at_j same =
    let key_at : (k : ℕ) (o : KeyOrder) → slice_get orders k ≡ Some o → slice_get (map key_in orders) k ≡ Some o.key = λ k o at. slice_get-map key_in orders k ∙ ap (option_map key_in) at in
    let first = joined.keys.each i a.key (key_at i a at_i) in
    let again = key_at j b at_j ∙ ap Some (sym same) in
    absurd (omega (arith, joined.keys.ordered i j a.key a.key first.0 first.0 lt (key_at i a at_i) again first.1 first.1))

-- the place of a key's order, or none has the key
abbrev IsHeld : List KeyOrder → List ℕ → Type 0
IsHeld orders key = (i : ℕ) × (one : KeyOrder) × (slice_get orders i ≡ Some one) × (one.key ≡ key)

abbrev IsFree : List KeyOrder → List ℕ → Type 0
IsFree orders key = (i : ℕ) (one : KeyOrder) → slice_get orders i ≡ Some one → one.key ≡ key → ⊥

held : (orders : List KeyOrder) (key : List ℕ) → IsHeld orders key ⊎ IsFree orders key
held [] key = inr (λ i one at same. absurd (cc))
held (o ∷ os) key = by (bytes_eq o.key key) refl (held os key)
  where
    missed : bytes_eq o.key key ≡ false → IsFree os key → IsFree (o ∷ os) key
    missed other free zero one at same =
        let is : o ≡ one = cc in
        let hit : bytes_eq o.key key ≡ true = (bytes_decides o.key key).1 (ap key_in is ∙ same) in
        absurd (cc)
    missed other free (suc i) one at same = free i one at same

    by : (b : Bool) → bytes_eq o.key key ≡ b → IsHeld os key ⊎ IsFree os key → IsHeld (o ∷ os) key ⊎ IsFree (o ∷ os) key
    by true hit later = inl (0, o, refl, (bytes_decides o.key key).0 hit)
    by false other (inl (i, one, at, same)) = inl (suc i, one, at, same)
    by false other (inr free) = inr (missed other free)

-- what is given for a key that none of the orders has
given_nothing : (orders : List KeyOrder) (key : List ℕ) → IsFree orders key → given_order orders key ≡ []
given_nothing [] key free = refl
given_nothing (o ∷ os) key free = by (bytes_eq o.key key) refl (given_nothing os key (λ i one at same. free (suc i) one at same))
  where
    by : (b : Bool) → bytes_eq o.key key ≡ b → given_order os key ≡ [] → cond (bytes_eq o.key key) o.order (given_order os key) ≡ []
    by true hit later = absurd (free 0 o refl ((bytes_decides o.key key).0 hit))
    by false missed later = ap (λ (b : Bool). cond b o.order (given_order os key)) missed ∙ later

-- the order of a key that no piece names is empty
unnamed : (key : List ℕ) (pieces : List KeyOrder) → ((p : KeyOrder) → Contains pieces p → bytes_eq p.key key ≡ true → ⊥) → order_on key pieces ≡ []
unnamed key [] none = refl
unnamed key (p ∷ ps) none = by (bytes_eq p.key key) refl (unnamed key ps (λ q h. none q (contains_tail p ps q h)))
  where
    by : (b : Bool) → bytes_eq p.key key ≡ b → order_on key ps ≡ [] → flat_map order_in (cond b (p ∷ filter (λ piece. bytes_eq piece.key key) ps) (filter (λ piece. bytes_eq piece.key key) ps)) ≡ []
    by true same later = absurd (none p (contains_head p ps) same)
    by false other later = later

module _ (pieces orders : List KeyOrder) (joined : AreJoined pieces orders) where
  -- an order is its key's in the pieces
  order_is : (i : ℕ) (one : KeyOrder) (key : List ℕ) → slice_get orders i ≡ Some one → one.key ≡ key → one.order ≡ order_on key pieces
  order_is i one key at same = joined.each i one at ∙ ap (λ (k : List ℕ). order_on k pieces) same

  -- a key that no order has is in no piece
  free_on : (key : List ℕ) → IsFree orders key → order_on key pieces ≡ []
  free_on key free = unnamed key pieces named
    where
      named : (p : KeyOrder) → Contains pieces p → bytes_eq p.key key ≡ true → ⊥
      named p h same =
          let at = place_of pieces p h in
          let named_at : slice_get (map key_in pieces) at.0 ≡ Some p.key = slice_get-map key_in pieces at.0 ∙ ap (option_map key_in) at.1 in
          let listed = joined.keys.all at.0 p.key named_at in
          let order = slice_get-map_back key_in orders listed.0 p.key listed.1 in
          free listed.0 order.0 order.1 (order.2 ∙ (bytes_decides p.key key).0 same)

  -- what is given for a key is its order in the pieces
  given_on : (key : List ℕ) → given_order orders key ≡ order_on key pieces
  given_on key = elim (held orders key) [
    | inl w ↦ sym (given_at orders w.0 w.1 key (distinct pieces orders joined) w.2 w.3) ∙ order_is w.0 w.1 key w.2 w.3
    | inr free ↦ given_nothing orders key free ∙ sym (free_on key free)
  ]

-- no call is the order of no call
pub empty_order : IsOrder [] []
empty_order = record {
  known = λ i h. absurd (omega (arith, h));
  once = λ i j h k. absurd (omega (arith, k));
  complete = λ call h k. absurd (contains_nothing call h);
  writes = λ i call stands pending. absurd (contains_nothing call stands.recorded);
  legal = λ i call response stands read answered. absurd (contains_nothing call stands.recorded);
  precedence = λ i j a b h stands later precedes. contains_nothing a stands.recorded;
}

module _ (halls : List Recorded) (parts : KeyParts) (have : HaveParts halls parts) where
  module _ (pieces orders : List KeyOrder) (verdicts : KeyVerdicts) (joined : AreJoined pieces orders) (on : AreOn (checked_keys parts orders) verdicts) where
    -- where all verdicts are yes, what is checked at a place is an order
    yes_at : SaysAll verdicts Good → (k : ℕ) (one : CheckedKey) → slice_get (checked_keys parts orders) k ≡ Some one → IsOrder one.part one.order
    yes_at all k one at =
        let within = slice_get_within (checked_keys parts orders) k one at in
        let told = get_at verdicts k (omega (arith, within, on.all)) in
        subst (λ (v : Verdict). IsVerdict one.part one.order v) (all k told.0 told.1) (on.each k one told.0 at told.1).1

    all_yes : SaysAll verdicts Good → (key : List ℕ) → IsYes halls pieces key
    all_yes all key = by (lookup (bytes_eq key) parts) refl
      where
        unrecorded : lookup (bytes_eq key) parts ≡ None → IsOrder [] (order_on key pieces)
        unrecorded none = elim (held orders key) [
          | inl w ↦
              let other : is_other parts w.1 ≡ true = ap (λ (k : List ℕ). is_none (lookup (bytes_eq k) parts)) w.3 ∙ ap is_none none in
              let checked = other_at parts orders w.0 w.1 w.2 other in
              subst (λ (order : List OpId). IsOrder [] order) (order_is pieces orders joined w.0 w.1 key w.2 w.3) (yes_at all checked.0 _ checked.1)
          | inr free ↦ subst (λ (order : List OpId). IsOrder [] order) (sym (free_on pieces orders joined key free)) empty_order
        ]

        by : (o : Option (List Call)) → lookup (bytes_eq key) parts ≡ o → IsYes halls pieces key
        by None is = record { part = []; recorded = have.none key is; ordered = unrecorded is }
        by (Some part) is =
            let h = found_entry parts key part is in
            let at = place_of parts (key, part) h in
            let checked = recorded_at parts orders at.0 (key, part) at.1 in
            record { part = part; recorded = have.each key part h; ordered = subst (λ (order : List OpId). IsOrder part order) (given_on pieces orders joined key) (yes_at all checked.0 _ checked.1) }

    -- a key whose verdict is a fault has no order
    no_at : (one : CheckedKey) (fault : Fault) → IsVerdict one.part one.order (No fault) → (part : List Call) (order : List OpId) → one.part ≡ part → one.order ≡ order → IsOrder part order → ⊥
    no_at one fault checked part order same_part same_order good = refuted one.part one.order fault checked (rw (same_part, same_order) good)

    some_no : SaysAll verdicts Refused → (key : List ℕ) × IsNo halls pieces key
    some_no (k, fault, refused) =
        let within = slice_get_within verdicts k (refused.key, No fault) refused.told in
        let one = get_at (checked_keys parts orders) k (omega (arith, within, on.all)) in
        let checked = (on.each k one.0 (refused.key, No fault) one.1 refused.told).1 in
        elim (checked_of parts orders k one.0 one.1) [
          | inl w ↦
              let entry = w.1 in
              let order = ap (λ (j : CheckedKey). j.order) (sym w.3) ∙ given_on pieces orders joined entry.0 in (
                entry.0,
                record {
                  part = entry.1;
                  recorded = have.each entry.0 entry.1 (Contains-slice_get parts w.0 entry w.2);
                  unordered = no_at one.0 fault checked entry.1 (order_on entry.0 pieces) (ap (λ (j : CheckedKey). j.part) (sym w.3)) order;
                },
              )
          | inr w ↦
              let order = ap (λ (j : CheckedKey). j.order) (sym w.4) ∙ order_is pieces orders joined w.0 w.1 w.1.key w.2 refl in (
                w.1.key,
                record {
                  part = [];
                  recorded = have.none w.1.key (none_from_is_none (lookup (bytes_eq w.1.key) parts) w.3);
                  unordered = no_at one.0 fault checked [] (order_on w.1.key pieces) (ap (λ (j : CheckedKey). j.part) (sym w.4)) order;
                },
              )
        ]

    -- the status says it
    pub status_is : (s : Status) → SaysAll verdicts s → IsStatusOf halls pieces s
    status_is Good all = all_yes all
    status_is Refused some = some_no some
    status_is Usage none = none
    status_is Undecided none = none
    status_is Format none = none
    status_is Failed none = none
