-- Open calls as contracts see them, by their maps.
use Rattle.std.proofs.Common.{ℕ, ◌≡◌, ◌+◌, Bool, true, false, not, Option, Some, None, MatchOption, is_some, Bor, ap, sym, ◌∙◌, refl}
use mathlib.Core.Bool.{beq}
use Rattle.std.proofs.lemmas.Option.{none-some}
use Rattle.std.specs.FinMap as finite
use Rattle.std.specs.Option.{option_copied}
use Rattle.std.specs.Ordering.{nat_cmp}
use Rattle.tag.specs.declared.numbers.OpId.{OpId}
use Rattle.open_calls.specs.declared.open_call.OpenCall.{OpenCall}
use Rattle.open_calls.specs.declared.numbered.Numbered.{Numbered}
use Rattle.open_calls.specs.Indexes.{AreIndexed}
use Rattle.open_calls.specs.Numbered.{AreFit, Sets, map_of, noted_call, value_in}
use Rattle.open_calls.specs.Open.{Open, call_at, HasCallOf, with_answer, with_begun, with_note}
use Rattle.open_calls.proofs.Mapped.{get_map, map_gone, map_none, map_put, map_same}

module _ {T : Type 0} where
  -- how many calls were begun, and those that are kept
  abbrev pub seen : ℕ → Numbered (OpenCall T) → Open T
  seen begun m = record { begun = begun; calls = map_of m }

  seen_as : (begun : ℕ) (a b : finite.FinMap nat_cmp (OpenCall T)) → a ≡ b → ◌≡◌ {A = Open T} (record { begun = begun; calls = a }) (record { begun = begun; calls = b })
  seen_as begun a b e = λ i. record { begun = begun; calls = e i }

  pub view_none : (m : Numbered (OpenCall T)) → AreFit m → ((q : ℕ) → value_in m q ≡ None) → ◌≡◌ {A = Open T} (seen 0 m) (record { begun = 0; calls = finite.empty })
  view_none m fit none = seen_as 0 (map_of m) finite.empty (map_none m fit none)

  module _ (m n : Numbered (OpenCall T)) (was : AreFit m) (is : AreFit n) where
    pub view_same : (begun : ℕ) → ((q : ℕ) → value_in n q ≡ value_in m q) → seen begun n ≡ seen begun m
    view_same begun same = seen_as begun (map_of n) (map_of m) (map_same m n was is same)

    pub view_begun : (begun number : ℕ) (call : OpenCall T) → number ≡ begun → Sets (value_in m) number (Some call) (value_in n) → seen (begun + 1) n ≡ with_begun (seen begun m) call
    view_begun begun number call next sets =
        seen_as (begun + 1) (map_of n) (finite.insert (map_of m) begun call) (map_put m n was is number call sets ∙ ap (λ (k : ℕ). finite.insert (map_of m) k call) next)

    pub view_noted : (begun number : ℕ) (call : OpenCall T) → Sets (value_in m) number (Some (noted_call call)) (value_in n) → seen begun n ≡ with_note (seen begun m) number call
    view_noted begun number call sets = seen_as begun (map_of n) (finite.insert (map_of m) number (noted_call call)) (map_put m n was is number (noted_call call) sets)

    pub view_answered : (begun number : ℕ) → Sets (value_in m) number None (value_in n) → seen begun n ≡ with_answer (seen begun m) number
    view_answered begun number sets = seen_as begun (map_of n) (finite.remove (map_of m) number) (map_gone m n was is number sets)

  -- ---- a client's call, by what is kept
  module _ (begun : ℕ) (m : Numbered (OpenCall T)) (fit : AreFit m) (clients : ℕ → Option ℕ) (are : AreIndexed begun (value_in m) clients) (client : ℕ) where
    pub call_found : (number : ℕ) → clients client ≡ Some number → (call : OpenCall T) × (call_at (seen begun m) number ≡ Some call) × (call.client ≡ client)
    call_found number at = let o = are.owned client number at in (o.0, get_map m fit number ∙ o.1, o.2)

    pub no_call : None ≡ clients client → HasCallOf (seen begun m) client → ⊥
    no_call none h =
        let owner = are.owner h.0 h.1 (sym (get_map m fit h.0) ∙ h.2) in
        none-some h.0 (none ∙ (ap clients (sym h.3) ∙ owner))

    pub not_of : (HasCallOf (seen begun m) client → ⊥) → (number : ℕ) (call : OpenCall T) → value_in m number ≡ Some call → call.client ≡ client → ⊥
    not_of idle number call at mine = idle (number, call, get_map m fit number ∙ at, mine)

  -- ---- what was found of a client
  module _ (state : Open T) (client : ℕ) where
    abbrev pub Found : Option OpId → Type 0
    Found r = MatchOption r (HasCallOf state client → ⊥) (λ op. (call : OpenCall T) × (call_at state op.0 ≡ Some call) × (call.client ≡ client))

    pub found_one : (r : Option OpId) → Found r → is_some r ≡ true → HasCallOf state client
    found_one None m e = absurd cc
    found_one (Some op) m e = (op.0, m.0, m.1, m.2)

    pub is_found : (r : Option OpId) → Found r → HasCallOf state client → is_some r ≡ true
    is_found None m h = absurd (m h)
    is_found (Some op) m h = refl

-- ---- tests
pub copied_some : {X : Type 0} (r : Option (Bor X)) → is_some r ≡ is_some (option_copied r)
copied_some None = refl
copied_some (Some x) = refl

pub bools_differ : (a b : Bool) → not (beq a b) ≡ true → a ≡ b → ⊥
bools_differ true true e same = cc
bools_differ true false e same = cc
bools_differ false true e same = cc
bools_differ false false e same = cc

pub bools_same : (a b : Bool) → not (beq a b) ≡ false → a ≡ b
bools_same true true e = refl
bools_same true false e = absurd cc
bools_same false true e = absurd cc
bools_same false false e = refl
