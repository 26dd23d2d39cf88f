-- Keys that are judged in turn.
use Rattle.std.proofs.Common.{ℕ, ◌≡◌, ◌<◌, ◌≤◌, ◌+◌, length, Bool, true, false, List, [], ◌∷◌, ◌++◌, Option, Some, None, get_or, inl}
use Rattle.std.proofs.Common.{inr, map, take, refl, sym, ap, subst, ◌∙◌, arith}
use Rattle.std.specs.Prelude.{IfNone, IfSome}
use Rattle.std.specs.List.{AllZip, slice_get}
use Rattle.std.proofs.lemmas.Bool.{cases_lt}
use Rattle.std.specs.Option.{option_or}
use Rattle.std.proofs.lemmas.List.{take_all}
use Rattle.std.proofs.lemmas.Option.{same_Some, slice_get_within}
use Rattle.tag.specs.declared.numbers.OpId.{OpId}
use Rattle.recorder.specs.Orders.{IsOrder}
use Rattle.recorder.specs.declared.order.KeyOrder.{KeyOrder}
use Rattle.tag.proofs.Lists.{item_at, slice_get-map_at}
use Rattle.parallel_keys.specs.CheckedKeys.{CheckedKey}
use Rattle.parallel_keys.specs.KeysToCheck.{what_of}
use Rattle.parallel_keys.specs.declared.collect_keys.KeyToCheck.{KeyToCheck}
use Rattle.judged_keys.specs.Findings.{IsFinding, is_refused, is_undecided}
use Rattle.judged_keys.specs.Judgements.{Judgement, judgement_of}
use Rattle.judged_keys.specs.declared.finding.Finding.{Finding}
use Rattle.judged_keys.specs.declared.finding.Finding.TheVariants as finding
use Rattle.judged_keys.specs.declared.finding.JudgedKey.{JudgedKey}
use Rattle.judged_keys.specs.declared.judged.Judged.{Judged}
use Rattle.draw_command.specs.Drawings.{IsDrawnOrder}
use Rattle.whole_pictures.specs.Together.{HasNoneBefore, IsFirst, IsOwnOrder}
use Rattle.whole_pictures.proofs.Zips.{zip_next}

-- a key that isn't refused and of which no order is drawn is undecided
pub undecided_then : (one : CheckedKey) (f : Finding) → is_refused f ≡ false → IsDrawnOrder one f None → is_undecided f ≡ true
undecided_then one finding.Ordered taken none = absurd (cc)
undecided_then one (finding.OrderFault fault) taken none = absurd (cc)
undecided_then one finding.Sound taken none = absurd (let e = none.2 in cc)
undecided_then one (finding.TagFault rule) taken none = absurd (cc)
undecided_then one finding.Atomic taken none = absurd (let e = none.2 in cc)
undecided_then one (finding.ValueFault fault) taken none = absurd (cc)
undecided_then one (finding.Undecided doubt) taken none = refl

-- a key of which an order is drawn isn't undecided
decided_then : (one : CheckedKey) (f : Finding) (order : List OpId) → IsDrawnOrder one f (Some order) → is_undecided f ≡ false
decided_then one finding.Ordered order drawn = refl
decided_then one (finding.OrderFault fault) order drawn = refl
decided_then one finding.Sound order drawn = refl
decided_then one (finding.TagFault rule) order drawn = refl
decided_then one finding.Atomic order drawn = refl
decided_then one (finding.ValueFault fault) order drawn = refl
decided_then one (finding.Undecided doubt) order drawn = absurd (cc)

-- the order that is drawn of a key is its own
pub own_so : (judged : Judged) (j : Judgement) (drawn : Option (List OpId)) (calls : List OpId) (own : KeyOrder)
    → IsFinding judged j.one j.finding → IsDrawnOrder j.one j.finding drawn
    → IfSome drawn (IsOrder j.one.part) → Some calls ≡ drawn → own.key ≡ j.one.key → own.order ≡ calls → IsOwnOrder judged j.one own
own_so judged j drawn calls own found chosen ordered is key order =
    let same : drawn ≡ Some own.order = sym is ∙ ap Some (sym order) in
    record {
      key = key;
      finding = j.finding;
      found = found;
      drawn = subst (λ (d : Option (List OpId)). IsDrawnOrder j.one j.finding d) same chosen;
      order = subst (λ (d : Option (List OpId)). IfSome d (IsOrder j.one.part)) same ordered;
    }

pub none_so : (j : Judgement) (drawn : Option (List OpId)) → IsDrawnOrder j.one j.finding drawn → None ≡ drawn
    → IsDrawnOrder j.one j.finding None
none_so j drawn chosen is = subst (λ (d : Option (List OpId)). IsDrawnOrder j.one j.finding d) (sym is) chosen

module _ (judged : Judged) (keys : List CheckedKey) where
  -- so many orders of the first keys; or the first of these that is undecided
  abbrev pub IsSoFar : ℕ → List KeyOrder → Option JudgedKey → Type 0
  IsSoFar n orders None = AllZip (IsOwnOrder judged) (take n keys) orders × HasNoneBefore judged is_undecided keys n
  IsSoFar n orders (Some key) = IsFirst judged is_undecided keys (judgement_of key)

  -- the first so many keys were judged, and none is refused
  pub record AreTaken (n : ℕ) (orders : List KeyOrder) (undecided : Option JudgedKey) : Type 0 where
    pub taken : HasNoneBefore judged is_refused keys n
    pub so_far : IsSoFar n orders undecided

  -- none of one more key
  none_more : (Is : Finding → Bool) (n : ℕ) (one : CheckedKey) (f : Finding) → slice_get keys n ≡ Some one → HasNoneBefore judged Is keys n
      → IsFinding judged one f → Is f ≡ false
      → HasNoneBefore judged Is keys (n + 1)
  none_more Is n one f at before found none i other below there =
      elim (cases_lt i n) [
        | inl h ↦ before i other h there
        | inr h ↦
            let same : i ≡ n = omega (arith, h, below) in
            let here : slice_get keys n ≡ Some other = subst (λ (k : ℕ). slice_get keys k ≡ Some other) same there in
            subst (λ (k : CheckedKey). (g : Finding) × IsFinding judged k g × (Is g ≡ false)) (same_Some one other (sym at ∙ here)) (f, found, none)
      ]

  module _ (n : ℕ) (orders : List KeyOrder) (one : CheckedKey) (f : Finding) (at : slice_get keys n ≡ Some one) (found : IsFinding judged one f) (taken : is_refused f ≡ false) where
    -- one key more, with its order
    so_far_ordered : (own : KeyOrder) (undecided : Option JudgedKey) → IsOwnOrder judged one own → IsSoFar n orders undecided
        → IsSoFar (n + 1) (orders ++ own ∷ []) undecided
    so_far_ordered own None is so_far = (
      zip_next (IsOwnOrder judged) keys orders n one own at so_far.0 is,
      none_more is_undecided n one is.finding at so_far.1 is.found (decided_then one is.finding own.order is.drawn),
    )
    so_far_ordered own (Some key) is so_far = so_far

    ordered_more : (own : KeyOrder) (undecided : Option JudgedKey) → IsOwnOrder judged one own → AreTaken n orders undecided
        → AreTaken (n + 1) (orders ++ own ∷ []) undecided
    ordered_more own undecided is so_far = record {
      taken = none_more is_refused n one f at so_far.taken found taken;
      so_far = so_far_ordered own undecided is so_far.so_far;
    }

    -- one key more, of which no order is drawn, after keys that have one
    first_undecided : IsDrawnOrder one f None → HasNoneBefore judged is_undecided keys n
        → IsFirst judged is_undecided keys (record { one = one; finding = f })
    first_undecided none before = record { place = n; there = at; found = found; is = undecided_then one f taken none; none_before = before }

    so_far_undecided : (key : JudgedKey) (undecided : Option JudgedKey) → judgement_of key ≡ record { one = one; finding = f }
        → IsDrawnOrder one f None → IsSoFar n orders undecided
        → IsSoFar (n + 1) orders (option_or undecided (Some key))
    so_far_undecided key None is none so_far = subst (IsFirst judged is_undecided keys) (sym is) (first_undecided none so_far.1)
    so_far_undecided key (Some other) is none so_far = so_far

    undecided_more : (key : JudgedKey) (undecided : Option JudgedKey) → judgement_of key ≡ record { one = one; finding = f }
        → IsDrawnOrder one f None → AreTaken n orders undecided
        → AreTaken (n + 1) orders (option_or undecided (Some key))
    undecided_more key undecided is none so_far = record {
      taken = none_more is_refused n one f at so_far.taken found taken;
      so_far = so_far_undecided key undecided is none so_far.so_far;
    }

    -- one key more, with its order or without
    pub one_more : (own : Option KeyOrder) (key : JudgedKey) (undecided now : Option JudgedKey) (new : List KeyOrder)
        → ((order : KeyOrder) → own ≡ Some order → (new ≡ orders ++ order ∷ []) × (now ≡ undecided))
        → (own ≡ None → (new ≡ orders) × (now ≡ option_or undecided (Some key)))
        → judgement_of key ≡ record { one = one; finding = f } → IfSome own (IsOwnOrder judged one) → IfNone own (IsDrawnOrder one f None)
        → AreTaken n orders undecided → AreTaken (n + 1) new now
    one_more (Some own) key undecided now new some none is its without so_far =
        let e = some own refl in
        subst (λ (os : List KeyOrder). AreTaken (n + 1) os now) (sym e.0)
        (subst (λ (u : Option JudgedKey). AreTaken (n + 1) (orders ++ own ∷ []) u) (sym e.1) (ordered_more own undecided its so_far))
    one_more None key undecided now new some none is its without so_far =
        let e = none refl in
        subst (λ (os : List KeyOrder). AreTaken (n + 1) os now) (sym e.0)
        (subst (λ (u : Option JudgedKey). AreTaken (n + 1) orders u) (sym e.1) (undecided_more key undecided is without so_far))

  -- all keys have an order
  pub all_ordered : (n : ℕ) (orders : List KeyOrder) → length keys ≤ n → AreTaken n orders None → AllZip (IsOwnOrder judged) keys orders
  all_ordered n orders all so_far = subst (λ (ks : List CheckedKey). AllZip (IsOwnOrder judged) ks orders) (take_all n keys all) so_far.so_far.0

  -- none of the keys is refused
  pub none_refused : (n : ℕ) (orders : List KeyOrder) (undecided : Option JudgedKey) → length keys ≤ n → AreTaken n orders undecided
      → (m : ℕ) → HasNoneBefore judged is_refused keys m
  none_refused n orders undecided all so_far m i one below at = so_far.taken i one (let within = slice_get_within keys i one at in omega (arith, within, all)) at

-- the next of the keys
pub next_key : (keys : List KeyToCheck) (i : ℕ) (one : KeyToCheck) → i < length keys → one ≡ get_or keys i one
    → slice_get (map what_of keys) i ≡ Some (what_of one)
next_key keys i one below is = slice_get-map_at what_of keys i one (item_at keys i one below is)
