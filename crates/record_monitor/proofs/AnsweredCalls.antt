-- Answered calls that are kept: what stays with one more, and when some are dropped.
use Rattle.std.proofs.Common.{ℕ, ◌≡◌, ◌||◌, ◌<◌, ◌+◌, inl, inr, Bool, true, false, cond, List, [], ◌∷◌, ◌++◌, Option, Some, None, IfSome, IsSome, All, arith}
use Rattle.std.proofs.Common.{filter, find, get_or, ap, sym, ◌∙◌, subst, refl}
use Rattle.std.proofs.lemmas.Bool.{cases_eq, false≢true}
use Rattle.std.proofs.lemmas.Bool.Decides.{Decides-eqb}
use Rattle.std.proofs.lemmas.List.Elements.{All-cons, All-head, All-tail}
use Rattle.std.proofs.lemmas.List.Folds.{list_any-append}
use Rattle.std.proofs.lemmas.Option.{get_or_from_slice_get}
use Rattle.std.specs.BTreeMap.{is_at}
use Rattle.std.specs.BTreeSet.{BTreeSet, UpdatesBy, contains}
use Rattle.std.specs.List.{list_any, slice_get}
use Rattle.std.specs.Ordering.{nat_cmp}
use Rattle.monitored_key.specs.declared.kept_zone.KeptZone.{KeptZone}
use Rattle.record_monitor.specs.declared.key_calls.KeyCalls.{KeyCalls}
use Rattle.record_monitor.specs.declared.placed.Placed.{Placed}
use Rattle.record_monitor.specs.declared.told.ToldCall.{ToldCall}
use Rattle.record_monitor.specs.KeyCalls.{AreAmong, GoesOver, HasAnswered, HasBegun, KeepsCalls, has_place}
use Rattle.record_monitor.specs.Placed.{StaysBut, call_in}
use Rattle.record_monitor.specs.KeyCalls.{is_begun_at, is_ended_at, is_in, is_one_of, is_there}

or_right : (a b : Bool) → b ≡ true → (a || b) ≡ true
or_right true b e = refl
or_right false b e = e

or_left : (a b : Bool) → a ≡ true → (a || b) ≡ true
or_left a b e = ap (λ (x : Bool). x || b) e

module _ {X : Type 0} (p : X → Bool) where
  -- one that passes is among them with one more
  any_left : (xs : List X) (x : X) → list_any p xs ≡ true → list_any p (xs ++ x ∷ []) ≡ true
  any_left xs x e = list_any-append p xs (x ∷ []) ∙ or_left (list_any p xs) (list_any p (x ∷ [])) e

  -- and so is the last, if it passes
  any_last : (xs : List X) (x : X) → p x ≡ true → list_any p (xs ++ x ∷ []) ≡ true
  any_last xs x e = list_any-append p xs (x ∷ []) ∙ or_right (list_any p xs) (p x || false) (or_left (p x) false e)

  -- if one passes, one is found
  first_found : (x : X) (rest : Option X) (b l : Bool) → (l ≡ true → IsSome rest) → (b || l) ≡ true → IsSome (cond b (Some x) rest)
  first_found x rest true l f e = refl
  first_found x rest false l f e = f e

  pub any_found : (xs : List X) → list_any p xs ≡ true → IsSome (find p xs)
  any_found [] e = e
  any_found (x ∷ xs) e = first_found x (find p xs) (p x) (list_any p xs) (any_found xs) e

  module _ (P : X → Type 0) where
    -- what holds of all holds of the one that is found, which passes
    first_of : (x : X) (rest : Option X) (b : Bool) → p x ≡ b → P x → IfSome rest (λ y. P y × (p y ≡ true))
        → IfSome (cond b (Some x) rest) (λ y. P y × (p y ≡ true))
    first_of x rest true e h r = (h, e)
    first_of x rest false e h r = r

    pub found_of_all : (xs : List X) → All P xs → IfSome (find p xs) (λ y. P y × (p y ≡ true))
    found_of_all [] a = tt
    found_of_all (x ∷ xs) a = first_of x (find p xs) (p x) refl (All-head P x xs a) (found_of_all xs (All-tail P x xs a))

    -- and of those that pass
    kept_or_not : (x : X) (xs : List X) (b : Bool) → P x → All P xs → All P (cond b (x ∷ xs) xs)
    kept_or_not x xs true h a = All-cons P x xs h a
    kept_or_not x xs false h a = a

    pub all_filter : (xs : List X) → All P xs → All P (filter p xs)
    all_filter [] a = a
    all_filter (x ∷ xs) a = kept_or_not x (filter p xs) (p x) (All-head P x xs a) (all_filter xs (All-tail P x xs a))

  module _ (q : X → Bool) where
    -- one that passes the first test is kept by the second, if all that pass the first pass the second
    any_step : (x : X) (xs ys : List X) (a b : Bool) → p x ≡ a → (a ≡ true → b ≡ true) → (list_any p xs ≡ true → list_any p ys ≡ true)
        → (a || list_any p xs) ≡ true → list_any p (cond b (x ∷ ys) ys) ≡ true
    any_step x xs ys true true e h r t = or_left (p x) (list_any p ys) e
    any_step x xs ys false true e h r t = or_right (p x) (list_any p ys) (r t)
    any_step x xs ys true false e h r t = absurd (false≢true (h refl))
    any_step x xs ys false false e h r t = r t

    any_kept : (xs : List X) → ((x : X) → p x ≡ true → q x ≡ true) → list_any p xs ≡ true → list_any p (filter q xs) ≡ true
    any_kept [] h t = t
    any_kept (x ∷ xs) h t = any_step x xs (filter q xs) (p x) (q x) refl (h x) (any_kept xs h) t

-- where a call with that answer was answered
pub ended_there : (place : ℕ) (answer : Option ℕ) → is_there place answer ≡ true → answer ≡ Some place
ended_there place None e = absurd (false≢true e)
ended_there place (Some end) e = ap Some ((Decides-eqb end place).0 e)

ended_of : (P : ToldCall → Type 0) (end : ℕ) (o : Option ToldCall) → IfSome o (λ call. P call × (is_ended_at end call ≡ true))
    → IfSome o (λ call. P call × (call.answered ≡ Some end))
ended_of P end None h = tt
ended_of P end (Some call) h = (h.0, ended_there end call.answered h.1)

-- of calls that are told, one that is found as answered there was
pub found_ended : (P : ToldCall → Type 0) (end : ℕ) (calls : List ToldCall) → All P calls
    → IfSome (find (is_ended_at end) calls) (λ call. P call × (call.answered ≡ Some end))
found_ended P end calls a = ended_of P end (find (is_ended_at end) calls) (found_of_all (is_ended_at end) P calls a)

-- one that is found as begun there was
pub found_begun : (P : ToldCall → Type 0) (begin : ℕ) (calls : List ToldCall) → All P calls → (call : ToldCall)
    → find (is_begun_at begin) calls ≡ Some call → P call × (call.begun ≡ begin)
found_begun P begin calls a call e =
    let h = subst (λ (o : Option ToldCall). IfSome o (λ x. P x × (is_begun_at begin x ≡ true))) e (found_of_all (is_begun_at begin) P calls a) in
    (h.0, (Decides-eqb call.begun begin).0 h.1)

-- what was kept is kept with one more call, though the write that began where it did is no longer pending
module _ (old new : KeyCalls) (ended : ToldCall) (more : new.answered.items ≡ old.answered.items ++ ended ∷ []) where
  listed : (p : ToldCall → Bool) → list_any p (old.answered.items ++ ended ∷ []) ≡ true → list_any p new.answered.items ≡ true
  listed p e = ap (list_any p) more ∙ e

  pub begun_kept : (begin : ℕ) → ended.begun ≡ begin → HasBegun new begin
  begun_kept begin same = inl (listed (is_begun_at begin) (any_last (is_begun_at begin) old.answered.items ended
      ((Decides-eqb ended.begun begin).1 same)))

  pub end_kept : (place : ℕ) → ended.answered ≡ Some place → HasAnswered new place
  end_kept place same = listed (is_ended_at place) (any_last (is_ended_at place) old.answered.items ended
      (ap (is_there place) same ∙ (Decides-eqb place place).1 refl))

  pub ended_keeps : StaysBut ended.begun old.writes new.writes → KeepsCalls old new
  ended_keeps stays = record {
    begun = λ begin h. elim h [
      | inl a ↦ inl (listed (is_begun_at begin) (any_left (is_begun_at begin) old.answered.items ended a))
      | inr w ↦ elim (cases_eq begin ended.begun) [
        | inl same ↦ begun_kept begin (sym same)
        | inr apart ↦ inr (stays begin apart w)
      ]
    ];
    ended = λ end h. listed (is_ended_at end) (any_left (is_ended_at end) old.answered.items ended h);
  }

-- ---- calls of which a place is among these

module _ (places : BTreeSet ℕ) where
  begun_among : (place : ℕ) → is_one_of places place ≡ true → (call : ToldCall) → is_begun_at place call ≡ true
      → has_place places call ≡ true
  begun_among place e call at = or_left (is_one_of places call.begun) (is_in places call.answered)
      (ap (is_one_of places) ((Decides-eqb call.begun place).0 at) ∙ e)

  ended_among : (place : ℕ) → is_one_of places place ≡ true → (call : ToldCall) → is_ended_at place call ≡ true
      → has_place places call ≡ true
  ended_among place e call at = or_right (is_one_of places call.begun) (is_in places call.answered)
      (ap (is_in places) (ended_there place call.answered at) ∙ e)

  module _ (old new : KeyCalls) (e : new.answered.items ≡ filter (has_place places) old.answered.items)
      (w : new.writes ≡ old.writes) where
    begun_still : (begin : ℕ) → is_one_of places begin ≡ true → HasBegun old begin → HasBegun new begin
    begun_still begin one h = elim h [
      | inl x ↦ inl (ap (list_any (is_begun_at begin)) e
          ∙ any_kept (is_begun_at begin) (has_place places) old.answered.items (begun_among begin one) x)
      | inr x ↦ inr (subst (λ (m : Placed). IsSome (call_in m begin)) (sym w) x)
    ]

    -- of a zone whose places are among these all is kept
    pub kept_over : (zone : KeptZone) → AreAmong places zone → GoesOver old new zone
    kept_over zone a = record {
      write = begun_still zone.begin a.write;
      last = begun_still zone.last a.last;
      end = λ h. ap (list_any (is_ended_at zone.end)) e
          ∙ any_kept (is_ended_at zone.end) (has_place places) old.answered.items (ended_among zone.end a.end) h;
    }

-- ---- the places of zones

-- those of the first zones are among these
abbrev pub AreGathered : BTreeSet ℕ → List KeptZone → ℕ → Type 0
AreGathered places zones count = (k : ℕ) (zone : KeptZone) → k < count → slice_get zones k ≡ Some zone → AreAmong places zone

or_new : (t b : Bool) → b ≡ true → cond t true b ≡ true
or_new true b e = refl
or_new false b e = e

-- a place that was among them is, with one more
pub one_more : (old new : BTreeSet ℕ) (one : ℕ) → UpdatesBy nat_cmp (nat_cmp one) old new true → (place : ℕ)
    → is_one_of old place ≡ true → is_one_of new place ≡ true
one_more old new one u place e = u.0 place ∙ or_new (is_at (nat_cmp one) place) (contains nat_cmp old place) e

pub gathered_more : (old new : BTreeSet ℕ) (zones : List KeptZone) (count : ℕ) (d : KeptZone) → AreGathered old zones count
    → ((place : ℕ) → is_one_of old place ≡ true → is_one_of new place ≡ true) → AreAmong new (get_or zones count d)
    → AreGathered new zones (count + 1)
gathered_more old new zones count d g still last k zone less at = elim (cases_eq k count) [
  | inl same ↦ subst (AreAmong new) (ap (λ n. get_or zones n d) (sym same) ∙ get_or_from_slice_get zones k zone d at) last
  | inr apart ↦
      let a = g k zone (omega arith) at in
      record { write = still zone.begin a.write; last = still zone.last a.last; end = still zone.end a.end }
]
