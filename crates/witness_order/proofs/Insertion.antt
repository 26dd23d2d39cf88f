-- The keys of a part's calls can be sorted.
use Rattle.std.proofs.Common.{ℕ, zero, suc, ◌≡◌, ◌<◌, ◌⊎◌, inl, inr, List, [], ◌∷◌, Option, Some, None, ap, subst, refl, sym, ◌∙◌, arith}
use Rattle.std.specs.List.{slice_get}
use Rattle.tag.specs.declared.numbers.OpId.{OpId}
use Rattle.recorder.specs.declared.part.Call.{Call}
use Rattle.recorder.specs.Parts.{IsSequence}
use Rattle.recorder.specs.Sound.{IsByTag}
use Rattle.witness_order.specs.declared.sort_key.SortKey.{SortKey}
use Rattle.witness_order.specs.Keys.{key_of}
use Rattle.witness_order.specs.Notes.{AllNoted}
use Rattle.tag.proofs.Lists.{place_of, Contains-slice_get}
use Rattle.witness_order.proofs.Lists.{In}
use Rattle.witness_order.proofs.KeyOrder.{IsFirst, first_of, first_first}
use Rattle.witness_order.proofs.ByKeys.{AreSorted, ops_of, IsByTag-keys}

-- how two keys stand
abbrev Compared : SortKey → SortKey → Type 0
Compared x y = IsFirst x y ⊎ (IsFirst y x ⊎ (x ≡ y))

-- a key at its place among sorted ones; where it is there, nothing
place_by : (x y : SortKey) (ys rest : List SortKey) → Compared x y → List SortKey
place_by x y ys rest (inl p) = x ∷ y ∷ ys
place_by x y ys rest (inr (inl q)) = y ∷ rest
place_by x y ys rest (inr (inr e)) = y ∷ ys

place : SortKey → List SortKey → List SortKey
place x [] = x ∷ []
place x (y ∷ ys) = place_by x y ys (place x ys) (first_of x y)

-- elements of a longer list
there : {X : Type 0} (x : X) (xs : List X) (c : X) → In xs c → In (x ∷ xs) c
there x xs c h = (suc h.0, h.1)

split : {X : Type 0} (x : X) (xs : List X) (c : X) → In (x ∷ xs) c → (x ≡ c) ⊎ In xs c
split x xs c (zero, e) = inl cc
split x xs c (suc i, e) = inr (i, e)

none : {X : Type 0} (c : X) → In [] c → ⊥
none c (i, e) = cc

-- what is there after a key is placed was there, or is the key
placed_step : (x y : SortKey) (ys rest : List SortKey) (d : Compared x y) (c : SortKey) → (In rest c → (x ≡ c) ⊎ In ys c) → In (place_by x y ys rest d) c → (x ≡ c) ⊎ In (y ∷ ys) c
unfolding place_by
placed_step x y ys rest (inl p) c h i = split x (y ∷ ys) c i
placed_step x y ys rest (inr (inl q)) c h i =
    elim (split y rest c i) [ inl e ↦ inr (0, ap Some e) | inr r ↦ elim (h r) [ inl e ↦ inl e | inr k ↦ inr (there y ys c k) ] ]
placed_step x y ys rest (inr (inr e)) c h i = inr i

placed : (x : SortKey) (ys : List SortKey) (c : SortKey) → In (place x ys) c → (x ≡ c) ⊎ In ys c
unfolding place
placed x [] c i = split x [] c i
placed x (y ∷ ys) c i = placed_step x y ys (place x ys) (first_of x y) c (placed x ys c) i

placing_step : (x y : SortKey) (ys rest : List SortKey) (d : Compared x y) (c : SortKey) → ((x ≡ c) ⊎ In ys c → In rest c) → (x ≡ c) ⊎ In (y ∷ ys) c → In (place_by x y ys rest d) c
unfolding place_by
placing_step x y ys rest (inl p) c h (inl e) = (0, ap Some e)
placing_step x y ys rest (inl p) c h (inr i) = there x (y ∷ ys) c i
placing_step x y ys rest (inr (inl q)) c h (inl e) = there y rest c (h (inl e))
placing_step x y ys rest (inr (inl q)) c h (inr i) = elim (split y ys c i) [ inl e ↦ (0, ap Some e) | inr k ↦ there y rest c (h (inr k)) ]
placing_step x y ys rest (inr (inr same)) c h (inl e) = (0, ap Some (sym same ∙ e))
placing_step x y ys rest (inr (inr same)) c h (inr i) = i

placing : (x : SortKey) (ys : List SortKey) (c : SortKey) → (x ≡ c) ⊎ In ys c → In (place x ys) c
unfolding place
placing x [] c (inl e) = (0, ap Some e)
placing x [] c (inr i) = absurd (none c i)
placing x (y ∷ ys) c h = placing_step x y ys (place x ys) (first_of x y) c (placing x ys c) h

-- the keys stay sorted
abbrev Leads : SortKey → List SortKey → Type 0
Leads x ys = (c : SortKey) → In ys c → IsFirst x c

abbrev Rises : List SortKey → Type 0
Rises [] = Unit {0}
Rises (x ∷ xs) = Leads x xs × Rises xs

leads_all : (x y : SortKey) (ys : List SortKey) → IsFirst x y → Leads y ys → Leads x (y ∷ ys)
leads_all x y ys p lead c i = elim (split y ys c i) [ inl e ↦ subst (IsFirst x) e p | inr k ↦ first_first x y c p (lead c k) ]

rises_step : (x y : SortKey) (ys rest : List SortKey) (d : Compared x y) → Leads y ys × Rises ys → Rises rest → ((c : SortKey) → In rest c → (x ≡ c) ⊎ In ys c) → Rises (place_by x y ys rest d)
unfolding place_by
rises_step x y ys rest (inl p) r s out = (leads_all x y ys p r.0, r)
rises_step x y ys rest (inr (inl q)) r s out = (λ c i. elim (out c i) [ inl e ↦ subst (IsFirst y) e q | inr k ↦ r.0 c k ], s)
rises_step x y ys rest (inr (inr e)) r s out = r

rises_place : (x : SortKey) (ys : List SortKey) → Rises ys → Rises (place x ys)
unfolding place
rises_place x [] r = (λ c i. absurd (none c i), tt)
rises_place x (y ∷ ys) r = rises_step x y ys (place x ys) (first_of x y) r (rises_place x ys r.1) (placed x ys)

-- sorted keys of calls
record Made (calls : List Call) : Type 0 where
  keys : List SortKey
  each : (key : SortKey) → In keys key → (call : Call) × In calls call × (key_of call ≡ Some key)
  all : (call : Call) (key : SortKey) → In calls call → key_of call ≡ Some key → In keys key
  rises : Rises keys

make_step : (x : Call) (xs : List Call) → Made xs → (o : Option SortKey) → key_of x ≡ o → Made (x ∷ xs)
make_step x xs m None is = record {
  keys = m.keys;
  each = λ key i. let s = m.each key i in (s.0, there x xs s.0 s.1, s.2);
  all = λ call key i has. elim (split x xs call i) [
    | inl e ↦ let none : key_of call ≡ None = ap key_of (sym e) ∙ is in absurd (cc)
    | inr k ↦ m.all call key k has
  ];
  rises = m.rises;
}
make_step x xs m (Some own) is = record {
  keys = place own m.keys;
  each = λ key i. elim (placed own m.keys key i) [
    | inl e ↦ (x, (0, refl), is ∙ ap Some e)
    | inr k ↦ let s = m.each key k in (s.0, there x xs s.0 s.1, s.2)
  ];
  all = λ call key i has. placing own m.keys key (elim (split x xs call i) [
    | inl e ↦ let same : key_of call ≡ Some own = ap key_of (sym e) ∙ is in inl (cc)
    | inr k ↦ inr (m.all call key k has)
  ]);
  rises = rises_place own m.keys m.rises;
}

make : (calls : List Call) → Made calls
make [] = record { keys = []; each = λ key i. absurd (none key i); all = λ call key i has. absurd (none call i); rises = tt }
make (x ∷ xs) = make_step x xs (make xs) (key_of x) refl

by_place : (xs : List SortKey) → Rises xs → (i j : ℕ) (a b : SortKey) → i < j → slice_get xs i ≡ Some a → slice_get xs j ≡ Some b → IsFirst a b
by_place [] r i j a b less p q = absurd (cc)
by_place (x ∷ xs) r i zero a b less p q = absurd (omega arith)
by_place (x ∷ xs) r zero (suc j) a b less p q = let e : x ≡ a = cc in subst (λ (z : SortKey). IsFirst z b) e (r.0 b (j, q))
by_place (x ∷ xs) r (suc i) (suc j) a b less p q = by_place xs r.1 i j a b (omega arith) p q

pub tag_order_exists : (part : List Call) → IsSequence part → AllNoted part → (order : List OpId) × IsByTag part order
tag_order_exists part sequence noted =
    let m = make part in
    let sorted : AreSorted part m.keys = record {
      each = λ i key at. let s = m.each key (i, at) in (s.0, Contains-slice_get part s.1.0 s.0 s.1.1, s.2);
      all = λ call key h has. m.all call key (place_of part call h) has;
      rises = by_place m.keys m.rises;
    } in
    (ops_of m.keys, IsByTag-keys part sequence noted m.keys sorted)
