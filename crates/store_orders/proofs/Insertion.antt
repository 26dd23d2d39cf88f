-- Lists can be sorted.
use Rattle.std.proofs.Common.{ℕ, zero, suc, ◌≡◌, ◌<◌, ◌⊎◌, inl, inr, List, [], ◌∷◌, Some, refl, sym, ap, ◌∙◌, subst, arith}
use Rattle.std.specs.List.{slice_get}
use Rattle.std.proofs.lemmas.Option.{same_Some}
use Rattle.tag.proofs.Options.{none_some}

-- a place of the element
abbrev pub In : {X : Type 0} → List X → X → Type 0
In xs x = (i : ℕ) × (slice_get xs i ≡ Some x)

later : {X : Type 0} (x : X) (xs : List X) (c : X) → In xs c → In (x ∷ xs) c
later x xs c h = (suc h.0, h.1)

split : {X : Type 0} (x : X) (xs : List X) (c : X) → In (x ∷ xs) c → (x ≡ c) ⊎ In xs c
split x xs c (zero, e) = inl (same_Some x c e)
split x xs c (suc i, e) = inr (i, e)

nowhere : {X : Type 0} (c : X) → In [] c → ⊥
nowhere c h = none_some h.1

-- sorted by a relation; of elements that tie, which have one mark, one is kept
module _ {X M : Type 0} (mark : X → M) (Before : X → X → Type 0) where
  abbrev Leads : X → List X → Type 0
  Leads x ys = (c : X) → In ys c → Before x c

  abbrev Rises : List X → Type 0
  Rises [] = Unit {0}
  Rises (x ∷ xs) = Leads x xs × Rises xs

  pub record IsSortOf (xs ys : List X) : Type 0 where
    pub each : (c : X) → In ys c → In xs c
    pub all : (c : X) → In xs c → (d : X) × In ys d × (mark c ≡ mark d)
    pub rises : (i j : ℕ) (a b : X) → i < j → slice_get ys i ≡ Some a → slice_get ys j ≡ Some b → Before a b

  abbrev Compared : X → X → Type 0
  Compared x y = Before x y ⊎ (Before y x ⊎ (mark x ≡ mark y))

  by_place : (xs : List X) → Rises xs → (i j : ℕ) (a b : X) → i < j → slice_get xs i ≡ Some a → slice_get xs j ≡ Some b → Before a b
  by_place [] r i j a b less p q = none_some p
  by_place (x ∷ xs) r i zero a b less p q = absurd (omega arith)
  by_place (x ∷ xs) r zero (suc j) a b less p q = subst (λ (z : X). Before z b) (same_Some x a p) (r.0 b (j, q))
  by_place (x ∷ xs) r (suc i) (suc j) a b less p q = by_place xs r.1 i j a b (omega arith) p q

  module _ (compare : (x y : X) → Compared x y) (through : (x y z : X) → Before x y → Before y z → Before x z) where
    -- an element at its place among sorted ones
    place_by : (x y : X) (ys rest : List X) → Compared x y → List X
    place_by x y ys rest (inl p) = x ∷ y ∷ ys
    place_by x y ys rest (inr (inl q)) = y ∷ rest
    place_by x y ys rest (inr (inr e)) = y ∷ ys

    place : X → List X → List X
    place x [] = x ∷ []
    place x (y ∷ ys) = place_by x y ys (place x ys) (compare x y)

    -- what is there was there, or is the element
    placed_by : (x y : X) (ys rest : List X) (d : Compared x y) (c : X) → (In rest c → (x ≡ c) ⊎ In ys c) → In (place_by x y ys rest d) c
        → (x ≡ c) ⊎ In (y ∷ ys) c
    unfolding place_by
    placed_by x y ys rest (inl p) c h i = split x (y ∷ ys) c i
    placed_by x y ys rest (inr (inl q)) c h i = elim (split y rest c i) [
      | inl e ↦ inr (0, ap Some e)
      | inr r ↦ elim (h r) [ inl e ↦ inl e | inr k ↦ inr (later y ys c k) ]
    ]
    placed_by x y ys rest (inr (inr e)) c h i = inr i

    placed : (x : X) (ys : List X) (c : X) → In (place x ys) c → (x ≡ c) ⊎ In ys c
    unfolding place
    placed x [] c i = split x [] c i
    placed x (y ∷ ys) c i = placed_by x y ys (place x ys) (compare x y) c (placed x ys c) i

    -- what was there is there still
    still_by : (x y : X) (ys rest : List X) (d : Compared x y) (c : X) → (In ys c → In rest c) → In (y ∷ ys) c
        → In (place_by x y ys rest d) c
    unfolding place_by
    still_by x y ys rest (inl p) c h i = later x (y ∷ ys) c i
    still_by x y ys rest (inr (inl q)) c h i = elim (split y ys c i) [ inl e ↦ (0, ap Some e) | inr k ↦ later y rest c (h k) ]
    still_by x y ys rest (inr (inr e)) c h i = i

    still : (x : X) (ys : List X) (c : X) → In ys c → In (place x ys) c
    unfolding place
    still x [] c i = absurd (nowhere c i)
    still x (y ∷ ys) c i = still_by x y ys (place x ys) (compare x y) c (still x ys c) i

    -- and so is the element, or one of its mark
    here_by : (x y : X) (ys rest : List X) (d : Compared x y) → (c : X) × In rest c × (mark x ≡ mark c)
        → (c : X) × In (place_by x y ys rest d) c × (mark x ≡ mark c)
    unfolding place_by
    here_by x y ys rest (inl p) h = (x, (0, refl), refl)
    here_by x y ys rest (inr (inl q)) h = (h.0, later y rest h.0 h.1, h.2)
    here_by x y ys rest (inr (inr e)) h = (y, (0, refl), e)

    here : (x : X) (ys : List X) → (c : X) × In (place x ys) c × (mark x ≡ mark c)
    unfolding place
    here x [] = (x, (0, refl), refl)
    here x (y ∷ ys) = here_by x y ys (place x ys) (compare x y) (here x ys)

    -- the list stays sorted
    leads_all : (x y : X) (ys : List X) → Before x y → Leads y ys → Leads x (y ∷ ys)
    leads_all x y ys p lead c i = elim (split y ys c i) [ inl e ↦ subst (Before x) e p | inr k ↦ through x y c p (lead c k) ]

    rises_by : (x y : X) (ys rest : List X) (d : Compared x y) → Leads y ys × Rises ys → Rises rest
        → ((c : X) → In rest c → (x ≡ c) ⊎ In ys c) → Rises (place_by x y ys rest d)
    unfolding place_by
    rises_by x y ys rest (inl p) r s out = (leads_all x y ys p r.0, r)
    rises_by x y ys rest (inr (inl q)) r s out = (λ c i. elim (out c i) [ inl e ↦ subst (Before y) e q | inr k ↦ r.0 c k ], s)
    rises_by x y ys rest (inr (inr e)) r s out = r

    rises_place : (x : X) (ys : List X) → Rises ys → Rises (place x ys)
    unfolding place
    rises_place x [] r = (λ c i. absurd (nowhere c i), tt)
    rises_place x (y ∷ ys) r = rises_by x y ys (place x ys) (compare x y) r (rises_place x ys r.1) (placed x ys)

    record Made (xs : List X) : Type 0 where
      list : List X
      each : (c : X) → In list c → In xs c
      all : (c : X) → In xs c → (d : X) × In list d × (mark c ≡ mark d)
      rises : Rises list

    make : (xs : List X) → Made xs
    make [] = record { list = []; each = λ c h. h; all = λ c h. absurd (nowhere c h); rises = tt }
    make (x ∷ xs) =
        let m = make xs in
        record {
          list = place x m.list;
          each = λ c h. elim (placed x m.list c h) [ inl e ↦ (0, ap Some e) | inr k ↦ later x xs c (m.each c k) ];
          all = λ c h. elim (split x xs c h) [
            | inl e ↦ let at = here x m.list in (at.0, at.1, ap mark (sym e) ∙ at.2)
            | inr k ↦ let at = m.all c k in (at.0, still x m.list at.0 at.1, at.2)
          ];
          rises = rises_place x m.list m.rises;
        }

    pub sort : (xs : List X) → (ys : List X) × IsSortOf xs ys
    sort xs =
        let m = make xs in
        (m.list, record { each = m.each; all = m.all; rises = by_place m.list m.rises })
