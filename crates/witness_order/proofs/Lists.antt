-- Lists by place.
use Rattle.std.proofs.Common.{ℕ, zero, suc, ◌≡◌, ◌<◌, List, [], ◌∷◌, Option, Some, None, filter_map, ◌∙◌, ap, refl, arith}
use Rattle.std.specs.List.{slice_get, cons_option}

-- a place of the element
abbrev pub In : {X : Type 0} → List X → X → Type 0
In xs x = (i : ℕ) × (slice_get xs i ≡ Some x)

-- what `filter_map` gives is made of elements, and in their order
module _ {X Y : Type 0} (h : X → Option Y) where
  abbrev pub Source : List X → Y → Type 0
  Source xs y = (k : ℕ) × (x : X) × (slice_get xs k ≡ Some x) × (h x ≡ Some y)

  abbrev pub Sources : List X → Y → Y → Type 0
  Sources xs a b = (k : ℕ) × (m : ℕ) × (x : X) × (y : X) × (k < m) × (slice_get xs k ≡ Some x) × (slice_get xs m ≡ Some y) × (h x ≡ Some a) × (h y ≡ Some b)

  source_step : (x : X) (xs : List X) (ys : List Y) (y : Y) → ((i : ℕ) → slice_get ys i ≡ Some y → Source xs y) → (o : Option Y) → h x ≡ o → (i : ℕ) → slice_get (cons_option o ys) i ≡ Some y → Source (x ∷ xs) y
  source_step x xs ys y rest None is i at = let s = rest i at in (suc s.0, s.1, s.2, s.3)
  source_step x xs ys y rest (Some z) is zero at = (0, x, refl, is ∙ at)
  source_step x xs ys y rest (Some z) is (suc i) at = let s = rest i at in (suc s.0, s.1, s.2, s.3)

  pub source : (xs : List X) (y : Y) (i : ℕ) → slice_get (filter_map h xs) i ≡ Some y → Source xs y
  source [] y i at = absurd (cc)
  source (x ∷ xs) y i at = source_step x xs (filter_map h xs) y (source xs y) (h x) refl i at

  sources_step : (x : X) (xs : List X) (ys : List Y) (a b : Y) → ((i : ℕ) → slice_get ys i ≡ Some b → Source xs b) → ((i j : ℕ) → i < j → slice_get ys i ≡ Some a → slice_get ys j ≡ Some b → Sources xs a b) → (o : Option Y) → h x ≡ o → (i j : ℕ) → i < j → slice_get (cons_option o ys) i ≡ Some a → slice_get (cons_option o ys) j ≡ Some b → Sources (x ∷ xs) a b
  sources_step x xs ys a b one two None is i j less at_i at_j = let s = two i j less at_i at_j in (suc s.0, suc s.1, s.2, s.3, omega (arith, s.4), s.5, s.6, s.7, s.8)
  sources_step x xs ys a b one two (Some z) is i zero less at_i at_j = absurd (omega arith)
  sources_step x xs ys a b one two (Some z) is zero (suc j) less at_i at_j = let s = one j at_j in (0, suc s.0, x, s.1, omega arith, refl, s.2, is ∙ at_i, s.3)
  sources_step x xs ys a b one two (Some z) is (suc i) (suc j) less at_i at_j = let s = two i j (omega arith) at_i at_j in (suc s.0, suc s.1, s.2, s.3, omega (arith, s.4), s.5, s.6, s.7, s.8)

  pub sources : (xs : List X) (a b : Y) (i j : ℕ) → i < j → slice_get (filter_map h xs) i ≡ Some a → slice_get (filter_map h xs) j ≡ Some b → Sources xs a b
  sources [] a b i j less at_i at_j = absurd (cc)
  sources (x ∷ xs) a b i j less at_i at_j = sources_step x xs (filter_map h xs) a b (source xs b) (sources xs a b) (h x) refl i j less at_i at_j

  behind : (o : Option Y) (ys : List Y) (y : Y) → In ys y → In (cons_option o ys) y
  behind None ys y at = at
  behind (Some z) ys y at = (suc at.0, at.1)

  ahead : (o : Option Y) (ys : List Y) (y : Y) → o ≡ Some y → In (cons_option o ys) y
  ahead None ys y is = absurd (cc)
  ahead (Some z) ys y is = (0, is)

  -- each element of which it makes something is kept
  pub kept : (xs : List X) (k : ℕ) (x : X) (y : Y) → slice_get xs k ≡ Some x → h x ≡ Some y → In (filter_map h xs) y
  kept [] k x y at is = absurd (cc)
  kept (z ∷ xs) zero x y at is = let same : z ≡ x = cc in ahead (h z) (filter_map h xs) y (ap h same ∙ is)
  kept (z ∷ xs) (suc k) x y at is = behind (h z) (filter_map h xs) y (kept xs k x y at is)
