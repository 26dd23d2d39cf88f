-- The keys of rows in the order in which they are first seen, with one row more.
use Rattle.std.proofs.Common.{ℕ, ◌≡◌, ◌<◌, ◌⊎◌, inl, inr, List, [], ◌∷◌, ◌++◌, Some, length, sym, ◌∙◌, ap, subst, arith}
use Rattle.std.specs.List.{slice_get, Contains}
use Rattle.std.proofs.lemmas.Option.{slice_get_within}
use Rattle.std.proofs.lemmas.Bool.{cases_lt}
use Rattle.std.proofs.lemmas.List.Elements.{Contains-append_left, Contains-push}
use Rattle.tag.specs.declared.actions.Action.{Action}
use Rattle.tag.specs.declared.numbers.OpId.{OpId}
use Rattle.tag.proofs.Lists.{push_cases, slice_get-push_left, slice_get-push_last}
use Rattle.recorder.specs.declared.row.Row.{Row}
use Rattle.recorder.specs.declared.row.Row.TheVariants.{Invoke}
use Rattle.recorder.specs.Records.{BeginsAt, IsFirstSeen, AreFirstSeen}

-- a key is first seen at one place
pub first_once : (rows : List Row) (key : List ℕ) (m n : ℕ) → IsFirstSeen rows key m → IsFirstSeen rows key n → m ≡ n
first_once rows key m n f g =
    elim (cases_lt m n) [
      | inl h ↦ absurd (g.first m h f.begins)
      | inr h ↦ elim (cases_lt n m) [ inl w ↦ absurd (f.first n w g.begins) | inr w ↦ omega arith ]
    ]

-- a row begins a call on one key
pub same_begun : (rows : List Row) (n : ℕ) (k l : List ℕ) → BeginsAt rows k n → BeginsAt rows l n → k ≡ l
same_begun rows n k l a b =
    let same : Invoke a.0 a.1 k a.2 ≡ Invoke b.0 b.1 l b.2 = cc (a.3, b.3) in
    cc

pub begun_within : (rows : List Row) (key : List ℕ) (place : ℕ) → BeginsAt rows key place → place < length rows
begun_within rows key place b = slice_get_within rows place (Invoke b.0 b.1 key b.2) b.3

-- the row begins a call on the key
abbrev pub BeginsCall : Row → List ℕ → Type 0
BeginsCall row key = (op : OpId) × (client : ℕ) × (action : Action) × (row ≡ Invoke op client key action)

module _ (rows : List Row) (row : Row) where
  begins-push : (key : List ℕ) (place : ℕ) → BeginsAt rows key place → BeginsAt (rows ++ row ∷ []) key place
  begins-push key place b = (b.0, b.1, b.2, slice_get-push_left rows row place (Invoke b.0 b.1 key b.2) b.3)

  begins-back : (key : List ℕ) (place : ℕ) → BeginsAt (rows ++ row ∷ []) key place
      → BeginsAt rows key place ⊎ ((place ≡ length rows) × BeginsCall row key)
  begins-back key place b = elim (push_cases rows row place (Invoke b.0 b.1 key b.2) b.3) [
    | inl w ↦ inl (b.0, b.1, b.2, w)
    | inr w ↦ inr (w.0, (b.0, b.1, b.2, w.1))
  ]

  begins-before : (key : List ℕ) (place : ℕ) → place < length rows → BeginsAt (rows ++ row ∷ []) key place → BeginsAt rows key place
  begins-before key place less b = elim (begins-back key place b) [ inl w ↦ w | inr w ↦ absurd (omega (arith, less, w.0)) ]

  first-push : (key : List ℕ) (place : ℕ) → IsFirstSeen rows key place → IsFirstSeen (rows ++ row ∷ []) key place
  first-push key place f = record {
    begins = begins-push key place f.begins;
    first = λ earlier less b. f.first earlier less (begins-before key earlier (omega
        (arith, less, begun_within rows key place f.begins)) b);
  }

  module _ (keys : List (List ℕ)) (seen : AreFirstSeen rows keys) where
    first-back : (k : ℕ) (key : List ℕ) (place : ℕ) → slice_get keys k ≡ Some key → IsFirstSeen (rows ++ row ∷ []) key place
        → IsFirstSeen rows key place
    first-back k key place at f =
        let s = seen.seen k key at in
        let same = first_once (rows ++ row ∷ []) key s.0 place (first-push key s.0 s.1) f in
        subst (λ (n : ℕ). IsFirstSeen rows key n) same s.1

    -- the row begins no call on another key
    pub AreFirstSeen-same : ((key : List ℕ) → BeginsCall row key → Contains keys key) → AreFirstSeen (rows ++ row ∷ []) keys
    AreFirstSeen-same known = record {
      all = λ key place b. elim (begins-back key place b) [ inl w ↦ seen.all key place w | inr w ↦ known key w.1 ];
      seen = λ k key at. let s = seen.seen k key at in (s.0, first-push key s.0 s.1);
      ordered = λ i j k l m n less at_i at_j f g. seen.ordered i j k l m n less at_i at_j (first-back i k m at_i f)
          (first-back j l n at_j g);
    }

    -- or the first on its key
    module _ (key : List ℕ) (absent : Contains keys key → ⊥) (begins : BeginsCall row key) where
      own : (k : List ℕ) → BeginsCall row k → key ≡ k
      own k b =
          let same : Invoke begins.0 begins.1 key begins.2 ≡ Invoke b.0 b.1 k b.2 = sym begins.3 ∙ b.3 in
          cc

      first_here : IsFirstSeen (rows ++ row ∷ []) key (length rows)
      first_here = record {
        begins = (begins.0, begins.1, begins.2, slice_get-push_last rows row ∙ ap Some begins.3);
        first = λ earlier less b. absent (seen.all key earlier (begins-before key earlier less b));
      }

      pub AreFirstSeen-first : AreFirstSeen (rows ++ row ∷ []) (keys ++ key ∷ [])
      AreFirstSeen-first = record {
        all = λ k place b. elim (begins-back k place b) [
          | inl w ↦ Contains-append_left keys (key ∷ []) k (seen.all k place w)
          | inr w ↦ subst (λ (x : List ℕ). Contains (keys ++ key ∷ []) x) (own k w.1) (Contains-push keys key)
        ];
        seen = λ k x at. elim (push_cases keys key k x at) [
          | inl w ↦ let s = seen.seen k x w in (s.0, first-push x s.0 s.1)
          | inr w ↦ (length rows, subst (λ (y : List ℕ). IsFirstSeen (rows ++ row ∷ []) y (length rows)) w.1 first_here)
        ];
        ordered = λ i j k l m n less at_i at_j f g. elim (push_cases keys key i k at_i) [
          | inl v ↦ elim (push_cases keys key j l at_j) [
            | inl w ↦ seen.ordered i j k l m n less v w (first-back i k m v f) (first-back j l n w g)
            | inr w ↦
                let last : n ≡ length rows = first_once (rows ++ row ∷ []) l n (length rows) g (subst (λ (y : List ℕ). IsFirstSeen
                (rows ++ row ∷ []) y (length rows)) w.1 first_here) in
                omega (arith, last, begun_within rows k m (first-back i k m v f).begins)
          ]
          | inr v ↦ elim (push_cases keys key j l at_j) [
            | inl w ↦ absurd (omega (arith, less, v.0, slice_get_within keys j l w))
            | inr w ↦ absurd (omega (arith, less, v.0, w.0))
          ]
        ];
      }

pub AreFirstSeen-none : AreFirstSeen [] []
AreFirstSeen-none = record {
  all = λ key place b. absurd (omega (arith, begun_within [] key place b));
  seen = λ k key at. absurd (omega (arith, slice_get_within [] k key at));
  ordered = λ i j k l m n less at_i at_j f g. absurd (omega (arith, slice_get_within [] i k at_i));
}
