-- The pieces of an order: a full one, and then those of the rest.
use Rattle.std.proofs.Common.{◌≡◌, ◌<◌, ◌≤◌, ◌-◌, ◌/◌, ℕ, suc, List, [], ◌∷◌, ◌++◌, length, map}
use Rattle.std.proofs.Common.{take, drop, Option, sym, ap, ◌∙◌, subst, arith, append_assoc}
use Rattle.std.proofs.Common.{append-nil, length-drop}
use Rattle.std.specs.List.{flat_map}
use Rattle.tag.specs.declared.numbers.OpId.{OpId}
use Rattle.recorder.specs.declared.order.KeyOrder.{KeyOrder}
use Rattle.counted_devices.specs.Sendings.{Leaves, AppendsPrefix}
use Rattle.file_format.specs.Texts.{cut_pieces, pieces_of, piece_text, order_text}
use Rattle.counted_devices.proofs.Leaving.{Leaves-more, AppendsPrefix-more}

abbrev pub piece_at : List ℕ → List OpId → KeyOrder
piece_at key calls = record { key = key; order = calls }

one_more : (n : ℕ) → 1000 < n → (n - 1) / 1000 ≡ suc ((n - 1000 - 1) / 1000)
one_more n h = omega arith

few : (n : ℕ) → n ≤ 1000 → (n - 1) / 1000 ≡ 0
few n h = omega arith

pub pieces_of-more : (key : List ℕ) (calls : List OpId) → 1000 < length calls → pieces_of (piece_at key calls)
    ≡ piece_at key (take 1000 calls) ∷ pieces_of (piece_at key (drop 1000 calls))
unfolding pieces_of
pieces_of-more key calls h =
    let count : (length calls - 1) / 1000 ≡ suc ((length (drop 1000 calls) - 1) / 1000) = one_more (length calls) h
    ∙ ap (λ (k : ℕ). suc ((k - 1) / 1000)) (sym (length-drop 1000 calls)) in
    ap (λ (k : ℕ). map (piece_at key) (cut_pieces k calls)) count

pub pieces_of-last : (key : List ℕ) (calls : List OpId) → length calls ≤ 1000 → pieces_of (piece_at key calls) ≡ piece_at key calls ∷ []
unfolding pieces_of
pieces_of-last key calls h = ap (λ (k : ℕ). map (piece_at key) (cut_pieces k calls)) (few (length calls) h)

pub order_text-more : (key : List ℕ) (calls : List OpId) → 1000 < length calls → order_text (piece_at key calls)
    ≡ piece_text (piece_at key (take 1000 calls)) ++ order_text (piece_at key (drop 1000 calls))
order_text-more key calls h = ap (λ (ps : List KeyOrder). flat_map piece_text ps) (pieces_of-more key calls h)

pub order_text-last : (key : List ℕ) (calls : List OpId) → length calls ≤ 1000 → order_text (piece_at key calls)
    ≡ piece_text (piece_at key calls)
order_text-last key calls h = ap (λ (ps : List KeyOrder). flat_map piece_text ps) (pieces_of-last key calls h)
    ∙ append-nil (piece_text (piece_at key calls))

-- what went out of a text that goes on with an order's pieces
module _ (a b c : Option (List ℕ)) (text batch key : List ℕ) (calls : List OpId) where
  full : 1000 < length calls → batch ++ order_text (piece_at key calls) ≡ (batch ++ piece_text (piece_at key (take 1000 calls)))
      ++ order_text (piece_at key (drop 1000 calls))
  full h = ap (λ (s : List ℕ). batch ++ s) (order_text-more key calls h)
      ∙ sym (append_assoc batch (piece_text (piece_at key (take 1000 calls))) (order_text (piece_at key (drop 1000 calls))))

  last : length calls ≤ 1000 → batch ++ order_text (piece_at key calls) ≡ (batch ++ piece_text (piece_at key calls)) ++ []
  last h = ap (λ (s : List ℕ). batch ++ s) (order_text-last key calls h) ∙ sym (append-nil (batch ++ piece_text (piece_at key calls)))

  pub Leaves-piece : (rest : List ℕ) → 1000 < length calls → Leaves a b text (batch ++ order_text (piece_at key calls))
      → Leaves b c (batch ++ piece_text (piece_at key (take 1000 calls))) rest
      → Leaves a c text (rest ++ order_text (piece_at key (drop 1000 calls)))
  Leaves-piece rest h left sent =
      let P : List ℕ → Type 0 = λ r. Leaves a b text r in
      Leaves-more a b c text (batch ++ piece_text (piece_at key (take 1000 calls))) (order_text (piece_at key (drop 1000 calls))) rest
      (subst P (full h) left) sent

  pub AppendsPrefix-piece : 1000 < length calls → Leaves a b text (batch ++ order_text (piece_at key calls))
      → AppendsPrefix b c (batch ++ piece_text (piece_at key (take 1000 calls))) → AppendsPrefix a c text
  AppendsPrefix-piece h left begun =
      let P : List ℕ → Type 0 = λ r. Leaves a b text r in
      AppendsPrefix-more a b c text (batch ++ piece_text (piece_at key (take 1000 calls))) (order_text (piece_at key (drop 1000 calls)))
      (subst P (full h) left) begun

  pub Leaves-last : (rest : List ℕ) → length calls ≤ 1000 → Leaves a b text (batch ++ order_text (piece_at key calls))
      → Leaves b c (batch ++ piece_text (piece_at key calls)) rest → Leaves a c text rest
  Leaves-last rest h left sent =
      let P : List ℕ → Type 0 = λ r. Leaves a b text r in
      let Q : List ℕ → Type 0 = λ r. Leaves a c text r in
      subst Q (append-nil rest) (Leaves-more a b c text (batch ++ piece_text (piece_at key calls)) [] rest (subst P (last h) left) sent)

  pub AppendsPrefix-last : length calls ≤ 1000 → Leaves a b text (batch ++ order_text (piece_at key calls))
      → AppendsPrefix b c (batch ++ piece_text (piece_at key calls)) → AppendsPrefix a c text
  AppendsPrefix-last h left begun =
      let P : List ℕ → Type 0 = λ r. Leaves a b text r in
      AppendsPrefix-more a b c text (batch ++ piece_text (piece_at key calls)) [] (subst P (last h) left) begun
