-- The text of orders is read as the orders: their pieces are joined again.
use Rattle.std.proofs.Common.{ℕ, zero, suc, ◌≡◌, ◌≤◌, ◌+◌, ◌-◌, ◌*◌, ◌/◌, inl, inr, List, []}
use Rattle.std.proofs.Common.{◌∷◌, ◌++◌, false, Some, length, map, set, take, drop}
use Rattle.std.proofs.Common.{codes, refl, sym, ap, ap₂, ◌∙◌, subst, arith, append_assoc}
use Rattle.std.proofs.Common.{append-nil, length-append, length-take, length-drop}
use Rattle.std.specs.List.{slice_get, flat_map}
use Rattle.std.proofs.lemmas.List.{take-append-drop, length-map}
use Rattle.std.proofs.lemmas.List.Sums.{sum_by-append}
use Rattle.std.proofs.lemmas.Grind.{flat_map-append}
use Rattle.std.proofs.lemmas.Option.{slice_get_within}
use Rattle.json.specs.Print.{quoted}
use Rattle.json.specs.Tree as tree
use Rattle.json.proofs.Printed.Utf8.{IsUtf8-are_ascii}
use Rattle.serde_json.specs.Read.{of_json}
use Rattle.serde_json.specs.Written.{outline, items_text}
use Rattle.tag.proofs.Lists.{slice_get-push_last, slice_get-append_left, in_either, in_front, slice_get-map_back}
use Rattle.tag.specs.declared.numbers.OpId.{OpId}
use Rattle.recorder.specs.declared.order.KeyOrder.{KeyOrder}
use Rattle.file_format.specs.Readings.{Reads}
use Rattle.file_format.specs.OrderFormat.{key_in, order_format, call_total, AreFew, AreJoined, MakesJoined}
use Rattle.file_format.specs.OrderLines.{piece_in}
use Rattle.file_format.specs.ReadAgain.{IsTextOfOrders}
use Rattle.file_format.specs.Ranges.{AreOps, IsOrderInRange, AreOrdersInRange, HaveDistinctKeys}
use Rattle.file_format.specs.Says.{SaysPiece}
use Rattle.file_format.specs.Texts.{calls_data, piece_data, cut_pieces, pieces_of, line_text}
use Rattle.file_format.specs.Texts.{piece_text, order_text, orders_text, header_data}
use Rattle.file_format.proofs.Compact.{IsSimple, read-compact_text, length-quoted}
use Rattle.file_format.proofs.ListedNumbers.{AreSmall, numbers_simple, numbers_back, numbers_depth, numbers_there, numbers_length}
use Rattle.file_format.proofs.PieceByPiece.{joined_begun, joined_extended}
use Rattle.file_format.proofs.Once.{reads_once}
use Rattle.file_format.proofs.OneOrder.{joined_once}
use Rattle.file_format.proofs.OrderPieces.{piece_at}
use Rattle.file_format.proofs.SayingPieces.{piece_there}
use Rattle.file_format.proofs.SharpFormats.{slice_get-here}
use Rattle.file_format.proofs.Spelling.{piece_bytes}
use Rattle.file_format.proofs.WrittenLines.{short_key, key_utf8, line_length}
use Rattle.file_format.proofs.WrittenFiles.{IsGoodLine, header_good, written_reads}

-- ---- the line of a piece

abbrev numbers_of : List OpId → List ℕ
numbers_of calls = map (λ (op : OpId). op.0) calls

small_calls : (calls : List OpId) → AreOps calls → AreSmall (numbers_of calls)
small_calls calls h k n e =
    let at = slice_get-map_back (λ (op : OpId). op.0) calls k n e in omega (arith, h k at.0 at.1, at.2)

piece_simple : (piece : KeyOrder) → IsOrderInRange piece → IsSimple (piece_data piece)
unfolding piece_data
piece_simple piece h = (
  IsUtf8-are_ascii (codes "key") refl,
  key_utf8 piece.key h.named,
  (IsUtf8-are_ascii (codes "order") refl, numbers_simple (numbers_of piece.order) (small_calls piece.order h.calls), tt),
)

piece_back : (piece : KeyOrder) → IsOrderInRange piece → of_json (outline (piece_data piece)) ≡ Some (piece_data piece)
unfolding piece_data
piece_back piece h = rw (numbers_back (numbers_of piece.order) (small_calls piece.order h.calls)) refl

piece_depth : (piece : KeyOrder) → tree.depth (outline (piece_data piece)) ≤ 127
unfolding piece_data
piece_depth piece = omega (arith, numbers_depth (numbers_of piece.order))

says_piece : (piece : KeyOrder) → IsOrderInRange piece → SaysPiece (piece_data piece) piece
unfolding piece_data
says_piece piece h = record { subject = refl; named = h.named; order = numbers_there (numbers_of piece.order); range = h.calls }

piece_length : (piece : KeyOrder) → IsOrderInRange piece → length piece.order ≤ 1000 → length (piece_text piece) ≤ 65537
piece_length piece h few =
    let calls = items_text false (calls_data piece.order) in
    let last = codes "}\n" in
    let more = codes ",\"order\":[" ++ (calls ++ last) in
    rw (piece_bytes piece.key piece.order)
    (omega (
      arith,
      length-append (codes "{\"key\":") (quoted piece.key ++ more),
      length-append (quoted piece.key) more,
      length-append (codes ",\"order\":[") (calls ++ last),
      length-append calls last,
      length-quoted piece.key,
      short_key piece.key h.named,
      numbers_length false (numbers_of piece.order) (small_calls piece.order h.calls),
      length-map piece.order (λ (op : OpId). op.0),
    ))

pub good_piece : (piece : KeyOrder) → IsOrderInRange piece → length piece.order ≤ 1000 → IsGoodLine piece_in (piece_data piece) piece
good_piece piece h few = record {
  simple = piece_simple piece h;
  short = line_length (piece_data piece) (piece_length piece h few);
  back = read-compact_text (piece_data piece) (piece_simple piece h) (piece_depth piece) (piece_back piece h);
  meant = piece_there (piece_data piece) piece (says_piece piece h);
}

-- ---- the pieces of an order are in range and short, and together they are the order

record IsFineCut (calls piece : List OpId) : Type 0 where
  pub few : length piece ≤ 1000
  pub ops : AreOps calls → AreOps piece

get-drop : (n : ℕ) (calls : List OpId) (k : ℕ) (op : OpId) → slice_get (drop n calls) k ≡ Some op → slice_get calls (n + k) ≡ Some op
get-drop zero calls k op e = let same : 0 + k ≡ k = omega arith in rw same e
get-drop (suc n) [] k op e = absurd (cc)
get-drop (suc n) (c ∷ calls) k op e = let same : suc n + k ≡ suc (n + k) = omega arith in rw same (get-drop n calls k op e)

cut_fine : (n : ℕ) (calls : List OpId) → length calls ≤ 1000 * (n + 1) → (k : ℕ) (piece : List OpId) → slice_get (cut_pieces n calls) k
    ≡ Some piece → IsFineCut calls piece
cut_fine zero calls h zero piece e = let same : calls ≡ piece = cc in
    subst (λ (p : List OpId). IsFineCut calls p) same (record { few = omega arith; ops = λ o. o })
cut_fine zero calls h (suc k) piece e = absurd (cc)
cut_fine (suc n) calls h zero piece e =
    let same : take 1000 calls ≡ piece = cc in
    subst (λ (p : List OpId). IsFineCut calls p) same
    (record { few = omega (arith, length-take 1000 calls); ops = λ o k op at. o k op (in_front calls 1000 k op at).1 })
cut_fine (suc n) calls h (suc k) piece e =
    let rest = cut_fine n (drop 1000 calls) (omega (arith, length-drop 1000 calls)) k piece e in
    record { few = rest.few; ops = λ o. rest.ops (λ i op at. o (1000 + i) op (get-drop 1000 calls i op at)) }

cut_whole : (n : ℕ) (calls : List OpId) → flat_map (λ (piece : List OpId). piece) (cut_pieces n calls) ≡ calls
cut_whole zero calls = append-nil calls
cut_whole (suc n) calls = ap (λ (rest : List OpId). take 1000 calls ++ rest) (cut_whole n (drop 1000 calls)) ∙ take-append-drop 1000 calls

enough : (n : ℕ) → n ≤ 1000 * ((n - 1) / 1000 + 1)
enough n = omega arith

piece_fine : (order : KeyOrder) → IsOrderInRange order → (k : ℕ) (piece : KeyOrder) → slice_get (pieces_of order) k ≡ Some piece
    → IsOrderInRange piece × (length piece.order ≤ 1000)
unfolding pieces_of
piece_fine order h k piece e =
    let at = slice_get-map_back (piece_at order.key) (cut_pieces ((length order.order - 1) / 1000) order.order) k piece e in
    let fine = cut_fine ((length order.order - 1) / 1000) order.order (enough (length order.order)) k at.0 at.1 in
    subst (λ (p : KeyOrder). IsOrderInRange p × (length p.order ≤ 1000)) at.2 (
      record { named = h.named; calls = fine.ops h.calls },
      fine.few,
    )

pieces_fine : (orders : List KeyOrder) → AreOrdersInRange orders → (k : ℕ) (piece : KeyOrder) → slice_get (flat_map pieces_of orders) k
    ≡ Some piece → IsOrderInRange piece × (length piece.order ≤ 1000)
pieces_fine [] h k piece e = absurd (cc)
pieces_fine (order ∷ orders) h k piece e =
    elim (in_either (pieces_of order) (flat_map pieces_of orders) k piece e) [
      | inl w ↦ piece_fine order (h 0 order refl) k piece w
      | inr w ↦ pieces_fine orders (λ i o at. h (suc i) o at) w.0 piece w.1
    ]

-- ---- they are joined again

set_last : (orders : List KeyOrder) (a b : KeyOrder) → set (orders ++ a ∷ []) (length orders) b ≡ orders ++ b ∷ []
set_last [] a b = refl
set_last (order ∷ orders) a b = ap (λ (os : List KeyOrder). order ∷ os) (set_last orders a b)

extended : (key : List ℕ) (more : List (List OpId)) (pieces orders : List KeyOrder) (calls : List OpId)
    → AreJoined pieces (orders ++ piece_at key calls ∷ [])
    → AreJoined (pieces ++ map (piece_at key) more) (orders ++ piece_at key (calls ++ flat_map (λ (c : List OpId). c) more) ∷ [])
extended key [] pieces orders calls h =
    let Pieces : List KeyOrder → Type 0 = λ ps. AreJoined ps (orders ++ piece_at key (calls ++ []) ∷ []) in
    let Orders : List OpId → Type 0 = λ c. AreJoined pieces (orders ++ piece_at key c ∷ []) in
    subst Pieces (sym (append-nil pieces)) (subst Orders (sym (append-nil calls)) h)
extended key (piece ∷ more) pieces orders calls h =
    let longer = joined_extended pieces (orders ++ piece_at key calls ∷ []) (piece_at key piece) (length orders) calls h
    (slice_get-push_last orders (piece_at key calls)) in
    let Orders : List KeyOrder → Type 0 = λ os. AreJoined (pieces ++ piece_at key piece ∷ []) os in
    let all = extended key more (pieces ++ piece_at key piece ∷ []) orders (calls ++ piece)
    (subst Orders (set_last orders (piece_at key calls) (piece_at key (calls ++ piece))) longer) in
    let rest = flat_map (λ (c : List OpId). c) more in
    let Pieces : List KeyOrder → Type 0 = λ ps. AreJoined ps (orders ++ piece_at key (calls ++ (piece ++ rest)) ∷ []) in
    let Calls : List OpId → Type 0 =
    λ c. AreJoined ((pieces ++ piece_at key piece ∷ []) ++ map (piece_at key) more) (orders ++ piece_at key c ∷ []) in
    subst Pieces (append_assoc pieces (piece_at key piece ∷ []) (map (piece_at key) more)) (subst Calls (append_assoc calls piece rest) all)

-- the pieces of an order of a new key, the first one apart
begun : (key : List ℕ) (n : ℕ) (calls : List OpId) (pieces orders : List KeyOrder) → AreJoined pieces orders
    → ((i : ℕ) → slice_get (map key_in orders) i ≡ Some key → ⊥)
    → AreJoined (pieces ++ map (piece_at key) (cut_pieces n calls)) (orders
    ++ piece_at key (flat_map (λ (c : List OpId). c) (cut_pieces n calls)) ∷ [])
begun key zero calls pieces orders h none =
    let Calls : List OpId → Type 0 = λ c. AreJoined (pieces ++ piece_at key calls ∷ []) (orders ++ piece_at key c ∷ []) in
    subst Calls (sym (append-nil calls)) (joined_begun pieces orders (piece_at key calls) h none)
begun key (suc n) calls pieces orders h none =
    let first = joined_begun pieces orders (piece_at key (take 1000 calls)) h none in
    let all = extended key (cut_pieces n (drop 1000 calls)) (pieces ++ piece_at key (take 1000 calls) ∷ []) orders (take 1000 calls)
    first in
    let Pieces : List KeyOrder → Type 0 =
    λ ps. AreJoined ps (orders ++ piece_at key (take 1000 calls ++ flat_map (λ (c : List OpId). c) (cut_pieces n (drop 1000 calls)))
    ∷ []) in
    subst Pieces (append_assoc pieces (piece_at key (take 1000 calls) ∷ []) (map (piece_at key) (cut_pieces n (drop 1000 calls)))) all

one_order : (order : KeyOrder) (pieces orders : List KeyOrder) → AreJoined pieces orders
    → ((i : ℕ) → slice_get (map key_in orders) i ≡ Some order.key → ⊥) → AreJoined (pieces ++ pieces_of order) (orders ++ order ∷ [])
unfolding pieces_of
one_order order pieces orders h none =
    let n = (length order.order - 1) / 1000 in
    let Calls : List OpId → Type 0 =
    λ c. AreJoined (pieces ++ map (piece_at order.key) (cut_pieces n order.order)) (orders ++ piece_at order.key c ∷ []) in
    subst Calls (cut_whole n order.order) (begun order.key n order.order pieces orders h none)

new_key : (done : List KeyOrder) (order : KeyOrder) (rest : List KeyOrder) → HaveDistinctKeys (done ++ order ∷ rest) → (i : ℕ)
    → slice_get (map key_in done) i ≡ Some order.key → ⊥
new_key done order rest h i e =
    let at = slice_get-map_back key_in done i order.key e in
    h i (length done) at.0 order (slice_get_within done i at.0 at.1) (slice_get-append_left done (order ∷ rest) i at.0 at.1)
    (slice_get-here done order rest) at.2

all_orders : (pieces done rest : List KeyOrder) → AreJoined pieces done → HaveDistinctKeys (done ++ rest)
    → AreJoined (pieces ++ flat_map pieces_of rest) (done ++ rest)
all_orders pieces done [] h distinct =
    let Pieces : List KeyOrder → Type 0 = λ ps. AreJoined ps (done ++ []) in
    let Orders : List KeyOrder → Type 0 = λ os. AreJoined pieces os in
    subst Pieces (sym (append-nil pieces)) (subst Orders (sym (append-nil done)) h)
all_orders pieces done (order ∷ rest) h distinct =
    let Distinct : List KeyOrder → Type 0 = λ os. HaveDistinctKeys os in
    let one = one_order order pieces done h (new_key done order rest distinct) in
    let all = all_orders (pieces ++ pieces_of order) (done ++ order ∷ []) rest one
    (subst Distinct (sym (append_assoc done (order ∷ []) rest)) distinct) in
    let Pieces : List KeyOrder → Type 0 = λ ps. AreJoined ps (done ++ order ∷ rest) in
    let Orders : List KeyOrder → Type 0 = λ os. AreJoined ((pieces ++ pieces_of order) ++ flat_map pieces_of rest) os in
    subst Pieces (append_assoc pieces (pieces_of order) (flat_map pieces_of rest)) (subst Orders (append_assoc done (order ∷ []) rest) all)

no_pieces : AreJoined [] []
no_pieces = record {
  keys = record { each = λ i key e. absurd (cc); all = λ place name e. absurd (cc); ordered = λ i j a b m n lt ea eb fa fb. absurd (cc) };
  each = λ i order e. absurd (cc);
}

-- ---- how many calls they have

total_one : (piece : KeyOrder) → call_total (piece ∷ []) ≡ length piece.order
total_one piece = omega arith

total_more : (piece : KeyOrder) (pieces : List KeyOrder) → call_total (piece ∷ pieces) ≡ length piece.order + call_total pieces
total_more piece pieces = sum_by-append (λ (p : KeyOrder). length p.order) (piece ∷ []) pieces
    ∙ ap (λ (n : ℕ). n + call_total pieces) (total_one piece)

cut_total : (key : List ℕ) (n : ℕ) (calls : List OpId) → call_total (map (piece_at key) (cut_pieces n calls)) ≡ length calls
cut_total key zero calls = omega arith
cut_total key (suc n) calls = total_more (piece_at key (take 1000 calls)) (map (piece_at key) (cut_pieces n (drop 1000 calls)))
    ∙ omega (arith, cut_total key n (drop 1000 calls), length-take 1000 calls, length-drop 1000 calls)

order_total : (order : KeyOrder) → call_total (pieces_of order) ≡ length order.order
unfolding pieces_of
order_total order = cut_total order.key ((length order.order - 1) / 1000) order.order

pieces_total : (orders : List KeyOrder) → call_total (flat_map pieces_of orders) ≡ call_total orders
pieces_total [] = refl
pieces_total (order ∷ orders) = sum_by-append (λ (piece : KeyOrder). length piece.order) (pieces_of order) (flat_map pieces_of orders)
    ∙ ap₂ (λ (m n : ℕ). m + n) (order_total order) (pieces_total orders) ∙ sym (total_more order orders)

-- ---- the whole text

text_of_pieces : (orders : List KeyOrder) → flat_map order_text orders ≡ flat_map piece_text (flat_map pieces_of orders)
text_of_pieces [] = refl
text_of_pieces (order ∷ orders) = ap (λ (s : List ℕ). order_text order ++ s) (text_of_pieces orders)
    ∙ sym (flat_map-append piece_text (pieces_of order) (flat_map pieces_of orders))

pub orders_read : (orders : List KeyOrder) → AreOrdersInRange orders → HaveDistinctKeys orders → AreFew orders
    → Reads order_format MakesJoined (orders_text orders) orders
orders_read orders ranges distinct few =
    let pieces = flat_map pieces_of orders in
    let P : List ℕ → Type 0 = λ s. Reads order_format MakesJoined (line_text (header_data (codes "orders")) ++ s) orders in
    subst P (sym (text_of_pieces orders)) (
    written_reads order_format tt piece_data MakesJoined (header_data (codes "orders")) pieces orders
    (header_good (codes "orders") (record { text = IsUtf8-are_ascii (codes "orders") refl; short = omega arith }))
    (λ k piece e. let fine = pieces_fine orders ranges k piece e in good_piece piece fine.0 fine.1)
    (record { few = omega (arith, pieces_total orders, few.few) }) (all_orders [] [] orders no_pieces distinct))

pub orders_text_of : (orders : List KeyOrder) → AreOrdersInRange orders → HaveDistinctKeys orders → AreFew orders
    → IsTextOfOrders (orders_text orders) orders
orders_text_of orders ranges distinct few =
    let own = orders_read orders ranges distinct few in
    record {
      read = own;
      alone = λ others read.
          let P : List KeyOrder → Type 0 = λ pieces. AreJoined pieces others in
          joined_once own.items others orders
          (subst P (reads_once order_format MakesJoined (orders_text orders) others orders read own) read.made) own.made;
    }
