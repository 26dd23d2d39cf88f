-- The format of an order file: after the header lines that are a key and a piece of its order.
use Rattle.std.specs.Prelude.{ℕ, ◌≡◌, ◌≤◌, ◌<◌, ◌+◌, List, Some, codes, length, map, filter}
use Rattle.std.specs.Prelude.{slice_get, sum_by, bytes_eq}
use Rattle.std.specs.List.{flat_map}
use Rattle.tag.specs.declared.numbers.OpId.{OpId}
use Rattle.tag.specs.Limits.{call_limit}
use Rattle.recorder.specs.declared.order.KeyOrder.{KeyOrder}
use Rattle.file_format.specs.declared.fault.LineFault.{LineFault}
use Rattle.file_format.specs.declared.fault.LineFault.TheVariants.{TooManyCalls}
use Rattle.file_format.specs.Formats.{Format}
use Rattle.file_format.specs.Headers.{header_in}
use Rattle.file_format.specs.OrderLines.{piece_in}

-- the key of a piece
abbrev pub key_in : KeyOrder → List ℕ
key_in piece = piece.key

-- the calls of a piece
abbrev pub order_in : KeyOrder → List OpId
order_in piece = piece.order

-- the order of a key: its pieces, joined in file order
abbrev pub order_on : List ℕ → List KeyOrder → List OpId
order_on key pieces = flat_map order_in (filter (λ piece. bytes_eq piece.key key) pieces)

-- how many calls the pieces have together
abbrev pub call_total : List KeyOrder → ℕ
call_total pieces = sum_by (λ piece. length piece.order) pieces

-- the name is first met at that place
pub record IsFirstAt (names : List (List ℕ)) (name : List ℕ) (place : ℕ) : Type 0 where
  pub here : slice_get names place ≡ Some name
  pub before : (earlier : ℕ) → earlier < place → slice_get names earlier ≡ Some name → ⊥

-- the keys are the names, each once, in the order in which they are first met
pub record AreFirsts (names keys : List (List ℕ)) : Type 0 where
  pub each : (i : ℕ) (key : List ℕ) → slice_get keys i ≡ Some key → (place : ℕ)
      × IsFirstAt names key place
  pub all : (place : ℕ) (name : List ℕ) → slice_get names place ≡ Some name → (i : ℕ)
      × (slice_get keys i ≡ Some name)
  pub ordered : (i j : ℕ) (a b : List ℕ) (m n : ℕ) → i < j → slice_get keys i ≡ Some a
      → slice_get keys j ≡ Some b → IsFirstAt names a m → IsFirstAt names b n → m < n

-- the orders that the pieces make: the keys in the order of their first lines, each with its pieces
-- joined
pub record AreJoined (pieces orders : List KeyOrder) : Type 0 where
  pub keys : AreFirsts (map key_in pieces) (map key_in orders)
  pub each : (i : ℕ) (order : KeyOrder) → slice_get orders i ≡ Some order → order.order
      ≡ order_on order.key pieces

-- at most 1,000,000 calls together
pub record AreFew (pieces : List KeyOrder) : Type 0 where
  pub few : call_total pieces ≤ call_limit

-- the 1,000,001st call of all orders
abbrev pub IsTooMany : List KeyOrder → KeyOrder → LineFault → Type 0
IsTooMany pieces piece TooManyCalls = call_limit < call_total pieces + length piece.order
IsTooMany pieces piece fault = ⊥

-- the format of an order file
abbrev pub order_format : Format (Unit {0}) KeyOrder
order_format = record {
  heading = header_in (codes "orders");
  meaning = λ header. piece_in;
  Admits = λ header. AreFew;
  HasFault = λ header. IsTooMany;
}

-- the orders that a file of the pieces makes
abbrev pub MakesJoined : Unit {0} → List KeyOrder → List KeyOrder → Type 0
MakesJoined header pieces orders = AreJoined pieces orders
