-- A record with the orders that show it atomic (Herlihy and Wing 1990).
use Rattle.std.specs.Prelude.{ℕ, ◌≡◌, List}
use Rattle.std.specs.List.{AllZip}
use Rattle.recorder.specs.Orders.{IsOrder}
use Rattle.recorder.specs.Records.{AreParts, IsPart}
use Rattle.recorder.specs.Sound.{TagSound}
use Rattle.recorder.specs.declared.order.KeyOrder.{KeyOrder}
use Rattle.recorder.specs.declared.part.Call.{Call}
use Rattle.recorder.specs.declared.row.Row.{Row}

-- the tags of each key's calls are sound
abbrev pub HaveSoundTags : List Row → Type 0
HaveSoundTags rows = (key : List ℕ) (part : List Call) → IsPart rows key part → TagSound part

-- for each part, in order, an order of it under its key
abbrev pub AreOrdersOf : List (List ℕ × List Call) → List KeyOrder → Type 0
AreOrdersOf parts orders =
    AllZip (λ part order. (order.key ≡ part.0) × IsOrder part.1 order.order) parts orders

-- for each key of the rows, first seen first, an order of its calls
abbrev pub Justify : List Row → List KeyOrder → Type 0
Justify rows orders =
    (parts : List (List ℕ × List Call)) × AreParts rows parts × AreOrdersOf parts orders
