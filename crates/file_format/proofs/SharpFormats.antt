-- Rows and pieces have one fault where they stand, and none in a file that goes on.
use Rattle.std.proofs.Common.{ℕ, zero, suc, ◌≡◌, ◌<◌, ◌≤◌, ◌+◌, ◌⊎◌, inl, inr, List, [], ◌∷◌, ◌++◌}
use Rattle.std.proofs.Common.{Some, length, take, refl, sym, ap, ◌∙◌, subst, arith}
use Rattle.std.specs.List.{slice_get}
use Rattle.std.proofs.lemmas.Bool.{cases_lt}
use Rattle.std.proofs.lemmas.List.Sums.{sum_by-append}
use Rattle.tag.proofs.Lists.{place_of, slice_get-append_left}
use Rattle.tag.specs.declared.actions.Action.{Action}
use Rattle.tag.specs.declared.actions.Returned.{Returned}
use Rattle.tag.specs.declared.numbers.OpId.{OpId}
use Rattle.tag.specs.Tags.{Tag}
use Rattle.recorder.specs.declared.row.Row.{Row}
use Rattle.recorder.specs.declared.row.Row.TheVariants.{Invoke, Note, Respond}
use Rattle.recorder.specs.declared.order.KeyOrder.{KeyOrder}
use Rattle.recorder.specs.Histories.{IsWellFormed, MayFollow, IsPendingOp, HasNote, FitsAction, call_count}
use Rattle.file_format.specs.declared.fault.LineFault.{LineFault}
use Rattle.file_format.specs.declared.fault.LineFault.TheVariants.{CallOutOfTurn, ClientBusy}
use Rattle.file_format.specs.declared.fault.LineFault.TheVariants.{CallNotPending, WrongKind}
use Rattle.file_format.specs.declared.fault.LineFault.TheVariants.{NoteTwice, TooManyCalls}
use Rattle.file_format.specs.HistoryFormat.{history_format}
use Rattle.file_format.specs.OrderFormat.{call_total, IsTooMany, order_format}
use Rattle.file_format.specs.Places.{IsOutOfTurn, IsByBusy, IsUnfit, IsOneTooMany, IsMisplacedAfter}
use Rattle.file_format.proofs.OneFault.{IsSharp}

-- ---- the faults that each kind of row can have

invoke_faults : (calls : ℕ) (rows : List Row) (op : OpId) (client : ℕ) (key : List ℕ) (action : Action) (f : LineFault)
    → IsMisplacedAfter calls rows (Invoke op client key action) f
    → ((f ≡ CallOutOfTurn) × IsOutOfTurn rows (Invoke op client key action))
    ⊎ (((f ≡ ClientBusy) × (IsOutOfTurn rows (Invoke op client key action) → ⊥) × IsByBusy rows (Invoke op client key action))
    ⊎ ((f ≡ TooManyCalls) × (IsOutOfTurn rows (Invoke op client key action) → ⊥) × (IsByBusy rows (Invoke op client key action) → ⊥)
    × IsOneTooMany calls (Invoke op client key action)))
invoke_faults calls rows op client key action CallOutOfTurn h = inl (refl, h)
invoke_faults calls rows op client key action ClientBusy h = inr (inl (refl, h.0, h.1))
invoke_faults calls rows op client key action CallNotPending h = absurd h
invoke_faults calls rows op client key action WrongKind h = absurd h
invoke_faults calls rows op client key action NoteTwice h = absurd h
invoke_faults calls rows op client key action TooManyCalls h = inr (inr (refl, h.0, h.1, h.2))
invoke_faults calls rows op client key action _ h = absurd h

note_faults : (calls : ℕ) (rows : List Row) (op : OpId) (tag : Tag) (f : LineFault) → IsMisplacedAfter calls rows (Note op tag) f
    → ((f ≡ CallNotPending) × (IsPendingOp rows op → ⊥)) ⊎ ((f ≡ NoteTwice) × IsPendingOp rows op × HasNote rows op)
note_faults calls rows op tag CallOutOfTurn h = absurd h
note_faults calls rows op tag ClientBusy h = absurd h.1
note_faults calls rows op tag CallNotPending h = inl (refl, h)
note_faults calls rows op tag WrongKind h = absurd h
note_faults calls rows op tag NoteTwice h = inr (refl, h.0, h.1)
note_faults calls rows op tag TooManyCalls h = absurd h.2
note_faults calls rows op tag _ h = absurd h

respond_faults : (calls : ℕ) (rows : List Row) (op : OpId) (returned : Returned) (f : LineFault)
    → IsMisplacedAfter calls rows (Respond op returned) f → ((f ≡ CallNotPending) × (IsPendingOp rows op → ⊥))
    ⊎ ((f ≡ WrongKind) × IsUnfit rows (Respond op returned))
respond_faults calls rows op returned CallOutOfTurn h = absurd h
respond_faults calls rows op returned ClientBusy h = absurd h.1
respond_faults calls rows op returned CallNotPending h = inl (refl, h)
respond_faults calls rows op returned WrongKind h = inr (refl, h)
respond_faults calls rows op returned NoteTwice h = absurd h
respond_faults calls rows op returned TooManyCalls h = absurd h.2
respond_faults calls rows op returned _ h = absurd h

pub one_misplaced : (calls : ℕ) (rows : List Row) (row : Row) (f g : LineFault) → IsMisplacedAfter calls rows row f
    → IsMisplacedAfter calls rows row g → f ≡ g
one_misplaced calls rows (Invoke op client key action) f g h k =
    elim (invoke_faults calls rows op client key action f h) [
      | inl a ↦ elim (invoke_faults calls rows op client key action g k) [
        | inl b ↦ a.0 ∙ sym b.0
        | inr v ↦ elim v [ inl b ↦ absurd (b.1 a.1) | inr b ↦ absurd (b.1 a.1) ]
      ]
      | inr u ↦ elim u [
        | inl a ↦ elim (invoke_faults calls rows op client key action g k) [
          | inl b ↦ absurd (a.1 b.1)
          | inr v ↦ elim v [ inl b ↦ a.0 ∙ sym b.0 | inr b ↦ absurd (b.2 a.2) ]
        ]
        | inr a ↦ elim (invoke_faults calls rows op client key action g k) [
          | inl b ↦ absurd (a.1 b.1)
          | inr v ↦ elim v [ inl b ↦ absurd (a.2 b.2) | inr b ↦ a.0 ∙ sym b.0 ]
        ]
      ]
    ]
one_misplaced calls rows (Note op tag) f g h k =
    elim (note_faults calls rows op tag f h) [
      | inl a ↦ elim (note_faults calls rows op tag g k) [ inl b ↦ a.0 ∙ sym b.0 | inr b ↦ absurd (a.1 b.1) ]
      | inr a ↦ elim (note_faults calls rows op tag g k) [ inl b ↦ absurd (b.1 a.1) | inr b ↦ a.0 ∙ sym b.0 ]
    ]
one_misplaced calls rows (Respond op returned) f g h k =
    elim (respond_faults calls rows op returned f h) [
      | inl a ↦ elim (respond_faults calls rows op returned g k) [
        | inl b ↦ a.0 ∙ sym b.0
        | inr b ↦ let w = b.1 in
            absurd (a.1 (w.0, w.1, w.2))
      ]
      | inr a ↦ elim (respond_faults calls rows op returned g k) [
        | inl b ↦ let w = a.1 in absurd (b.1 (w.0, w.1, w.2))
        | inr b ↦ a.0
            ∙ sym b.0
      ]
    ]

-- ---- a row of a history has none

front : (rows : List Row) (more : List Row) → take (length rows) (rows ++ more) ≡ rows
front [] more = refl
front (row ∷ rows) more = ap (λ (l : List Row). row ∷ l) (front rows more)

-- the item between two lists has its place
pub slice_get-here : {X : Type 0} (xs : List X) (x : X) (more : List X) → slice_get (xs ++ x ∷ more) (length xs) ≡ Some x
slice_get-here [] x more = refl
slice_get-here (y ∷ xs) x more = slice_get-here xs x more

pub calls-append : (xs ys : List Row) → call_count (xs ++ ys) ≡ call_count xs + call_count ys
calls-append [] ys = omega arith
calls-append (row ∷ xs) ys = omega (arith, calls-append xs ys)

follows : (rows : List Row) (row : Row) (more : List Row) → IsWellFormed (rows ++ row ∷ more) → MayFollow rows row
follows rows row more h = subst (λ (rs : List Row). MayFollow rs row) (front rows (row ∷ more))
    (h (length rows) row (slice_get-here rows row more))

-- a call that begins makes the next number larger
counted : (rows : List Row) (i j : ℕ) (op : OpId) (client : ℕ) (key : List ℕ) (action : Action) → slice_get rows i
    ≡ Some (Invoke op client key action) → i < j → call_count (take i rows) < call_count (take j rows)
counted [] i j op client key action e lt = absurd (cc)
counted (row ∷ rows) zero zero op client key action e lt = absurd (omega arith)
counted (row ∷ rows) zero (suc j) op client key action e lt = let same : Invoke op client key action ≡ row = cc in
    subst (λ (r : Row). 0 < call_count (r ∷ take j rows)) same (omega arith)
counted (row ∷ rows) (suc i) zero op client key action e lt = absurd (omega arith)
counted (row ∷ rows) (suc i) (suc j) op client key action e lt = omega (arith, counted rows i j op client key action e (omega arith))

one_action : (rows : List Row) (op : OpId) (c d i j : ℕ) (k l : List ℕ) (a b : Action) → IsWellFormed rows → slice_get rows i
    ≡ Some (Invoke op c k a) → slice_get rows j ≡ Some (Invoke op d l b) → a ≡ b
one_action rows op c d i j k l a b h x y =
    let first = (h i (Invoke op c k a) x).0 in
    let second = (h j (Invoke op d l b) y).0 in
    elim (cases_lt i j) [
      | inl lt ↦ absurd (omega (arith, first, second, counted rows i j op c k a x lt))
      | inr ge ↦ elim (cases_lt j i) [
        | inl lt ↦ absurd (omega (arith, first, second, counted rows j i op d l b y lt))
        | inr le ↦
            let same : i ≡ j = omega arith in
            let row : Some (Invoke op c k a) ≡ Some (Invoke op d l b) = sym x ∙ ap (slice_get rows) same ∙ y in
            cc
      ]
    ]

-- a row after which a history goes on has no fault, where fewer than 1,000,000 calls began before it, if it begins one
pub never_misplaced : (calls : ℕ) (rows : List Row) (row : Row) (more : List Row) (f : LineFault) → IsWellFormed (rows ++ row ∷ more)
    → (IsOneTooMany calls row → ⊥) → IsMisplacedAfter calls rows row f → ⊥
never_misplaced calls rows (Invoke op client key action) more f formed room bad =
    let may = follows rows (Invoke op client key action) more formed in
    elim (invoke_faults calls rows op client key action f bad) [
      | inl a ↦ a.1 may.0
      | inr v ↦ elim v [ inl a ↦ may.1 a.2 | inr a ↦ room a.3 ]
    ]
never_misplaced calls rows (Note op tag) more f formed room bad =
    let may = follows rows (Note op tag) more formed in
    elim (note_faults calls rows op tag f bad) [ inl a ↦ a.1 may.0 | inr a ↦ may.1 a.2 ]
never_misplaced calls rows (Respond op returned) more f formed room bad =
    let may = follows rows (Respond op returned) more formed in
    elim (respond_faults calls rows op returned f bad) [
      | inl a ↦ a.1 (may.0, may.1, may.2)
      | inr a ↦
          let w = a.1 in
          let i = place_of rows (Invoke op may.0 may.2.key may.1) may.2.invoked in
          let j = place_of rows (Invoke op w.0 w.2.key w.1) w.2.invoked in
          let all = rows ++ Respond op returned ∷ more in
          let same = one_action all op may.0 w.0 i.0 j.0 may.2.key w.2.key may.1 w.1 formed
          (slice_get-append_left rows (Respond op returned ∷ more) i.0 _ i.1)
          (slice_get-append_left rows (Respond op returned ∷ more) j.0 _ j.1) in
          w.3 (subst (λ (a : Action). FitsAction a returned) same may.3)
    ]

-- fewer than 1,000,000 calls began before a row of rows that begin no more
pub has_room : (rows : List Row) (row : Row) (more : List Row) → call_count (rows ++ row ∷ more) ≤ 1000000
    → IsOneTooMany (call_count rows) row → ⊥
has_room rows (Invoke op client key action) more few many = omega (arith, few, many, calls-append rows (Invoke op client key action ∷ more))
has_room rows (Note op tag) more few many = many
has_room rows (Respond op returned) more few many = many

pub history_sharp : IsSharp history_format
history_sharp = record {
  one = λ header rows row f g h k. one_misplaced (call_count rows) rows row f g h k;
  none =
      λ header rows row more f h k. never_misplaced (call_count rows) rows row more f h.formed (has_room rows row more h.few) k;
}

-- ---- pieces

only_many : (pieces : List KeyOrder) (piece : KeyOrder) (f : LineFault) → IsTooMany pieces piece f → (f ≡ TooManyCalls)
    × (1000000 < call_total pieces + length piece.order)
only_many pieces piece TooManyCalls h = (refl, h)
only_many pieces piece _ h = absurd h

totals : (pieces : List KeyOrder) (piece : KeyOrder) (more : List KeyOrder) → call_total pieces + length piece.order
    ≤ call_total (pieces ++ piece ∷ more)
totals pieces piece more =
    let size : KeyOrder → ℕ = λ p. length p.order in
    let one : call_total (piece ∷ []) ≡ length piece.order = omega arith in
    omega (
      arith,
      one,
      sum_by-append (λ (p : KeyOrder). length p.order) pieces (piece ∷ more),
      sum_by-append (λ (p : KeyOrder). length p.order) (piece ∷ []) more,
    )

pub orders_sharp : IsSharp order_format
orders_sharp = record {
  one = λ header pieces piece f g h k. (only_many pieces piece f h).0 ∙ sym (only_many pieces piece g k).0;
  none = λ header pieces piece more f h k. omega (arith, h.few, totals pieces piece more, (only_many pieces piece f k).1);
}
