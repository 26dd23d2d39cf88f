-- Where each part has an order, the store has one.
use Rattle.std.proofs.Common.{ℕ, zero, suc, ◌≡◌, ◌<◌, ◌≤◌, ◌⊎◌, ◌+◌, inl, inr, List, [], ◌∷◌}
use Rattle.std.proofs.Common.{◌++◌, length, take, map, refl, sym, ap, ◌∙◌, subst, arith}
use Rattle.std.specs.List.{slice_get, Contains}
use Rattle.std.proofs.lemmas.Bool.{cases_lt}
use Rattle.tag.specs.declared.numbers.OpId.{OpId}
use Rattle.tag.proofs.Lists.{get_at, place_of, Contains-slice_get}
use Rattle.tag.proofs.SameTags.{same_op}
use Rattle.recorder.specs.declared.order.KeyOrder.{KeyOrder}
use Rattle.recorder.specs.declared.row.Row.{Row}
use Rattle.recorder.specs.declared.part.Call.{Call}
use Rattle.recorder.specs.Histories.{IsWellFormed}
use Rattle.recorder.specs.Orders.{IsOrder, IsLinearizable}
use Rattle.recorder.specs.Parts.{IsSequence}
use Rattle.recorder.specs.Records.{AreParts}
use Rattle.linearization_points.proofs.RunningPoints.{apart, points_there}
use Rattle.linearization_points.specs.Points.{AreApart}
use Rattle.witness_order.specs.RecordOrders.{AreOrdersOf}
use Rattle.store_orders.specs.StoreOrders.{IsStoreOrder}
use Rattle.store_orders.specs.TimedCalls.{TimedOrder, AreTimedCalls, AreFirstCalls, AddsCalls, AreCallsWithPoints}
use Rattle.store_orders.specs.declared.timed_calls.TimedCall.{TimedCall}
use Rattle.store_orders.proofs.AddedCalls.{calls_none, calls_more, calls_all, entry_at, first_none, first_more, same_timed}
use Rattle.store_orders.proofs.Insertion.{sort}
use Rattle.store_orders.proofs.Merged.{AreRising, IsOnePart, op_of, merged}
use Rattle.store_orders.proofs.Recorded.{sequence_of}
use Rattle.store_orders.proofs.TimedOrders.{share_none}

-- ---- timed calls can be sorted

abbrev Comes : TimedCall → TimedCall → Type 0
Comes a b = (a.point < b.point) ⊎ ((a.point ≡ b.point) × ((a.index < b.index) ⊎ ((a.index ≡ b.index) × (a.op.0 < b.op.0))))

mark : TimedCall → TimedCall
mark c = c

-- of two numbers one is less, or they are one
three : (m n : ℕ) → (m < n) ⊎ ((n < m) ⊎ (m ≡ n))
three m n = elim (cases_lt m n) [ inl h ↦ inl h | inr h ↦ elim (cases_lt n m) [ inl g ↦ inr (inl g) | inr g ↦ inr (inr (omega arith)) ] ]

compare : (a b : TimedCall) → Comes a b ⊎ (Comes b a ⊎ (mark a ≡ mark b))
unfolding mark
compare a b = elim (three a.point b.point) [
  | inl h ↦ inl (inl h)
  | inr h ↦ elim h [
    | inl g ↦ inr (inl (inl g))
    | inr p ↦ elim (three a.index b.index) [
      | inl g ↦ inl (inr (p, inl g))
      | inr g ↦ elim g [
        | inl f ↦ inr (inl (inr (sym p, inl f)))
        | inr i ↦ elim (three a.op.0 b.op.0) [
          | inl f ↦ inl (inr (p, inr (i, f)))
          | inr f ↦ elim f [
            | inl e ↦ inr (inl (inr (sym p, inr (sym i, e))))
            | inr o ↦ inr (inr (same_timed a b p i (same_op a.op b.op o)))
          ]
        ]
      ]
    ]
  ]
]

through : (a b c : TimedCall) → Comes a b → Comes b c → Comes a c
through a b c x y = elim x [
  | inl p ↦ elim y [ inl q ↦ inl (omega arith) | inr q ↦ inl (omega (arith, q.0)) ]
  | inr p ↦ elim y [
    | inl q ↦ inl (omega (arith, p.0))
    | inr q ↦ inr (
      p.0 ∙ q.0,
      elim p.1 [
        | inl m ↦ elim q.1 [ inl n ↦ inl (omega arith) | inr n ↦ inl (omega (arith, n.0)) ]
        | inr m ↦ elim q.1 [ inl n ↦ inl (omega (arith, m.0)) | inr n ↦ inr (m.0 ∙ n.0, omega (arith, m.1, n.1)) ]
      ],
    )
  ]
]

no_itself : (a : TimedCall) → Comes a a → ⊥
no_itself a x = elim x [ inl p ↦ omega arith | inr p ↦ elim p.1 [ inl m ↦ omega arith | inr m ↦ omega (arith, m.1) ] ]

not_later : (a b : TimedCall) → Comes a b → (a.point < b.point) ⊎ ((a.point ≡ b.point) × (a.index ≤ b.index))
not_later a b x = elim x [
  | inl p ↦ inl p
  | inr p ↦ inr (p.0, elim p.1 [ inl m ↦ omega arith | inr m ↦ omega (arith, m.0) ])
]

-- the same calls, sorted
sorted : (all : List TimedOrder) (made : List TimedCall) → AreTimedCalls all made
    → (calls : List TimedCall) × AreTimedCalls all calls × AreRising calls
unfolding mark
sorted all made are =
    let s = sort mark Comes compare through made in
    let is = s.1 in (
      s.0,
      record {
        each = λ call there.
            let at = is.each call (place_of s.0 call there) in
            are.each call (Contains-slice_get made at.0 call at.1);
        all = λ t call has timed.
            let at = is.all call (place_of made call (are.all t call has timed)) in
            subst (λ (c : TimedCall). Contains s.0 c) (sym at.2) (Contains-slice_get s.0 at.1.0 at.0 at.1.1);
        once = λ i j a b less at_i at_j same.
            let p = is.each a (i, at_i) in
            let q = is.each b (j, at_j) in
            let before = is.rises i j a b less at_i at_j in
            elim (three p.0 q.0) [
              | inl h ↦ are.once p.0 q.0 a b h p.1 q.1 same
              | inr h ↦ elim h [
                | inl g ↦ are.once q.0 p.0 b a g q.1 p.1 (sym same)
                | inr g ↦
                    let at : slice_get made p.0 ≡ slice_get made q.0 = ap (slice_get made) g in
                    let one : a ≡ b = cc (p.1, q.1, at) in
                    no_itself b (subst (λ (c : TimedCall). Comes c b) one before)
              ]
            ];
      },
      record { up = λ i j a b less at_i at_j. not_later a b (is.rises i j a b less at_i at_j) },
    )

-- ---- the calls of given orders

-- the calls of an order with points
calls_of : (order : List OpId) (points : List ℕ) → length points ≡ length order → (n : ℕ) → n ≤ length order
    → (more : List TimedCall) × AreFirstCalls order points n more
calls_of order points all zero h = ([], first_none order points)
calls_of order points all (suc n) h =
    let before = calls_of order points all n (omega arith) in
    let op = get_at order n (omega arith) in
    let point = get_at points n (omega arith) in
    let call : TimedCall = record { point = point.0; index = n; op = op.0 } in
    let more = first_more order points n before.0 call refl op.1 point.1 before.1 in
    let next : n + 1 ≡ suc n = omega arith in
    (before.0 ++ call ∷ [], subst (λ (k : ℕ). AreFirstCalls order points k (before.0 ++ call ∷ [])) next more)

adds : (part : List Call) (order : List OpId) → IsSequence part → AreApart part → IsOrder part order → (old : List TimedCall)
    → (new : List TimedCall) × AddsCalls part order old new
adds part order sequence apart is old =
    let points = points_there part order sequence apart is.known is.precedence in
    let more = calls_of order points.0 points.1.all (length order) (omega arith) in
    (old ++ more.0, record { points = points.0; placed = points.1; more = more.0; are = more.1; added = refl })

module _ (rows : List Row) (formed : IsWellFormed rows) (parts : List (List ℕ × List Call)) (of : AreParts rows parts) where
  made_first : (orders : List KeyOrder) → AreOrdersOf parts orders → (n : ℕ) → n ≤ length orders
      → (calls : List TimedCall) × AreCallsWithPoints (take n parts) (take n orders) calls
  made_first orders are zero h = ([], calls_none parts orders)
  made_first orders are (suc n) h =
      let before = made_first orders are n (omega arith) in
      let own = get_at orders n (omega arith) in
      let entry = entry_at parts orders are n own.0 own.1 in
      let is = of.each entry.0.0 entry.0.1 (Contains-slice_get parts n entry.0 entry.1) in
      let sequence = sequence_of rows formed entry.0.1 (λ call there. (entry.0.0, is.each call there)) is.ordered in
      let more = adds entry.0.1 own.0.order sequence (apart rows entry.0.0 entry.0.1 is) entry.2 before.0 in
      let share = share_none rows formed parts of in
      let made = calls_more parts orders share n entry.0 own.0 before.0 more.0 entry.1 own.1 entry.2 more.1 before.1 in
      let next : n + 1 ≡ suc n = omega arith in
      (more.0, subst (λ (k : ℕ). AreCallsWithPoints (take k parts) (take k orders) more.0) next made)

  -- orders of all keys make one of the store
  pub of_orders : IsOnePart rows → (orders : List KeyOrder) → AreOrdersOf parts orders → (order : List OpId) × IsStoreOrder rows order
  of_orders one orders are =
      let made = made_first orders are (length orders) (omega arith) in
      let all = calls_all parts orders are (length orders) made.0 (omega arith) made.1 in
      let calls = sorted all.all made.0 all.calls_are in
      (map op_of calls.0, merged rows formed parts of all.all all.timed calls.0 calls.1 calls.2 one)

-- parts that have orders have a list of them
pub orders_of : (parts : List (List ℕ × List Call)) → ((key : List ℕ) (part : List Call) → Contains parts (key, part) → IsLinearizable part)
    → (orders : List KeyOrder) × AreOrdersOf parts orders
orders_of [] each = ([], tt)
orders_of (entry ∷ parts) each =
    let order = each entry.0 entry.1 (Contains-slice_get (entry ∷ parts) 0 entry refl) in
    let rest = orders_of parts (λ key part there.
    let at = place_of parts (key, part) there in
    each key part (Contains-slice_get (entry ∷ parts) (suc at.0) (key, part) at.1)) in
    let own : KeyOrder = record { key = entry.0; order = order.0 } in
    (own ∷ rest.0, ((refl, order.1), rest.1))
