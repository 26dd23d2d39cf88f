-- The seats and the halls of a closed store, one after another.
use Rattle.std.proofs.Common.{◌≡◌, ◌+◌, ℕ, suc, List, [], ◌∷◌, ◌++◌, length, length-append, map, inl, inr, sym, ap, ◌∙◌, subst, arith}
use Rattle.tag.proofs.Lists.{push_cases}
use Rattle.node_threads.specs.declared.closing.ClosedHall.{ClosedHall}
use Rattle.recorder.specs.declared.log_entry.Entry.{Entry}
use Rattle.node_threads.specs.Closings.{AreClosed, IsClosed}
use Rattle.recorder.specs.Logs.{IsLog, of_hall}
use Rattle.seats.specs.Seats.{Seat}

-- a log as the calls gave it
pub logged : {Item : Type 0} (look : Item → Entry) (s : Seat) (hall : ℕ) (x y : ClosedHall) (client : ℕ) (items given : List Item)
    (log : List Entry)
    → x ≡ y → client ≡ s.client → log ≡ s.log
    → map look items ≡ of_hall hall log → given ≡ items → IsLog y.history.rows client (map look given) → IsLog x.history.rows s.client
    (of_hall hall s.log)
logged look s hall x y client items given log same client_is log_is found given_are is =
    subst (λ (z : ClosedHall). IsLog z.history.rows s.client (of_hall hall s.log)) (sym same)
    (subst (λ n. IsLog y.history.rows n (of_hall hall s.log)) client_is
    (subst (IsLog y.history.rows client) (ap (map look) given_are ∙ found ∙ ap (of_hall hall) log_is) is))

-- a hall more
pub closed_more : (halls now : List ClosedHall) (closed : ClosedHall) → AreClosed halls → now ≡ halls ++ closed ∷ [] → IsClosed closed
    → AreClosed now
closed_more halls now closed so_far is has = subst AreClosed (sym is) (λ hall one at. elim (push_cases halls closed hall one at) [
  | inl before ↦ so_far hall one before
  | inr last ↦ subst IsClosed last.1 has
])

-- as many were taken as came
pub taken_more : {X : Type 0} (halls now : List ClosedHall) (closed : ClosedHall) (rest left : List X) (x : X) (total : ℕ)
    → length halls + length rest ≡ total → now ≡ halls ++ closed ∷ [] → rest ≡ x ∷ left
    → length now + length left ≡ total
taken_more halls now closed rest left x total so_far is step =
    let len : length now ≡ length halls + 1 = ap length is ∙ length-append halls (closed ∷ []) in
    let more : length rest ≡ suc (length left) = ap length step in
    omega (arith, so_far, len, more)
