-- A row has one refusal.
use Rattle.std.proofs.Common.{ℕ, ◌≡◌, ◌<◌, ◌≤◌, inl, inr, List, Some, take, ap, sym, subst, ◌∙◌, refl, arith}
use Rattle.std.specs.List.{slice_get}
use Rattle.std.proofs.lemmas.Bool.{cases_lt}
use Rattle.std.proofs.lemmas.List.{take-take}
use Rattle.tag.specs.declared.actions.Action.{Action}
use Rattle.tag.specs.declared.actions.Returned.{Returned}
use Rattle.tag.specs.declared.numbers.OpId.{OpId}
use Rattle.tag.specs.Tags.{Tag}
use Rattle.tag.proofs.Lists.{place_of, in_front, slice_get-take, Contains-slice_get}
use Rattle.recorder.specs.declared.row.Row.{Row}
use Rattle.recorder.specs.declared.row.Row.TheVariants.{Invoke, Note, Respond}
use Rattle.recorder.specs.Histories.{FitsAction, IsPendingCall, IsWellFormed, MayFollow}
use Rattle.open_calls.specs.declared.refusal.CallRefusal.{CallRefusal}
use Rattle.open_calls.specs.declared.refusal.CallRefusal.TheVariants.{OutOfTurn, ClientBusy, NotPending, WrongKind, NoteTwice, Memory}
use Rattle.open_calls.specs.Rows.{IsRefusedAfter}
use Rattle.open_calls.proofs.Fresh.{not_begun}

module _ (rows : List Row) (formed : IsWellFormed rows) where
  -- a front of a history is one
  formed_front : (n : ℕ) → IsWellFormed (take n rows)
  formed_front n k row at =
      let f = in_front rows n k row at in
      let below : k ≤ n = omega (arith, f.0) in
      subst (λ (x : List Row). MayFollow x row) (sym (take-take k n rows below)) (formed k row f.1)

  -- of two rows that begin a call the later one isn't in turn
  not_twice : (i j : ℕ) (op : OpId) (c d : ℕ) (k l : List ℕ) (x y : Action) → i < j → slice_get rows i ≡ Some (Invoke op c k x) → slice_get rows j ≡ Some (Invoke op d l y) → ⊥
  not_twice i j op c d k l x y less at_i at_j =
      let number = (formed j (Invoke op d l y) at_j).0 in
      not_begun (take j rows) (formed_front j) op number c k x (Contains-slice_get (take j rows) i (Invoke op c k x) (slice_get-take rows j i less ∙ at_i))

  -- a pending call has one action
  same_action : (op : OpId) (c d : ℕ) (x y : Action) → IsPendingCall rows op c x → IsPendingCall rows op d y → x ≡ y
  same_action op c d x y p q =
      let i = place_of rows (Invoke op c p.key x) p.invoked in
      let j = place_of rows (Invoke op d q.key y) q.invoked in
      elim (cases_lt i.0 j.0) [
        | inl h ↦ absurd (not_twice i.0 j.0 op c d p.key q.key x y h i.1 j.1)
        | inr h ↦ elim (cases_lt j.0 i.0) [
          | inl g ↦ absurd (not_twice j.0 i.0 op d c q.key p.key y x g j.1 i.1)
          | inr g ↦
              let here : i.0 ≡ j.0 = omega arith in
              let same : ◌≡◌ {A = Row} (Invoke op c p.key x) (Invoke op d q.key y) = cc (i.1, j.1, ap (slice_get rows) here) in
              cc
        ]
      ]

  fits_or_not : (op : OpId) (returned : Returned) (c d : ℕ) (x y : Action) → IsPendingCall rows op c x → IsPendingCall rows op d y → (FitsAction x returned → ⊥) → FitsAction y returned → ⊥
  fits_or_not op returned c d x y p q unfit fits =
      unfit (subst (λ (a : Action). FitsAction a returned) (sym (same_action op c d x y p q)) fits)

  one_invoke : (op : OpId) (client : ℕ) (key : List ℕ) (action : Action) (a b : CallRefusal) → IsRefusedAfter rows (Invoke op client key action) a → IsRefusedAfter rows (Invoke op client key action) b → a ≡ b
  one_invoke op client key action OutOfTurn OutOfTurn x y = refl
  one_invoke op client key action OutOfTurn ClientBusy x y = absurd (x y.0)
  one_invoke op client key action OutOfTurn Memory x y = absurd (x y.0)
  one_invoke op client key action OutOfTurn NotPending x y = absurd y
  one_invoke op client key action OutOfTurn WrongKind x y = absurd y
  one_invoke op client key action OutOfTurn NoteTwice x y = absurd y
  one_invoke op client key action ClientBusy OutOfTurn x y = absurd (y x.0)
  one_invoke op client key action ClientBusy ClientBusy x y = refl
  one_invoke op client key action ClientBusy Memory x y = absurd (y.1 x.1)
  one_invoke op client key action ClientBusy NotPending x y = absurd y
  one_invoke op client key action ClientBusy WrongKind x y = absurd y
  one_invoke op client key action ClientBusy NoteTwice x y = absurd y
  one_invoke op client key action Memory OutOfTurn x y = absurd (y x.0)
  one_invoke op client key action Memory ClientBusy x y = absurd (x.1 y.1)
  one_invoke op client key action Memory Memory x y = refl
  one_invoke op client key action Memory NotPending x y = absurd y
  one_invoke op client key action Memory WrongKind x y = absurd y
  one_invoke op client key action Memory NoteTwice x y = absurd y
  one_invoke op client key action NotPending b x y = absurd x
  one_invoke op client key action WrongKind b x y = absurd x
  one_invoke op client key action NoteTwice b x y = absurd x

  one_note : (op : OpId) (tag : Tag) (a b : CallRefusal) → IsRefusedAfter rows (Note op tag) a → IsRefusedAfter rows (Note op tag) b → a ≡ b
  one_note op tag NotPending NotPending x y = refl
  one_note op tag NotPending NoteTwice x y = absurd (x y.0)
  one_note op tag NotPending Memory x y = absurd (x y.0)
  one_note op tag NotPending OutOfTurn x y = absurd y
  one_note op tag NotPending ClientBusy x y = absurd y
  one_note op tag NotPending WrongKind x y = absurd y
  one_note op tag NoteTwice NotPending x y = absurd (y x.0)
  one_note op tag NoteTwice NoteTwice x y = refl
  one_note op tag NoteTwice Memory x y = absurd (y.1 x.1)
  one_note op tag NoteTwice OutOfTurn x y = absurd y
  one_note op tag NoteTwice ClientBusy x y = absurd y
  one_note op tag NoteTwice WrongKind x y = absurd y
  one_note op tag Memory NotPending x y = absurd (y x.0)
  one_note op tag Memory NoteTwice x y = absurd (x.1 y.1)
  one_note op tag Memory Memory x y = refl
  one_note op tag Memory OutOfTurn x y = absurd y
  one_note op tag Memory ClientBusy x y = absurd y
  one_note op tag Memory WrongKind x y = absurd y
  one_note op tag OutOfTurn b x y = absurd x
  one_note op tag ClientBusy b x y = absurd x
  one_note op tag WrongKind b x y = absurd x

  one_respond : (op : OpId) (returned : Returned) (a b : CallRefusal) → IsRefusedAfter rows (Respond op returned) a → IsRefusedAfter rows (Respond op returned) b → a ≡ b
  one_respond op returned NotPending NotPending x y = refl
  one_respond op returned NotPending WrongKind x y = absurd (x (y.0, y.1, y.2))
  one_respond op returned NotPending Memory x y = absurd (x (y.0, y.1, y.2))
  one_respond op returned NotPending OutOfTurn x y = absurd y
  one_respond op returned NotPending ClientBusy x y = absurd y
  one_respond op returned NotPending NoteTwice x y = absurd y
  one_respond op returned WrongKind NotPending x y = absurd (y (x.0, x.1, x.2))
  one_respond op returned WrongKind WrongKind x y = refl
  one_respond op returned WrongKind Memory x y = absurd (fits_or_not op returned x.0 y.0 x.1 y.1 x.2 y.2 x.3 y.3)
  one_respond op returned WrongKind OutOfTurn x y = absurd y
  one_respond op returned WrongKind ClientBusy x y = absurd y
  one_respond op returned WrongKind NoteTwice x y = absurd y
  one_respond op returned Memory NotPending x y = absurd (y (x.0, x.1, x.2))
  one_respond op returned Memory WrongKind x y = absurd (fits_or_not op returned y.0 x.0 y.1 x.1 y.2 x.2 y.3 x.3)
  one_respond op returned Memory Memory x y = refl
  one_respond op returned Memory OutOfTurn x y = absurd y
  one_respond op returned Memory ClientBusy x y = absurd y
  one_respond op returned Memory NoteTwice x y = absurd y
  one_respond op returned OutOfTurn b x y = absurd x
  one_respond op returned ClientBusy b x y = absurd x
  one_respond op returned NoteTwice b x y = absurd x

  pub one_refusal : (row : Row) (a b : CallRefusal) → IsRefusedAfter rows row a → IsRefusedAfter rows row b → a ≡ b
  one_refusal (Invoke op client key action) a b x y = one_invoke op client key action a b x y
  one_refusal (Note op tag) a b x y = one_note op tag a b x y
  one_refusal (Respond op returned) a b x y = one_respond op returned a b x y
