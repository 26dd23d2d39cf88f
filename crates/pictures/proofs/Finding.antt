-- A call that is found by its number.
use Rattle.std.proofs.Common.{ℕ, ◌≡◌, ◌<◌, ◌==◌, Bool, true, false, cond, suc, zero, List, [], ◌∷◌, Some, None, refl, sym, ap, ◌∙◌, arith}
use Rattle.std.specs.List.{slice_get, Contains, find}
use Rattle.std.proofs.lemmas.Bool.Decides.{nat_tests}
use Rattle.std.proofs.lemmas.Option.{same_Some}
use Rattle.tag.proofs.Lists.{Contains-slice_get}
use Rattle.tag.proofs.Options.{none_some}
use Rattle.tag.specs.declared.numbers.OpId.{OpId}
use Rattle.recorder.specs.declared.part.Call.{Call}
use Rattle.recorder.specs.Parts.{IsSequence}
use Rattle.certificate_check.specs.Places.{HasOpAt}
use Rattle.pictures.specs.Bars.{call_of}

module _ {X : Type 0} (p : X → Bool) where
  -- the first element that passes is that at an index where one passes and none before
  find_here : (xs : List X) (i : ℕ) (x : X) → slice_get xs i ≡ Some x → p x ≡ true
      → ((k : ℕ) (y : X) → k < i → slice_get xs k ≡ Some y → p y ≡ false) → find p xs ≡ Some x
  find_here [] i x at passes before = none_some at
  find_here (y ∷ ys) zero x at passes before =
      let same : y ≡ x = same_Some y x at in
      ap (λ (b : Bool). cond b (Some y) (find p ys)) (ap p same ∙ passes) ∙ ap (λ (z : X). Some z) same
  find_here (y ∷ ys) (suc i) x at passes before =
      ap (λ (b : Bool). cond b (Some y) (find p ys)) (before 0 y (omega arith) refl)
      ∙ find_here ys i x at passes (λ k z less there. before (suc k) z (omega arith) there)

  -- none is found where none passes
  find_none : (xs : List X) → ((k : ℕ) (y : X) → slice_get xs k ≡ Some y → p y ≡ false) → find p xs ≡ None
  find_none [] fails = refl
  find_none (y ∷ ys) fails =
      ap (λ (b : Bool). cond b (Some y) (find p ys)) (fails 0 y refl) ∙ find_none ys (λ k z there. fails (suc k) z there)

differs : (m n : ℕ) → (m ≡ n → ⊥) → (m == n) ≡ false
differs m n other = grind (arith, nat_tests)

equals : (m n : ℕ) → m ≡ n → (m == n) ≡ true
equals m n same = grind (arith, nat_tests)

module _ (calls : List Call) (op : OpId) where
  -- the call that was found by its number is the call of that number
  pub found_call : IsSequence calls → (k : ℕ) (call : Call) → slice_get calls k ≡ Some call → HasOpAt calls k op
      → Some call ≡ call_of calls op
  found_call sequence k call at found =
      let same : call ≡ found.0 = same_Some call found.0 (sym at ∙ found.1) in
      let number : call.op.0 ≡ op.0 = ap (λ (c : Call). c.op.0) same ∙ ap (λ (o : OpId). o.0) found.2 in
      sym
      (find_here (λ (c : Call). c.op.0 == op.0) calls k call at (equals call.op.0 op.0 number) (λ j other less there.
      let up : other.op.0 < call.op.0 = sequence.numbers j k other call less there at in
      differs other.op.0 op.0 (λ same. omega (arith, same, up, number))))

  -- without one there is no call of that number
  pub found_none : ((call : Call) → Contains calls call → call.op ≡ op → ⊥) → None ≡ call_of calls op
  found_none absent =
      sym
      (find_none (λ (c : Call). c.op.0 == op.0) calls (λ k other there.
      differs other.op.0 op.0 (λ same.
      absent other (Contains-slice_get calls k other there) (ap (λ (n : ℕ). let o : OpId = record { 0 = n } in o) same))))
