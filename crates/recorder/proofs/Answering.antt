-- Whether an answer is of its call's kind.
use Rattle.std.proofs.Common.{ℕ, ◌≡◌, List, Option, Some, None, IfNone, IfSome, is_some, Bool, true, false, not, refl}
use Rattle.std.specs.Option.{is_none}
use mathlib.Core.Bool.{beq}
use Rattle.tag.specs.declared.actions.Action.{Action}
use Rattle.tag.specs.declared.actions.Action.TheVariants.{Read, Write}
use Rattle.tag.specs.declared.actions.Returned.TheVariants.{Value, Written}
use Rattle.tag.specs.declared.actions.Returned.{Returned}
use Rattle.tag.specs.declared.numbers.OpId.{OpId}
use Rattle.recorder.specs.declared.row.Row.{Row}
use Rattle.recorder.specs.declared.row.Row.TheVariants.{Respond}
use Rattle.recorder.specs.declared.record.CallState.{CallState}
use Rattle.recorder.specs.Histories.{FitsAction, MayFollow}
use Rattle.recorder.specs.Shown.{answered_of}
use Rattle.recorder.specs.States.{Describes, is_write}
use Rattle.recorder.proofs.States.{pending_from}

-- whether an answer is a write's, as its value tells
pub is_done : (returned : Returned) (value : Option (Option (List ℕ))) (r : Bool) → is_some value ≡ not r → IfNone value (returned ≡ Written) → IfSome value (λ v. returned ≡ Value v) → r ≡ is_none (answered_of returned)
is_done returned None true is none some = rw none refl
is_done returned None false is none some = absurd (cc)
is_done returned (Some v) true is none some = absurd (cc)
is_done returned (Some v) false is none some = rw some refl

-- whether the answer is of the call's kind
pub kind_fits : (action : Action) (returned : Returned) (w r : Bool) → w ≡ is_write action → r ≡ is_none (answered_of returned) → not (beq w r) ≡ false → FitsAction action returned
kind_fits Read (Value a) w r is done same = tt
kind_fits (Write v) Written w r is done same = tt
kind_fits Read Written w r is done same = absurd (let e : true ≡ false = rw (is, done) at same in cc)
kind_fits (Write v) (Value a) w r is done same = absurd (let e : true ≡ false = rw (is, done) at same in cc)

pub kind_differs : (action : Action) (returned : Returned) (w r : Bool) → w ≡ is_write action → r ≡ is_none (answered_of returned) → not (beq w r) ≡ true → FitsAction action returned → ⊥
kind_differs Read Written w r is done same fits = fits
kind_differs (Write v) (Value a) w r is done same fits = fits
kind_differs Read (Value a) w r is done same fits = let e : false ≡ true = rw (is, done) at same in cc
kind_differs (Write v) Written w r is done same fits = let e : false ≡ true = rw (is, done) at same in cc

-- a response of the call's kind may follow while the call is pending
pub may_respond : (rows : List Row) (op : OpId) (state : CallState) → Describes rows op state → (returned : Returned) (r : Bool) → state.response ≡ None → r ≡ is_none (answered_of returned) → not (beq state.is_write r) ≡ false → MayFollow rows (Respond op returned)
may_respond rows op state d returned r waits done same =
    (state.client, d.action, pending_from rows op state d waits, kind_fits d.action returned state.is_write r d.kind done same)
