-- A history's calls, whatever their keys, in one list.
use Rattle.std.proofs.Common.{ℕ, zero, suc, ◌≡◌, ◌<◌, ◌⊎◌, inl, inr, List, [], ◌∷◌, ◌++◌, Some, refl, sym, subst, ◌∙◌, arith}
use Rattle.std.specs.List.{slice_get, Contains}
use Rattle.std.proofs.lemmas.Bool.{cases_lt}
use Rattle.std.proofs.lemmas.Option.{same_Some}
use Rattle.std.proofs.lemmas.List.Elements.{Contains-append_left, Contains-append_right}
use Rattle.tag.proofs.Lists.{in_either, place_of, Contains-slice_get}
use Rattle.tag.proofs.Options.{none_some}
use Rattle.recorder.specs.declared.row.Row.{Row}
use Rattle.recorder.specs.declared.part.Call.{Call}
use Rattle.recorder.specs.Records.{AreParts}
use Rattle.store_orders.specs.Turns.{AreCallsOf}
use Rattle.store_orders.proofs.Insertion.{sort}

-- the calls of all parts, part by part
joined : List (List ℕ × List Call) → List Call
joined [] = []
joined (entry ∷ parts) = entry.1 ++ joined parts

from_joined : (parts : List (List ℕ × List Call)) (call : Call) → Contains (joined parts) call
    → (entry : List ℕ × List Call) × Contains parts entry × Contains entry.1 call
unfolding joined
from_joined [] call there = absurd (let h = there.1 in omega arith)
from_joined (entry ∷ parts) call there =
    let at = place_of (entry.1 ++ joined parts) call there in
    elim (in_either entry.1 (joined parts) at.0 call at.1) [
      | inl h ↦ (entry, Contains-slice_get (entry ∷ parts) 0 entry refl, Contains-slice_get entry.1 at.0 call h)
      | inr h ↦
          let rest = from_joined parts call (Contains-slice_get (joined parts) h.0 call h.1) in
          let k = place_of parts rest.0 rest.1 in
          (rest.0, Contains-slice_get (entry ∷ parts) (suc k.0) rest.0 k.1, rest.2)
    ]

to_joined : (parts : List (List ℕ × List Call)) (k : ℕ) (entry : List ℕ × List Call) (call : Call) → slice_get parts k ≡ Some entry
    → Contains entry.1 call → Contains (joined parts) call
unfolding joined
to_joined [] k entry call at there = none_some at
to_joined (first ∷ parts) zero entry call at there =
    let same = sym (same_Some first entry at) in
    Contains-append_left first.1 (joined parts) call (subst (λ (e : List ℕ × List Call). Contains e.1 call) same there)
to_joined (first ∷ parts) (suc k) entry call at there =
    Contains-append_right first.1 (joined parts) call (to_joined parts k entry call at there)

invoked : Call → ℕ
invoked call = call.invoked

begins : Call → Call → Type 0
begins a b = a.invoked < b.invoked

compare : (a b : Call) → begins a b ⊎ (begins b a ⊎ (invoked a ≡ invoked b))
unfolding invoked begins
compare a b = elim (cases_lt a.invoked b.invoked) [
  | inl h ↦ inl h
  | inr h ↦ elim (cases_lt b.invoked a.invoked) [ inl g ↦ inr (inl g) | inr g ↦ inr (inr (omega arith)) ]
]

through : (a b c : Call) → begins a b → begins b c → begins a c
unfolding begins
through a b c x y = omega arith

pub calls_there : (rows : List Row) (parts : List (List ℕ × List Call)) → AreParts rows parts → (calls : List Call) × AreCallsOf rows calls
unfolding invoked begins
calls_there rows parts of =
    let s = sort invoked begins compare through (joined parts) in
    let is = s.1 in (
      s.0,
      record {
        each = λ call there.
            let at = is.each call (place_of s.0 call there) in
            let own = from_joined parts call (Contains-slice_get (joined parts) at.0 call at.1) in
            (own.0.0, (of.each own.0.0 own.0.1 own.1).each call own.2);
        all = λ key place op client action begun.
            let part = of.all key place (op, client, action, begun) in
            let call = (of.each key part.0 part.1).all place op client action begun in
            let k = place_of parts (key, part.0) part.1 in
            let there = place_of (joined parts) call.0 (to_joined parts k.0 (key, part.0) call.0 k.1 call.1) in
            let at = is.all call.0 there in
            (at.0, Contains-slice_get s.0 at.1.0 at.0 at.1.1, sym at.2 ∙ call.2);
        ordered = is.rises;
      },
    )
