-- Parts whose tags make no order.
use Rattle.std.proofs.Common.{◌≡◌, List, inl, subst, sym}
use Rattle.tag.specs.declared.numbers.OpId.{OpId}
use Rattle.recorder.specs.declared.part.Call.{Call}
use Rattle.recorder.specs.Orders.{IsOrder}
use Rattle.recorder.specs.Parts.{IsSequence}
use Rattle.value_order.specs.Decisions.{LacksFaults}
use Rattle.value_order.specs.Doubts.{IsLeastDoubt}
use Rattle.value_order.specs.Writers.{IsInDoubt}
use Rattle.value_order.specs.declared.decision.Doubt.{Doubt}
use Rattle.recorder.specs.Sound.{IsByTag, TagSound}
use Rattle.witness_order.specs.Notes.{AllNoted, IsLeastUnnoted}
use Rattle.judged_keys.specs.Findings.{HasNoTagOrder, IsUndecided}

-- a completed call has no note
pub unnoted : (part : List Call) (op : OpId) → IsLeastUnnoted part op → HasNoTagOrder part
unnoted part op least = λ order by_tag is.
    let at = by_tag.all least.call least.recorded (inl least.completed) in
    let noted = (by_tag.noted at.0 least.call at.1).1 in
    let none = least.unnoted in
    absurd (cc)

-- the one order by tags isn't one
pub refuted : (part : List Call) (order : List OpId) → IsByTag part order → ((other : List OpId) → IsByTag part order → IsByTag part other → order ≡ other) → (IsOrder part order → ⊥) → HasNoTagOrder part
refuted part order by_tag one refutes = λ other also is. refutes (subst (IsOrder part) (sym (one other by_tag also)) is)

-- where the tags make no order, they aren't sound
pub unsound : (part : List Call) → HasNoTagOrder part → (AllNoted part → (order : List OpId) × IsByTag part order) → ((order : List OpId) → TagSound part → IsByTag part order → IsOrder part order) → TagSound part → ⊥
unsound part none some make sound = let order = some sound.noted in none order.0 order.1 (make order.0 sound order.1)

-- a key that is undecided
pub undecided : (part : List Call) (doubt : Doubt) → IsSequence part → IsLeastDoubt part (IsInDoubt part) doubt → LacksFaults part → ((p : List Call) → IsSequence p → AllNoted p → (order : List OpId) × IsByTag p order)
    → ((p : List Call) (order : List OpId) → IsSequence p → TagSound p → IsByTag p order → IsOrder p order) → HasNoTagOrder part → IsUndecided part doubt
undecided part doubt sequence least faultless some make none = record {
  least = least;
  faultless = faultless;
  untagged = none;
  unsound = unsound part none (some part sequence) (λ order sound by_tag. make part order sequence sound by_tag);
}
