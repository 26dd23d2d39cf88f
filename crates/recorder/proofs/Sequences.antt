-- The calls of a part by their numbers.
use Rattle.std.proofs.Common.{ℕ, ◌≡◌, ◌<◌, inl, inr, List, Some, ap, arith}
use Rattle.std.specs.List.{slice_get, Contains}
use Rattle.std.proofs.lemmas.Bool.{cases_lt}
use Rattle.tag.specs.declared.numbers.OpId.{OpId}
use Rattle.tag.proofs.Lists.{place_of}
use Rattle.recorder.specs.declared.part.Call.{Call}
use Rattle.recorder.specs.Parts.{IsSequence}
use Rattle.recorder.specs.Orders.{StandsAt}

-- a number stands at one index
pub same_index : (part : List Call) → IsSequence part → (i j : ℕ) (a b : Call) → slice_get part i ≡ Some a → slice_get part j ≡ Some b
    → a.op.0 ≡ b.op.0 → i ≡ j
same_index part sequence i j a b at_i at_j same =
    elim (cases_lt i j) [
      | inl h ↦ absurd (let up : a.op.0 < b.op.0 = sequence.numbers i j a b h at_i at_j in omega arith)
      | inr h ↦ elim (cases_lt j i) [
        | inl g ↦ absurd (let down : b.op.0 < a.op.0 = sequence.numbers j i b a g at_j at_i in omega arith)
        | inr g ↦ omega arith
      ]
    ]

-- a part has one call of a number
pub same_call : (part : List Call) → IsSequence part → (a b : Call) → Contains part a → Contains part b → a.op.0 ≡ b.op.0 → a ≡ b
same_call part sequence a b in_a in_b number =
    let i = place_of part a in_a in
    let j = place_of part b in_b in
    let same : i.0 ≡ j.0 = same_index part sequence i.0 j.0 a b i.1 j.1 number in
    let at : slice_get part i.0 ≡ slice_get part j.0 = ap (slice_get part) same in
    cc (i.1, j.1, at)

-- one call stands at a place
pub same_at : (part : List Call) (order : List OpId) → IsSequence part → (i : ℕ) (a b : Call) → StandsAt part order i a → StandsAt part order i b → a ≡ b
same_at part order sequence i a b x y =
    let same : a.op ≡ b.op = cc (x.listed, y.listed) in
    same_call part sequence a b x.recorded y.recorded (ap (λ (o : OpId). o.0) same)

-- a call of a lower number stands at a lower index
pub lower_index : (part : List Call) → IsSequence part → (i j : ℕ) (a b : Call) → slice_get part i ≡ Some a → slice_get part j ≡ Some b
    → a.op.0 < b.op.0 → i < j
lower_index part sequence i j a b at_i at_j less =
    elim (cases_lt i j) [
      | inl h ↦ h
      | inr h ↦ elim (cases_lt j i) [
        | inl g ↦ absurd (let down : b.op.0 < a.op.0 = sequence.numbers j i b a g at_j at_i in omega arith)
        | inr g ↦
            let same : i ≡ j = omega arith in
            let at : slice_get part i ≡ slice_get part j = ap (slice_get part) same in
            let call : a ≡ b = cc (at_i, at_j, at) in
            let number : a.op.0 ≡ b.op.0 = ap (λ (x : Call). x.op.0) call in
            absurd (omega arith)
      ]
    ]

-- the call of the lower number is invoked first
pub invoked_first : (part : List Call) → IsSequence part → (a b : Call) → Contains part a → Contains part b → a.op.0 < b.op.0 → a.invoked < b.invoked
invoked_first part sequence a b in_a in_b less =
    let i = place_of part a in_a in
    let j = place_of part b in_b in
    sequence.places i.0 j.0 a b (lower_index part sequence i.0 j.0 a b i.1 j.1 less) i.1 j.1
