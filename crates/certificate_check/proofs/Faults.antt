-- The lowest fault of an order, from what the checks of each kind found.
use Rattle.std.proofs.Common.{List, ℕ, zero, suc, ◌<◌, ◌⊎◌, ◌≡◌, inl, inr, subst, arith, below_none, below_more}
use Rattle.tag.specs.declared.numbers.OpId.{OpId}
use Rattle.recorder.specs.declared.part.Call.{Call}
use Rattle.recorder.specs.Orders.{IsOrder}
use Rattle.certificate_check.specs.declared.verdict.Fault.{Fault}
use Rattle.certificate_check.specs.declared.verdict.Fault.TheVariants.{UnknownCall, CallTwice, MissingCall}
use Rattle.certificate_check.specs.declared.verdict.Fault.TheVariants.{PendingRead, WrongAnswer, OrderBroken}
use Rattle.certificate_check.specs.Verdicts.{IsFault, ShowsFault, IsPairBelow, IsLeast, HasNone, fault_names}
use Rattle.certificate_check.specs.Verdicts.{IsUnknown, IsRepeated, IsMissing, IsPendingRead, IsWrongAnswer}
use Rattle.certificate_check.specs.Verdicts.{BreaksPrecedence, BreaksPrecedenceAt}
use Rattle.certificate_check.specs.Numbers.{order_fault_number}

-- a fault breaks the part of the definition that it is named for
pub refuted : (part : List Call) (order : List OpId) (fault : Fault) → IsFault part order fault → IsOrder part order → ⊥
refuted part order (UnknownCall i) fault good = let stands = good.known i fault.shown.0 in fault.shown.1 stands.0 stands.1
refuted part order (CallTwice i) fault good = let twice = fault.shown.1 in good.once twice.0 i twice.1 fault.shown.0 twice.2
refuted part order (MissingCall op) fault good =
    let stands = good.complete fault.shown.0 fault.shown.1 fault.shown.3 in
    fault.shown.4 stands.0 stands.1
refuted part order (PendingRead i) fault good = let read = fault.shown in good.writes i read.0 read.1 read.2 read.3
refuted part order (WrongAnswer i) fault good = let wrong = fault.shown in wrong.5 (good.legal i wrong.0 wrong.1 wrong.2 wrong.3 wrong.4)
refuted part order (OrderBroken i j) fault good =
    let broken = fault.shown in good.precedence i j broken.0 broken.1 broken.2 broken.3 broken.4 broken.5

-- what a fault of that number shows at what it names
Shown : List Call → List OpId → ℕ → ℕ × ℕ → Type 0
Shown part order zero a = ⊥
Shown part order (suc zero) a = IsUnknown part order a.0
Shown part order (suc (suc zero)) a = IsRepeated order a.0
Shown part order (suc (suc (suc zero))) a = IsMissing part order a.0
Shown part order (suc (suc (suc (suc zero)))) a = IsPendingRead part order a.0
Shown part order (suc (suc (suc (suc (suc zero))))) a = IsWrongAnswer part order a.0
Shown part order (suc (suc (suc (suc (suc (suc n)))))) a = BreaksPrecedence part order a.0 a.1

shown : (part : List Call) (order : List OpId) (fault : Fault) → ShowsFault part order fault
    → Shown part order (order_fault_number fault) (fault_names fault)
unfolding Shown
shown part order (UnknownCall i) has = has
shown part order (CallTwice i) has = has
shown part order (MissingCall op) has = has
shown part order (PendingRead i) has = has
shown part order (WrongAnswer i) has = has
shown part order (OrderBroken i j) has = has

module _ (part : List Call) (order : List OpId) where
  abbrev NoUnknown : Type 0
  NoUnknown = HasNone (IsUnknown part order)

  abbrev NoRepeated : Type 0
  NoRepeated = HasNone (IsRepeated order)

  abbrev NoMissing : Type 0
  NoMissing = HasNone (IsMissing part order)

  abbrev NoPending : Type 0
  NoPending = HasNone (IsPendingRead part order)

  abbrev NoWrong : Type 0
  NoWrong = HasNone (IsWrongAnswer part order)

  -- nothing shows a fault of that number, or of a lower one
  abbrev ShowsNone : ℕ → Type 0
  ShowsNone n = (a : ℕ × ℕ) → Shown part order n a → ⊥

  abbrev NoneLower : ℕ → Type 0
  NoneLower n = (k : ℕ) → k < n → ShowsNone k

  -- what is found of one kind, where there is none of a lower kind, is the lowest
  lowest : (n : ℕ) (a : ℕ × ℕ) → NoneLower n → ((b : ℕ × ℕ) → Shown part order n b → IsPairBelow b a → ⊥)
      → (other : Fault) → ShowsFault part order other
      → (order_fault_number other < n) ⊎ ((order_fault_number other ≡ n) × IsPairBelow (fault_names other) a) → ⊥
  lowest n a none least other has (inl less) = none (order_fault_number other) less (fault_names other) (shown part order other has)
  lowest n a none least other has (inr same) =
      least (fault_names other) (subst (λ k. Shown part order k (fault_names other)) same.0 (shown part order other has)) same.1

  below_unknown : NoneLower 1
  unfolding Shown
  below_unknown = below_more ShowsNone 0 (below_none ShowsNone) (λ a has. has)

  below_repeated : NoUnknown → NoneLower 2
  unfolding Shown
  below_repeated unknown = below_more ShowsNone 1 below_unknown (λ a has. unknown a.0 has)

  below_missing : NoUnknown → NoRepeated → NoneLower 3
  unfolding Shown
  below_missing unknown repeated = below_more ShowsNone 2 (below_repeated unknown) (λ a has. repeated a.0 has)

  below_pending : NoUnknown → NoRepeated → NoMissing → NoneLower 4
  unfolding Shown
  below_pending unknown repeated missing = below_more ShowsNone 3 (below_missing unknown repeated) (λ a has. missing a.0 has)

  below_wrong : NoUnknown → NoRepeated → NoMissing → NoPending → NoneLower 5
  unfolding Shown
  below_wrong unknown repeated missing pending = below_more ShowsNone 4 (below_pending unknown repeated missing) (λ a has. pending a.0 has)

  below_broken : NoUnknown → NoRepeated → NoMissing → NoPending → NoWrong → NoneLower 6
  unfolding Shown
  below_broken unknown repeated missing pending wrong =
      below_more ShowsNone 5 (below_wrong unknown repeated missing pending) (λ a has. wrong a.0 has)

  -- each fault, as its check found it
  pub unknown_call : (i : ℕ) → IsLeast (IsUnknown part order) i → IsFault part order (UnknownCall i)
  unfolding Shown
  unknown_call i least = record {
    shown = least.0;
    lowest = lowest 1 (i, 0) below_unknown (λ b has low. least.1 b.0 (omega (arith, low)) has);
  }

  pub call_twice : (i : ℕ) → NoUnknown → IsLeast (IsRepeated order) i → IsFault part order (CallTwice i)
  unfolding Shown
  call_twice i unknown least = record {
    shown = least.0;
    lowest = lowest 2 (i, 0) (below_repeated unknown) (λ b has low. least.1 b.0 (omega (arith, low)) has);
  }

  pub missing_call : (op : OpId) → NoUnknown → NoRepeated → IsLeast (IsMissing part order) op.0 → IsFault part order (MissingCall op)
  unfolding Shown
  missing_call op unknown repeated least = record {
    shown = least.0;
    lowest = lowest 3 (op.0, 0) (below_missing unknown repeated) (λ b has low. least.1 b.0 (omega (arith, low)) has);
  }

  pub pending_read : (i : ℕ) → NoUnknown → NoRepeated → NoMissing → IsLeast (IsPendingRead part order) i
      → IsFault part order (PendingRead i)
  unfolding Shown
  pending_read i unknown repeated missing least = record {
    shown = least.0;
    lowest = lowest 4 (i, 0) (below_pending unknown repeated missing) (λ b has low. least.1 b.0 (omega (arith, low)) has);
  }

  pub wrong_answer : (i : ℕ) → NoUnknown → NoRepeated → NoMissing → NoPending
      → IsLeast (IsWrongAnswer part order) i → IsFault part order (WrongAnswer i)
  unfolding Shown
  wrong_answer i unknown repeated missing pending least = record {
    shown = least.0;
    lowest = lowest 5 (i, 0) (below_wrong unknown repeated missing pending) (λ b has low. least.1 b.0 (omega (arith, low)) has);
  }

  pub order_broken : (i j : ℕ) → NoUnknown → NoRepeated → NoMissing → NoPending → NoWrong
      → IsLeast (BreaksPrecedenceAt part order) j → IsLeast (BreaksPrecedence part order j) i → IsFault part order (OrderBroken i j)
  unfolding Shown
  order_broken i j unknown repeated missing pending wrong later earlier = record {
    shown = earlier.0;
    lowest = lowest 6 (j, i) (below_broken unknown repeated missing pending wrong) least;
  }
    where
      least : (b : ℕ × ℕ) → Shown part order 6 b → IsPairBelow b (j, i) → ⊥
      least b has (inl below) = later.1 b.0 below (b.1, has)
      least b has (inr same) = earlier.1 b.1 same.1 (subst (λ k. BreaksPrecedence part order k b.1) same.0 has)
