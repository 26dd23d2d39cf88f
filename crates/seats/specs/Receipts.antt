-- Receipts: what tells another seat of a call.
use Rattle.std.specs.Prelude.{ℕ}
use Rattle.tag.specs.declared.numbers.OpId.{OpId}

-- which store answered which call of which hall, and the place of the response
pub record Receipt : Type 0 where
  pub store : ℕ
  pub hall : ℕ
  pub call : OpId
  pub place : ℕ
