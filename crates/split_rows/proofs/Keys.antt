-- A key is one of one piece's.
use Rattle.std.proofs.Common.{ℕ, ◌≡◌, ◌<◌, ◌%◌, List, refl}
use Rattle.std.proofs.lemmas.Nat.{mod_below}
use Rattle.tag.specs.declared.numbers.OpId.{OpId}
use Rattle.tag.proofs.Lists.{place_of}
use Rattle.recorder.specs.declared.row.Row.{Row}
use Rattle.recorder.specs.Histories.{IsWellFormed}
use Rattle.recorder.specs.Records.{BeginsAt}
use Rattle.split_rows.specs.Pieces.{ArePieces, IsKeyOf}
use Rattle.split_rows.proofs.Dealt.{one_piece}
use Rattle.split_rows.proofs.PieceRows.{begun_key}

module _ (parts : ℕ) (rows : List Row) (keys : List (List ℕ)) (number : OpId → OpId) (pieces : ℕ → List Row) (some : 0 < parts)
    (formed : IsWellFormed rows) (are : ArePieces parts rows keys number pieces) where
  -- a piece has calls on its keys alone
  only_own : (q at : ℕ) (key : List ℕ) → BeginsAt (pieces q) key at → IsKeyOf parts keys q key
  only_own q at key b = begun_key rows formed (IsKeyOf parts keys q) number (pieces q) (are.each q) at b.0 b.1 key b.2 b.3

  pub in_one_piece : (key : List ℕ) (place : ℕ) → BeginsAt rows key place
      → (p : ℕ) × (p < parts) × IsKeyOf parts keys p key × ((q at : ℕ) → BeginsAt (pieces q) key at → q ≡ p)
  in_one_piece key place begins =
      let n = place_of keys key (are.seen.all key place begins) in
      let own : IsKeyOf parts keys (n.0 % parts) key = (n.0, n.1, refl) in (
        n.0 % parts,
        mod_below n.0 parts some,
        own,
        λ q at b. one_piece rows keys are.seen parts q (n.0 % parts) key (only_own q at key b) own,
      )
